use Rattle.std.proofs.Common.{◌∙◌, sym, length, None}
use Rattle.value_texts.specs.Reading.{character_at, until_at}
use Rattle.value_texts.proofs.Turns.{closes, goes_on, runs_out, stops}
use Rattle.value_texts.proofs.strings.characters.Goals as goal

pub returns-then-begins : goal.returns-then-begins
returns-then-begins c =
    rw c.behind.ensures (closes (λ last. character_at) 34 c.loop.characters.items (length c.args.text.now) c.loop.counter c.loop.rest.now (until_at (λ last. character_at) 34 (length c.args.text.now) None c.args.text.now)
    c.loop-test.true (sym c.begins.ensures ∙ c.if-begins.true) c.loop.invariant)

pub returns-in-None : goal.returns-in-None
returns-in-None c =
    rw c.refuse.ensures (stops (λ last. character_at) 34 c.loop.characters.items (length c.args.text.now) c.loop.counter c.loop.rest.now (until_at (λ last. character_at) 34 (length c.args.text.now) None c.args.text.now)
    c.loop-test.true (sym c.begins.ensures ∙ c.if-begins.false) (sym c.in-None.ensures) c.loop.invariant)

pub loop-preserved : goal.loop-preserved
loop-preserved c =
    rw c.in_ok-push-in-Some.ensures.items (goes_on (λ last. character_at) 34 c.loop.characters.items (length c.args.text.now) c.loop.counter c.loop.rest.now c.in-Some.character c.in-Some.after.now
    (until_at (λ last. character_at) 34 (length c.args.text.now) None c.args.text.now) c.loop-test.true (sym c.begins.ensures ∙ c.if-begins.false) (sym c.in-Some.ensures) c.loop.invariant)

pub returns : goal.returns
returns c =
    rw c.refuse-2.ensures (runs_out (λ last. character_at) 34 c.loop.characters.items (length c.args.text.now) c.loop.counter c.loop.rest.now (until_at (λ last. character_at) 34 (length c.args.text.now) None c.args.text.now)
    c.loop-test.false c.loop.invariant)
