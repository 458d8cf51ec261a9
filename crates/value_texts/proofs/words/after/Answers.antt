use Rattle.std.proofs.Common.{◌≡◌, ◌+◌, ◌∙◌, sym, subst, drop, List, ℕ}
use Rattle.value_texts.specs.Reading.{word_at}
use Rattle.value_texts.proofs.Letters.{word_done, word_goes_on, word_stops}
use Rattle.value_texts.proofs.words.after.Goals as goal

pub returns-then-not-begins : goal.returns-then-not-begins
returns-then-not-begins c =
    word_stops c.args.word.now c.loop-byte.byte-index c.loop-byte.rest.now (word_at c.args.word.now c.args.text.now) c.loop-byte-test.true (sym c.begins.ensures ∙ c.if-not-begins.true) c.loop-byte.invariant

pub loop-byte-preserved : goal.loop-byte-preserved
loop-byte-preserved c =
    subst (λ (rest : List ℕ). word_at (drop (c.loop-byte.byte-index + 1) c.args.word.now) rest ≡ word_at c.args.word.now c.args.text.now) (sym c.behind-rest.ensures)
    (word_goes_on c.args.word.now c.loop-byte.byte-index c.loop-byte.rest.now (word_at c.args.word.now c.args.text.now) c.loop-byte-test.true (sym c.begins.ensures ∙ c.if-not-begins.false) c.loop-byte.invariant)

pub returns : goal.returns
returns c = word_done c.args.word.now c.loop-byte.byte-index c.loop-byte.rest.now (word_at c.args.word.now c.args.text.now) c.loop-byte-test.false c.loop-byte.invariant
