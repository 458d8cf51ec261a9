use Rattle.std.proofs.Common.{subst, sym, ◌∙◌, true}
use Rattle.std.proofs.lemmas.Result.{err_from_is_err_and}
use Rattle.value_bytes.specs.Reading.{Fails, byte_at, chars_at, last_of}
use Rattle.value_bytes.proofs.Loop.{goes_on, ends, is_done, any_item}
use Rattle.value_bytes.proofs.reading.chars_of.Goals as goal

pub returns-in_err-code : goal.returns-in_err-code
returns-in_err-code c =
    let p = err_from_is_err_and c.from_residual.result c.from_residual.ensures.1 in
    let read = byte_at 127 c.args.end in
    let stops = subst (λ r. Fails c.in_err-code.field-0.0 r) (sym (any_item read c.args.end (last_of c.loop.chars.items) c.loop.rest.now)) c.in_err-code.ensures in
    rw (p.1, p.2) (ends read (λ last x. true) c.args.end c.in_err-code.field-0.0 c.loop.chars.items c.args.count c.loop.counter c.loop.rest.now (chars_at c.args.end c.args.count c.args.bytes.now) c.loop-test.true stops c.loop.invariant)

pub loop-preserved : goal.loop-preserved
loop-preserved c =
    let read = byte_at 127 c.args.end in
    rw c.in_ok-push.ensures.items (goes_on read (λ last x. true) c.args.end c.loop.chars.items c.args.count c.loop.counter c.loop.rest.now c.in_ok-code.code c.in_ok-code.after.now
    (chars_at c.args.end c.args.count c.args.bytes.now) c.loop-test.true (any_item read c.args.end (last_of c.loop.chars.items) c.loop.rest.now ∙ c.in_ok-code.ensures) c.loop.invariant)

pub returns : goal.returns
returns c =
    is_done (byte_at 127 c.args.end) (λ last x. true) c.args.end c.loop.chars.items c.args.count c.loop.counter c.loop.rest.now (chars_at c.args.end c.args.count c.args.bytes.now) c.loop-test.false c.loop.invariant
