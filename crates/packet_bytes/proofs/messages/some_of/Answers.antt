use Rattle.std.proofs.Common.{◌∙◌, sym, subst, None}
use Rattle.std.proofs.lemmas.Result.{err_from_is_err_and}
use Rattle.value_bytes.specs.Reading.{Fails, items_at, last_of}
use Rattle.value_bytes.proofs.Loop.{goes_on, ends, is_done, any_item}
use Rattle.packet_bytes.specs.Reading.{any, message_at}
use Rattle.packet_bytes.proofs.messages.some_of.Goals as goal

pub returns-in_err-message : goal.returns-in_err-message
returns-in_err-message c =
    let p = err_from_is_err_and c.from_residual.result c.from_residual.ensures.1 in
    let read = message_at c.args.end in
    let front = c.loop.messages.items in
    let stops = subst (λ r. Fails c.in_err-message.field-0.0 r) (sym (any_item read c.args.end (last_of front) c.loop.rest.now)) c.in_err-message.ensures in
    rw (p.1, p.2) (ends read any c.args.end c.in_err-message.field-0.0 front c.args.count c.loop.counter c.loop.rest.now
    (items_at read any c.args.end c.args.count None c.args.bytes.now) c.loop-test.true stops c.loop.invariant)

pub loop-preserved : goal.loop-preserved
loop-preserved c =
    let read = message_at c.args.end in
    let front = c.loop.messages.items in
    rw c.in_ok-push.ensures.items (goes_on read any c.args.end front c.args.count c.loop.counter c.loop.rest.now c.in_ok-message.message c.in_ok-message.after.now
    (items_at read any c.args.end c.args.count None c.args.bytes.now) c.loop-test.true (any_item read c.args.end (last_of front) c.loop.rest.now ∙ c.in_ok-message.ensures) c.loop.invariant)

pub returns : goal.returns
returns c =
    let read = message_at c.args.end in
    is_done read any c.args.end c.loop.messages.items c.args.count c.loop.counter c.loop.rest.now
    (items_at read any c.args.end c.args.count None c.args.bytes.now) c.loop-test.false c.loop.invariant
