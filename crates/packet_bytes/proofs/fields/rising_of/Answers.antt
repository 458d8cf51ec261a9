use Rattle.std.proofs.Common.{◌≡◌, Ok, List, ℕ, subst, None}
use Rattle.std.proofs.lemmas.Result.{err_from_is_err_and}
use Rattle.value_bytes.specs.Reading.{Fails, byte_at, item_at, items_at, last_of}
use Rattle.value_bytes.proofs.Loop.{goes_on, ends, is_done}
use Rattle.packet_bytes.specs.Reading.{rises}
use Rattle.packet_bytes.proofs.fields.rising_of.Goals as goal

pub returns-in_err-member : goal.returns-in_err-member
returns-in_err-member c =
    let p = err_from_is_err_and c.from_residual.result c.from_residual.ensures.1 in
    let read = byte_at 15 c.args.end in
    let stops = subst (λ (ms : List ℕ). Fails c.in_err-member.field-0.0 (item_at read rises c.args.end (last_of ms) c.loop.rest.now)) c.deref.ensures.value c.in_err-member.ensures in
    rw (p.1, p.2) (ends read rises c.args.end c.in_err-member.field-0.0 c.loop.members.items c.args.count c.loop.counter c.loop.rest.now
    (items_at read rises c.args.end c.args.count None c.args.bytes.now) c.loop-test.true stops c.loop.invariant)

pub loop-preserved : goal.loop-preserved
loop-preserved c =
    let read = byte_at 15 c.args.end in
    let member = c.in_ok-member.member in
    let one = subst (λ (ms : List ℕ). item_at read rises c.args.end (last_of ms) c.loop.rest.now ≡ Ok (member, c.in_ok-member.after.now)) c.deref.ensures.value c.in_ok-member.ensures in
    rw c.in_ok-push.ensures.items (goes_on read rises c.args.end c.loop.members.items c.args.count c.loop.counter c.loop.rest.now member c.in_ok-member.after.now
    (items_at read rises c.args.end c.args.count None c.args.bytes.now) c.loop-test.true one c.loop.invariant)

pub returns : goal.returns
returns c =
    is_done (byte_at 15 c.args.end) rises c.args.end c.loop.members.items c.args.count c.loop.counter c.loop.rest.now
    (items_at (byte_at 15 c.args.end) rises c.args.end c.args.count None c.args.bytes.now) c.loop-test.false c.loop.invariant
