use Rattle.std.proofs.Common.{◌≡◌, ◌<◌, length, map, arith}
use Rattle.code_steps.specs.Bodies.{caller_of}
use Rattle.code_machine.proofs.Alike.{never, there_alike}
use Rattle.code_machine.proofs.compared.same_callers.Goals as goal

pub returns-then-not-same_caller : goal.returns-then-not-same_caller
returns-then-not-same_caller c =
    let one = c.args.one.now in
    let other = c.args.other.now in
    let i = c.callers.place in
    let low : i < length one = c.callers-test.true in
    let size = c.if-one-other.false in
    let low' : i < length other = omega (arith, low, size) in
    never (map caller_of one ≡ map caller_of other) c.same_caller.result c.if-not-same_caller.true (λ same.
    c.same_caller.ensures.1 (there_alike caller_of one other i c.index-one-place.result c.index-other-place.result low low' c.index-one-place.is c.index-other-place.is same))
