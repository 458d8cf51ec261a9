use Rattle.code_machine.proofs.Alike.{below_alike}
use Rattle.code_machine.proofs.compared.has_on_top.Goals as goal

pub returns-then-is : goal.returns-then-is
returns-then-is c =
    below_alike c.args.one.now c.args.other.now c.as_slice.result.now c.in-Some.below.now c.as_slice-then-is.result.now c.in-Some.value.now c.args.top.now
    c.as_slice.ensures c.as_slice-then-is.ensures ((c.in-Some.ensures {u = tt}).cases.0) c.are_equal.result (c.is.ensures.0 c.if-is.true) c.are_equal.ensures
