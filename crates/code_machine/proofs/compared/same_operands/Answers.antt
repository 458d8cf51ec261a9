use Rattle.code_machine.proofs.Alike.{operands_alike}
use Rattle.code_machine.proofs.compared.same_operands.Goals as goal

pub returns : goal.returns
returns c =
    operands_alike c.args.one.now c.args.other.now c.as_slice.result.now c.as_slice-2.result.now c.are_equal.result c.as_slice.ensures c.as_slice-2.ensures c.are_equal.ensures
