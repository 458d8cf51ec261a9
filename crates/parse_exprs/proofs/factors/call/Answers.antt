use Rattle.orca_tree.proofs.Rows.{call_is}
use Rattle.parse_exprs.proofs.factors.call.Goals as goal

pub returns : goal.returns
returns c = call_is c.args.function c.args.arguments
