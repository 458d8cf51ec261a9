use Rattle.orca_tree.proofs.Rows.{invoke_is}
use Rattle.parse_exprs.proofs.factors.invoke.Goals as goal

pub returns : goal.returns
returns c = invoke_is c.args.object c.args.operation c.args.arguments
