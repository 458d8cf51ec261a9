use Rattle.orca_tree.proofs.Rows.{get_is}
use Rattle.parse_exprs.proofs.factors.get.Goals as goal

pub returns : goal.returns
returns c = get_is c.args.from
