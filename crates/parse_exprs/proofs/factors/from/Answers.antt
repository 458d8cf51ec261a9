use Rattle.orca_tree.proofs.Rows.{from_is}
use Rattle.parse_exprs.proofs.factors.from.Goals as goal

pub returns : goal.returns
returns c = from_is c.args.at c.args.source
