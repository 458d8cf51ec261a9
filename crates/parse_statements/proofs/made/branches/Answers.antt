use Rattle.orca_tree.proofs.Rows.{if_is}
use Rattle.parse_statements.proofs.made.branches.Goals as goal

pub returns : goal.returns
returns c = if_is c.args.at c.args.arms
