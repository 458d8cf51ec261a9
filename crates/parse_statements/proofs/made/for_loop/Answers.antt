use Rattle.orca_tree.proofs.Rows.{for_is}
use Rattle.parse_statements.proofs.made.for_loop.Goals as goal

pub returns : goal.returns
returns c = for_is c.args.at c.args.name c.args.range c.args.body
