use Rattle.orca_tree.proofs.Rows.{repeat_is}
use Rattle.parse_statements.proofs.made.repeat_loop.Goals as goal

pub returns : goal.returns
returns c = repeat_is c.args.at c.args.body c.args.test
