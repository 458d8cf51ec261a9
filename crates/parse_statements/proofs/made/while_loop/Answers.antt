use Rattle.orca_tree.proofs.Rows.{while_is}
use Rattle.parse_statements.proofs.made.while_loop.Goals as goal

pub returns : goal.returns
returns c = while_is c.args.at c.args.test c.args.body
