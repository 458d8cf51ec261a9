use Rattle.type_stmts.proofs.InnerLoops.{in_loop}
use Rattle.type_stmts.proofs.bodies.BodyScope.in_loops.Goals as goal

pub returns : goal.returns
returns c = λ w is n more. in_loop c.args.self w n c.args.loops is more
