use Rattle.std.proofs.Common.{arith}
use Rattle.world_parts.proofs.Ruling.{few_lines, many_lines}
use Rattle.world_parts.proofs.parts.Parts.lines_limit.Goals as goal

pub returns-then-lines-most : goal.returns-then-lines-most
returns-then-lines-most g c w is =
    many_lines g.P.OneRun.stood g.P.OneRun.left g.P.OneRun.run.frame c.args.self.now w is c.lines-lines.result _ c.lines-lines.ensures c.from-most.ensures (omega (arith, c.if-lines-most.true))

pub returns-else-lines-most : goal.returns-else-lines-most
returns-else-lines-most g c w is =
    few_lines g.P.OneRun.stood g.P.OneRun.left g.P.OneRun.run.frame c.args.self.now w is c.lines-lines.result _ c.lines-lines.ensures c.from-most.ensures (omega (arith, c.if-lines-most.false))
