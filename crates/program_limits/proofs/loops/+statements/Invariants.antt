use Rattle.std.proofs.Common.{◌≡◌, ◌+◌, drop}
use Rattle.orca_syntax.specs.Shown.{arms, stmts}
use Rattle.accepted_law.specs.Limits.{loops_in_all, loops_in_arms}
use Rattle.program_limits.proofs.loops.+statements.Given as goal

abbrev pub invariant-loops_in_all-statements : goal.invariant-loops_in_all-statements
invariant-loops_in_all-statements l = l.count + loops_in_all (stmts (drop l.statement-index l.statements)) ≡ loops_in_all (stmts l.statements)

abbrev pub invariant-loops_in_arms-arms : goal.invariant-loops_in_arms-arms
invariant-loops_in_arms-arms l = l.count + loops_in_arms (arms (drop l.arm-index l.arms)) ≡ loops_in_arms (arms l.arms)
