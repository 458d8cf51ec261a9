use Rattle.std.proofs.Common.{◌≡◌, ◌++◌, drop}
use Rattle.orca_syntax.specs.Shown.{arms, stmts}
use Rattle.access_estimates.specs.Seen.{all_seen}
use Rattle.estimate_rules.specs.Uses.{arms_uses, stmts_uses}
use Rattle.access_estimates.proofs.statements.+statements.Given as goal

abbrev pub invariant-in_statements-statements : goal.invariant-in_statements-statements
invariant-in_statements-statements l =
    all_seen l.out.items ++ stmts_uses l.times (stmts (drop l.statement-index l.statements))
    ≡ all_seen l.initial.out.items ++ stmts_uses l.times (stmts l.statements)

abbrev pub invariant-in_arms-arms : goal.invariant-in_arms-arms
invariant-in_arms-arms l =
    all_seen l.out.items ++ arms_uses l.times (arms (drop l.arm-index l.arms)) ≡ all_seen l.initial.out.items ++ arms_uses l.times (arms l.arms)
