use Rattle.std.proofs.Common.{◌≡◌, drop}
use Rattle.orca_syntax.specs.Shown.{arms, stmts}
use Rattle.type_rules.specs.Scopes.{Scope}
use Rattle.meaning_rules.specs.Classes.{arms_change, stmts_change}
use Rattle.access_analysis.specs.Sites.{IsSite}
use Rattle.access_analysis.proofs.statements.+statements.Given as goal

abbrev pub invariant-stmts_change-statements : goal.invariant-stmts_change-statements
invariant-stmts_change-statements l = (w : Scope) → IsSite l.site w →
    stmts_change w (stmts (drop l.statement-index l.statements)) ≡ stmts_change w (stmts l.statements)

abbrev pub invariant-arms_change-arms : goal.invariant-arms_change-arms
invariant-arms_change-arms l = (w : Scope) → IsSite l.site w → arms_change w (arms (drop l.arm-index l.arms)) ≡ arms_change w (arms l.arms)
