use Rattle.std.proofs.Common.{◌≡◌, ◌||◌, drop, map}
use Rattle.std.specs.List.{list_any}
use Rattle.orca_syntax.specs.Shown.{guard}
use Rattle.type_rules.specs.Scopes.{Scope}
use Rattle.meaning_rules.specs.Classes.{changes, stmts_change}
use Rattle.access_analysis.specs.Sites.{IsSite}
use Rattle.access_analysis.proofs.bodies.guards_change.Given as goal

abbrev pub invariant-guards : goal.invariant-guards
invariant-guards l = (w : Scope) → IsSite l.site w →
    list_any (λ g. changes w g.test || stmts_change w g.body) (map guard (drop l.guard-index l.guards))
    ≡ list_any (λ g. changes w g.test || stmts_change w g.body) (map guard l.guards)
