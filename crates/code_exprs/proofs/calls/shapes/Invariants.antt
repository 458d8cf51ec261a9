use Rattle.std.proofs.Common.{◌≡◌, ◌++◌, drop, map}
use Rattle.orca_syntax.specs.Shown.{exprs}
use Rattle.type_rules.specs.Scopes.{Scope}
use Rattle.meaning_rules.specs.Calls.{modes_of}
use Rattle.code_rules.specs.Layouts.{Layout}
use Rattle.code_rules.specs.Phrases.{shapes_of}
use Rattle.program_bodies.specs.Named.{callee_seen}
use Rattle.code_exprs.specs.CodeSites.{IsCodeSite}
use Rattle.emitted_code.specs.Views.{shape_of}
use Rattle.code_exprs.proofs.calls.shapes.Given as goal

abbrev pub invariant-given : goal.invariant-given
invariant-given l = (w : Scope) (s : Layout) → IsCodeSite l.here w s →
    map shape_of l.all.items ++ shapes_of w s (drop l.place (modes_of (callee_seen l.is))) (exprs (drop l.place l.given))
    ≡ shapes_of w s (modes_of (callee_seen l.is)) (exprs l.given)
