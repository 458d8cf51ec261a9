use Rattle.std.proofs.Common.{◌≡◌, drop}
use Rattle.orca_syntax.specs.Shown.{exprs, links, path}
use Rattle.type_rules.specs.Scopes.{Scope}
use Rattle.meaning_rules.specs.Calls.{modes_of}
use Rattle.meaning_rules.specs.Classes.{arguments_change, links_change, path_changes}
use Rattle.program_bodies.specs.Named.{callee_seen}
use Rattle.access_analysis.specs.Sites.{IsSite}
use Rattle.access_analysis.proofs.expressions.+expressions.Given as goal

abbrev pub invariant-links_change-links : goal.invariant-links_change-links
invariant-links_change-links l = (w : Scope) → IsSite l.site w →
    links_change w (links (drop l.link-index l.links)) ≡ links_change w (links l.links)

abbrev pub invariant-path_changes-path : goal.invariant-path_changes-path
invariant-path_changes-path l = (w : Scope) → IsSite l.site w → path_changes w (path (drop l.step-index l.path)) ≡ path_changes w (path l.path)

abbrev pub invariant-arguments_change-given : goal.invariant-arguments_change-given
invariant-arguments_change-given l = (w : Scope) → IsSite l.site w →
    arguments_change w (drop l.place (modes_of (callee_seen l.callee))) (exprs (drop l.place l.given))
    ≡ arguments_change w (modes_of (callee_seen l.callee)) (exprs l.given)
