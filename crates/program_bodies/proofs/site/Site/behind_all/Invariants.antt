use Rattle.std.proofs.Common.{◌≡◌, drop}
use Rattle.std.specs.Prelude.{option_map}
use Rattle.orca_syntax.specs.Shown.{path}
use Rattle.type_rules.specs.Scopes.{Scope}
use Rattle.meaning_rules.specs.Designators.{path_type}
use Rattle.program_tables.specs.Layers.{type_seen}
use Rattle.program_bodies.specs.Sites.{IsSite}
use Rattle.program_bodies.proofs.site.Site.behind_all.Given as goal

abbrev pub invariant-path : goal.invariant-path
invariant-path l = (w : Scope) → IsSite l.self w →
    path_type w (option_map type_seen l.seen) (path (drop l.step-index l.path)) ≡ path_type w (option_map type_seen l.kind) (path l.path)
