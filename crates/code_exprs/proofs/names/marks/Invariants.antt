use Rattle.std.proofs.Common.{◌≡◌, ◌++◌, drop}
use Rattle.std.specs.Prelude.{option_map}
use Rattle.orca_syntax.specs.Shown.{path}
use Rattle.type_rules.specs.Scopes.{Scope}
use Rattle.code_rules.specs.Phrases as rules
use Rattle.program_tables.specs.Layers.{type_seen}
use Rattle.program_bodies.specs.Sites.{IsSite}
use Rattle.emitted_code.specs.Views.{marks_of}
use Rattle.code_exprs.proofs.names.marks.Given as goal

abbrev pub invariant-path : goal.invariant-path
invariant-path l = (w : Scope) → IsSite l.site w →
    marks_of l.steps.items ++ rules.marks w (option_map type_seen l.seen) (path (drop l.step-index l.path))
    ≡ rules.marks w (option_map type_seen l.root) (path l.path)
