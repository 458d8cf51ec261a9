use Rattle.std.proofs.Common.{◌≡◌, drop, map}
use Rattle.orca_syntax.specs.Shown.{decl}
use Rattle.meaning_rules.specs.Programs.{implements}
use Rattle.program_bodies.proofs.FirstGiven.{declared_as, first_given}
use Rattle.access_analysis.proofs.implementations.in_unit.Given as goal

abbrev pub invariant-declarations : goal.invariant-declarations
invariant-declarations l =
    first_given (λ x. implements l.sought x.by x.decl) (map (declared_as l.home l.unit.file) (map decl (drop l.part-index l.unit.unit.declarations.items)))
    ≡ first_given (λ x. implements l.sought x.by x.decl) (map (declared_as l.home l.unit.file) (map decl l.unit.unit.declarations.items))
