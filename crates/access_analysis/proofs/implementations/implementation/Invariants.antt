use Rattle.std.proofs.Common.{◌≡◌, drop, map}
use Rattle.std.specs.Prelude.{flat_map}
use Rattle.link_rules.specs.Declarations.{declarations_of}
use Rattle.link_rules.specs.Units.{source}
use Rattle.meaning_rules.specs.Programs.{implements}
use Rattle.program_bodies.proofs.FirstGiven.{first_given}
use Rattle.access_analysis.proofs.implementations.implementation.Given as goal

abbrev pub invariant-units : goal.invariant-units
invariant-units l =
    first_given (λ x. implements l.sought x.by x.decl) (flat_map declarations_of (map source (drop l.unit-index l.units)))
    ≡ first_given (λ x. implements l.sought x.by x.decl) (flat_map declarations_of (map source l.units))
