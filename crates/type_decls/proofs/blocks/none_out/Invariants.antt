use Rattle.std.proofs.Common.{◌≡◌, drop, map}
use Rattle.std.specs.Prelude.{flat_map}
use Rattle.orca_syntax.specs.Shown.{parameter}
use Rattle.type_rules.specs.Order.{least, lesser}
use Rattle.type_rules.specs.Rules.{asks}
use Rattle.type_rules.specs.Declarations.{is_not_out}
use Rattle.type_decls.proofs.blocks.none_out.Given as goal

abbrev pub invariant-parameters : goal.invariant-parameters
invariant-parameters l =
    lesser l.first (least (flat_map (λ p. asks 16 p.name.at (is_not_out p.mode)) (map parameter (drop l.parameter-index l.parameters))))
    ≡ least (flat_map (λ p. asks 16 p.name.at (is_not_out p.mode)) (map parameter l.parameters))
