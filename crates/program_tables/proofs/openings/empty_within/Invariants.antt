use Rattle.std.proofs.Common.{◌≡◌, drop}
use Rattle.program_tables.specs.Layers.{empty_within}
use Rattle.program_tables.proofs.openings.empty_within.Given as goal

abbrev pub invariant-layers : goal.invariant-layers
invariant-layers l = empty_within (drop l.layer-index l.layers) ≡ empty_within l.layers
