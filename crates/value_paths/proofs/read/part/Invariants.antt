use Rattle.std.proofs.Common.{◌≡◌, drop}
use Rattle.value_core.specs.View.{datum_of}
use Rattle.value_paths.specs.Paths.{CanWalk, part_at}
use Rattle.value_paths.proofs.read.part.Given as goal

-- the rest of the path leads from here to where the whole leads
abbrev pub invariant-loop-step : goal.invariant-loop-step
invariant-loop-step l = record {
  walks : CanWalk (drop l.step-index l.path) (datum_of l.at);
  leads : part_at (drop l.step-index l.path) (datum_of l.at) ≡ part_at l.path (datum_of l.value);
}
