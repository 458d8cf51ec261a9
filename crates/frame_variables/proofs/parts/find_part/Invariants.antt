use Rattle.std.proofs.Common.{◌≡◌, drop}
use Rattle.std.specs.Prelude.{IsTrue}
use Rattle.value_core.specs.View.{datum_of}
use Rattle.value_paths.specs.Paths.{part_at}
use Rattle.frame_variables.specs.Gives.{path_of}
use Rattle.frame_variables.specs.Ordered.{IsOrdered}
use Rattle.frame_variables.proofs.parts.find_part.Given as goal

-- the rest of the path leads from here to where the whole leads
abbrev pub invariant-path : goal.invariant-path
invariant-path l = record {
  leads : part_at (path_of (drop l.step-index l.path)) (datum_of l.at) ≡ part_at (path_of l.path) (datum_of l.value);
  ordered : IsTrue l.in_order → IsOrdered (datum_of l.at);
}
