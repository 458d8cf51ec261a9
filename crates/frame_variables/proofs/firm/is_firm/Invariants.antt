use Rattle.std.proofs.Common.{drop}
use Rattle.std.specs.Prelude.{IsTrue}
use Rattle.value_core.specs.View.{datum_of}
use Rattle.frame_variables.specs.Firm.{IsFirm}
use Rattle.frame_variables.specs.Gives.{path_of}
use Rattle.frame_variables.specs.Ordered.{IsOrdered}
use Rattle.frame_variables.proofs.firm.is_firm.Given as goal

-- the whole path is firm where what is left of it is, from where it has led
abbrev pub invariant-path : goal.invariant-path
invariant-path l = record {
  firm : IsFirm (path_of (drop l.step-index l.path)) (datum_of l.at) → IsFirm (path_of l.path) (datum_of l.value);
  ordered : IsTrue l.in_order → IsOrdered (datum_of l.at);
}
