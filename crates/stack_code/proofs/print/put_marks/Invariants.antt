use Rattle.std.proofs.Common.{◌≡◌, ◌++◌, drop}
use Rattle.std.specs.Prelude.{string_bytes}
use Rattle.std.specs.List.{flat_map}
use Rattle.stack_code.specs.Text.{mark_text}
use Rattle.emitted_code.specs.Views.{mark_of}
use Rattle.stack_code.proofs.print.put_marks.Given as goal

abbrev pub invariant-marks : goal.invariant-marks
invariant-marks l = string_bytes l.out ++ flat_map (λ m. mark_text (mark_of m)) (drop l.mark-index l.path) ≡ string_bytes l.initial.out ++ flat_map (λ m. mark_text (mark_of m)) l.path
