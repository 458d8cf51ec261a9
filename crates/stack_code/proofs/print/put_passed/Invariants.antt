use Rattle.std.proofs.Common.{◌≡◌, ◌++◌, drop}
use Rattle.std.specs.Prelude.{string_bytes}
use Rattle.std.specs.List.{flat_map}
use Rattle.stack_code.specs.Text.{shape_text}
use Rattle.emitted_code.specs.Views.{shape_of}
use Rattle.stack_code.proofs.print.put_passed.Given as goal

abbrev pub invariant-shapes : goal.invariant-shapes
invariant-shapes l = string_bytes l.out ++ flat_map (λ s. shape_text (shape_of s)) (drop l.shape-index l.shapes) ≡ string_bytes l.initial.out ++ flat_map (λ s. shape_text (shape_of s)) l.shapes
