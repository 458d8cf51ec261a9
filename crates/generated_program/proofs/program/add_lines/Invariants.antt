use Rattle.std.proofs.Common.{◌≡◌, ◌++◌, map, take}
use Rattle.std.specs.Prelude.{string_bytes}
use Rattle.generated_program.proofs.program.add_lines.Given as goal

abbrev pub invariant-texts : goal.invariant-texts
invariant-texts l = map string_bytes l.lines.items ≡ map string_bytes l.initial.lines.items ++ map (λ t. t.now) (take l.text-index l.texts)
