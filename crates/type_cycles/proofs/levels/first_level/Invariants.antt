use Rattle.std.proofs.Common.{◌≡◌, ℕ, ◌<◌, length}
use Rattle.std.specs.Prelude.{◌==◌}
use Rattle.type_cycles.specs.Leading.{is_marked}
use Rattle.type_cycles.proofs.levels.first_level.Given as goal

abbrev pub invariant-numbers : goal.invariant-numbers
invariant-numbers l = (length l.marks.items ≡ l.number) × ((i : ℕ) → i < length l.marks.items → is_marked l.marks.items i ≡ (i == l.target))
