use Rattle.std.proofs.Common.{◌≡◌, ℕ, ◌<◌, ◌||◌, length}
use Rattle.std.specs.Prelude.{◌==◌}
use Rattle.std.specs.List.{list_any}
use Rattle.type_forms.specs.Parts.{parts_in}
use Rattle.type_cycles.specs.Leading.{is_marked}
use Rattle.type_cycles.proofs.levels.next_level.Given as goal

abbrev pub invariant-numbers : goal.invariant-numbers
invariant-numbers l = (length l.marks.items ≡ l.number)
    × ((i : ℕ) → i < length l.marks.items → is_marked l.marks.items i ≡ ((i == l.target) || list_any (is_marked l.level) (parts_in l.parts i)))
