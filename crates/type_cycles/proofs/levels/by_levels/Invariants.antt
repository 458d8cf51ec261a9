use Rattle.std.proofs.Common.{◌≡◌, ℕ, ◌<◌, List, length}
use Rattle.link_rules.specs.Units.{Source}
use Rattle.type_rules.specs.TypePhrases.{holds_itself}
use Rattle.type_forms.specs.Parts.{AreParts}
use Rattle.type_cycles.specs.Leading.{is_marked}
use Rattle.type_cycles.proofs.levels.by_levels.Given as goal

abbrev pub invariant-numbers : goal.invariant-numbers
invariant-numbers l = (length l.on_cycle.items ≡ l.number)
    × ((us : List Source) → AreParts us l.parts → (i : ℕ) → i < length l.on_cycle.items → is_marked l.on_cycle.items i ≡ holds_itself us i)
