use Rattle.std.proofs.Common.{◌≡◌, ℕ, ◌<◌, List, length}
use Rattle.link_rules.specs.Units.{Source}
use Rattle.type_rules.specs.TypePhrases.{leads_to}
use Rattle.type_forms.specs.Parts.{AreParts}
use Rattle.type_cycles.specs.Leading.{is_marked}
use Rattle.type_cycles.proofs.levels.leading.Given as goal

abbrev pub invariant-levels : goal.invariant-levels
invariant-levels l = (length l.marks.items ≡ length l.parts)
    × ((us : List Source) → AreParts us l.parts → l.target < length l.parts → (i : ℕ) → is_marked l.marks.items i ≡ leads_to us l._level i l.target)
