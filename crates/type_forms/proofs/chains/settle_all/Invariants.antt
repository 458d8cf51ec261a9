use Rattle.std.proofs.Common.{◌≡◌, ℕ, ◌<◌, ◌≤◌, List, length, true, false}
use Rattle.link_rules.specs.Units.{Source}
use Rattle.type_forms.specs.Indexed.{Indexes}
use Rattle.type_forms.specs.Chains.{AreRight, IsStuck, unknown_count}
use Rattle.type_forms.proofs.chains.settle_all.Given as goal

abbrev pub invariant-numbers : goal.invariant-numbers
invariant-numbers l =
    ((us : List Source) → Indexes l.index us → AreRight us l.initial.memo.items → AreRight us l.memo.items)
    × (unknown_count l.memo.items ≤ unknown_count l.initial.memo.items)
    × (l.more ≡ true → unknown_count l.memo.items < unknown_count l.initial.memo.items)
    × (length l.memo.items ≡ length l.initial.memo.items)
    × ((us : List Source) → Indexes l.index us → l.more ≡ false → (i : ℕ) → i < l.number → i < length l.memo.items → IsStuck us l.memo.items i)
