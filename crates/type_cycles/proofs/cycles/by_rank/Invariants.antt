use Rattle.std.proofs.Common.{◌≡◌, ℕ, ◌<◌, length}
use Rattle.type_cycles.specs.Leading.{is_marked}
use Rattle.type_cycles.specs.Components.{on_cycle_at}
use Rattle.type_cycles.proofs.cycles.by_rank.Given as goal

abbrev pub invariant-numbers : goal.invariant-numbers
invariant-numbers l = (length l.on_cycle.items ≡ l.number) × ((i : ℕ) → i < length l.on_cycle.items → is_marked l.on_cycle.items i ≡ on_cycle_at l.parts l.members i)
