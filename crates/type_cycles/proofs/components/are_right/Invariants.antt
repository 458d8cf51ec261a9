use Rattle.std.proofs.Common.{◌≡◌, ℕ, ◌<◌, true}
use Rattle.type_cycles.specs.Components.{right_at}
use Rattle.type_cycles.proofs.components.are_right.Given as goal

abbrev pub invariant-numbers : goal.invariant-numbers
invariant-numbers l = (i : ℕ) → i < l.number → right_at l.parts l.members i ≡ true
