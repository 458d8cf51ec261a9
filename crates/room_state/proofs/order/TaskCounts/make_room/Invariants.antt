use Rattle.std.proofs.Common.{◌≡◌, ◌≤◌, ℕ, length}
use Rattle.room_state.specs.Stated.{tasks_of}
use Rattle.room_state.proofs.order.TaskCounts.make_room.Given as goal

-- places more, with none
abbrev pub invariant-counts : goal.invariant-counts
invariant-counts l = ((i : ℕ) → tasks_of l.self.counts.items i ≡ tasks_of l.fn.self.counts.items i) × (l._count ≤ length l.self.counts.items)
