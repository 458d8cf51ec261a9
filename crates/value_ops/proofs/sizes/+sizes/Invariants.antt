use Rattle.std.proofs.Common.{◌≡◌, ◌+◌, ◌-◌, ◌*◌, ◌≤◌, drop}
use Rattle.value_core.specs.Size.{size_of_all}
use Rattle.value_core.specs.View.{data_in}
use Rattle.value_ops.proofs.sizes.+sizes.Given as goal

-- the room that is left holds what is left
abbrev pub invariant-room_beside_all-loop-value : goal.invariant-room_beside_all-loop-value
invariant-room_beside_all-loop-value l = record {
  within : l.left ≤ l.fn.room;
  beside : l.left - size_of_all (data_in (drop l.value-index l.values)) ≡ l.fn.room - size_of_all (data_in l.values);
}

abbrev pub decreases-room_beside : goal.decreases-room_beside
decreases-room_beside l = 2 * l.room

abbrev pub decreases-room_beside_all : goal.decreases-room_beside_all
decreases-room_beside_all l = 2 * l.room + 1
