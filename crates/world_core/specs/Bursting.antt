-- A burst that is done as an event: where it may be, and what a member leaves of it.
use Rattle.std.specs.Prelude.{◌≡◌, ◌≤◌, ◌<◌, ◌&&◌, nat_le, ℕ, Bool, false, length, Option, None, Some, slice_set}
use Rattle.orca_base.specs.declared.ids.ProcessNo.{ProcessNo}
use Rattle.object_manager.specs.Viewed.{Viewed}
use Rattle.world_rules.specs.Bursts.{Ran as RanSo, last_turn}
use Rattle.world_rules.specs.Frame.{Frame}
use Rattle.world_rules.specs.Nodes as nodes
use Rattle.world_rules.specs.Parts.{computes}
use Rattle.world_rules.specs.Played.{Played}
use Rattle.world_rules.specs.Worlds.{World, home_of, played_in}
use Rattle.node_core.specs.Pieces.{resident_at}
use Rattle.node_parts.specs.Shown.{Left, Stood}
use Rattle.node_core.specs.Stands.{StandsAs}
use Rattle.node_core.specs.declared.node.Node.{Node}
use Rattle.node_parts.specs.declared.resident.Resident.{Resident}
use Rattle.world_parts.specs.Choosing.{may_compute}
use Rattle.world_core.specs.declared.burst.Ran.{Ran}

-- the place lies between the process's and what its member applied
abbrev pub is_between : ℕ → ℕ → Option Played → Bool
is_between place applied None = false
is_between place applied (Some r) = nat_le r.place place && nat_le place applied

-- and the process computes on a living member
abbrev pub may_burst : Frame → World → ℕ → ℕ → Bool
may_burst f w i place = may_compute f w i && is_between place (w.nodes (home_of f w i)).member.applied (played_in f w i)

-- the member's process r ran so on the view by the rules, and after it the member stands for what that leaves
pub record RunsTo {P S : Type 0} (stood : Stood S) (left : Left S) (f : Frame) (i : ProcessNo) (view : Viewed) (m : ℕ) (v : nodes.Node) (r : Played)
    (ran : Ran P S) : Type 0 where
  pub ended : Played
  pub ran_so : RanSo f view.objects view.place i (last_turn f r) r ran.burst.reads.items ended
  pub turns : ran.turns ≡ ended.turns
  pub least : r.turns ≤ ended.turns
  pub most : ended.turns ≤ last_turn f r
  pub node : StandsAs stood left f m ran.node (computes i.0 view.place ran.burst.reads.items ended v).node

-- whichever process of whichever node it was, it ran so; no task of it is out then, and all other processes are as they were
pub record HasRunOn {P S : Type 0} (stood : Stood S) (left : Left S) (f : Frame) (i : ProcessNo) (view : Viewed) (before : Node P S) (ran : Ran P S) : Type 0 where
  pub place : ran.burst.place ≡ view.place
  pub there : i.0 < length before.residents.items
  pub after : Resident S
  pub back : after.out ≡ None
  pub residents : ran.node.residents.items ≡ slice_set before.residents.items i.0 (Some after)
  pub only : (j : ℕ) (r : Resident S) (out : Viewed) → resident_at ran.node j ≡ Some r → r.out ≡ Some out → resident_at before j ≡ Some r
  pub runs : (m : ℕ) (v : nodes.Node) (r : Played) → StandsAs stood left f m before v → v.played i.0 ≡ Some r → RunsTo stood left f i view m v r ran
