-- What handing out a task does to a member, and what a burst that is checked in leaves of it.
use Rattle.std.specs.Prelude.{◌≡◌, ◌+◌, ◌==◌, ℕ, length, map, Option, None, Some, if◌then◌else◌}
use Rattle.orca_base.specs.declared.ids.ProcessNo.{ProcessNo}
use Rattle.object_manager.specs.Viewed.{Viewed}
use Rattle.world_rules.specs.Bursts.{last_turn}
use Rattle.world_rules.specs.Frame.{Frame}
use Rattle.world_rules.specs.Nodes as nodes
use Rattle.world_rules.specs.Parts.{computes}
use Rattle.world_rules.specs.Played.{Played}
use Rattle.node_rules.specs.Bursting.{BurstFits}
use Rattle.node_rules.specs.Conditions.{Fitness}
use Rattle.node_core.specs.Pieces.{HasPut, resident_at}
use Rattle.node_parts.specs.Shown.{Left, Stood}
use Rattle.node_core.specs.Stands.{StandsAs}
use Rattle.node_core.specs.Tasks.{Computed, HasEnded, Tasked}
use Rattle.node_core.specs.declared.node.Node.{Node}
use Rattle.node_parts.specs.declared.resident.Resident.{Resident}
use Rattle.node_core.specs.declared.task.CheckedIn.{CheckedIn}

-- nothing changed but the process of this number, which was here and is this one now
pub record HasChanged {P S : Type 0} (process : ℕ) (resident : Resident S) (old new : Node P S) : Type 0 where
  pub put : HasPut process resident old new
  pub places : length new.residents.items ≡ length old.residents.items

-- ---- out

-- process i may be handed out over this view, with this budget: the member stands for some node of the world, with a process there of
-- which such a burst may be computed
pub record MayHandOut {P S : Type 0} (stood : Stood S) (left : Left S) (f : Frame) (fitness : Fitness) (i : ProcessNo) (view : Viewed)
    (budget : ℕ) (s : Node P S) : Type 0 where
  pub member : ℕ
  pub node : nodes.Node
  pub stands : StandsAs stood left f member s node
  pub played : Played
  pub here : node.played i.0 ≡ Some played
  pub fits : BurstFits f fitness i view played
  pub turns : played.turns + budget ≡ last_turn f played

-- the task is of process i as it stands here, over this view, with this budget; and it is out now
pub record HandsOut {P S : Type 0} (i : ProcessNo) (view : Viewed) (budget : ℕ) (task : Tasked S) (old new : Node P S) : Type 0 where
  pub resident : Resident S
  pub here : resident_at old i.0 ≡ Some resident
  pub is : task ≡ record { process = i; start = resident.state; calls = resident.calls; view = view; budget = budget }
  pub out : HasChanged i.0 (record resident { out = Some view }) old new

-- ---- back in

-- that was computed from the task which is out of this process: its view is that one, and its start is the process as it stands
abbrev pub IsOutFor : {S : Type 0} → Computed S → Option (Resident S) → Type 0
IsOutFor done None = ⊥
IsOutFor done (Some s) = (s.out ≡ Some done.view) × (s.state ≡ done.start) × (s.calls ≡ done.calls)

-- the process after that burst; its place is that of its last line
abbrev pub after_burst : {S : Type 0} → Computed S → Resident S → Resident S
after_burst done s = record {
  state = done.end;
  turns = done.turns;
  place = (if length done.reads == 0 then s.place else done.view.place);
  calls = s.calls + length done.reads;
  stage = done.stage;
  out = None;
}

-- whichever node of the world it was, with whichever process there: that ran so, and it is the node after that burst
abbrev pub BecomesComputed : {P S : Type 0} → Stood S → Left S → Frame → Computed S → Node P S → Node P S → Type 0
BecomesComputed stood left f done old new =
    (m : ℕ) (v : nodes.Node) (r : Played) → StandsAs stood left f m old v → v.played done.process.0 ≡ Some r →
    (ended : Played) × HasEnded stood left f done r ended
    × StandsAs stood left f m new (computes done.process.0 done.view.place done.reads ended v).node

-- that burst is checked in
pub record HasCheckedIn {P S : Type 0} (stood : Stood S) (left : Left S) (f : Frame) (done : Computed S) (checked : CheckedIn)
    (old new : Node P S) : Type 0 where
  pub place : checked.place ≡ done.view.place
  pub reads : checked.reads.items ≡ done.reads
  pub resident : Resident S
  pub here : resident_at old done.process.0 ≡ Some resident
  pub out : IsOutFor done (Some resident)
  pub changed : HasChanged done.process.0 (after_burst done resident) old new
  pub becomes : BecomesComputed stood left f done old new

-- it is handed back as it was, since it was computed from no task of its process that is out; and nothing changed
pub record IsStray {P S : Type 0} (done back : Computed S) (old new : Node P S) : Type 0 where
  pub given : back ≡ done
  pub other : IsOutFor done (resident_at old done.process.0) → ⊥
  pub same : new ≡ old

-- ---- recalled

-- the process with no task out
abbrev pub recalled : {S : Type 0} → Option (Resident S) → Option (Resident S)
recalled None = None
recalled (Some s) = Some (record s { out = None })

-- no task is out, and nothing else changed
pub record HasRecalled {P S : Type 0} (old new : Node P S) : Type 0 where
  pub others : new ≡ record old { residents = new.residents }
  pub ended : new.residents.items ≡ map recalled old.residents.items
