-- A burst at once: what it leaves of a member is what handing out, computing and checking in would.
use Rattle.std.specs.Prelude.{◌≡◌, ℕ, Some}
use Rattle.orca_base.specs.declared.ids.ProcessNo.{ProcessNo}
use Rattle.object_manager.specs.Viewed.{Viewed}
use Rattle.world_rules.specs.Frame.{Frame}
use Rattle.node_core.specs.CheckingIn.{BecomesComputed, HasChanged, after_burst}
use Rattle.node_core.specs.Pieces.{resident_at}
use Rattle.node_parts.specs.Shown.{Left, Stood}
use Rattle.node_core.specs.Tasks.{Computed}
use Rattle.node_core.specs.declared.node.Node.{Node}
use Rattle.node_parts.specs.declared.resident.Resident.{Resident}
use Rattle.node_core.specs.declared.task.CheckedIn.{CheckedIn}

-- a burst was computed of process i as it stood here, over this view; its process took so many turns in all, its reads stand at the view's
-- place, and the member is the one after that burst
pub record HasBurst {P S : Type 0} (stood : Stood S) (left : Left S) (f : Frame) (i : ProcessNo) (view : Viewed) (checked : CheckedIn)
    (turns : ℕ) (old new : Node P S) : Type 0 where
  pub resident : Resident S
  pub here : resident_at old i.0 ≡ Some resident
  pub done : Computed S
  pub process : done.process ≡ i
  pub start : done.start ≡ resident.state
  pub calls : done.calls ≡ resident.calls
  pub seen : done.view ≡ view
  pub took : turns ≡ done.turns
  pub place : checked.place ≡ view.place
  pub reads : checked.reads.items ≡ done.reads
  pub changed : HasChanged i.0 (after_burst done resident) old new
  pub becomes : BecomesComputed stood left f done old new
