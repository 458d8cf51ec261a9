-- A view of a member's objects at an earlier place: what it asks, and what it is.
use Rattle.std.specs.Prelude.{◌≡◌, ℕ, List, length, take}
use Rattle.value_core.specs.Meaning.{Performs}
use Rattle.value_core.specs.declared.message.Message.{Message}
use Rattle.object_manager.specs.After.{Copied}
use Rattle.object_manager.specs.Viewed.{Viewed}
use Rattle.book_law.specs.Fitness.{ArgsFit, StateFits}
use Rattle.book_law.specs.Passes.{after}
use Rattle.world_rules.specs.Frame.{Frame}
use Rattle.world_rules.specs.Nodes as nodes
use Rattle.world_rules.specs.Nodes.{entries_of}
use Rattle.world_rules.specs.Processes.{Begun, singles_of}
use Rattle.world_rules.specs.Steps.{objects_after}
use Rattle.node_rules.specs.Entries.{MayApplyAgain}
use Rattle.node_core.specs.Entries.{KnowsAs}
use Rattle.node_parts.specs.Shown.{Left, Stood}
use Rattle.node_core.specs.Stands.{StandsAs}
use Rattle.node_core.specs.declared.node.Node.{Node}

-- whichever processes the node knows, the copies are those after the entry, and keep no single object that it makes
abbrev pub HasTakenAgain : {P S : Type 0} → Performs → Node P S → Message → Copied → Copied → Type 0
HasTakenAgain p s x old new = (f : Frame) (processes : List Begun) → KnowsAs f processes s → new ≡ after (singles_of f processes) p old x

-- it stands for some node of the world, by whose single objects each of the entries may be taken by the copies after those before it
pub record MayViewAfter {P S : Type 0} (stood : Stood S) (left : Left S) (f : Frame) (fits_state : StateFits) (fits_args : ArgsFit)
    (entries : List Message) (s : Node P S) : Type 0 where
  pub member : ℕ
  pub node : nodes.Node
  pub stands : StandsAs stood left f member s node
  pub each : MayApplyAgain f fits_state fits_args node entries

-- whichever node it stands for of whose entries these are the first, the view has that node's objects after them
abbrev pub HasViewed : {P S : Type 0} → Stood S → Left S → Frame → List Message → Node P S → Viewed → Type 0
HasViewed stood left f entries s view =
    (m : ℕ) (v : nodes.Node) → StandsAs stood left f m s v → entries ≡ take (length entries) (entries_of v) →
    view ≡ record { objects = objects_after f v (length entries); place = length entries }
