-- A world, also in the middle of an event, and the course that it is: the same list as far as any member's copies applied it, the same
-- beside it, and each member and each process is the course's.
use Rattle.std.specs.Prelude.{◌≡◌, ◌<◌, ◌≤◌, ℕ, false, List, length, take, Some, slice_get}
use Rattle.orca_base.specs.declared.ids.ObjectId.{ObjectId}
use Rattle.value_core.specs.declared.message.Message.{Message}
use Rattle.group_rules.specs.Sets.{In as IsIn}
use Rattle.book_law.specs.Passes.{Test}
use Rattle.book_law.specs.Course.{Came, Course}
use Rattle.book_law.specs.Events.{Calls, In}
use Rattle.book_law.specs.Members.{copies_of}
use Rattle.world_rules.specs.Frame.{Frame}
use Rattle.world_rules.specs.Nodes.{Node}
use Rattle.world_rules.specs.Played.{Played}
use Rattle.world_rules.specs.Processes.{Begun, processes_in, singles_of}
use Rattle.world_rules.specs.Worlds.{World}
use Rattle.world_course.specs.Chain.{Leads}
use Rattle.world_course.specs.Processes.{IsProcess}

-- a test that agrees with the choices of the processes that exist after these entries: an object's id names its maker
abbrev pub Agrees : Frame → Test → List Message → Type 0
Agrees f single list =
    (o : ObjectId) → o.process < length (processes_in f list) → single o ≡ singles_of f (processes_in f list) o

-- member m: its copies applied a beginning of the list, and are the course's
pub record IsMember (f : Frame) (single : Test) (c : Course) (came : Came single f.performs f.computes c) (m : ℕ) (node : Node) :
    Type 0 where
  pub applied : c.applied m ≡ node.copies.applied
  pub entries : take node.copies.applied node.member.log ≡ take node.copies.applied c.list
  pub copies : node.copies ≡ copies_of single f.performs f.computes c came m

-- the process began at this member
pub record IsOf (f : Frame) (c : Course) (m j : ℕ) : Type 0 where
  pub begun : Begun
  pub there : slice_get (processes_in f c.list) j ≡ Some begun
  pub home : begun.home ≡ m

-- the message was submitted to the course, and calls no single object
pub record IsAsked (single : Test) (c : Course) (x : Message) : Type 0 where
  pub among : In x c.asked
  pub shared : (o : ObjectId) → Calls x.action o → single o ≡ false

-- the world stands for the course, whose list may go on where no member applied it yet. `asked`, what processes submitted to the group the
-- course was asked; `callers`, an entry is of a process that the entries before it began; `played`, each process that a member knows
-- began there
pub record Stands (f : Frame) (single : Test) (w : World) (c : Course) : Type 0 where
  pub came : Came single f.performs f.computes c
  pub test : Agrees f single c.list
  pub beside : c.aside ≡ w.aside
  pub asked : (x : Message) → IsIn x (w.past.submitted x.process.0) → IsAsked single c x
  pub callers : (n : ℕ) (y : Message) → slice_get c.list n ≡ Some y → y.process.0 < length (processes_in f (take n c.list))
  pub members : (m : ℕ) → IsMember f single c came m (w.nodes m)
  pub processes :
      (j : ℕ) (b : Begun) → slice_get (processes_in f c.list) j ≡ Some b → IsProcess f.computes j b (c.runners j) (w.nodes b.home)
  pub played : (m j : ℕ) (r : Played) → (w.nodes m).played j ≡ Some r → IsOf f c m j

-- and some member applied the whole list
pub record Corresponds (f : Frame) (single : Test) (w : World) (c : Course) : Type 0 where
  pub stands : Stands f single w c
  pub reached : (m : ℕ) × (length c.list ≤ (w.nodes m).copies.applied)

-- a world that comes from one that corresponds: it corresponds to a course that comes from that one's
abbrev pub Lifts : Frame → Test → Course → World → Type 0
Lifts f single c v = (d : Course) × Leads single f.performs f.computes c d × Corresponds f single v d
