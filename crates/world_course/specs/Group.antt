-- What is taken of the group: small facts of its members, at each moment of a run, also in the middle of an event. An entry of a member
-- has a number from 0 here.
use Rattle.std.specs.Prelude.{◌≡◌, ◌<◌, ◌≤◌, ℕ, List, [], ◌∷◌, take, Some, slice_get}
use Rattle.value_core.specs.declared.message.Message.{Message}
use Rattle.group_rules.specs.Sets.{In}
use Rattle.group_rules.specs.Member.{Waiting}
use Rattle.world_rules.specs.Applying.{applies, round}
use Rattle.world_rules.specs.Frame.{Frame}
use Rattle.world_rules.specs.Nodes.{Node, NodeWork}
use Rattle.world_rules.specs.Worlds.{World}
use Rattle.world_course.specs.Works.{at_work}

-- no member noted to the group what its copies didn't apply
abbrev pub IsNoted : World → Type 0
IsNoted w = (m : ℕ) → (w.nodes m).member.applied ≤ (w.nodes m).copies.applied

-- the member knows entry n to be accepted, and it is this message
pub record IsAccepted (node : Node) (n : ℕ) (x : Message) : Type 0 where
  pub accepted : n < node.member.accepted
  pub there : slice_get node.member.log n ≡ Some x

-- `within`, a member's copies applied accepted entries alone; `same`, what two members know to be accepted is the same; `once`, a message
-- is accepted once; `submitted`, its process submitted it
pub record IsAgreed (w : World) : Type 0 where
  pub within : (m : ℕ) → (w.nodes m).copies.applied ≤ (w.nodes m).member.accepted
  pub same : (m k n : ℕ) (x y : Message) → IsAccepted (w.nodes m) n x → IsAccepted (w.nodes k) n y → x ≡ y
  pub once : (m n k : ℕ) (x : Message) → IsAccepted (w.nodes m) n x → IsAccepted (w.nodes m) k x → n ≡ k
  pub submitted : (m n : ℕ) (x : Message) → IsAccepted (w.nodes m) n x → In x (w.past.submitted x.process.0)

-- ---- a step of a member in the group, in the middle of its event

-- what the copies applied of the log stays
abbrev pub KeepsEntries : Node → Node → Type 0
KeepsEntries node more = take node.copies.applied more.member.log ≡ take node.copies.applied node.member.log

-- after it these facts hold
pub record IsGroupStep (f : Frame) (m : ℕ) (w : World) (v u : NodeWork) : Type 0 where
  pub entries : KeepsEntries v.node u.node
  pub agreed : IsAgreed (at_work f m w u)

-- so it is of each note of an event
abbrev pub AreNotes : Frame → ℕ → World → List (Waiting Message) → NodeWork → Type 0
AreNotes f m w [] v = IsGroupStep f m w (applies f m v) (round f m v)
AreNotes f m w (waiting ∷ more) v = IsGroupStep f m w (applies f m v) (round f m v) × AreNotes f m w more (round f m v)

-- a member at work did something in the group, and is to catch up
pub record Gives (f : Frame) (m : ℕ) (w : World) (v : NodeWork) : Type 0 where
  pub entries : KeepsEntries (w.nodes m) v.node
  pub agreed : IsAgreed (at_work f m w v)
  pub notes : AreNotes f m w v.node.member.waiting v
