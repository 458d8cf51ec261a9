-- The group at each moment of an event, while a member does its part: it is still the world of a run of the group. Whoever walks
-- through a member's part, as `catches_up` does it, has here what the group says on the way.
use Rattle.std.specs.Prelude.{◌≡◌, ◌≤◌, ◌<◌, ◌*◌, ◌&&◌, ℕ, true, nat_lt, List, [], ◌∷◌, ◌++◌, Some, slice_get, take}
use Rattle.value_core.specs.declared.message.Message.{Message}
use Rattle.group_rules.specs.Member.{Letter, Member}
use Rattle.group_rules.specs.Reset.{coordinate}
use Rattle.group_rules.specs.Sets.{In}
use Rattle.group_rules.specs.Steps.{deliver, submit, timer}
use Rattle.group_rules.specs.Work.{Act}
use Rattle.group_rules.specs.World.{Event, may_submit, opening, run}
use Rattle.world_rules.specs.Applying.{applies_one, notes}
use Rattle.world_rules.specs.Frame.{Frame, group}
use Rattle.world_rules.specs.Mail.{Mail}
use Rattle.world_rules.specs.Nodes.{Deed, NodeWork, does, idle, joins, past_after}
use Rattle.world_rules.specs.Nodes.Deed.{Submits, Acts, Mails, Applies, Performs}
use Rattle.world_rules.specs.Steps.{after_part, untouched}
use Rattle.world_rules.specs.Worlds.{World, group_world}
use Rattle.world_law.specs.Grouped.{Comes, Grouped}

-- what is sent beside the group's letters are Asks and Answers
abbrev pub IsErrand : Mail → Type 0
IsErrand (Mail.Grouped letter) = ⊥
IsErrand (Mail.Sends incarnation from to errand) = Unit {0}

-- each of the group's letters goes to another than its sender
abbrev pub Others : List Deed → Type 0
Others [] = Unit {0}
Others (Submits x ∷ deeds) = Others deeds
Others (Acts (Act.Sends letter) ∷ deeds) = (letter.to ≡ letter.packet.from → ⊥) × Others deeds
Others (Acts (Act.Keeps packet) ∷ deeds) = Others deeds
Others (Acts (Act.Orders k x) ∷ deeds) = Others deeds
Others (Acts (Act.Begins k log answers) ∷ deeds) = Others deeds
Others (Mails mail ∷ deeds) = IsErrand mail × Others deeds
Others (Applies lines ∷ deeds) = Others deeds
Others (Performs performed ∷ deeds) = Others deeds

-- the group's letters that were sent, in order: the latest deed is the first
abbrev pub sent_letters : List Deed → List (Letter Message)
sent_letters [] = []
sent_letters (Submits x ∷ deeds) = sent_letters deeds
sent_letters (Acts (Act.Sends letter) ∷ deeds) = sent_letters deeds ++ letter ∷ []
sent_letters (Acts (Act.Keeps packet) ∷ deeds) = sent_letters deeds
sent_letters (Acts (Act.Orders k x) ∷ deeds) = sent_letters deeds
sent_letters (Acts (Act.Begins k log answers) ∷ deeds) = sent_letters deeds
sent_letters (Mails (Mail.Grouped letter) ∷ deeds) = sent_letters deeds ++ letter ∷ []
sent_letters (Mails (Mail.Sends incarnation from to errand) ∷ deeds) = sent_letters deeds
sent_letters (Applies lines ∷ deeds) = sent_letters deeds
sent_letters (Performs performed ∷ deeds) = sent_letters deeds

-- the world while member m is at this work
abbrev pub world_at : Frame → World → ℕ → NodeWork → World
world_at f w m v = (after_part f m v (untouched w)).world

-- its group is what a list of the group's events leads to; the member has noted no more than its copies applied, and these no more than
-- is accepted; what it sent goes to others
pub record IsMoment (f : Frame) (w : World) (m : ℕ) (v : NodeWork) : Type 0 where
  pub events : List (Event Message)
  pub run : group_world (world_at f w m v) ≡ run (group f) opening events
  pub noted : v.node.member.applied ≤ v.node.copies.applied
  pub below : v.node.copies.applied ≤ v.node.member.accepted
  pub others : Others v.deeds

-- ---- what the group says of its members then: an entry has a number from 0 here

-- the member knows entry n to be accepted, and it is this message
pub record Knows (s : Member Message) (n : ℕ) (x : Message) : Type 0 where
  pub accepted : n < s.accepted
  pub there : slice_get s.log n ≡ Some x

-- `noted` and `within`, copies applied as much as was noted at least, and accepted entries alone; `same`, what two members know to be
-- accepted is the same; `once`, a message is accepted once; `submitted`, its process submitted it
pub record MembersAgree (w : World) : Type 0 where
  pub noted : (m : ℕ) → (w.nodes m).member.applied ≤ (w.nodes m).copies.applied
  pub within : (m : ℕ) → (w.nodes m).copies.applied ≤ (w.nodes m).member.accepted
  pub same : (m k n : ℕ) (x y : Message) → Knows (w.nodes m).member n x → Knows (w.nodes k).member n y → x ≡ y
  pub once : (m n k : ℕ) (x : Message) → Knows (w.nodes m).member n x → Knows (w.nodes m).member k x → n ≡ k
  pub submitted : (m n : ℕ) (x : Message) → Knows (w.nodes m).member n x → In x (w.past.submitted x.process.0)

-- ---- from moment to moment

-- the member lives
abbrev pub Lives : Frame → World → ℕ → Type 0
Lives f w m = (nat_lt m f.settings.nodes && w.lives m) ≡ true

-- the next moment, at which the entries that the copies applied stay as they were in the log
pub record LeadsOn (f : Frame) (w : World) (m : ℕ) (v u : NodeWork) : Type 0 where
  pub moment : IsMoment f w m u
  pub kept : take v.node.copies.applied u.node.member.log ≡ take v.node.copies.applied v.node.member.log

-- it begins so, and each act of a member leads on. `stays`: so does whatever leaves its member, what the group remembers, and how many
-- entries its copies applied
pub record MomentsHold (f : Frame) : Type 0 where
  pub start : (w : World) (m : ℕ) → Grouped f w → IsMoment f w m (idle (w.nodes m))
  pub facts : (w : World) (m : ℕ) (v : NodeWork) → Grouped f w → IsMoment f w m v → MembersAgree (world_at f w m v)
  pub stays :
      (w : World) (m : ℕ) (v u : NodeWork) → IsMoment f w m v → u.node.member ≡ v.node.member →
      past_after (group f) m u.deeds w.past ≡ past_after (group f) m v.deeds w.past → u.node.copies.applied ≡ v.node.copies.applied →
      Others u.deeds → LeadsOn f w m v u
  pub applies :
      (w : World) (m : ℕ) (x : Message) (v : NodeWork) → IsMoment f w m v → v.node.copies.applied < v.node.member.accepted →
      LeadsOn f w m v (applies_one f m x v)
  pub notes : (w : World) (m : ℕ) (v : NodeWork) → Lives f w m → IsMoment f w m v → LeadsOn f w m v (notes f m v)
  pub ticks :
      (w : World) (m : ℕ) (v : NodeWork) → Lives f w m → IsMoment f w m v → LeadsOn f w m v (joins (timer (group f) m v.node.member) v)
  pub coordinates :
      (w : World) (m : ℕ) (v : NodeWork) → Lives f w m → IsMoment f w m v →
      LeadsOn f w m v (joins (coordinate (group f) m v.node.member) v)
  pub submits :
      (w : World) (m : ℕ) (x : Message) (v : NodeWork) → Lives f w m → may_submit (group f) (group_world (world_at f w m v)) m x ≡ true →
      IsMoment f w m v → LeadsOn f w m v (joins (submit (group f) m x v.node.member) (does (Submits x) v))
  pub delivers :
      (w : World) (v : NodeWork) (letter : Letter Message) → Lives f w letter.to →
      Comes (past_after (group f) letter.to v.deeds w.past).letters letter → IsMoment f w letter.to v →
      LeadsOn f w letter.to v (joins (deliver (group f) letter.to letter.packet v.node.member) v)

abbrev pub AllMoments : Type 0
AllMoments = (f : Frame) → 2 * f.settings.resilience < f.settings.nodes → MomentsHold f
