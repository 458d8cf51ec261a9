-- What an event leaves, before it is done.
use Rattle.std.specs.Prelude.{◌≡◌, ◌<◌, ◌≤◌, ◌+◌, ◌-◌, ◌^◌, ◌++◌, ◌==◌, ◌&&◌, ◌||◌, not, nat_lt, if◌then◌else◌, ℕ, suc, Bool, List, [], ◌∷◌, length, map, Option, None, Some, slice_get, slice_index_or, slice_set}
use Rattle.value_core.specs.declared.action.Line.{Line}
use Rattle.value_core.specs.declared.action.Reply.{Reply}
use Rattle.value_core.specs.declared.message.Message.{Message}
use Rattle.object_manager.specs.Viewed.{Viewed}
use Rattle.book_law.specs.Performed.{Performed, placed}
use Rattle.book_law.specs.declared.placing.Placed.{Placed}
use Rattle.group_member.specs.declared.sends.Letter.{Letter}
use Rattle.group_packets.specs.declared.packet.Packet.{Packet}
use Rattle.group_rules.specs.Steps.{is_empty}
use Rattle.world_rules.specs.declared.event.Event.{Event}
use Rattle.world_rules.specs.Frame.{Frame}
use Rattle.world_rules.specs.Mail.{Mail, posted}
use Rattle.world_rules.specs.Steps.{AtWork, Known, Possible, happens, has_stirred}
use Rattle.world_rules.specs.Worlds.{World, agreed, singles_in}
use Rattle.node_core.specs.Pieces.{resident_at}
use Rattle.node_parts.specs.Shown.{Left, Stood}
use Rattle.node_core.specs.Keeping.{KeepsTasks}
use Rattle.node_core.specs.Stands.{IsDone, IsPostOf, StandsAs}
use Rattle.node_rules.specs.Conditions.{Fitness}
use Rattle.node_rules.specs.Entries.{told_lines}
use Rattle.node_rules.specs.Starts.{EventFits, Start, part}
use Rattle.node_rules.specs.Starts.Start.{Comes}
use Rattle.world_law.specs.SoundPackets.{IsSoundMail}
use Rattle.world_rules.specs.Nodes as nodes
use Rattle.world_rules.specs.Nodes.{mails_of}
use Rattle.std.specs.List.{AllByRecursion as Each}
use Rattle.node_parts.specs.declared.moved.Moved.{Moved}
use Rattle.node_core.specs.declared.node.Node.{Node}
use Rattle.node_parts.specs.declared.resident.Resident.{Resident}
use Rattle.world_parts.specs.Recorded.{of_pieces}
use Rattle.world_parts.specs.Seen.{Out}
use Rattle.world_parts.specs.Standing.{Is, outs_of}
use Rattle.world_parts.specs.declared.parts.Parts.{Parts}
use Rattle.world_core.specs.declared.draft.Draft.{Draft}
use Rattle.world_core.specs.declared.draft.Part.{Part}
use Rattle.letter_bytes.specs.declared.letters.Outgoing.{Outgoing}
use Rattle.letter_bytes.specs.Letters.{IsOutgoing}
use Rattle.world_core.specs.Stepping.{is_burst_of}

-- ---- packets

-- one for each letter, in order
abbrev pub AreOutgoing : ℕ → List Outgoing → List Mail → Type 0
AreOutgoing nodes [] [] = Unit {0}
AreOutgoing nodes (one ∷ more) (mail ∷ mails) =
    IsOutgoing one (posted nodes mail).from (posted nodes mail).to (posted nodes mail).packet × AreOutgoing nodes more mails
AreOutgoing nodes [] (mail ∷ mails) = ⊥
AreOutgoing nodes (one ∷ more) [] = ⊥

-- ---- members

-- the members once those that did their parts took their places
abbrev pub taken : {P S : Type 0} → List (Part P S) → List (Node P S) → List (Node P S)
taken [] nodes = nodes
taken (part ∷ parts) nodes = taken parts (slice_set nodes part.member part.node)

-- each is the world's
pub record AreNodes {P S : Type 0} (stood : Stood S) (left : Left S) (f : Frame) (nodes : List (Node P S)) (w : World) : Type 0 where
  pub count : length nodes ≡ f.settings.nodes
  pub each : (m : ℕ) (node : Node P S) → slice_get nodes m ≡ Some node → StandsAs stood left f m node (w.nodes m)

-- the task of process i that is out at member m
abbrev pub out_in : {P S : Type 0} → List (Node P S) → ℕ → ℕ → Option (Out S)
out_in nodes m i = slice_index_or (slice_index_or (map outs_of nodes) m []) i None

-- a process with a task out is as it was before the event
abbrev pub KeepTasks : {P S : Type 0} → List (Node P S) → List (Node P S) → Type 0
KeepTasks {P} {S} old new =
    (m i : ℕ) (node : Node P S) (r : Resident S) (view : Viewed) → slice_get new m ≡ Some node → resident_at node i ≡ Some r →
    r.out ≡ Some view → (before : Node P S) × (slice_get old m ≡ Some before) × (resident_at before i ≡ Some r)

-- ---- what a member's part adds

-- in bytes, these letters, which this member sends
abbrev pub AreLetters : ℕ → List (Letter Message Reply) → List Outgoing → Type 0
AreLetters from [] [] = Unit {0}
AreLetters from (letter ∷ letters) (one ∷ more) = IsOutgoing one from letter.to letter.packet × AreLetters from letters more
AreLetters from [] (one ∷ more) = ⊥
AreLetters from (letter ∷ letters) [] = ⊥

abbrev pub HasSpelled : ℕ → List (Letter Message Reply) → List Outgoing → List Outgoing → Type 0
HasSpelled from letters old new = (more : List Outgoing) × (new ≡ old ++ more) × AreLetters from letters more

-- of these, the first of which stands behind so many, those that stand behind `known`
abbrev pub behind : {A : Type 0} → ℕ → ℕ → List A → List A
behind known place [] = []
behind known place (x ∷ xs) =
    if nat_lt known (suc place) then x ∷ behind known (suc place) xs else behind known (suc place) xs

-- of lines, list by list, where they stand
abbrev pub lines_behind : ℕ → ℕ → List (List Line) → List Placed
lines_behind known place [] = []
lines_behind known place (lines ∷ more) =
    if nat_lt known (suc place) then placed (suc place) lines ++ lines_behind known (suc place) more
    else lines_behind known (suc place) more

-- the member applied an entry, installed an incarnation, or performed something beside the list
abbrev pub has_moved : {P S : Type 0} → Node P S → Node P S → Moved → Bool
has_moved before after moved =
    not ((before.member.applied == after.member.applied) && (before.member.installed == after.member.installed))
    || not (is_empty moved.aside.items)

-- the member's part joins those that were there: of a list of so many entries, what is new to it and to the draft
pub record HasAdded {P S : Type 0} (listed : ℕ) (before after : Node P S) (moved : Moved) (old new : Draft P S) : Type 0 where
  pub parts : new.parts.items ≡ old.parts.items ++ record { member = before.member.me; node = after } ∷ []
  pub outgoing : HasSpelled before.member.me moved.sends.items old.outgoing.items new.outgoing.items
  pub entries :
      new.entries.items ≡ old.entries.items ++ behind (listed + length old.entries.items) before.copies.applied moved.messages.items
  pub pieces :
      of_pieces new.pieces.items ≡
      of_pieces old.pieces.items
      ++ (lines_behind (listed + length old.entries.items) before.copies.applied moved.entries.items ++ moved.aside.items)
  pub stirred : new.has_stirred ≡ (old.has_stirred || has_moved before after moved)

-- ---- a member's part of an event

-- some node for which this one stands may do it; what it sends is sound, it tells of each entry that it applies, and numbers are small
pub record MayAdd {P S : Type 0} (stood : Stood S) (left : Left S) (f : Frame) (fitness : Fitness) (s : Parts P S) (before : Node P S)
    (start : Start) (draft : Draft P S) : Type 0 where
  pub node : nodes.Node
  pub stands : StandsAs stood left f before.member.me before node
  pub fits : EventFits f fitness before.member.me start node
  pub sound : Each (IsSoundMail f) (mails_of (part f before.member.me start node).deeds)
  pub told :
      node.copies.applied + length (told_lines (part f before.member.me start node).deeds) ≡
      length (nodes.entries_of (part f before.member.me start node).node)
  pub had : node.copies.applied ≡ length (nodes.entries_of node)
  pub small : length (nodes.entries_of (part f before.member.me start node).node) < 2 ^ 62
  pub few : length s.ledger.entries + length draft.entries.items < 2 ^ 62

-- a node did it, and that joins those of the draft
pub record AddsPart {P S : Type 0} (stood : Stood S) (left : Left S) (f : Frame) (fitness : Fitness) (s : Parts P S) (before : Node P S)
    (start : Start) (old new : Draft P S) : Type 0 where
  pub after : Node P S
  pub moved : Moved
  pub added : HasAdded (length s.ledger.entries) before after moved old new
  pub tasks : KeepsTasks before after
  pub does :
      (v : nodes.Node) → StandsAs stood left f before.member.me before v → EventFits f fitness before.member.me start v →
      IsDone stood left f before.member.me after moved v (part f before.member.me start v)

-- of the letter that comes in a packet
abbrev pub MayAddLetter : {P S : Type 0} → Stood S → Left S → Frame → Fitness → Parts P S → Node P S → ℕ → Packet Message Reply → Draft P S → Type 0
MayAddLetter stood left f fitness s before from packet draft =
    (mail : Mail) × IsPostOf f.settings.nodes before.member.me from packet mail
    × MayAdd stood left f fitness s before (Comes mail) draft

abbrev pub AddsLetter : {P S : Type 0} → Stood S → Left S → Frame → Fitness → Parts P S → Node P S → ℕ → Packet Message Reply → Draft P S → Draft P S →
    Type 0
AddsLetter stood left f fitness s before from packet old new =
    (mail : Mail) → IsPostOf f.settings.nodes before.member.me from packet mail →
    AddsPart stood left f fitness s before (Comes mail) old new

-- ---- an event

-- it leaves what the event gave: its members, whose tasks stay as they are, but for the task of a burst's process; the packets that it
-- sent, the entries that are new to the list, and what was performed
pub record IsDraft {P S : Type 0} (stood : Stood S) (left : Left S) (f : Frame) (s : Parts P S) (w : World) (event : Event) (draft : Draft P S)
    (u : AtWork) : Type 0 where
  pub nodes : AreNodes stood left f (taken draft.parts.items s.nodes.items) u.world
  pub letters : AreOutgoing f.settings.nodes draft.outgoing.items u.mails
  pub entries : s.ledger.entries ++ draft.entries.items ≡ agreed f u.world
  pub performed : Performed (singles_in f u.world) f.performs (agreed f u.world) u.world.aside (s.ledger.performed ++ of_pieces draft.pieces.items)
  pub stirred : draft.has_stirred ≡ has_stirred f w u.world
  pub tasks : KeepTasks s.nodes.items (taken draft.parts.items s.nodes.items)
  pub outs :
      (m i : ℕ) → out_in (taken draft.parts.items s.nodes.items) m i ≡ (if is_burst_of f w event m i then None else out_in s.nodes.items m i)
  pub members : Each (λ (part : Part P S). part.member < f.settings.nodes) draft.parts.items
  pub later : (m : ℕ) → (w.nodes m).copies.applied ≤ (u.world.nodes m).copies.applied

-- of an event that is possible
abbrev pub Drafts : {P S : Type 0} → Stood S → Left S → Frame → Parts P S → Event → Draft P S → Type 0
Drafts stood left f s event draft =
    Is stood left f s (λ w. (given : Known event) × Possible f w event given × IsDraft stood left f s w event draft (happens f w event given))

-- where the event may not be, in a run that is going
abbrev pub MayNotBe : {P S : Type 0} → Stood S → Left S → Frame → Parts P S → Event → Type 0
MayNotBe stood left f s event = Is stood left f s (λ w. (given : Known event) → Possible f w event given → ⊥)
