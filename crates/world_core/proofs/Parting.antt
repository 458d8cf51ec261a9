-- A member's part of an event, done by a copy of it.
use Rattle.std.proofs.Common.{◌≡◌, ◌<◌, ◌+◌, ◌^◌, All, ℕ, zero, suc, List, [], ◌∷◌, get_or, map, ap, sym, subst, arith, length, length-append}
use Rattle.std.specs.List.{AllByRecursion as Each}
use Rattle.value_core.specs.Sound.{IsSoundMessage, IsSoundReply}
use Rattle.value_core.specs.declared.action.Reply.{Reply}
use Rattle.value_core.specs.declared.message.Message.{Message}
use Rattle.object_manager.specs.After.{Copied}
use Rattle.group_member.specs.declared.sends.Letter.{Letter}
use Rattle.group_packets.specs.Sound.{IsSoundPacket}
use Rattle.group_packets.specs.declared.packet.Packet.{Packet}
use Rattle.node_rules.specs.Conditions.{Fitness}
use Rattle.node_rules.specs.Starts.{EventFits, Start, part}
use Rattle.node_rules.specs.Starts.Start.{Comes}
use Rattle.world_law.specs.SoundPackets.{IsSoundMail}
use Rattle.world_rules.specs.Frame.{Frame}
use Rattle.world_rules.specs.Mail.{Mail}
use Rattle.world_rules.specs.Nodes as nodes
use Rattle.world_rules.specs.Nodes.{mails_of}
use Rattle.node_core.proofs.Keeping.{keeps_copy, keeps_on}
use Rattle.node_core.specs.Keeping.{IsCopy, KeepsTasks}
use Rattle.node_parts.specs.Shown.{Left, Stood}
use Rattle.node_core.specs.Stands.{Does, IsDone, IsPostOf, MayDo, MayTakePacket, StandsAlike, StandsAs, TakesPacket, sent}
use Rattle.node_parts.specs.declared.moved.Moved.{Moved}
use Rattle.node_core.specs.declared.node.Node.{Node}
use Rattle.world_parts.specs.declared.parts.Parts.{Parts}
use Rattle.world_core.specs.Drafting.{AddsLetter, AddsPart, HasAdded, MayAdd, MayAddLetter}
use Rattle.world_core.specs.declared.draft.Draft.{Draft}

-- the copy has the same number
pub copy_me : {P S : Type 0} (stood : Stood S) (left : Left S) (f : Frame) (fitness : Fitness) (s : Parts P S) (before copy : Node P S) (start : Start) (draft : Draft P S)
    → MayAdd stood left f fitness s before start draft → StandsAlike stood left before copy → copy.member.me ≡ before.member.me
copy_me stood left f fitness s before copy start draft h alike = (alike f before.member.me h.node h.stands).member.me

pub part_may : {P S : Type 0} (stood : Stood S) (left : Left S) (f : Frame) (fitness : Fitness) (s : Parts P S) (before copy : Node P S) (start : Start) (draft : Draft P S)
    → MayAdd stood left f fitness s before start draft → StandsAlike stood left before copy → MayDo stood left f fitness copy start
part_may stood left f fitness s before copy start draft h alike =
    let me = copy_me stood left f fitness s before copy start draft h alike in (
      h.node,
      subst (λ (n : ℕ). StandsAs stood left f n copy h.node) (sym me) (alike f before.member.me h.node h.stands),
      subst (λ (n : ℕ). EventFits f fitness n start h.node) (sym me) h.fits,
    )

-- ---- what it did

-- by the number of the member whose copy it is
pub part_does : {P S : Type 0} (stood : Stood S) (left : Left S) (f : Frame) (fitness : Fitness) (before copy after : Node P S) (moved : Moved) (start : Start) → copy.member.me ≡ before.member.me
    → StandsAlike stood left before copy → Does stood left f fitness copy after moved start
    → (v : nodes.Node) → StandsAs stood left f before.member.me before v → EventFits f fitness before.member.me start v → IsDone stood left f before.member.me after moved v (part f before.member.me start v)
part_does stood left f fitness before copy after moved start me alike does v stands fits =
    subst (λ (n : ℕ). IsDone stood left f n after moved v (part f n start v)) me
    (does v (subst (λ (n : ℕ). StandsAs stood left f n copy v) (sym me) (alike f before.member.me v stands)) (subst (λ (n : ℕ). EventFits f fitness n start v) (sym me) fits))

all_letters : (f : Frame) (mails : List Mail) → Each (IsSoundMail f) mails
    → (k : ℕ) (d : Letter Message Reply) → k < length (map (sent f.settings.nodes) mails) → (λ (letter : Letter Message Reply). IsSoundPacket IsSoundMessage IsSoundReply letter.packet) (get_or (map (sent f.settings.nodes) mails) k d)
all_letters f [] h k d lt = absurd (omega (arith, lt))
all_letters f (mail ∷ mails) h zero d lt = h.0
all_letters f (mail ∷ mails) h (suc k) d lt = all_letters f mails h.1 k d (omega (arith, lt))

-- what joining the draft asks
pub record MayJoin {P S : Type 0} (s : Parts P S) (before : Node P S) (moved : Moved) (draft : Draft P S) : Type 0 where
  pub sound : All (λ (letter : Letter Message Reply). IsSoundPacket IsSoundMessage IsSoundReply letter.packet) moved.sends.items
  pub told : length moved.entries.items ≡ length moved.messages.items
  pub small : before.copies.applied + length moved.messages.items < 2 ^ 63
  pub few : length s.ledger.entries + length draft.entries.items < 2 ^ 63

pub may_join : {P S : Type 0} (stood : Stood S) (left : Left S) (f : Frame) (fitness : Fitness) (s : Parts P S) (before copy after : Node P S) (moved : Moved) (start : Start) (draft : Draft P S)
    → MayAdd stood left f fitness s before start draft → StandsAlike stood left before copy → Does stood left f fitness copy after moved start → MayJoin s before moved draft
may_join {P} {S} stood left f fitness s before copy after moved start draft h alike does =
    let me = copy_me stood left f fitness s before copy start draft h alike in
    let deeds = (part f before.member.me start h.node).deeds in
    let done = part_does stood left f fitness before copy after moved start me alike does h.node h.stands h.fits in
    let entries = ap length done.did.entries in
    let whole = ap length done.messages in
    let count = length-append (nodes.entries_of h.node) moved.messages.items in
    let applied = ap (λ (c : Copied). c.applied) h.stands.copies in
    record {
      sound = subst (All (λ (letter : Letter Message Reply). IsSoundPacket IsSoundMessage IsSoundReply letter.packet)) (sym done.did.sends) (all_letters f (mails_of deeds) h.sound);
      told = omega (arith, entries, whole, count, h.told, h.had);
      small = omega (arith, whole, count, applied, h.had, h.small);
      few = omega (arith, h.few);
    }

pub part_adds : {P S : Type 0} (stood : Stood S) (left : Left S) (f : Frame) (fitness : Fitness) (s : Parts P S) (before copy after : Node P S) (moved : Moved) (start : Start) (old new : Draft P S) (listed : ℕ)
    → copy.member.me ≡ before.member.me → StandsAlike stood left before copy → IsCopy before copy → Does stood left f fitness copy after moved start → KeepsTasks copy after
    → listed ≡ length s.ledger.entries → HasAdded listed before after moved old new → AddsPart stood left f fitness s before start old new
part_adds stood left f fitness s before copy after moved start old new listed me alike same does tasks is added = record {
  after = after;
  moved = moved;
  added = subst (λ (n : ℕ). HasAdded n before after moved old new) is added;
  tasks = keeps_on before copy after (keeps_copy before copy same) tasks;
  does = part_does stood left f fitness before copy after moved start me alike does;
}

-- ---- of a letter

pub letter_may : {P S : Type 0} (stood : Stood S) (left : Left S) (f : Frame) (fitness : Fitness) (s : Parts P S) (before copy : Node P S) (from : ℕ) (packet : Packet Message Reply) (draft : Draft P S)
    → MayAddLetter stood left f fitness s before from packet draft → StandsAlike stood left before copy → MayTakePacket stood left f fitness from packet copy
letter_may stood left f fitness s before copy from packet draft h alike =
    let me = copy_me stood left f fitness s before copy (Comes h.0) draft h.2 alike in
    (h.0, subst (λ (n : ℕ). IsPostOf f.settings.nodes n from packet h.0) (sym me) h.1, part_may stood left f fitness s before copy (Comes h.0) draft h.2 alike)

pub letter_does : {P S : Type 0} (stood : Stood S) (left : Left S) (f : Frame) (fitness : Fitness) (before copy after : Node P S) (moved : Moved) (from : ℕ) (packet : Packet Message Reply) → copy.member.me ≡ before.member.me
    → TakesPacket stood left f fitness from packet copy after moved → (mail : Mail) → IsPostOf f.settings.nodes before.member.me from packet mail → Does stood left f fitness copy after moved (Comes mail)
letter_does stood left f fitness before copy after moved from packet me takes mail post = takes mail (subst (λ (n : ℕ). IsPostOf f.settings.nodes n from packet mail) (sym me) post)

pub letter_join : {P S : Type 0} (stood : Stood S) (left : Left S) (f : Frame) (fitness : Fitness) (s : Parts P S) (before copy after : Node P S) (moved : Moved) (from : ℕ) (packet : Packet Message Reply) (draft : Draft P S)
    → MayAddLetter stood left f fitness s before from packet draft → StandsAlike stood left before copy → TakesPacket stood left f fitness from packet copy after moved → MayJoin s before moved draft
letter_join stood left f fitness s before copy after moved from packet draft h alike takes =
    let me = copy_me stood left f fitness s before copy (Comes h.0) draft h.2 alike in
    may_join stood left f fitness s before copy after moved (Comes h.0) draft h.2 alike (letter_does stood left f fitness before copy after moved from packet me takes h.0 h.1)

pub letter_adds : {P S : Type 0} (stood : Stood S) (left : Left S) (f : Frame) (fitness : Fitness) (s : Parts P S) (before copy after : Node P S) (moved : Moved) (from : ℕ) (packet : Packet Message Reply) (old new : Draft P S) (listed : ℕ)
    → MayAddLetter stood left f fitness s before from packet old → StandsAlike stood left before copy → IsCopy before copy → TakesPacket stood left f fitness from packet copy after moved → KeepsTasks copy after
    → listed ≡ length s.ledger.entries → HasAdded listed before after moved old new → AddsLetter stood left f fitness s before from packet old new
letter_adds stood left f fitness s before copy after moved from packet old new listed h alike same takes tasks is added mail post =
    let me = copy_me stood left f fitness s before copy (Comes h.0) old h.2 alike in
    part_adds stood left f fitness s before copy after moved (Comes mail) old new listed me alike same (letter_does stood left f fitness before copy after moved from packet me takes mail post) tasks is added
