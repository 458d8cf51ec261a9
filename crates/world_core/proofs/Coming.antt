-- A copy of a packet comes: what its bytes are, and whether it is whole.
use Rattle.std.proofs.Common.{◌≡◌, ◌≤◌, ◌<◌, ◌-◌, ◌^◌, ◌∙◌, ℕ, Bool, true, false, List, [], ◌++◌, Option, None, Some, option_map, drop, ap, sym, refl, arith, length, append-nil}
use Rattle.std.proofs.lemmas.Bool.{leb-false, leb-true}
use Rattle.std.proofs.lemmas.List.{length-drop, length-take, take-append-drop, take_all}
use Rattle.value_core.specs.Lengths.{answer_length, message_length, told_length}
use Rattle.value_core.specs.declared.action.Reply.{Reply}
use Rattle.value_core.specs.declared.message.Message.{Message}
use Rattle.group_packets.specs.Packet.{packet_bytes, stopped}
use Rattle.group_packets.specs.declared.packet.Packet.{Packet}
use Rattle.net_rules.specs.Flights.{ready_copy, seen}
use Rattle.net_rules.specs.declared.flight.Flight.{Flight}
use Rattle.packet_bytes.specs.Sound.{IsPacket}
use Rattle.packet_bytes.specs.Spelling.{packet_spelling}
use Rattle.world_law.proofs.Flying.{each_found}
use Rattle.world_law.specs.Packets.{IsNumbered}
use Rattle.world_rules.specs.Frame.{Frame}
use Rattle.world_rules.specs.Mail.{Carried, Mail, bytes_in, is_whole, is_whole_at, posted, receiver_of}
use Rattle.world_rules.specs.Worlds.{World}
use Rattle.node_parts.specs.Shown.{Left, Stood}
use Rattle.world_parts.specs.Standing.{CanBeRead, IsWorld, Stands, cut_at, spelled}
use Rattle.world_parts.specs.declared.parts.Parts.{Parts}
use Rattle.letter_bytes.specs.Letters.{IsIncoming}
use Rattle.world_core.proofs.Asking.{ready_here}

-- ---- the copy

-- in the world it is this one, which goes as its letter says
pub record Found (f : Frame) (w : World) (number copy : ℕ) (flight : Flight (List ℕ)) : Type 0 where
  pub one : Flight Carried
  pub there : ready_copy number copy w.flights ≡ Some one
  pub is : flight ≡ seen (spelled f.settings.nodes) one
  pub read : CanBeRead f.settings.nodes one.packet.mail
  pub from : one.from ≡ (posted f.settings.nodes one.packet.mail).from
  pub to : one.to ≡ receiver_of one.packet.mail

pub to_is : (nodes : ℕ) (mail : Mail) → (posted nodes mail).to ≡ receiver_of mail
to_is nodes (Mail.Grouped letter) = refl
to_is nodes (Mail.Sends incarnation from to errand) = refl

some_mapped : {X Y : Type 0} (see : X → Y) (o : Option X) (y : Y) → Some y ≡ option_map see o → (x : X) × (o ≡ Some x) × (y ≡ see x)
some_mapped see None y is = absurd (cc is)
some_mapped see (Some x) y is = let e : y ≡ see x = cc is in (x, refl, e)

pub found : {P S : Type 0} (stood : Stood S) (left : Left S) (f : Frame) (s : Parts P S) (w : World) (number copy : ℕ) (flight : Flight (List ℕ)) → Stands stood left f s → IsWorld stood left f s w
    → Some flight ≡ ready_copy number copy s.net.flights → Found f w number copy flight
found stood left f s w number copy flight h is looked =
    let hold = h.laws.hold f refl refl h.settings s.ledger.steps w is.replays in
    let one = some_mapped (seen (spelled f.settings.nodes)) (ready_copy number copy w.flights) flight (looked ∙ ready_here stood left f s w number copy is) in
    let numbered = each_found (IsNumbered f w.sent) _ w.flights one.0 one.1 hold.numbered.each in
    record {
      one = one.0;
      there = one.1;
      is = one.2;
      read = each_found (λ (flight : Flight Carried). CanBeRead f.settings.nodes flight.packet.mail) _ w.flights one.0 one.1 is.read;
      from = numbered.from;
      to = numbered.to ∙ to_is f.settings.nodes one.0.packet.mail;
    }

-- ---- bytes

-- one packet at most is spelled in front of bytes
abbrev pub Prefixes : Type 0
Prefixes =
    (p q : Packet Message Reply) (behind more : List ℕ) → IsPacket p → IsPacket q → packet_spelling p ++ behind ≡ packet_spelling q ++ more → (p ≡ q) × (behind ≡ more)

-- how many bytes spell one
abbrev pub Lengths : Type 0
Lengths =
    (p : Packet Message Reply) →
    stopped (length (packet_spelling p)) ≡ stopped (packet_bytes (λ m. told_length (message_length m)) (λ r. told_length (answer_length r)) p)

stops : (n k : ℕ) → stopped n ≡ k → k < 2 ^ 32 - 1 → n ≡ k
stops n k is low = omega (arith, is, low)

spelled_bytes : Lengths → (p : Packet Message Reply) → bytes_in p < 2 ^ 32 - 1 → length (packet_spelling p) ≡ bytes_in p
spelled_bytes lengths p short = stops (length (packet_spelling p)) (bytes_in p) (lengths p) short

-- a copy that wasn't cut has all bytes, and one that was lacks some
cut_whole : (cut : Option ℕ) (n : ℕ) (bytes : List ℕ) → length bytes ≡ n → is_whole_at n cut ≡ true → cut_at cut bytes ≡ bytes
cut_whole None n bytes same is = refl
cut_whole (Some k) n bytes same is = take_all k bytes (omega (arith, same, leb-true n k is))

cut_short : (cut : Option ℕ) (n : ℕ) (bytes : List ℕ) → length bytes ≡ n → is_whole_at n cut ≡ false → (rest : List ℕ) × (cut_at cut bytes ++ rest ≡ bytes) × (rest ≡ [] → ⊥)
cut_short None n bytes same is = absurd (cc is)
cut_short (Some k) n bytes same is =
    (drop k bytes, take-append-drop k bytes, λ none. absurd (omega (arith, ap length none, length-drop k bytes, same, leb-false n k is)))

-- what its bytes say: the letter, where it is whole, and else nothing
pub come_whole : Prefixes → Lengths → (nodes : ℕ) (one : Carried) (packet : Packet Message Reply) → CanBeRead nodes one.mail → IsIncoming (spelled nodes one) (Some packet)
    → (is_whole nodes one ≡ true) × (packet ≡ (posted nodes one.mail).packet)
come_whole prefixes lengths nodes one packet read incoming = go (is_whole nodes one) refl
  where
    p : Packet Message Reply
    p = (posted nodes one.mail).packet

    go : (b : Bool) → is_whole nodes one ≡ b → (is_whole nodes one ≡ true) × (packet ≡ p)
    go true is =
        let bytes = cut_whole one.cut (bytes_in p) (packet_spelling p) (spelled_bytes lengths p read.short) is in
        (is, (prefixes packet p [] [] incoming.0 read.packet (ap (λ (l : List ℕ). l ++ []) (sym incoming.1 ∙ bytes))).0)
    go false is =
        let short = cut_short one.cut (bytes_in p) (packet_spelling p) (spelled_bytes lengths p read.short) is in
        let same = prefixes packet p short.0 [] incoming.0 read.packet (ap (λ (l : List ℕ). l ++ short.0) (sym incoming.1) ∙ short.1 ∙ sym (append-nil (packet_spelling p))) in
        absurd (short.2 same.1)

pub come_cut : Lengths → (nodes : ℕ) (one : Carried) → CanBeRead nodes one.mail → IsIncoming (spelled nodes one) None → is_whole nodes one ≡ false
come_cut lengths nodes one read incoming = go (is_whole nodes one) refl
  where
    p : Packet Message Reply
    p = (posted nodes one.mail).packet

    go : (b : Bool) → is_whole nodes one ≡ b → is_whole nodes one ≡ false
    go false is = is
    go true is = absurd (incoming p read.packet (cut_whole one.cut (bytes_in p) (packet_spelling p) (spelled_bytes lengths p read.short) is))

cut_few : (cut : Option ℕ) (bytes : List ℕ) → length (cut_at cut bytes) ≤ length bytes
cut_few None bytes = omega arith
cut_few (Some k) bytes = let e = length-take k bytes in omega (arith, e)

pub few_spelled : Lengths → (nodes : ℕ) (one : Carried) → CanBeRead nodes one.mail → length (spelled nodes one) < 2 ^ 32
few_spelled lengths nodes one read =
    let p = (posted nodes one.mail).packet in
    let few = cut_few one.cut (packet_spelling p) in
    let all = spelled_bytes lengths p read.short in
    omega (arith, few, all, read.short)
