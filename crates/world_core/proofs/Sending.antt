-- The packets that an event sends, in bytes and as letters.
use Rattle.std.proofs.Common.{◌≡◌, ◌∙◌, ℕ, suc, List, [], ◌∷◌, ◌++◌, take, map, ap, sym, refl, arith, length, append-nil, append_assoc}
use Rattle.std.specs.List.{AllByRecursion as Each}
use Rattle.group_packets.specs.Packet.{kind_of}
use Rattle.group_packets.specs.declared.packet.PacketKind.{PacketKind}
use Rattle.net_rules.proofs.Travelling.{seen_joined}
use Rattle.net_rules.specs.Asked.{packet_asked}
use Rattle.net_rules.specs.Flights.{copies, joined, seen}
use Rattle.net_rules.specs.declared.asked.Asked.{Asked}
use Rattle.net_rules.specs.declared.fate.Fate.{Fate}
use Rattle.net_rules.specs.declared.fate.Fate.TheVariants as fate
use Rattle.net_rules.specs.declared.flight.Flight.{Flight}
use Rattle.packet_bytes.specs.Spelling.{packet_spelling}
use Rattle.world_rules.specs.Frame.{Frame}
use Rattle.world_rules.specs.Mail.{Mail, carried, cut_to, posted}
use Rattle.world_rules.specs.Steps.{posts, posts_all, told_of}
use Rattle.world_rules.specs.Worlds.{Told, World}
use Rattle.world_parts.specs.Standing.{spelled}
use Rattle.world_core.specs.Closing.{asked_all, sent_all}
use Rattle.letter_bytes.specs.Letters.{IsOutgoing}
use Rattle.world_core.specs.Drafting.{AreOutgoing}
use Rattle.world_core.specs.Stepping.{told_so}
use Rattle.letter_bytes.specs.declared.letters.Outgoing.{Outgoing}

-- what a fate makes of a letter, seen as bytes, is what it makes of the bytes
copies_seen : (nodes number from to : ℕ) (mail : Mail) (one : Fate) →
    map (seen (spelled nodes)) (copies cut_to number from to (carried mail) one) ≡ copies take number from to (packet_spelling (posted nodes mail).packet) one
copies_seen nodes number from to mail fate.Pass = refl
copies_seen nodes number from to mail fate.Drop = refl
copies_seen nodes number from to mail fate.Twice = refl
copies_seen nodes number from to mail (fate.Hold ticks) = refl
copies_seen nodes number from to mail (fate.Cut length) = refl

-- the copies of what is sent are those of the letter
copies_sent : (nodes number : ℕ) (one : Outgoing) (mail : Mail) (given : Fate) → IsOutgoing one (posted nodes mail).from (posted nodes mail).to (posted nodes mail).packet
    → copies take number one.from one.to one.bytes given ≡ map (seen (spelled nodes)) (copies cut_to number (posted nodes mail).from (posted nodes mail).to (carried mail) given)
copies_sent nodes number one mail given is =
    ap (λ (n : ℕ). copies take number n one.to one.bytes given) is.sender
    ∙ ap (λ (n : ℕ). copies take number (posted nodes mail).from n one.bytes given) is.receiver
    ∙ ap (λ (l : List ℕ). copies take number (posted nodes mail).from (posted nodes mail).to l given) is.bytes
    ∙ sym (copies_seen nodes number (posted nodes mail).from (posted nodes mail).to mail given)

-- so packets in flight are the letters
pub sent_flights : (f : Frame) (w : World) (outgoing : List Outgoing) (mails : List Mail) (fates : List Fate) (flights : List (Flight (List ℕ))) (sent : ℕ) → AreOutgoing f.settings.nodes outgoing mails
    → length fates ≡ length mails → sent ≡ w.sent → flights ≡ map (seen (spelled f.settings.nodes)) w.flights
    → sent_all sent outgoing fates flights ≡ map (seen (spelled f.settings.nodes)) (posts_all f w mails fates).flights
sent_flights f w [] [] fates flights sent h same at is = is
sent_flights f w (one ∷ outgoing) (mail ∷ mails) [] flights sent h same at is = absurd (cc same)
sent_flights f w (one ∷ outgoing) (mail ∷ mails) (given ∷ fates) flights sent h same at is =
    sent_flights f (posts f w mail given) outgoing mails fates _ (suc sent) h.1 (omega (arith, same)) (ap suc at)
    (ap (λ (n : ℕ). joined (suc n) (copies take (suc n) one.from one.to one.bytes given) flights) at
    ∙ ap (λ (l : List (Flight (List ℕ))). joined (suc w.sent) (copies take (suc w.sent) one.from one.to one.bytes given) l) is
    ∙ ap (λ (l : List (Flight (List ℕ))). joined (suc w.sent) l (map (seen (spelled f.settings.nodes)) w.flights)) (copies_sent f.settings.nodes (suc w.sent) one mail given h.0)
    ∙ sym (seen_joined (spelled f.settings.nodes) (suc w.sent) (copies cut_to (suc w.sent) (posted f.settings.nodes mail).from (posted f.settings.nodes mail).to (carried mail) given) w.flights))
sent_flights f w [] (mail ∷ mails) fates flights sent h same at is = absurd h
sent_flights f w (one ∷ outgoing) [] fates flights sent h same at is = absurd h

-- and a wire is asked of the letters
asked_one : (f : Frame) (w : World) (one : Outgoing) (mail : Mail) (given : Fate) → IsOutgoing one (posted f.settings.nodes mail).from (posted f.settings.nodes mail).to (posted f.settings.nodes mail).packet
    → packet_asked (suc w.sent) one.kind one.from one.to one.length given ≡ told_so (told_of w (posted f.settings.nodes mail) given)
asked_one f w one mail given is =
    let p = posted f.settings.nodes mail in
    ap (λ (k : PacketKind). packet_asked (suc w.sent) k one.from one.to one.length given) is.kind
    ∙ ap (λ (n : ℕ). packet_asked (suc w.sent) (kind_of p.packet) n one.to one.length given) is.sender
    ∙ ap (λ (n : ℕ). packet_asked (suc w.sent) (kind_of p.packet) p.from n one.length given) is.receiver
    ∙ ap (λ (n : ℕ). packet_asked (suc w.sent) (kind_of p.packet) p.from p.to n given) is.told

pub sent_asked : (f : Frame) (w : World) (outgoing : List Outgoing) (mails : List Mail) (fates : List Fate) (sent : ℕ) → AreOutgoing f.settings.nodes outgoing mails → length fates ≡ length mails → sent ≡ w.sent
    → (more : List Told) × ((posts_all f w mails fates).told ≡ w.told ++ more) × (asked_all sent outgoing fates ≡ map told_so more) × Each (λ (one : Told). one.wire ≡ w.swaps) more
sent_asked f w [] [] fates sent h same at = ([], sym (append-nil w.told), refl, tt)
sent_asked f w (one ∷ outgoing) (mail ∷ mails) [] sent h same at = absurd (cc same)
sent_asked f w (one ∷ outgoing) (mail ∷ mails) (given ∷ fates) sent h same at =
    let next = posts f w mail given in
    let first : Told = told_of w (posted f.settings.nodes mail) given in
    let rest = sent_asked f next outgoing mails fates (suc sent) h.1 (omega (arith, same)) (ap suc at) in (
      first ∷ rest.0,
      rest.1 ∙ append_assoc w.told (first ∷ []) rest.0,
      ap (λ (l : List Asked). packet_asked (suc sent) one.kind one.from one.to one.length given ∷ l) rest.2
          ∙ ap (λ (n : ℕ). packet_asked (suc n) one.kind one.from one.to one.length given ∷ map told_so rest.0) at
          ∙ ap (λ (a : Asked). a ∷ map told_so rest.0) (asked_one f w one mail given h.0),
      (refl, rest.3),
    )
sent_asked f w [] (mail ∷ mails) fates sent h same at = absurd h
sent_asked f w (one ∷ outgoing) [] fates sent h same at = absurd h
