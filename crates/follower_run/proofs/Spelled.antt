-- Packets on their way, as bytes and as they are.
use Rattle.std.proofs.Common.{◌≡◌, ◌∙◌, ◌<◌, ◌≤◌, ◌-◌, ◌^◌, ℕ, Bool, true, false, cond, List, [], ◌∷◌, ◌++◌, length, take, drop, map, Option, None, Some, refl, ap, sym, arith, append-nil}
use Rattle.std.specs.List.{filter}
use Rattle.std.proofs.lemmas.Bool.{leb-false, leb-true}
use Rattle.std.proofs.lemmas.List.{length-drop, length-take, take-append-drop, take_all}
use Rattle.group_packets.specs.Packet.{stopped}
use Rattle.group_join.specs.Sound.{IsJoin}
use Rattle.group_join.specs.Spelling.{join_spelling}
use Rattle.group_join.specs.declared.packet.JoinPacket.{JoinPacket}
use Rattle.net_rules.specs.Flights.{copies, is_ready, nearer, seen, ticked}
use Rattle.net_rules.specs.declared.fate.Fate.{Fate}
use Rattle.net_rules.specs.declared.fate.Fate.TheVariants as fate
use Rattle.net_rules.specs.declared.flight.Flight.{Flight}
use Rattle.world_parts.specs.Standing.{cut_at}
use Rattle.world_rules.specs.Mail.{is_whole_at}
use Rattle.join_law.specs.Rounds.{Carried, bytes_in, carried, cut_to, is_held, is_whole}
use Rattle.follower_run.specs.Posts.{CanBeRead, is_late, spelled}

-- ---- as bytes

pub copies_seen : (number from to : ℕ) (packet : JoinPacket) (one : Fate) → map (seen spelled) (copies cut_to number from to (carried packet) one) ≡ copies take number from to (join_spelling packet) one
copies_seen number from to packet fate.Pass = refl
copies_seen number from to packet fate.Drop = refl
copies_seen number from to packet fate.Twice = refl
copies_seen number from to packet (fate.Hold ticks) = refl
copies_seen number from to packet (fate.Cut length) = refl

pub seen_both : (xs ys : List (Flight Carried)) → map (seen spelled) (xs ++ ys) ≡ map (seen spelled) xs ++ map (seen spelled) ys
seen_both [] ys = refl
seen_both (x ∷ xs) ys = ap (λ l. seen spelled x ∷ l) (seen_both xs ys)

ready_if : (b : Bool) (x : Flight Carried) (xs : List (Flight Carried)) (ys : List (Flight (List ℕ))) → map (seen spelled) xs ≡ ys → map (seen spelled) (cond b (x ∷ xs) xs) ≡ cond b (seen spelled x ∷ ys) ys
ready_if true x xs ys e = ap (λ l. seen spelled x ∷ l) e
ready_if false x xs ys e = e

pub seen_ready : (xs : List (Flight Carried)) → map (seen spelled) (filter is_ready xs) ≡ filter is_ready (map (seen spelled) xs)
seen_ready [] = refl
seen_ready (x ∷ xs) = ready_if (is_ready x) x (filter is_ready xs) (filter is_ready (map (seen spelled) xs)) (seen_ready xs)

pub seen_held : (xs : List (Flight Carried)) → map (seen spelled) (filter is_held xs) ≡ filter is_late (map (seen spelled) xs)
seen_held [] = refl
seen_held (x ∷ xs) = ready_if (is_held x) x (filter is_held xs) (filter is_late (map (seen spelled) xs)) (seen_held xs)

pub seen_ticked : (xs : List (Flight Carried)) → map (seen spelled) (ticked xs) ≡ ticked (map (seen spelled) xs)
seen_ticked [] = refl
seen_ticked (x ∷ xs) = ap (λ l. nearer (seen spelled x) ∷ l) (seen_ticked xs)

-- ---- bytes

stops : (n k : ℕ) → stopped n ≡ k → k < 2 ^ 32 - 1 → n ≡ k
stops n k is low = omega (arith, is, low)

-- a packet that can be read has as many bytes as the wire was told
pub spelled_bytes : (packet : JoinPacket) → CanBeRead packet → length (join_spelling packet) ≡ bytes_in packet
spelled_bytes packet read = stops (length (join_spelling packet)) (bytes_in packet) refl read.short

cut_whole : (cut : Option ℕ) (n : ℕ) (bytes : List ℕ) → length bytes ≡ n → is_whole_at n cut ≡ true → cut_at cut bytes ≡ bytes
cut_whole None n bytes same is = refl
cut_whole (Some k) n bytes same is = take_all k bytes (omega (arith, same, leb-true n k is))

cut_short : (cut : Option ℕ) (n : ℕ) (bytes : List ℕ) → length bytes ≡ n → is_whole_at n cut ≡ false → (rest : List ℕ) × (cut_at cut bytes ++ rest ≡ bytes) × (rest ≡ [] → ⊥)
cut_short None n bytes same is = absurd (cc is)
cut_short (Some k) n bytes same is =
    (drop k bytes, take-append-drop k bytes, λ none. absurd (omega (arith, ap length none, length-drop k bytes, same, leb-false n k is)))

-- one packet at most is spelled in front of bytes
abbrev pub Prefixes : Type 0
Prefixes =
    (p q : JoinPacket) (behind more : List ℕ) → IsJoin p → IsJoin q → join_spelling p ++ behind ≡ join_spelling q ++ more → (p ≡ q) × (behind ≡ more)

-- what is read of its bytes is the packet, and it is whole
pub read_whole : Prefixes → (one : Carried) (packet : JoinPacket) → CanBeRead one.packet → IsJoin packet → spelled one ≡ join_spelling packet → (is_whole one ≡ true) × (packet ≡ one.packet)
read_whole prefixes one packet read join is = go (is_whole one) refl
  where
    p : JoinPacket
    p = one.packet

    go : (b : Bool) → is_whole one ≡ b → (is_whole one ≡ true) × (packet ≡ p)
    go true whole =
        let bytes = cut_whole one.cut (bytes_in p) (join_spelling p) (spelled_bytes p read) whole in
        (whole, (prefixes packet p [] [] join read.join (ap (λ (l : List ℕ). l ++ []) (sym is ∙ bytes))).0)
    go false part =
        let short = cut_short one.cut (bytes_in p) (join_spelling p) (spelled_bytes p read) part in
        let same = prefixes packet p short.0 [] join read.join (ap (λ (l : List ℕ). l ++ short.0) (sym is) ∙ short.1 ∙ sym (append-nil (join_spelling p))) in
        absurd (short.2 same.1)

-- where its bytes are those of no packet, it was cut
pub read_none : (one : Carried) → CanBeRead one.packet → ((packet : JoinPacket) → IsJoin packet → spelled one ≡ join_spelling packet → ⊥) → is_whole one ≡ false
read_none one read none = go (is_whole one) refl
  where
    p : JoinPacket
    p = one.packet

    go : (b : Bool) → is_whole one ≡ b → is_whole one ≡ false
    go false part = part
    go true whole = absurd (none p read.join (cut_whole one.cut (bytes_in p) (join_spelling p) (spelled_bytes p read) whole))

cut_few : (cut : Option ℕ) (bytes : List ℕ) → length (cut_at cut bytes) ≤ length bytes
cut_few None bytes = omega arith
cut_few (Some k) bytes = let e = length-take k bytes in omega (arith, e)

pub few_spelled : (one : Carried) → CanBeRead one.packet → length (spelled one) < 2 ^ 32
few_spelled one read =
    let few = cut_few one.cut (join_spelling one.packet) in
    let all = spelled_bytes one.packet read in
    omega (arith, few, all, read.short)
