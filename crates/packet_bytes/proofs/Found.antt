-- What is found in bytes, and what is refused.
use Rattle.std.proofs.Common.{◌≡◌, ℕ, ◌+◌, ◌-◌, ◌<◌, ◌≢◌, leb, List, [], ◌∷◌, ◌++◌, length, take, drop, Result, Ok, Err, refl, sym, ap, subst, ◌∙◌, arith, inl, inr}
use Rattle.std.specs.Prelude.{◌&&◌, IfOk}
use Rattle.std.proofs.lemmas.List.{append-nil, take_at, take-append-drop, length-append, length-drop}
use Rattle.orca_base.specs.Refusal.{IfBecause, MatchRefusal}
use Rattle.orca_base.specs.declared.refusal.Refusal.{Refusal}
use Rattle.orca_base.specs.declared.refusal.Refusal.TheVariants.{Because, NoMemory}
use Rattle.value_core.specs.Sound.{IsSoundMessage, IsSoundReply}
use Rattle.value_core.specs.declared.action.Reply.{Reply}
use Rattle.value_core.specs.declared.message.Message.{Message}
use Rattle.value_bytes.specs.declared.fault.ValueError.{ValueError}
use Rattle.value_bytes.specs.declared.fault.ValueError.TheVariants as fault
use Rattle.value_bytes.specs.Reading.{◌>>=◌, Reads}
use Rattle.value_bytes.proofs.Fields.{IsBytes, IsBytes-drop, bind_ok, ok_is}
use Rattle.value_bytes.proofs.Values.{chosen}
use Rattle.group_packets.specs.Sound.{AreSoundEntries, IsSoundPacket}
use Rattle.group_packets.specs.declared.packet.Packet.{Packet}
use Rattle.group_packets.specs.declared.packet.Packet.TheVariants as packet
use Rattle.packet_bytes.specs.declared.fault.PacketError.{PacketError}
use Rattle.packet_bytes.specs.declared.fault.PacketError.TheVariants.{BadTag, Trailing}
use Rattle.packet_bytes.specs.Reading.{Answers, content_at, found_at, in_field, message_at, packet_at, told, whole}
use Rattle.packet_bytes.specs.Sound.{IsMessage, IsPacket}
use Rattle.packet_bytes.specs.Spelling.{message_spelling, packet_spelling}
use Rattle.packet_bytes.specs.Standing.{StandsAt}
use Rattle.packet_bytes.proofs.Lengths.{message_long}
use Rattle.packet_bytes.proofs.MessageLaws.{message_takes, message_again}
use Rattle.packet_bytes.proofs.PacketLaws.{front_at, front_takes, front_again}

-- ---- no spelling is a prefix of another

pub one_packet : (p q : Packet Message Reply) (behind more : List ℕ) → IsPacket p → IsPacket q → packet_spelling p ++ behind ≡ packet_spelling q ++ more → (p ≡ q) × (behind ≡ more)
one_packet p q behind more is other same =
    let e : (p, behind) ≡ (q, more) = ok_is (p, behind) (q, more) (sym (front_again 0 p is behind) ∙ ap (front_at 0) same ∙ front_again 0 q other more) in
    (ap (λ (x : Packet Message Reply × List ℕ). x.0) e, ap (λ (x : Packet Message Reply × List ℕ). x.1) e)

pub one_message : (m n : Message) (behind more : List ℕ) → IsMessage m → IsMessage n → message_spelling m ++ behind ≡ message_spelling n ++ more → (m ≡ n) × (behind ≡ more)
one_message m n behind more is other same =
    let e : (m, behind) ≡ (n, more) = ok_is (m, behind) (n, more) (sym (message_again 0 m is behind) ∙ ap (message_at 0) same ∙ message_again 0 n other more) in
    (ap (λ (x : Message × List ℕ). x.0) e, ap (λ (x : Message × List ℕ). x.1) e)

-- ---- a packet that all of the bytes are

whole_ok : {X : Type 0} (end : ℕ) (r : Reads X) (x : X) → whole end r ≡ Ok x → r ≡ Ok (x, [])
whole_ok end (Ok (y, [])) x e = cc
whole_ok end (Ok (y, b ∷ rest)) x e = absurd cc
whole_ok end (Err f) x e = absurd cc

pub packet_takes : (bytes : List ℕ) (p : Packet Message Reply) → IsBytes bytes → packet_at bytes ≡ Ok p → IsPacket p × (bytes ≡ packet_spelling p)
unfolding packet_at front_at
packet_takes [] p fits e = absurd cc
packet_takes (tag ∷ rest) p fits e =
    let end = length (tag ∷ rest) in
    elim (chosen (leb 1 tag && leb tag 13) (whole end (content_at tag end rest)) (Err (BadTag 0)) (Ok p) e) [
      | inl c ↦
          let read : front_at end (tag ∷ rest) ≡ Ok (p, []) = rw c.0 (whole_ok end (content_at tag end rest) p c.1) in
          let t = front_takes end (tag ∷ rest) (p, []) fits read in
          (t.1, t.0.parts ∙ append-nil (packet_spelling p))
      | inr d ↦ absurd (cc d.1)
    ]

from_front : (bytes : List ℕ) (p : Packet Message Reply) → front_at (length bytes) bytes ≡ Ok (p, []) → packet_at bytes ≡ Ok p
unfolding packet_at front_at
from_front [] p e = absurd cc
from_front (tag ∷ rest) p e =
    let end = length (tag ∷ rest) in
    elim (chosen (leb 1 tag && leb tag 13) (content_at tag end rest) (Err (fault.BadTag 0)) (Ok (p, [])) e) [
      | inl c ↦ rw (c.0, c.1) refl
      | inr d ↦ absurd (cc d.1)
    ]

pub packet_again : (bytes : List ℕ) (p : Packet Message Reply) → IsPacket p → bytes ≡ packet_spelling p → packet_at bytes ≡ Ok p
packet_again bytes p is spelled =
    let text : bytes ≡ packet_spelling p ++ [] = spelled ∙ sym (append-nil (packet_spelling p)) in
    from_front bytes p (ap (front_at (length bytes)) text ∙ front_again (length bytes) p is [])

not_both : {A : Type 0} (x : A) (f : PacketError) (r : Result A PacketError) → r ≡ Ok x → r ≡ Err f → ⊥
not_both x f r e h = absurd cc

abbrev good : {A : Type 0} → A → Result A PacketError
good x = Ok x

same_answer : {A : Type 0} (x y : A) → good x ≡ good y → x ≡ y
same_answer x y e = cc

pub packet_found : (bytes : List ℕ) (r : Result (Packet Message Reply) (Refusal PacketError)) → IsBytes bytes → Answers r (packet_at bytes) → IfOk r (λ p. IsPacket p × (bytes ≡ packet_spelling p))
packet_found bytes (Ok p) fits given = packet_takes bytes p fits given
packet_found bytes (Err e) fits given = tt

all_sound : (ms : List Message) → AreSoundEntries IsMessage ms → AreSoundEntries IsSoundMessage ms
all_sound ms are = ((λ k d lt. (are.0 k d lt).sound), are.1)

pub packet_sound : (p : Packet Message Reply) → IsPacket p → IsSoundPacket IsSoundMessage IsSoundReply p
packet_sound (packet.Request i applied m) is = is.sound.sound
packet_sound (packet.Body i applied m) is = is.sound.sound
packet_sound (packet.Order i number process call accepted stable) is = tt
packet_sound (packet.Entry i number accepted stable m) is = is.sound.sound
packet_sound (packet.Ack i long applied) is = tt
packet_sound (packet.Accept i accepted stable) is = tt
packet_sound (packet.Nack i first applied whole) is = tt
packet_sound (packet.Status i long applied) is = tt
packet_sound (packet.Invite i) is = tt
packet_sound (packet.Join join) is = all_sound join.messages is.sound
packet_sound (packet.Result news) is = (all_sound news.messages is.sound.0, is.sound.1)
packet_sound (packet.Ask i place m) is = is.sound.sound
packet_sound (packet.Answer i place process call r) is = is.sound

pub packet_found_sound : (bytes : List ℕ) (r : Result (Packet Message Reply) (Refusal PacketError)) → IsBytes bytes → Answers r (packet_at bytes) → IfOk r (λ p. IsSoundPacket IsSoundMessage IsSoundReply p)
packet_found_sound bytes (Ok p) fits given = packet_sound p (packet_takes bytes p fits given).0
packet_found_sound bytes (Err e) fits given = tt

pub packet_only : (bytes : List ℕ) (r : Result (Packet Message Reply) (Refusal PacketError)) → Answers r (packet_at bytes) → (p : Packet Message Reply) → IsPacket p → bytes ≡ packet_spelling p →
    MatchRefusal r (λ q. q ≡ p) (λ fault. ⊥)
packet_only bytes (Ok q) given p is spelled = same_answer q p (sym given ∙ packet_again bytes p is spelled)
packet_only bytes (Err (Because f)) given p is spelled = not_both p f (packet_at bytes) (packet_again bytes p is spelled) given
packet_only bytes (Err NoMemory) given p is spelled = tt

-- ---- a message at a place

told_ok : {X : Type 0} (r : Result X ValueError) (x : X) → told r ≡ Ok x → r ≡ Ok x
told_ok (Ok y) x e = cc
told_ok (Err f) x e = absurd cc

found_takes : (bytes : List ℕ) (at : ℕ) (x : Message × ℕ) → IsBytes bytes → found_at bytes at ≡ Ok x → IsMessage x.0 × StandsAt bytes at x.1 x.0
unfolding found_at
found_takes bytes at x fits e =
    let b = bind_ok (message_at (length bytes) (drop at bytes)) (λ x. Ok (x.0, length bytes - length x.1)) x (told_ok _ x e) in
    let m = b.0.0 in
    let text = message_spelling m in
    let t = message_takes (length bytes) (drop at bytes) b.0 (IsBytes-drop at bytes fits) b.1 in
    let long : length (drop at bytes) ≡ length text + length b.0.1 = ap length t.0.parts ∙ length-append text b.0.1 in
    let end = length bytes - length b.0.1 in
    let some : 0 < length text = omega (arith, message_long m) in
    let many : end - at ≡ length text = omega (arith, long, length-drop at bytes, some) in
    let spelled : take (end - at) (drop at bytes) ≡ text = ap (take (end - at)) t.0.parts ∙ take_at text b.0.1 (end - at) (sym many) in
    subst (λ (y : Message × ℕ). IsMessage y.0 × StandsAt bytes at y.1 y.0) (ok_is (m, end) x b.2)
    (t.1, record { behind = omega (arith, long, length-drop at bytes, some); within = omega arith; spelled = spelled })

found_again : (bytes : List ℕ) (at end : ℕ) (m : Message) → IsMessage m → StandsAt bytes at end m → found_at bytes at ≡ Ok (m, end)
unfolding found_at
found_again bytes at end m is stands =
    let rest = drop (end - at) (drop at bytes) in
    let parts : drop at bytes ≡ message_spelling m ++ rest = sym (take-append-drop (end - at) (drop at bytes)) ∙ ap (λ (s : List ℕ). s ++ rest) stands.spelled in
    let again = ap (message_at (length bytes)) parts ∙ message_again (length bytes) m is rest in
    let left : length bytes - length rest ≡ end = omega (arith, length-drop (end - at) (drop at bytes), length-drop at bytes, stands.behind, stands.within) in
    let one : found_at bytes at ≡ Ok (m, length bytes - length rest) = ap (λ r. told (r >>= λ x. Ok (x.0, length bytes - length x.1))) again in
    one ∙ ap (λ (k : ℕ). Ok (m, k)) left

pub message_found : (bytes : List ℕ) (at : ℕ) (r : Result (Message × ℕ) (Refusal PacketError)) → IsBytes bytes → Answers r (found_at bytes at) → IfOk r (λ x. IsMessage x.0 × StandsAt bytes at x.1 x.0)
message_found bytes at (Ok x) fits given = found_takes bytes at x fits given
message_found bytes at (Err e) fits given = tt

pub message_only : (bytes : List ℕ) (at : ℕ) (r : Result (Message × ℕ) (Refusal PacketError)) → Answers r (found_at bytes at) → (m : Message) (end : ℕ) → IsMessage m → StandsAt bytes at end m →
    MatchRefusal r (λ x. (x.0 ≡ m) × (x.1 ≡ end)) (λ fault. ⊥)
message_only bytes at (Ok x) given m end is stands =
    let e = same_answer x (m, end) (sym given ∙ found_again bytes at end m is stands) in
    (ap (λ (p : Message × ℕ). p.0) e, ap (λ (p : Message × ℕ). p.1) e)
message_only bytes at (Err (Because f)) given m end is stands = not_both (m, end) f (found_at bytes at) (found_again bytes at end m is stands) given
message_only bytes at (Err NoMemory) given m end is stands = tt

field_fault : {A B : Type 0} (r : Result A ValueError) (g : A → B) (f : PacketError) → told (r >>= λ x. Ok (g x)) ≡ Err f → (e : ValueError) × (r ≡ Err e) × (f ≡ in_field e)
field_fault (Ok x) g f h = absurd cc
field_fault (Err e) g f h = (e, refl, cc)

pub message_refused : (bytes : List ℕ) (at : ℕ) (r : Result (Message × ℕ) (Refusal PacketError)) → Answers r (found_at bytes at) →
    IfBecause r (λ fault. (e : ValueError) × (message_at (length bytes) (drop at bytes) ≡ Err e) × (fault ≡ in_field e))
unfolding found_at
message_refused bytes at (Ok x) given = tt
message_refused bytes at (Err (Because f)) given = field_fault (message_at (length bytes) (drop at bytes)) (λ x. (x.0, length bytes - length x.1)) f given
message_refused bytes at (Err NoMemory) given = tt

no_trailing : (e : ValueError) (place : ℕ) → in_field e ≢ Trailing place
no_trailing (fault.Short at) place h = absurd (cc h)
no_trailing (fault.BadTag at) place h = absurd (cc h)
no_trailing (fault.NotCanonical at) place h = absurd (cc h)

pub message_not_trailing : (bytes : List ℕ) (at : ℕ) (r : Result (Message × ℕ) (Refusal PacketError)) → Answers r (found_at bytes at) → IfBecause r (λ fault. (place : ℕ) → fault ≢ Trailing place)
message_not_trailing bytes at (Ok x) given = tt
message_not_trailing bytes at (Err (Because f)) given =
    let why = message_refused bytes at (Err (Because f)) given in
    λ place. subst (λ (g : PacketError). g ≢ Trailing place) (sym why.2) (no_trailing why.0 place)
message_not_trailing bytes at (Err NoMemory) given = tt

-- a message from the front of bytes
pub message_read : (end : ℕ) (bytes : List ℕ) (x : Message × List ℕ) → IsBytes bytes → message_at end bytes ≡ Ok x → IsMessage x.0 × (bytes ≡ message_spelling x.0 ++ x.1)
message_read end bytes x fits e = let t = message_takes end bytes x fits e in (t.1, t.0.parts)
