-- Letters in bytes, one after the other.
use Rattle.std.proofs.Common.{◌≡◌, ◌∙◌, All, ℕ, zero, suc, List, [], ◌∷◌, ◌++◌, Some, slice_get, take, ap, sym, subst, append_assoc, append-nil}
use Rattle.value_core.specs.Sound.{IsSoundMessage, IsSoundReply}
use Rattle.value_core.specs.declared.action.Reply.{Reply}
use Rattle.value_core.specs.declared.message.Message.{Message}
use Rattle.group_member.specs.declared.sends.Letter.{Letter}
use Rattle.group_packets.specs.Sound.{IsSoundPacket}
use Rattle.letter_bytes.specs.Letters.{IsOutgoing}
use Rattle.world_core.specs.Drafting.{AreLetters, HasSpelled}
use Rattle.letter_bytes.specs.declared.letters.Outgoing.{Outgoing}
use Rattle.world_core.proofs.Eventing.{one_of}
use Rattle.world_parts.proofs.Lists.{take_next}

letters_push : (from : ℕ) (letters : List (Letter Message Reply)) (more : List Outgoing) (letter : Letter Message Reply) (one : Outgoing) → AreLetters from letters more → IsOutgoing one from letter.to letter.packet
    → AreLetters from (letters ++ letter ∷ []) (more ++ one ∷ [])
letters_push from [] [] letter one h k = (k, tt)
letters_push from (first ∷ letters) (other ∷ more) letter one h k = (h.0, letters_push from letters more letter one h.1 k)
letters_push from [] (other ∷ more) letter one h k = absurd h
letters_push from (first ∷ letters) [] letter one h k = absurd h

pub spelled_first : (from : ℕ) (old : List Outgoing) → HasSpelled from [] old old
spelled_first from old = ([], sym (append-nil old), tt)

pub spelled_next : (from k next : ℕ) (all : List (Letter Message Reply)) (letter : Letter Message Reply) (one : Outgoing) (old now new : List Outgoing) → suc k ≡ next → slice_get all k ≡ Some letter → IsOutgoing one from letter.to letter.packet
    → new ≡ now ++ one ∷ [] → HasSpelled from (take k all) old now → HasSpelled from (take next all) old new
spelled_next from k next all letter one old now new up at is pushed h = (
  h.0 ++ one ∷ [],
  pushed ∙ ap (λ (l : List Outgoing). l ++ one ∷ []) h.1 ∙ append_assoc old h.0 (one ∷ []),
  subst (λ (n : ℕ). AreLetters from (take n all) (h.0 ++ one ∷ [])) up
      (subst (λ (l : List (Letter Message Reply)). AreLetters from l (h.0 ++ one ∷ [])) (sym (take_next all k letter at)) (letters_push from (take k all) h.0 letter one h.2 is)),
)

pub letter_sound : (letters : List (Letter Message Reply)) (k : ℕ) (letter : Letter Message Reply) → All (λ (letter : Letter Message Reply). IsSoundPacket IsSoundMessage IsSoundReply letter.packet) letters → slice_get letters k ≡ Some letter
    → IsSoundPacket IsSoundMessage IsSoundReply letter.packet
letter_sound letters k letter h at = one_of (λ (letter : Letter Message Reply). IsSoundPacket IsSoundMessage IsSoundReply letter.packet) letters h k letter at
