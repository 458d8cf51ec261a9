-- A packet is sent: what the call does is what the definitions say.
use Rattle.std.proofs.Common.{◌≡◌, ◌∙◌, ◌<◌, ◌+◌, ◌-◌, ◌^◌, inl, inr, ℕ, suc, List, [], ◌∷◌, ◌++◌, length, ap, sym, arith}
use Rattle.group_join.specs.Sound.{IsJoin}
use Rattle.group_join.specs.Spelling.{join_spelling}
use Rattle.group_join.specs.declared.packet.JoinPacket.{JoinPacket}
use Rattle.net_rules.specs.Asked.{packet_asked}
use Rattle.net_rules.specs.declared.asked.Asked.{Asked}
use Rattle.net_rules.specs.declared.fate.Fate.{Fate}
use Rattle.join_law.specs.Rounds.{bytes_in, kind_of}
use Rattle.follower_run.specs.Going.{HasSent, HasSentAtMost}
use Rattle.follower_run.specs.Posts.{CanBeRead}
use Rattle.follower_run.specs.declared.rounds.FollowerRounds.{FollowerRounds}
use Rattle.follower_run.proofs.Standing.{IsAsked, IsKept, left_as, left_at, left_sent, sent_at}

-- the wire was asked about these bytes of the packet, under the next number
pub record Posts (s : FollowerRounds) (from to number : ℕ) (packet : JoinPacket) (bytes : List ℕ) (count : ℕ) (fate : Fate) (told told' : List Asked) : Type 0 where
  pub next : number ≡ s.questions + 1
  pub join : IsJoin packet
  pub spelled : bytes ≡ join_spelling packet
  pub long : count ≡ length bytes
  pub short : count < 2 ^ 32 - 1
  pub asked : told' ≡ told ++ packet_asked number (kind_of packet) from to count fate ∷ []

bytes_are : (packet : JoinPacket) (bytes : List ℕ) (count : ℕ) → bytes ≡ join_spelling packet → count ≡ length bytes → count < 2 ^ 32 - 1 → bytes_in packet ≡ count
bytes_are packet bytes count spelled long short = let same = ap length spelled in omega (arith, same, long, short)

as_asked : (s : FollowerRounds) (from to number : ℕ) (packet : JoinPacket) (bytes : List ℕ) (count : ℕ) (fate : Fate) (told told' : List Asked) → Posts s from to number packet bytes count fate told told' → IsAsked from to packet number fate told told'
as_asked s from to number packet bytes count fate told told' p =
    p.asked ∙ ap (λ (n : ℕ). told ++ packet_asked number (kind_of packet) from to n fate ∷ []) (sym (bytes_are packet bytes count p.spelled p.long p.short))

can_be_read : (packet : JoinPacket) (bytes : List ℕ) (count : ℕ) → IsJoin packet → bytes ≡ join_spelling packet → count ≡ length bytes → count < 2 ^ 32 - 1 → CanBeRead packet
can_be_read packet bytes count join spelled long short =
    let are = bytes_are packet bytes count spelled long short in record { join = join; short = omega (arith, are, short) }

next_is : (number questions : ℕ) → number ≡ questions + 1 → number ≡ suc questions
next_is number questions is = omega (arith, is)

pub has_sent : (s s' : FollowerRounds) (from to number : ℕ) (packet : JoinPacket) (bytes : List ℕ) (count : ℕ) (fate : Fate) (told told' : List Asked) → Posts s from to number packet bytes count fate told told'
    → IsKept s s' number from to packet fate → HasSent from to packet told s told' s'
has_sent s s' from to number packet bytes count fate told told' p kept nodes base v a = (
  fate,
  sent_at nodes base told told' s s' v from to number packet fate a (next_is number s.questions p.next)
      (can_be_read packet bytes count p.join p.spelled p.long p.short) (as_asked s from to number packet bytes count fate told told' p) kept,
)

pub sent_half : (s s' : FollowerRounds) (from to number : ℕ) (packet : JoinPacket) (bytes : List ℕ) (count : ℕ) (fate : Fate) (told told' : List Asked) → Posts s from to number packet bytes count fate told told'
    → s'.follower ≡ s.follower → s'.states ≡ s.states → HasSentAtMost from to packet told s told' s'
sent_half s s' from to number packet bytes count fate told told' p follower states nodes base v a =
    inr (fate, left_sent nodes base told told' s s' v from to number packet fate a (next_is number s.questions p.next) (as_asked s from to number packet bytes count fate told told' p) follower states)

-- before the wire was asked
pub sent_not : (s s' : FollowerRounds) (from to : ℕ) (packet : JoinPacket) (told told' : List Asked) → told' ≡ told → s'.follower ≡ s.follower → s'.states ≡ s.states → HasSentAtMost from to packet told s told' s'
sent_not s s' from to packet told told' same follower states nodes base v a = inl (left_as base told told' s s' v same follower states (left_at nodes base told s v a))
