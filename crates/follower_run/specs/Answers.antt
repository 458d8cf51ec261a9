-- What members answer to a follower.
use Rattle.std.specs.Prelude.{◌≡◌, ◌<◌, ◌^◌, if◌then◌else◌, ℕ, List, [], length, Option, None, Some}
use Rattle.value_core.specs.Meaning.{Computes, Performs}
use Rattle.book_law.specs.Fitness.{ArgsFit}
use Rattle.group_join.specs.Following.{MayApplyAll}
use Rattle.group_join.specs.Seeking.{answer_of}
use Rattle.group_join.specs.Sound.{IsSoundJoin}
use Rattle.group_join.specs.declared.packet.JoinPacket.{JoinPacket}
use Rattle.group_join.specs.declared.packet.JoinPacket.TheVariants.{Seek, State, Next}
use Rattle.world_rules.specs.declared.event.Step.{Step}
use Rattle.world_rules.specs.Frame.{AreSettings, Frame}
use Rattle.world_rules.specs.Steps.{Replays}
use Rattle.world_rules.specs.Worlds.{World, agreed}
use Rattle.world_facts.specs.Replicated.{AllReplicated}
use Rattle.join_law.specs.Rounds.{can_answer}

-- what a member answers where it lives and isn't outside
abbrev pub answer_in : Frame → World → ℕ → ℕ → Option JoinPacket
answer_in f w m applied =
    if can_answer f w m then answer_of (w.nodes m).member (w.nodes m).copies applied else None

-- a state's suspended calls are so few that their number fits 32 bits
abbrev pub HasShortQueue : JoinPacket → Type 0
HasShortQueue (Seek applied) = Unit {0}
HasShortQueue (State state) = length state.queue < 2 ^ 32
HasShortQueue (Next number message) = Unit {0}

-- a member's copies applied what it did, and count no single object; what it answers may be written, where each entry of the list may be
-- applied in turn
pub record MemberAnswers (fits_args : ArgsFit) (f : Frame) (w : World) (m : ℕ) : Type 0 where
  pub level : (w.nodes m).copies.applied ≡ (w.nodes m).member.applied
  pub plain : (w.nodes m).copies.singles ≡ []
  pub sound :
      MayApplyAll fits_args f.performs (agreed f w) → (applied : ℕ) (packet : JoinPacket) →
      answer_of (w.nodes m).member (w.nodes m).copies applied ≡ Some packet → HasShortQueue packet → IsSoundJoin packet

abbrev pub MembersAnswer : Performs → Computes → ArgsFit → Type 0
MembersAnswer p q fits_args =
    (f : Frame) → f.performs ≡ p → f.computes ≡ q → AreSettings f.settings → AllReplicated f → (steps : List Step) (w : World) →
    Replays f steps w → (m : ℕ) → MemberAnswers fits_args f w m
