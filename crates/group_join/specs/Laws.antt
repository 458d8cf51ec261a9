-- What members answer tells their list, and whoever follows what tells it is after a beginning of it.
use Rattle.std.specs.Prelude.{◌≡◌, ◌≤◌, ℕ, List, ◌++◌, Some, length, take}
use Rattle.value_core.specs.Meaning.{Performs}
use Rattle.value_core.specs.declared.message.Message.{Message}
use Rattle.object_manager.specs.After.{Copied, opening_copies}
use Rattle.object_manager.specs.State.{state_of}
use Rattle.group_rules.specs.Member.{Member}
use Rattle.group_join.specs.declared.packet.JoinPacket.{JoinPacket}
use Rattle.group_join.specs.Seeking.{answer_of}
use Rattle.group_join.specs.Following.{AreAfter, TellsList, copies_after, follows}

-- a member applied a beginning of the list, and its copies have the state of those after it
pub record Applied (p : Performs) (list : List Message) (member : Member Message) (copies : Copied) : Type 0 where
  pub within : member.applied ≤ length list
  pub entries : take member.applied member.log ≡ take member.applied list
  pub state : state_of copies ≡ state_of (copies_after p list member.applied)

-- what such a member answers tells the list
abbrev pub AnswersTell : Performs → Type 0
AnswersTell p = (list : List Message) (member : Member Message) (copies : Copied) (asked : ℕ) (packet : JoinPacket) →
    Applied p list member copies → answer_of member copies asked ≡ Some packet → TellsList p list packet

-- a list that goes on at its end is still told, and copies are still after a beginning of it
abbrev pub TellsOn : Performs → Type 0
TellsOn p = (list more : List Message) (packet : JoinPacket) → TellsList p list packet → TellsList p (list ++ more) packet

abbrev pub AfterOn : Performs → Type 0
AfterOn p = (list more : List Message) (c : Copied) → AreAfter p list c → AreAfter p (list ++ more) c

-- a packet that tells the list leaves a follower after a beginning of it, which isn't shorter
pub record GoesOn (p : Performs) (list : List Message) (c : Copied) (packet : JoinPacket) : Type 0 where
  pub after : AreAfter p list (follows p c packet)
  pub rises : c.applied ≤ (follows p c packet).applied

abbrev pub Followers : Performs → Type 0
Followers p = (list : List Message) (c : Copied) (packet : JoinPacket) → AreAfter p list c → TellsList p list packet →
    GoesOn p list c packet

-- the opening copies are after no entry
abbrev pub OpensAfter : Performs → Type 0
OpensAfter p = (list : List Message) → AreAfter p list opening_copies
