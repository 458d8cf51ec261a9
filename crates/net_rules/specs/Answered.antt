-- What a wire answered along what it was asked, latest first.
use Rattle.std.specs.Prelude.{◌≡◌, ℕ, ◌≤◌, List, [], ◌∷◌, Option, length}
use Rattle.group_packets.specs.declared.packet.PacketKind.{PacketKind}
use Rattle.net_rules.specs.declared.fate.Fate.{Fate}
use Rattle.net_rules.specs.declared.fate.WireAct.{WireAct}
use Rattle.net_rules.specs.declared.asked.Asked.{Asked}
use Rattle.net_rules.specs.declared.asked.Asked.TheVariants.{Packet, Act}

-- how a wire answers, by what it was asked before
pub record Answers : Type 0 where
  pub fate : List Asked → PacketKind → Fate
  pub act : List Asked → Option WireAct

-- the answer is that
abbrev pub IsAnswer : Answers → List Asked → Asked → Type 0
IsAnswer answers before (Packet question fate) = fate ≡ answers.fate before question.kind
IsAnswer answers before (Act event_number act) = act ≡ answers.act before

-- each answer is that, but for the first so many
abbrev pub AnsweredBehind : ℕ → Answers → List Asked → Type 0
AnsweredBehind first answers [] = Unit {0}
AnsweredBehind first answers (one ∷ before) = (first ≤ length before → IsAnswer answers before one) × AnsweredBehind first answers before

-- each answer is that
abbrev pub Answered : Answers → List Asked → Type 0
Answered answers [] = Unit {0}
Answered answers (one ∷ before) = IsAnswer answers before one × Answered answers before
