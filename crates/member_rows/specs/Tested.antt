-- What a member of a row keeps, and what is tested before an answer or a Result is handed to it.
use Rattle.std.specs.Prelude.{ℕ, Some, nat_lt, if◌then◌else◌, ◌≡◌, ◌≤◌, ◌<◌, ◌+◌, ◌%◌, ◌⊎◌, [], ◌∷◌, All, length, slice_get}
use Rattle.orca_base.specs.declared.ids.MessageId.{MessageId}
use Rattle.orca_base.specs.declared.limits.TheConstants.{WINDOW}
use Rattle.group_packets.specs.declared.packet.Join.{Join}
use Rattle.group_packets.specs.declared.packet.News.{News}
use Rattle.history_buffer.specs.declared.history.Slot.TheVariants.{Found}
use Rattle.history_buffer.specs.Slots.{slot_at}
use Rattle.group_member.specs.declared.member.Member.{Member}
use Rattle.group_reset.specs.Calls.{IsSome}
use Rattle.member_rows.specs.declared.plain.Plain.{Plain}

-- a message's process and call, and its length in bytes: calls below 1,000 are process 0's, the others process 1's
abbrev pub plain_id : Plain → MessageId
plain_id m = record { process = record { 0 = if nat_lt m.call 1000 then 0 else 1 }; call = record { 0 = m.call } }

abbrev pub plain_length : Plain → ℕ
plain_length m = m.bytes

-- it stands for some member of the rules
abbrev pub IsTested : Member Plain ℕ → Type 0
IsTested s = IsSome plain_id plain_length s

-- an answer of a member that installed nothing, whose numbers are in order
pub record IsFirst (join : Join Plain ℕ) : Type 0 where
  pub installed : join.installed ≡ 0
  pub accepted : join.accepted ≤ join.base + length join.messages
  pub window : length join.messages ≤ WINDOW

-- all that was answered is such, and the member itself has accepted nothing
pub record CanJoin (s : Member Plain ℕ) (join : Join Plain ℕ) : Type 0 where
  pub applied : s.applied ≡ 0
  pub accepted : s.accepted ≡ 0
  pub first : IsFirst join
  pub firsts : All (λ answer. IsFirst answer.1) s.answers.items

-- the log and the member have the same first entry, which alone is applied, and nothing is purged
pub record HaveOne (s : Member Plain ℕ) (news : News Plain ℕ) : Type 0 where
  pub applied : s.applied ≡ 1
  pub base : news.base ≡ 0
  pub entry : Plain
  pub here : slot_at s.window 1 ≡ Found entry
  pub there : slice_get news.messages 0 ≡ Some entry

-- in a group of three, a Result of members 1 and 2, whose numbers are in order
pub record CanHear (s : Member Plain ℕ) (news : News Plain ℕ) : Type 0 where
  pub three : s.config.nodes ≡ 3
  pub members : news.members ≡ 1 ∷ 2 ∷ []
  pub accepted : news.accepted ≤ news.base + length news.messages
  pub window : length news.messages ≤ WINDOW
  pub other : news.incarnation % s.config.nodes ≡ s.me → ⊥
  pub reaches : s.installed < news.incarnation → s.accepted ≤ news.base + length news.messages
  pub continues : s.installed < news.incarnation → (s.applied ≡ 0) ⊎ HaveOne s news
