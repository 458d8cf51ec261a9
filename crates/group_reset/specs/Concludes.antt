-- What a coordinator does with the answers that it keeps, once enough answered: docs/RUNTIME.md, A reset.
use Rattle.std.specs.Prelude.{ℕ, List, [], Option, None, Some, ◌≡◌, ◌≤◌, ◌-◌, ◌%◌, nat_le, length, if◌then◌else◌}
use Rattle.orca_base.specs.declared.ids.MessageId.{MessageId}
use Rattle.orca_base.specs.declared.limits.TheConstants.{WINDOW}
use Rattle.group_packets.specs.declared.packet.Join.{Join}
use Rattle.group_packets.specs.declared.packet.News.{News}
use Rattle.group_rules.specs.Sets.{count}
use Rattle.group_rules.specs.Messages.{Group, group_of}
use Rattle.group_rules.specs.Member.{Member as RulesMember, Report}
use Rattle.group_rules.specs.OnWire.{members_below}
use Rattle.group_rules.specs.Reset.{best, CanGather, gather, gave}
use Rattle.group_rules.specs.Work.{Work}
use Rattle.group_member.specs.declared.member.Member.{Member}
use Rattle.group_member.specs.declared.sends.Letter.{Letter}
use Rattle.group_member.specs.AtWork.{AtWork}
use Rattle.group_reset.specs.declared.outcome.Joined.{Joined}
use Rattle.group_reset.specs.declared.outcome.Joined.TheVariants.{Waiting, GaveUp, Installed}
use Rattle.group_reset.specs.Choice.{best_by, extent_of, gave_by, most_by}

-- what comes of the answers: by the one that is kept it installs or gives up, and it waits while fewer than N - r answered
abbrev pub taken : {M : Type 0} → Option (Report M) → ℕ → Joined
taken None applied = Installed
taken (Some kept) applied = if nat_le kept.base applied then Installed else GaveUp kept.base applied

abbrev pub gathered : {M : Type 0} → Group M → RulesMember M → Joined
gathered g s = if nat_le (g.nodes - g.resilience) (count g.nodes (gave s.answers)) then taken (best g.nodes s.answers) s.applied
    else Waiting (count g.nodes (gave s.answers)) (g.nodes - g.resilience)

-- ---- by the lists of the code

-- it is the coordinator of the incarnation that it promised, and the log that it would install reaches what is accepted, and fits
pub record CanConclude {B R : Type 0} (s : Member B R) : Type 0 where
  pub here : s.promised % s.config.nodes ≡ s.me
  pub reaches : s.config.nodes - s.config.resilience ≤ count s.config.nodes (gave_by s.answers.items) → (kept : Join B R) →
      best_by s.config.nodes s.answers.items ≡ Some kept → kept.base ≤ s.applied →
      most_by s.config.nodes s.answers.items s.accepted ≤ extent_of kept
  pub fits : s.config.nodes - s.config.resilience ≤ count s.config.nodes (gave_by s.answers.items) → (kept : Join B R) →
      best_by s.config.nodes s.answers.items ≡ Some kept → kept.base ≤ s.applied → length kept.messages ≤ WINDOW

-- whichever step that has sent nothing it stood for, where the log that it would install can be taken: state and sends are the row's
abbrev pub Concludes : {B R : Type 0} → (B → MessageId) → (B → ℕ) → Member B R → Member B R → List (Letter B R) → Type 0
Concludes {B} name bytes old new sends =
    (nodes resilience which : ℕ) (v : Work B) → AtWork (group_of name bytes nodes resilience) which old [] v →
    CanGather (group_of name bytes nodes resilience) v.state →
    AtWork (group_of name bytes nodes resilience) which new sends (gather (group_of name bytes nodes resilience) which v)

-- the news of the log that the answer carries, in the incarnation that it promised, and with those who answered
pub record IsNewsOf {B R : Type 0} (s : Member B R) (kept : Join B R) (most : ℕ) (news : News B R) : Type 0 where
  pub incarnation : news.incarnation ≡ s.promised
  pub accepted : news.accepted ≡ most
  pub base : news.base ≡ kept.base
  pub members : news.members ≡ members_below s.config.nodes (gave_by s.answers.items)
  pub messages : news.messages ≡ kept.messages
