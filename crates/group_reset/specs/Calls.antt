-- The calls of a reset, against their rows: docs/RUNTIME.md, A reset.
use Rattle.std.specs.Prelude.{ℕ, Bool, true, List, ◌≡◌, ◌≤◌, ◌<◌, ◌+◌, ◌%◌, ◌==◌, ◌&&◌, length, take, drop, if◌then◌else◌}
use Rattle.orca_base.specs.declared.ids.MessageId.{MessageId}
use Rattle.orca_base.specs.declared.limits.TheConstants.{WINDOW}
use Rattle.group_packets.specs.declared.packet.Join.{Join}
use Rattle.group_packets.specs.declared.packet.News.{News}
use Rattle.group_rules.specs.Messages.{Group, group_of}
use Rattle.group_rules.specs.Member.{Member as RulesMember, Report, is_gathering}
use Rattle.group_rules.specs.OnWire.{members_below, on_join}
use Rattle.group_rules.specs.Reset.{announced, answer, CanGather, coordinate, invited, joined, keeps}
use Rattle.group_rules.specs.Work.{idle}
use Rattle.group_member.specs.declared.member.Member.{Member}
use Rattle.group_member.specs.declared.sends.Letter.{Letter}
use Rattle.group_member.specs.AtWork.{AtWork, Does}
use Rattle.group_member.specs.StandsFor.{StandsFor}
use Rattle.group_reset.specs.declared.outcome.Joined.{Joined}
use Rattle.group_reset.specs.declared.outcome.Joined.TheVariants.{Stale}
use Rattle.group_reset.specs.Concludes.{gathered}

-- it stands for some member of a group
abbrev pub IsSome : {B R : Type 0} → (B → MessageId) → (B → ℕ) → Member B R → Type 0
IsSome {B} name bytes s =
    (nodes : ℕ) × (resilience : ℕ) × (which : ℕ) × (m : RulesMember B) × StandsFor (group_of name bytes nodes resilience) which s m

-- ---- Coordinate

abbrev pub CoordinatesAs : {B R : Type 0} → (B → MessageId) → (B → ℕ) → Member B R → Member B R → List (Letter B R) → Type 0
CoordinatesAs name bytes old new sends = Does name bytes old new sends coordinate

-- ---- Invite

abbrev pub InvitedAs : {B R : Type 0} → (B → MessageId) → (B → ℕ) → ℕ → ℕ → Member B R → Member B R → List (Letter B R) → Type 0
InvitedAs name bytes from k old new sends = Does name bytes old new sends (λ g which. invited g which from k)

-- whichever member it stands for that promised the incarnation, it answers as that one does
abbrev pub Answers : {B R : Type 0} → (B → MessageId) → (B → ℕ) → ℕ → Member B R → List (Letter B R) → Type 0
Answers {B} name bytes k s sends =
    (nodes resilience which : ℕ) (m : RulesMember B) → StandsFor (group_of name bytes nodes resilience) which s m → m.promised ≡ k →
    AtWork (group_of name bytes nodes resilience) which s sends (answer (group_of name bytes nodes resilience) which k (idle m))

-- ---- Join

-- the Join carries this report, whose log has at least as many entries as are purged. Where the member gathers for that incarnation, and
-- enough answered with this one, then the log that it would install can be taken, unless it begins beyond what the member applied
pub record Joins {B R : Type 0} (g : Group B) (which from : ℕ) (join : Join B R) (s : Member B R) (m : RulesMember B) (report : Report B) :
    Type 0 where
  pub stands : StandsFor g which s m
  pub carries : on_join join.incarnation report ≡ join
  pub based : report.base ≤ length report.log
  pub can : is_gathering g which m ≡ true → join.incarnation ≡ m.promised → CanGather g (keeps from report m)

-- so it is for some member and some report
abbrev pub MayJoin : {B R : Type 0} → (B → MessageId) → (B → ℕ) → ℕ → Join B R → Member B R → Type 0
MayJoin {B} name bytes from join s =
    (nodes : ℕ) × (resilience : ℕ) × (which : ℕ) × (m : RulesMember B) × (report : Report B) ×
    Joins (group_of name bytes nodes resilience) which from join s m report

-- for whichever it is so, state and sends are those of the row
abbrev pub JoinsAs : {B R : Type 0} → (B → MessageId) → (B → ℕ) → ℕ → Join B R → Member B R → Member B R → List (Letter B R) → Type 0
JoinsAs {B} name bytes from join old new sends =
    (nodes resilience which : ℕ) (m : RulesMember B) (report : Report B) →
    Joins (group_of name bytes nodes resilience) which from join old m report →
    AtWork (group_of name bytes nodes resilience) which new sends
    (joined (group_of name bytes nodes resilience) which from join.incarnation report m)

-- what comes of a Join: it is stale where the member gathers no answers for its incarnation
abbrev pub joined_as : {M : Type 0} → Group M → ℕ → ℕ → ℕ → Report M → RulesMember M → Joined
joined_as g which from k report m = if is_gathering g which m && (k == m.promised) then gathered g (keeps from report m) else Stale

-- and so is what comes of it
abbrev pub ComesOf : {B R : Type 0} → (B → MessageId) → (B → ℕ) → ℕ → Join B R → Member B R → Joined → Type 0
ComesOf {B} name bytes from join old done =
    (nodes resilience which : ℕ) (m : RulesMember B) (report : Report B) →
    Joins (group_of name bytes nodes resilience) which from join old m report →
    done ≡ joined_as (group_of name bytes nodes resilience) which from join.incarnation report m

-- ---- Result

-- the Result carries this log and these members. Its numbers are at most the log's length, what isn't purged fits into a window, and it
-- comes to another than its coordinator. Of a later incarnation than the installed one, its log has what the member applied, and reaches
-- what it accepted
pub record Hears {B R : Type 0} (g : Group B) (which : ℕ) (news : News B R) (s : Member B R) (m : RulesMember B) (named : ℕ → Bool)
    (log : List B) : Type 0 where
  pub stands : StandsFor g which s m
  pub members : members_below g.nodes named ≡ news.members
  pub messages : drop news.base log ≡ news.messages
  pub base : news.base ≤ length log
  pub accepted : news.accepted ≤ length log
  pub window : length log ≤ news.base + WINDOW
  pub other : news.incarnation % g.nodes ≡ which → ⊥
  pub reaches : m.installed < news.incarnation → m.accepted ≤ length log
  pub continues : m.installed < news.incarnation → take m.applied log ≡ take m.applied m.log

abbrev pub MayHear : {B R : Type 0} → (B → MessageId) → (B → ℕ) → News B R → Member B R → Type 0
MayHear {B} name bytes news s =
    (nodes : ℕ) × (resilience : ℕ) × (which : ℕ) × (m : RulesMember B) × (named : ℕ → Bool) × (log : List B) ×
    Hears (group_of name bytes nodes resilience) which news s m named log

abbrev pub HearsAs : {B R : Type 0} → (B → MessageId) → (B → ℕ) → ℕ → News B R → Member B R → Member B R → List (Letter B R) → Type 0
HearsAs {B} name bytes from news old new sends =
    (nodes resilience which : ℕ) (m : RulesMember B) (named : ℕ → Bool) (log : List B) →
    Hears (group_of name bytes nodes resilience) which news old m named log →
    AtWork (group_of name bytes nodes resilience) which new sends
    (announced (group_of name bytes nodes resilience) which from news.incarnation news.accepted news.base named log m)
