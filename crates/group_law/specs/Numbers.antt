-- How great the numbers of a run are: docs/RUNTIME.md, Agreement.
use Rattle.std.specs.Prelude.{ℕ, zero, suc, Some, List, [], ◌∷◌, ◌≡◌, ◌≤◌, ◌<◌, ◌-◌, ◌*◌, ◌^◌, length}
use Rattle.orca_base.specs.declared.limits.TheConstants.{EVENTS}
use Rattle.group_rules.specs.Messages.{Group}
use Rattle.group_rules.specs.Member.{Report, Kind, Packet, Member}
use Rattle.group_rules.specs.Member.Kind.{Request, Body, Order, Entry, Ack, Accept, Nack, Status, Invite, Join, News}
use Rattle.group_rules.specs.Steps.{SILENCE}
use Rattle.group_rules.specs.World.{GroupWorld, Event, Sent, IsUp, list_of, run, opening}

-- how many of the events submit a message, and at how many a member may coordinate
abbrev pub submissions : {M : Type 0} → List (Event M) → ℕ
submissions [] = zero
submissions (Event.Submit m x ∷ events) = suc (submissions events)
submissions (Event.Deliver which ∷ events) = submissions events
submissions (Event.Tick m ∷ events) = submissions events
submissions (Event.Coordinate m ∷ events) = submissions events
submissions (Event.Note m n ∷ events) = submissions events
submissions (Event.Crash m ∷ events) = submissions events

abbrev pub coordinations : {M : Type 0} → List (Event M) → ℕ
coordinations [] = zero
coordinations (Event.Submit m x ∷ events) = coordinations events
coordinations (Event.Deliver which ∷ events) = coordinations events
coordinations (Event.Tick m ∷ events) = suc (coordinations events)
coordinations (Event.Coordinate m ∷ events) = suc (coordinations events)
coordinations (Event.Note m n ∷ events) = coordinations events
coordinations (Event.Crash m ∷ events) = coordinations events

pub record ReportWithin {M : Type 0} (most : ℕ) (report : Report M) : Type 0 where
  pub accepted : report.accepted ≤ most
  pub applied : report.applied ≤ most
  pub base : report.base ≤ most
  pub log : length report.log ≤ most

-- the numbers of entries in a packet are at most this; the first that is lacked is at most one more
abbrev pub EntriesWithin : {M : Type 0} → ℕ → Kind M → Type 0
EntriesWithin most (Request applied x) = applied ≤ most
EntriesWithin most (Body applied x) = applied ≤ most
EntriesWithin most (Order number process call accepted stable) = (number ≤ most) × (accepted ≤ most) × (stable ≤ most)
EntriesWithin most (Entry number accepted stable x) = (number ≤ most) × (accepted ≤ most) × (stable ≤ most)
EntriesWithin most (Ack count applied) = (count ≤ most) × (applied ≤ most)
EntriesWithin most (Accept accepted stable) = (accepted ≤ most) × (stable ≤ most)
EntriesWithin most (Nack first applied whole) = (first ≤ suc most) × (applied ≤ most)
EntriesWithin most (Status count applied) = (count ≤ most) × (applied ≤ most)
EntriesWithin most Invite = Unit {0}
EntriesWithin most (Join report) = ReportWithin most report
EntriesWithin most (News accepted base members log) = (accepted ≤ most) × (base ≤ most) × (length log ≤ most)

-- and so are those of a member
pub record MemberWithin {M : Type 0} (most : ℕ) (s : Member M) : Type 0 where
  pub log : length s.log ≤ most
  pub base : s.base ≤ most
  pub accepted : s.accepted ≤ most
  pub applied : s.applied ≤ most
  pub nacked : s.nacked ≤ suc most
  pub reported : s.reported ≤ most
  pub acked : (x : ℕ) → s.acked x ≤ most
  pub heard : (x n : ℕ) → s.heard x ≡ Some n → n ≤ most
  pub answers : (x : ℕ) (report : Report M) → s.answers x ≡ Some report → ReportWithin most report
  pub silent : s.silent ≤ SILENCE

-- entries are numbered up to the number of submissions, and incarnations up to 2 N times the number of coordinations
pub record Numbers {M : Type 0} (w : GroupWorld M) (entries incarnations : ℕ) : Type 0 where
  pub lists : (k : ℕ) → IsUp w.past k → length (list_of w.past k) ≤ entries
  pub members : (m : ℕ) → MemberWithin entries (w.members m)
  pub packets : (q : Packet M) → Sent w.past.letters q → EntriesWithin entries q.kind
  pub installed : (m : ℕ) → (w.members m).installed ≤ (w.members m).promised
  pub promised : (m : ℕ) → (w.members m).promised ≤ incarnations
  pub of : (q : Packet M) → Sent w.past.letters q → q.inc ≤ incarnations

abbrev pub NumbersLaw : Type 0 → Type 0
NumbersLaw M = (g : Group M) → 2 * g.resilience < g.nodes → (events : List (Event M)) →
    Numbers (run g opening events) (submissions events) (2 * g.nodes * coordinations events)

-- the greatest number of an entry and of an incarnation in a run; an entry that is lacked may have the next one
abbrev pub MOST : ℕ
MOST = 2 ^ 62 - 2

-- all of them are below 2^62 where members are numbered by 8 bits, and there are as many submissions, and at each member as many ticks and
-- coordinations, as a run may have steps: a step submits one message at most, and is at most one tick or coordination of each member
abbrev pub FewEventsLaw : Type 0 → Type 0
FewEventsLaw M =
    (g : Group M) → g.nodes ≤ 2 ^ 8 → (events : List (Event M)) → submissions events ≤ EVENTS → coordinations events ≤ g.nodes * EVENTS
    → (suc (submissions events) < 2 ^ 62) × (2 * g.nodes * coordinations events < 2 ^ 62) ×
    (2 * g.resilience < g.nodes → Numbers (run g opening events) MOST MOST)
