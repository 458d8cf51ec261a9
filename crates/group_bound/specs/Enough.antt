-- Enough events, the group's half: what holds in every faultless run.
use Rattle.std.specs.Prelude.{ℕ, false, List, [], ◌∷◌, ◌≡◌, ◌≤◌, ◌<◌, ◌+◌, ◌*◌, length}
use Rattle.group_rules.specs.Messages.{Group}
use Rattle.group_rules.specs.Sets.{In}
use Rattle.group_rules.specs.Member.{Kind, Letter}
use Rattle.group_rules.specs.Member.Kind.{Request, Body, Order, Entry, Ack, Accept, Nack, Status, Invite, Join, News}
use Rattle.group_bound.specs.Flow.{Flow, Move, opening_flow, flow}

-- a packet that members of one incarnation send each other where nothing is lost
abbrev pub IsUsual : {M : Type 0} → Kind M → Type 0
IsUsual (Request b x) = Unit {0}
IsUsual (Body b x) = Unit {0}
IsUsual (Order number process call a stable) = Unit {0}
IsUsual (Entry number a stable x) = Unit {0}
IsUsual (Ack n b) = Unit {0}
IsUsual (Accept a stable) = Unit {0}
IsUsual (Nack n b whole) = ⊥
IsUsual (Status n b) = Unit {0}
IsUsual Invite = ⊥
IsUsual (Join report) = ⊥
IsUsual (News a b members log) = ⊥

-- it is of incarnation 0, and from one member to another
pub record Usual {M : Type 0} (g : Group M) (l : Letter M) : Type 0 where
  pub to : l.to < g.nodes
  pub other : l.to ≡ l.packet.from → ⊥
  pub inc : l.packet.inc ≡ 0
  pub from : l.packet.from < g.nodes
  pub kind : IsUsual l.packet.kind

-- all of a list are so
abbrev pub Every : {A : Type 0} → (A → Type 0) → List A → Type 0
Every P [] = Unit {0}
Every P (x ∷ xs) = P x × Every P xs

-- nothing but usual packets is on its way, each member stands in incarnation 0 and promised no other, and no log is longer than the
-- sequencer's
pub record Smooth {M : Type 0} (g : Group M) (f : Flow M) : Type 0 where
  pub letters : Every (Usual g) f.queue
  pub installed : (m : ℕ) → m < g.nodes → (f.world.members m).installed ≡ 0
  pub promised : (m : ℕ) → m < g.nodes → (f.world.members m).promised ≡ 0
  pub outside : (m : ℕ) → m < g.nodes → (f.world.members m).outside ≡ false
  pub logs : (m : ℕ) → m < g.nodes → length (f.world.members m).log ≤ length (f.world.members 0).log

-- all is done: each member has every message that was submitted, knows that it is accepted, and applied it; nothing is pending, and nothing
-- waits
pub record IsDone {M : Type 0} (g : Group M) (f : Flow M) : Type 0 where
  pub all : f.asked ≡ length (f.world.members 0).log
  pub log : (m : ℕ) → m < g.nodes → (f.world.members m).log ≡ (f.world.members 0).log
  pub accepted : (m : ℕ) → m < g.nodes → (f.world.members m).accepted ≡ length (f.world.members 0).log
  pub applied : (m : ℕ) → m < g.nodes → (f.world.members m).applied ≡ length (f.world.members 0).log
  pub pending : (m : ℕ) → m < g.nodes → (f.world.members m).pending ≡ []
  pub waiting : (f.world.members 0).waiting ≡ []

-- nothing is on its way, and each member noted what it knows to be accepted
pub record IsQuiet {M : Type 0} (g : Group M) (f : Flow M) : Type 0 where
  pub empty : f.queue ≡ []
  pub noted : (m : ℕ) → m < g.nodes → (f.world.members m).applied ≡ (f.world.members m).accepted

-- ---- the laws: of every list of moves, where the resilience is below half of the members

abbrev pub OfEachFlow : (M : Type 0) → (Group M → Flow M → Type 0) → Type 0
OfEachFlow M P = (g : Group M) → 2 * g.resilience < g.nodes → (moves : List (Move M)) → P g (flow g opening_flow moves)

-- the sequencer's entries
abbrev pub entries_of : {M : Type 0} → Flow M → ℕ
entries_of f = length (f.world.members 0).log

-- each message that was submitted is of a process with a number below this
abbrev pub AreOfFirst : {M : Type 0} → Group M → Flow M → ℕ → Type 0
AreOfFirst {M} g f processes = (i : ℕ) (x : M) → In x (f.world.past.submitted i) → g.process x < processes

abbrev pub SmoothLaw : Type 0 → Type 0
SmoothLaw M = OfEachFlow M (λ g f. Smooth g f)

abbrev pub QuietLaw : Type 0 → Type 0
QuietLaw M = OfEachFlow M (λ g f. IsQuiet g f → IsDone g f)

-- so many letters are delivered at most: for each message that was submitted as many as there are members, and four times as many for each
-- entry
abbrev pub CountLaw : Type 0 → Type 0
CountLaw M = OfEachFlow M (λ g f. f.delivered ≤ g.nodes * f.asked + 4 * (g.nodes * entries_of f))

-- where so many processes submit, at most so many messages more were submitted than there are entries
abbrev pub AskedLaw : Type 0 → Type 0
AskedLaw M = OfEachFlow M (λ g f. (processes : ℕ) → AreOfFirst g f processes → f.asked ≤ entries_of f + processes)

-- so 6 N (L + 1) deliveries are enough at every moment, where there are N members and L entries, and one process and one more for each entry
-- submits at most
abbrev pub EnoughLaw : Type 0 → Type 0
EnoughLaw M =
    OfEachFlow M (λ g f. AreOfFirst g f (entries_of f + 1) → f.delivered ≤ 6 * (g.nodes * (entries_of f + 1)))
