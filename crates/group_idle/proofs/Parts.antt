-- The parts of the law: what is so of a stretch in each case, and of messages that wait.
use Rattle.std.specs.Prelude.{ℕ, true, false, List, [], ◌∷◌, ◌≡◌, ◌≤◌, ◌<◌, ◌+◌, ◌*◌, ◌%◌, ◌⊎◌, length}
use Rattle.group_rules.specs.Sets.{In}
use Rattle.group_rules.specs.Messages.{Group, is_repeat}
use Rattle.group_rules.specs.Member.{Member, Waiting, has_room, is_active, leads, purged, stable_of}
use Rattle.group_rules.specs.Sequencer.{is_waiting}
use Rattle.group_rules.specs.World.{Event, acts_on, opening, run}
use Rattle.group_idle.specs.Net.{Net, Move}
use Rattle.group_idle.specs.Idle.{Idle, Reached, ticks_in}

-- ---- messages that wait

-- no two of them are of one process
abbrev pub Apart : {M : Type 0} → Group M → List (Waiting M) → Type 0
Apart g [] = Unit {0}
Apart {M} g (w ∷ ws) = ((o : Waiting M) → In o ws → g.process o.message ≡ g.process w.message → ⊥) × Apart g ws

pub record WaitFresh {M : Type 0} (g : Group M) (s : Member M) : Type 0 where
  -- none is a repeat of the log
  pub fresh : (w : Waiting M) → In w s.waiting → is_repeat g s.log w.message ≡ false
  pub apart : Apart g s.waiting
  -- each of its own pending messages is in the log or waits
  pub own : (x : M) → In x s.pending → (is_repeat g s.log x ≡ true) ⊎ (is_waiting g x s.waiting ≡ true)

-- at each active sequencer
abbrev pub WaitingLaw : Type 0 → Type 0
WaitingLaw M = (g : Group M) → 2 * g.resilience < g.nodes → (events : List (Event M)) (m : ℕ) →
    leads g m ((run g opening events).members m) ≡ true → WaitFresh g ((run g opening events).members m)

-- ---- cases

-- (a) a living member that promised an incarnation above the one that it installed coordinates by its 6 + m-th tick
abbrev pub InactiveLaw : Type 0 → Type 0
InactiveLaw M = (g : Group M) → g.nodes ≤ 256 → (n : Net M) (m : ℕ) → acts_on g n.world m ≡ true →
    (n.world.members m).installed < (n.world.members m).promised → (list : List (Move M)) → Idle g n list → ticks_in list ≤ m + 5

-- (a) so does a living active member whose sequencer crashed
abbrev pub DesertedLaw : Type 0 → Type 0
DesertedLaw M = (g : Group M) → g.nodes ≤ 256 → (n : Net M) (m : ℕ) → acts_on g n.world m ≡ true → is_active (n.world.members m) ≡ true →
    acts_on g n.world ((n.world.members m).installed % g.nodes) ≡ false → (list : List (Move M)) → Idle g n list → ticks_in list ≤ m + 5

-- (b) where a living active sequencer stands in a later incarnation than a living member promised, one tick is enough: what the sequencer
-- tells leads the member to ask for the whole log, and it gets that
abbrev pub TwoLaw : Type 0 → Type 0
TwoLaw M = (g : Group M) → (n : Net M) (s m : ℕ) → acts_on g n.world s ≡ true → leads g s (n.world.members s) ≡ true →
    acts_on g n.world m ≡ true → (n.world.members m).promised < (n.world.members s).installed →
    (n.world.members m).installed ≤ (n.world.members m).promised → (list : List (Move M)) → Idle g n list → ticks_in list ≤ 1

-- (c) a living active sequencer whose last entry isn't accepted yet coordinates by its 6 + m-th tick
abbrev pub BusyLaw : Type 0 → Type 0
BusyLaw M = (g : Group M) → g.nodes ≤ 256 → (n : Net M) (m : ℕ) → acts_on g n.world m ≡ true → leads g m (n.world.members m) ≡ true →
    (n.world.members m).accepted < length (n.world.members m).log → (list : List (Move M)) → Idle g n list → ticks_in list ≤ m + 5

-- (c) so does one that isn't content, be it that its last entry isn't accepted or that a message waits: such a message is no repeat, so it is
-- ordered or waits on
abbrev pub LoadedLaw : Type 0 → Type 0
LoadedLaw M = (g : Group M) → 2 * g.resilience < g.nodes → g.nodes ≤ 256 → (n : Net M) (m : ℕ) → Reached g n → acts_on g n.world m ≡ true →
    leads g m (n.world.members m) ≡ true →
    ((n.world.members m).accepted < length (n.world.members m).log) ⊎ ((n.world.members m).waiting ≡ [] → ⊥) →
    (list : List (Move M)) → Idle g n list → ticks_in list ≤ m + 5

-- (c) where the sequencer knows more to be accepted than an active member of its incarnation, whose log holds more than that member knows
-- to be accepted, one tick is enough
abbrev pub AcceptLaw : Type 0 → Type 0
AcceptLaw M = (g : Group M) → (n : Net M) (s x : ℕ) → acts_on g n.world s ≡ true → leads g s (n.world.members s) ≡ true →
    acts_on g n.world x ≡ true → (x ≡ s → ⊥) → is_active (n.world.members x) ≡ true →
    (n.world.members x).installed ≡ (n.world.members s).installed →
    (n.world.members x).accepted < (n.world.members s).accepted → (n.world.members x).accepted < length (n.world.members x).log →
    (list : List (Move M)) → Idle g n list → ticks_in list ≤ 1

-- (c) where the sequencer knows more to be accepted than an active member of its incarnation that applied all that it knows to be accepted,
-- two ticks are enough
abbrev pub BehindLaw : Type 0 → Type 0
BehindLaw M = (g : Group M) → 2 * g.resilience < g.nodes → (n : Net M) → Reached g n → (s x : ℕ) → acts_on g n.world s ≡ true →
    leads g s (n.world.members s) ≡ true → acts_on g n.world x ≡ true → (x ≡ s → ⊥) → is_active (n.world.members x) ≡ true →
    (n.world.members x).installed ≡ (n.world.members s).installed → (n.world.members x).applied ≡ (n.world.members x).accepted →
    (n.world.members x).accepted < (n.world.members s).accepted → (list : List (Move M)) → Idle g n list → ticks_in list ≤ 2

-- (c) member x stands in the incarnation of the sequencer m, has a shorter log, and applied all of that: the next entry, with the stable
-- number that the sequencer tells now, is appended
abbrev pub RoomLaw : Type 0 → Type 0
RoomLaw M = (g : Group M) → 2 * g.resilience < g.nodes → (events : List (Event M)) (m x : ℕ) → m < g.nodes → x < g.nodes →
    let w = run g opening events in
    m ≡ (w.members m).installed % g.nodes → (w.members x).installed ≡ (w.members m).installed →
    length (w.members x).log < length (w.members m).log → (w.members x).applied ≡ length (w.members x).log →
    has_room (purged (w.members x) (stable_of g m (w.members m))) ≡ true

-- ---- the cases are all: a stretch has at most N + 4 ticks, or the living members stand in one incarnation whose sequencer lives and leads it

pub record Led {M : Type 0} (g : Group M) (n : Net M) : Type 0 where
  pub leader : ℕ
  pub acts : acts_on g n.world leader ≡ true
  pub leads : leads g leader (n.world.members leader) ≡ true
  pub each : (m : ℕ) → acts_on g n.world m ≡ true →
      (is_active (n.world.members m) ≡ true) × ((n.world.members m).installed ≡ (n.world.members leader).installed)

abbrev pub LedLaw : Type 0 → Type 0
LedLaw M = (g : Group M) → 2 * g.resilience < g.nodes → g.nodes ≤ 256 → (n : Net M) → Reached g n → (m : ℕ) → acts_on g n.world m ≡ true →
    (list : List (Move M)) → Idle g n list → (ticks_in list ≤ g.nodes + 4) ⊎ Led g n
