-- Idle stretches of a group, and how many ticks one has.
use Rattle.std.specs.Prelude.{ℕ, suc, true, false, List, [], ◌∷◌, ◌≡◌, ◌≤◌, ◌<◌, ◌+◌, ◌*◌, length, not}
use Rattle.group_rules.specs.Sets.{In, count}
use Rattle.group_rules.specs.Messages.{Group}
use Rattle.group_rules.specs.Member.{Letter, Member, leads}
use Rattle.group_rules.specs.World.{GroupWorld, Event, run, opening, acts_on}
use Rattle.group_law.specs.Agreed.{agreed, performed}
use Rattle.group_idle.specs.Net.{Net, Move, moves}

-- no number of the member changed that the bound counts, and it isn't outside
pub record Unmoved {M : Type 0} (s t : Member M) : Type 0 where
  pub promised : t.promised ≡ s.promised
  pub installed : t.installed ≡ s.installed
  pub accepted : t.accepted ≡ s.accepted
  pub applied : t.applied ≡ s.applied
  pub inside : s.outside ≡ false
  pub stays : t.outside ≡ false

abbrev pub Still : {M : Type 0} → Group M → Net M → Net M → Type 0
Still g n u = (m : ℕ) → m < g.nodes → Unmoved (n.world.members m) (u.world.members m)

-- ---- nothing is left to do

-- this living member has the log of member s, knows all of it to be accepted, applied it, and nothing is pending
pub record Settled {M : Type 0} (s t : Member M) : Type 0 where
  pub installed : t.installed ≡ s.installed
  pub promised : t.promised ≡ s.installed
  pub log : t.log ≡ s.log
  pub accepted : t.accepted ≡ length s.log
  pub applied : t.applied ≡ length s.log
  pub pending : t.pending ≡ []

-- the living members stand in one incarnation, whose sequencer lives, and it ordered all
pub record Done {M : Type 0} (g : Group M) (w : GroupWorld M) : Type 0 where
  pub leader : ℕ
  pub acts : acts_on g w leader ≡ true
  pub leads : leads g leader (w.members leader) ≡ true
  pub waiting : (w.members leader).waiting ≡ []
  pub each : (m : ℕ) → acts_on g w m ≡ true → Settled (w.members leader) (w.members m)
  -- its log is what some member knows to be accepted, and what some member applied: no member, crashed or not, has more
  pub agreed : length (w.members leader).log ≡ length (agreed g w)
  pub performed : length (w.members leader).log ≡ length (performed g w)

-- events of the group lead to this net, and what is on its way was sent. Each move is the group's events Submit, Deliver or Tick, so this
-- stays so
pub record Reached {M : Type 0} (g : Group M) (n : Net M) : Type 0 where
  pub events : List (Event M)
  pub is : n.world ≡ run g opening events
  pub sent : (letter : Letter M) → In letter n.flights → In letter n.world.past.letters

-- ---- an idle stretch: a tick comes only where nothing is on its way and something is left to do

abbrev pub Possible : {M : Type 0} → Group M → Net M → Move M → Type 0
Possible g n (Move.Submits m x) = Unit {0}
Possible g n (Move.Delivers place) = Unit {0}
Possible g n Move.Ticks = (n.flights ≡ []) × (Done g n.world → ⊥)

abbrev pub Idle : {M : Type 0} → Group M → Net M → List (Move M) → Type 0
Idle g n [] = Unit {0}
Idle g n (move ∷ more) = Possible g n move × Still g n (moves g n move) × Idle g (moves g n move) more

abbrev pub ticks_in : {M : Type 0} → List (Move M) → ℕ
ticks_in [] = 0
ticks_in (Move.Submits m x ∷ more) = ticks_in more
ticks_in (Move.Delivers place ∷ more) = ticks_in more
ticks_in (Move.Ticks ∷ more) = suc (ticks_in more)

-- ---- the whole law

-- at most r members crashed, and each living member applied all that it knows to be accepted
pub record Begins {M : Type 0} (g : Group M) (n : Net M) : Type 0 where
  pub reached : Reached g n
  pub crashes : count g.nodes (λ m. not (n.world.lives m)) ≤ g.resilience
  pub applied : (m : ℕ) → acts_on g n.world m ≡ true → (n.world.members m).applied ≡ (n.world.members m).accepted

abbrev pub IdleLaw : Type 0 → Type 0
IdleLaw M = (g : Group M) → 2 * g.resilience < g.nodes → g.nodes ≤ 256 → (n : Net M) → Begins g n → (list : List (Move M)) → Idle g n list →
    ticks_in list ≤ g.nodes + 5
