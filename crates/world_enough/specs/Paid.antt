-- How much each process has done, by which bursts and acts are paid, in turns.
use Rattle.std.specs.Prelude.{◌≡◌, ◌≤◌, ◌⊎◌, ◌+◌, ◌*◌, ℕ, zero, suc, Option, None, Some, length}
use Rattle.orca_base.specs.declared.limits.TheConstants.{BURST_TURNS, PROCESSES}
use Rattle.value_core.specs.Meaning.{Computes, Performs}
use Rattle.world_rules.specs.Frame.{Frame}
use Rattle.world_rules.specs.Played.{Played, Stage}
use Rattle.world_rules.specs.Played.Stage.{Computing, Acting, Submitted, Reading, Asking, Over}
use Rattle.world_rules.specs.Worlds.{World}
use Rattle.world_enough.specs.Faultless.{OfFaultlessRuns, worked}

-- an action that it came to, and one that was carried out; a process that is over came to one more
abbrev pub stage_weight : Stage → ℕ
stage_weight Computing = 0
stage_weight (Acting act) = 1
stage_weight (Submitted act) = 2
stage_weight (Reading act) = 2
stage_weight (Asking act) = 2
stage_weight (Over act) = 1

-- a process, which has two of these behind it for each reply: 10,000 for each, and the turns that it took
abbrev pub weight : Played → ℕ
weight r = BURST_TURNS * (2 * length r.replies + stage_weight r.stage) + r.turns

abbrev pub weight_of : Option Played → ℕ
weight_of None = 0
weight_of (Some r) = weight r

abbrev pub sum : ℕ → (ℕ → ℕ) → ℕ
sum zero f = 0
sum (suc n) f = sum n f + f n

-- at a member, and in a world
abbrev pub node_weight : (ℕ → Option Played) → ℕ
node_weight played = sum PROCESSES (λ i. weight_of (played i))

abbrev pub weight_in : Frame → World → ℕ
weight_in f w = sum f.settings.nodes (λ m. node_weight (w.nodes m).played)

-- a process computes, and has no turns left
pub record IsSpent (f : Frame) (w : World) : Type 0 where
  pub member : ℕ
  pub number : ℕ
  pub process : Played
  pub here : (w.nodes member).played number ≡ Some process
  pub computes : process.stage ≡ Computing
  pub turns : f.settings.turns ≤ process.turns

-- the bursts and acts are paid by what processes have done, all together, but for one burst that used the last turns
abbrev pub IsPaid : Frame → World → ℕ → Type 0
IsPaid f w n = (BURST_TURNS * n ≤ weight_in f w) ⊎ (IsSpent f w × (BURST_TURNS * n ≤ weight_in f w + BURST_TURNS))

abbrev pub FaultlessRunsPay : Performs → Computes → Type 0
FaultlessRunsPay p q = OfFaultlessRuns p q (λ f w steps. IsPaid f w (worked steps))

-- ---- calls on single objects

-- a process asks an owner
abbrev pub is_asking : Stage → ℕ
is_asking Computing = 0
is_asking (Acting act) = 0
is_asking (Submitted act) = 0
is_asking (Reading act) = 0
is_asking (Asking act) = 1
is_asking (Over act) = 0

-- the calls of a process for which an Ask and an Answer may have come: those whose replies it has, and the one that it asks an owner
abbrev pub calls_by : Option Played → ℕ
calls_by None = 0
calls_by (Some r) = length r.replies + is_asking r.stage

-- at a member, and in a world
abbrev pub node_calls : (ℕ → Option Played) → ℕ
node_calls played = sum PROCESSES (λ i. calls_by (played i))

abbrev pub calls_in : Frame → World → ℕ
calls_in f w = sum f.settings.nodes (λ m. node_calls (w.nodes m).played)
