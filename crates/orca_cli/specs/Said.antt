-- What the functions of report.rt say to each other: the line of a standing, as processes are gone through, and what is kept. That it is
-- the line of the lowest process is said without them (`IsEndingLine` of Standings.antt).
use Rattle.std.specs.Prelude.{ℕ, suc, List, [], ◌∷◌, Option, None, Some}
use Rattle.orca_base.specs.declared.fault.FaultKind.{FaultKind}
use Rattle.orca_front.specs.Lines.{limit_line}
use Rattle.value_core.specs.declared.action.Action.{Action}
use Rattle.world_rules.specs.declared.standing.Standing.{Standing}
use Rattle.world_rules.specs.declared.standing.Standing.TheVariants.{Limit, OutOfTurns, OutOfEvents, NoGroup, Faulted, Blocked, Finished, Going}
use Rattle.run_ends.specs.declared.ends.ProcessEnd.{ProcessEnd}
use Rattle.run_ends.specs.declared.ends.RunEnd.{RunEnd}
use Rattle.orca_cli.specs.declared.kept.Kept.{Kept}
use Rattle.orca_cli.specs.Lines.{blocked_line, events_line, faulted_line, no_group_line, turns_line, what_name}
use Rattle.orca_cli.specs.Standings.{awaited_of, fault_of, spent_of}

-- ---- the first process of which there is something to say, and that; the numbers begin here

abbrev pub or_later : {A : Type 0} → ℕ → Option A → Option (ℕ × A) → Option (ℕ × A)
or_later number (Some said) later = Some (number, said)
or_later number None later = later

abbrev pub first_of : {A : Type 0} → (ProcessEnd → Option A) → ℕ → List ProcessEnd → Option (ℕ × A)
first_of says number [] = None
first_of says number (end ∷ ends) = or_later number (says end) (first_of says (suc number) ends)

abbrev pub first_faulted : List ProcessEnd → Option (ℕ × FaultKind)
first_faulted ends = first_of (λ (end : ProcessEnd). fault_of end.standing) 0 ends

abbrev pub first_waiting : List ProcessEnd → Option (ℕ × Action)
first_waiting ends = first_of (λ (end : ProcessEnd). awaited_of end.standing) 0 ends

abbrev pub first_spent : ℕ → List ProcessEnd → Option (ℕ × Unit)
first_spent turns ends = first_of (spent_of turns) 0 ends

-- ---- the line

abbrev pub fault_said : Option (ℕ × FaultKind) → List ℕ
fault_said None = []
fault_said (Some one) = faulted_line one.0 one.1

abbrev pub wait_said : (Action → List ℕ) → Option (ℕ × Action) → List ℕ
wait_said name None = []
wait_said name (Some one) = blocked_line one.0 (name one.1)

abbrev pub spent_said : Option (ℕ × Unit) → List ℕ
spent_said None = []
spent_said (Some one) = turns_line one.0

-- by the name of the operation that an action calls, the turns that each process may take, and the ends of processes
abbrev pub ending_line : (Action → List ℕ) → ℕ → Standing → List ProcessEnd → List ℕ
ending_line name turns Faulted ends = fault_said (first_faulted ends)
ending_line name turns Blocked ends = wait_said name (first_waiting ends)
ending_line name turns NoGroup ends = no_group_line
ending_line name turns OutOfEvents ends = events_line
ending_line name turns OutOfTurns ends = spent_said (first_spent turns ends)
ending_line name turns (Limit what number) ends = limit_line (what_name what) number
ending_line name turns Finished ends = []
ending_line name turns Going ends = []

-- ---- what is kept of all that a run leaves

abbrev pub kept_of : RunEnd → Kept
kept_of end = record { book = end.book; places = end.places; events = end.steps; nodes = end.nodes; processes = end.processes }
