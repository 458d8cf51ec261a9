-- The faults of a run: the last one, for how long packets are still held behind it, and its ticks and crashes. A Hold for no ticks is no
-- fault; each Cut is one, also one that leaves its packet whole, since the steps don't show how long the packet was.
use Rattle.std.specs.Prelude.{ℕ, zero, suc, ◌+◌, max, Bool, true, false, not, ◌||◌, ◌&&◌, if◌then◌else◌, List, [], ◌∷◌}
use Rattle.net_rules.specs.declared.fate.Fate.{Fate}
use Rattle.net_rules.specs.declared.flight.Flight.{Flight}
use Rattle.world_rules.specs.declared.event.Event.{Event}
use Rattle.world_rules.specs.declared.event.Event.TheVariants as event
use Rattle.world_rules.specs.declared.event.Step.{Step}
use Rattle.world_rules.specs.Mail.{Carried}
use Rattle.world_facts.specs.Passing.{always_passes}

-- a member crashes or is suspected, or the wire is exchanged
abbrev pub is_from_wire : Event → Bool
is_from_wire (event.Burst process place turns) = false
is_from_wire (event.Act process) = false
is_from_wire (event.Deliver packet copy) = false
is_from_wire event.Tick = false
is_from_wire (event.Crash node) = true
is_from_wire (event.Suspect node) = true
is_from_wire event.Swap = true

-- each of these fates passes, whatever packet it comes to
abbrev pub all_pass : List Fate → Bool
all_pass [] = true
all_pass (one ∷ fates) = always_passes one && all_pass fates

-- a fault: such an event, or a fate that doesn't pass
abbrev pub is_fault : Step → Bool
is_fault step = is_from_wire step.event || not (all_pass step.fates)

-- the number of the last step that is a fault, or 0 where none is: steps are numbered from 1
abbrev pub later_of : Bool → ℕ → ℕ
later_of fault zero = if fault then 1 else 0
later_of fault (suc n) = suc (suc n)

abbrev pub last_fault : List Step → ℕ
last_fault [] = 0
last_fault (step ∷ steps) = later_of (is_fault step) (last_fault steps)

-- the greatest number of ticks that one of these packets still has to be held
abbrev pub most_held : List (Flight Carried) → ℕ
most_held [] = 0
most_held (flight ∷ flights) = max flight.ticks (most_held flights)

-- how many of these steps are ticks, and how many are crashes
abbrev pub tick_by : Event → ℕ
tick_by (event.Burst process place turns) = 0
tick_by (event.Act process) = 0
tick_by (event.Deliver packet copy) = 0
tick_by event.Tick = 1
tick_by (event.Crash node) = 0
tick_by (event.Suspect node) = 0
tick_by event.Swap = 0

abbrev pub ticks_in : List Step → ℕ
ticks_in [] = 0
ticks_in (step ∷ steps) = tick_by step.event + ticks_in steps

abbrev pub crash_by : Event → ℕ
crash_by (event.Burst process place turns) = 0
crash_by (event.Act process) = 0
crash_by (event.Deliver packet copy) = 0
crash_by event.Tick = 0
crash_by (event.Crash node) = 1
crash_by (event.Suspect node) = 0
crash_by event.Swap = 0

abbrev pub crashes_in : List Step → ℕ
crashes_in [] = 0
crashes_in (step ∷ steps) = crash_by step.event + crashes_in steps
