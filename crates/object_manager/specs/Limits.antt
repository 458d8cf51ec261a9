-- The limits of a run that an entry can meet.
use Rattle.std.specs.Prelude.{◌≡◌, ℕ, ◌+◌, ◌-◌, leb, length, Option, None, Some, if◌then◌else◌}
use Rattle.orca_base.specs.declared.limits.TheConstants.{OBJECTS, PROCESSES}
use Rattle.orca_base.specs.declared.what.What.{What}
use Rattle.orca_base.specs.declared.what.What.TheVariants as what
use Rattle.value_core.specs.declared.action.Action.{Action}
use Rattle.value_core.specs.declared.action.Action.TheVariants as action
use Rattle.value_core.specs.declared.meaning.Making.{Making}
use Rattle.value_core.specs.declared.meaning.Making.TheVariants as making
use Rattle.value_core.specs.Meaning.{Performs}
use Rattle.object_manager.specs.After.{Copied}
use Rattle.object_manager.specs.declared.copies.ApplyError.{ApplyError}
use Rattle.object_manager.specs.declared.copies.ApplyError.TheVariants as refused

-- the most objects, the output object not counted, and the most processes, process 0 counted
abbrev pub most_objects : ℕ
most_objects = OBJECTS

abbrev pub most_processes : ℕ
most_processes = PROCESSES

-- how many objects were made: the replicated ones but the output object, which is always there, and the single ones
abbrev pub made_objects : Copied → ℕ
made_objects c = length c.objects - 1 + length c.singles

-- the limit of objects with its number, where one more would pass it; a making that faults makes none
abbrev pub objects_limit : Copied → Making → Option (What × ℕ)
objects_limit c (making.Made state) = if leb most_objects (made_objects c) then Some (what.Objects, most_objects) else None
objects_limit c (making.Broke fault) = None

-- the limit of processes with its number, where one more would pass it
abbrev pub processes_limit : ℕ → Option (What × ℕ)
processes_limit processes = if leb most_processes processes then Some (what.Processes, most_processes) else None

-- the limit that the message would pass: it would make the 4,097th object or the 257th process
abbrev pub too_many : Performs → Copied → Action → Option (What × ℕ)
too_many p c (action.Make kind object) = objects_limit c (p.made kind)
too_many p c (action.Fork process args place_on) = processes_limit c.processes
too_many p c (action.Call kind op object args) = None
too_many p c action.Ended = None
too_many p c (action.Faulted fault) = None

-- where a limit is why a message wasn't applied, it is this one
abbrev pub IfLimit : ApplyError → Option (What × ℕ) → Type 0
IfLimit (refused.Limit w number) passed = passed ≡ Some (w, number)
IfLimit refused.NoMemory passed = Unit {0}
