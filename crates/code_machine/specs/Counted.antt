-- Processes whose variables hold so few values that each has a number of 64 bits. A machine's can't hold more.
use Rattle.std.specs.Prelude.{◌<◌, ◌^◌, List, length}
use Rattle.std.specs.List.{All}
use Rattle.value_core.specs.Datum.{Datum}
use Rattle.code_rules.specs.Machine.{Config, Phase, Running, Asking, Finished, ProcessState}

abbrev pub IsCounted : List Datum → Type 0
IsCounted locals = length locals < 2 ^ 64

-- of the body that runs, and of those that wait
abbrev pub AreCounted : Config → Type 0
AreCounted c = IsCounted c.locals × All (λ w. IsCounted w.locals) c.frames

abbrev pub IsCountedPhase : Phase → Type 0
IsCountedPhase (Running c) = AreCounted c
IsCountedPhase (Asking a c) = AreCounted c
IsCountedPhase (Finished a) = Unit {0}

abbrev pub IsCountedState : ProcessState → Type 0
IsCountedState s = IsCountedPhase s.at
