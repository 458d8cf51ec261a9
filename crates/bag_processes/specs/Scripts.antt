-- What processes by hand do: each makes one object first, and then what its text says.
use Rattle.std.specs.Prelude.{ℕ, ℤ, pos, ◌+◌, ◌==◌, List, [], ◌∷◌, None, nat_lt, if◌then◌else◌}
use Rattle.orca_base.specs.declared.ids.KindNo.{KindNo}
use Rattle.orca_base.specs.declared.ids.ObjectId.{ObjectId}
use Rattle.orca_base.specs.declared.ids.ProcessNo.{ProcessNo}
use Rattle.orca_base.specs.declared.ids.TextNo.{TextNo}
use Rattle.value_core.specs.Datum.{Data}
use Rattle.value_core.specs.Datum as datum
use Rattle.value_core.specs.declared.action.Action.{Action}
use Rattle.value_core.specs.declared.action.Action.TheVariants as action
use Rattle.value_core.specs.declared.action.Reply.{Reply}
use Rattle.value_core.specs.declared.action.Reply.TheVariants as answer
use Rattle.value_core.specs.declared.meaning.Doing.TheVariants as doing
use Rattle.value_core.specs.Meaning.{Computes}

-- the place of a process that has ended
abbrev pub last : ℕ
last = 9

-- where a process stands after a reply: a fault ends it
abbrev pub next : ℕ → Reply → ℕ
next place answer.Done = if nat_lt place last then place + 1 else last
next place (answer.Gave value) = if nat_lt place last then place + 1 else last
next place (answer.Broke fault) = last

-- and after replies
abbrev pub place_from : ℕ → List Reply → ℕ
place_from place [] = place
place_from place (reply ∷ replies) = place_from (next place reply) replies

-- its object, and that one's type by its text: a flag, a pool, or one whose making faults
abbrev pub its_object : ProcessNo → ObjectId
its_object number = record { process = number.0; number = 1 }

abbrev pub flag : KindNo
flag = record { 0 = 2 }

abbrev pub pool : KindNo
pool = record { 0 = 1 }

abbrev pub kind_of : TextNo → KindNo
kind_of text = if text.0 == 0 then flag else (if text.0 == 1 then pool else record { 0 = 3 })

abbrev pub making : TextNo → ProcessNo → Action
making text number = action.Make (kind_of text) (its_object number)

abbrev pub with_number : ℤ → Data
with_number number = datum.more (datum.int number) datum.none

abbrev pub forking : TextNo → Action
forking text = action.Fork text datum.none None

-- the first text sets its flag to 1, forks the second, steps the flag, and forks a third
abbrev pub on_flag : ProcessNo → ℕ → Action
on_flag number place =
    if place == 1 then action.Call flag (record { 0 = 1 }) (its_object number) (with_number (pos 1)) else (
    if place == 2 then forking (record { 0 = 1 }) else (
    if place == 3 then action.Call flag (record { 0 = 3 }) (its_object number) datum.none else (
    if place == 4 then forking (record { 0 = 2 }) else action.Ended)))

-- the second puts 5 into its pool, takes it out, and takes again
abbrev pub on_pool : ProcessNo → ℕ → Action
on_pool number place =
    if place == 1 then action.Call pool (record { 0 = 0 }) (its_object number) (with_number (pos 5)) else (
    if nat_lt place 4 then action.Call pool (record { 0 = 1 }) (its_object number) datum.none else action.Ended)

abbrev pub action_at : TextNo → ProcessNo → ℕ → Action
action_at text number place =
    if place == 0 then making text number else (
    if text.0 == 0 then on_flag number place else (if text.0 == 1 then on_pool number place else action.Ended))

abbrev pub script_computes : Computes
script_computes = record {
  main = record { 0 = 0 };
  doing = λ text number args replies turns. doing.At (action_at text number (place_from 0 replies));
}
