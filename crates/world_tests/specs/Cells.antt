-- What the process of a cell does: it makes its cell first, and then writes and reads it.
use Rattle.std.specs.Prelude.{ℕ, ℤ, pos, ◌+◌, ◌==◌, List, [], ◌∷◌, nat_lt, if◌then◌else◌}
use Rattle.orca_base.specs.declared.ids.KindNo.{KindNo}
use Rattle.orca_base.specs.declared.ids.ObjectId.{ObjectId}
use Rattle.orca_base.specs.declared.ids.ProcessNo.{ProcessNo}
use Rattle.value_core.specs.Datum.{Data}
use Rattle.value_core.specs.Datum as datum
use Rattle.value_core.specs.declared.action.Action.{Action}
use Rattle.value_core.specs.declared.action.Action.TheVariants as action
use Rattle.value_core.specs.declared.action.Reply.{Reply}
use Rattle.value_core.specs.declared.action.Reply.TheVariants as answer
use Rattle.value_core.specs.declared.meaning.Doing.TheVariants as doing
use Rattle.value_core.specs.Meaning.{Computes}

-- the place of a process that has ended
abbrev pub last : ℕ
last = 9

-- where it stands after a reply: a fault ends it
abbrev pub next : ℕ → Reply → ℕ
next place answer.Done = if nat_lt place last then place + 1 else last
next place (answer.Gave value) = if nat_lt place last then place + 1 else last
next place (answer.Broke fault) = last

-- and after replies
abbrev pub place_from : ℕ → List Reply → ℕ
place_from place [] = place
place_from place (reply ∷ replies) = place_from (next place reply) replies

abbrev pub its_object : ProcessNo → ObjectId
its_object number = record { process = number.0; number = 1 }

abbrev pub cell : KindNo
cell = record { 0 = 2 }

abbrev pub with_number : ℤ → Data
with_number number = datum.more (datum.int number) datum.none

-- it writes 6, waits until it reads that, and writes 7
abbrev pub on_cell : ProcessNo → ℕ → Action
on_cell number place =
    if place == 1 then action.Call cell (record { 0 = 1 }) (its_object number) (with_number (pos 6)) else (
    if place == 2 then action.Call cell (record { 0 = 0 }) (its_object number) (with_number (pos 6)) else (
    if place == 3 then action.Call cell (record { 0 = 1 }) (its_object number) (with_number (pos 7)) else action.Ended))

abbrev pub action_at : ProcessNo → ℕ → Action
action_at number place = if place == 0 then action.Make cell (its_object number) else on_cell number place

abbrev pub cell_computes : Computes
cell_computes = record {
  main = record { 0 = 0 };
  doing = λ text number args replies turns. doing.At (action_at number (place_from 0 replies));
}
