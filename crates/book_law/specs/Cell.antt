-- A small program, whose runs are computed: process 0 makes a cell, forks process 1, and waits for a mark in the cell, which process 1
-- adds.
use Rattle.std.specs.Prelude.{ℕ, zero, suc, true, false, IsTrue, List, [], ◌∷◌, length, None, ◌==◌, if◌then◌else◌, refl}
use Rattle.orca_base.specs.declared.ids.KindNo.{KindNo}
use Rattle.orca_base.specs.declared.ids.ObjectId.{ObjectId}
use Rattle.value_core.specs.Datum.{Data}
use Rattle.value_core.specs.Datum as datum
use Rattle.value_core.specs.Performable.{is_performable}
use Rattle.value_core.specs.declared.action.Line.{Line}
use Rattle.value_core.specs.declared.message.Message.{Message}
use Rattle.value_core.specs.declared.action.Action.{Action}
use Rattle.value_core.specs.declared.action.Action.TheVariants as action
use Rattle.value_core.specs.declared.action.Class.TheVariants.{Writes}
use Rattle.value_core.specs.declared.action.Reply.TheVariants as answer
use Rattle.value_core.specs.declared.meaning.Making.TheVariants as making
use Rattle.value_core.specs.declared.meaning.Tried.{Tried}
use Rattle.value_core.specs.declared.meaning.Tried.TheVariants as tried
use Rattle.value_core.specs.declared.meaning.Doing.TheVariants as doing
use Rattle.value_core.specs.Meaning.{Performs, Computes}
use Rattle.guard_queue.specs.declared.queue.Suspended.{Suspended}
use Rattle.book_law.specs.Passes.{Test}
use Rattle.book_law.specs.Singles.{Single}

abbrev pub cell : ObjectId
cell = record { process = 0; number = 1 }

abbrev pub kind : KindNo
kind = record { 0 = 1 }

-- operation 0 adds a mark, 1 waits for a mark and takes it, 2 does nothing
abbrev pub try_on : Data → ℕ → Tried
try_on state zero = tried.Did 0 (datum.more (datum.char 1) state) answer.Done
try_on datum.none (suc zero) = tried.Blocked
try_on (datum.more d rest) (suc zero) = tried.Did 1 rest answer.Done
try_on state (suc (suc n)) = tried.Did 0 state answer.Done

abbrev pub performs : Performs
performs = record {
  class_of = λ kind op. Writes;
  made = λ kind. making.Made datum.none;
  tries = λ kind op state args. try_on state op.0;
}

abbrev pub call : ℕ → Action
call op = action.Call kind (record { 0 = op }) cell datum.none

abbrev pub make : Action
make = action.Make kind cell

abbrev pub fork : Action
fork = action.Fork (record { 0 = 1 }) datum.none None

-- what each process does after so many replies
abbrev pub does : ℕ → ℕ → Action
does zero zero = make
does zero (suc zero) = fork
does zero (suc (suc zero)) = call 1
does zero (suc (suc (suc n))) = action.Ended
does (suc j) zero = call 0
does (suc j) (suc n) = action.Ended

abbrev pub computes : Computes
computes = record {
  main = record { 0 = 0 };
  doing = λ text number args replies turns. doing.At (does number.0 (length replies));
}

-- the message of a process with this call number, and its line
abbrev pub message : ℕ → ℕ → (a : Action) → IsTrue (is_performable a) → Message
message process number a ok = record {
  process = record { 0 = process };
  call = record { 0 = number };
  action = a;
  performable = ok;
}

abbrev pub line : ℕ → ℕ → Action → ℕ → Line
line process number a guard = record {
  process = record { 0 = process };
  call = record { 0 = number };
  action = a;
  guard = guard;
  reply = answer.Done;
}

-- the cell is single
abbrev pub single : Test
single o = if o.number == 1 then true else false

abbrev pub suspended : ℕ → ℕ → ℕ → Suspended
suspended process number op = record {
  process = record { 0 = process };
  call = record { 0 = number };
  kind = kind;
  op = record { 0 = op };
  object = cell;
  args = datum.none;
}

-- its copy as it is made at member 0, by the first entry
abbrev pub at_first : Single
at_first = record {
  object = cell;
  owner = 0;
  place = 1;
  kept = record { kind = kind; state = datum.none };
  queue = [];
}

-- the two entries of a run, and what its owner performed after both: the mark, and the call that waited for it
abbrev pub entries : List Message
entries = message 0 0 make refl ∷ message 0 1 fork refl ∷ []

abbrev pub performed_aside : List Line
performed_aside = line 1 0 (call 0) 0 ∷ line 0 2 (call 1) 1 ∷ []
