-- What an entry does to a member's copies where each object is replicated or single, by a test of its id that is fixed in the run.
-- An entry that makes a single object passes: its line stands in the book and its object is counted, and the replicated objects and
-- the calls on them stay. Every other entry is applied (docs/RUNTIME.md, One member's copies).
use Rattle.std.specs.Prelude.{◌+◌, Bool, false, List, [], ◌∷◌, length, if◌then◌else◌}
use Rattle.orca_base.specs.declared.ids.ObjectId.{ObjectId}
use Rattle.value_core.specs.declared.action.Line.{Line}
use Rattle.value_core.specs.declared.message.Message.{Message}
use Rattle.value_core.specs.declared.action.Action.{Action}
use Rattle.value_core.specs.declared.action.Action.TheVariants as action
use Rattle.value_core.specs.Fits.{Kinds}
use Rattle.value_core.specs.Meaning.{Performs}
use Rattle.value_core.specs.History.{forked}
use Rattle.object_manager.specs.After.{Copied, acted, after as after_applied, lines_after as lines_applied, opening_copies}
use Rattle.object_manager.specs.Singles.{after_passed}

-- which objects are single
abbrev pub Test : Type 0
Test = ObjectId → Bool

-- the action makes a single object
abbrev pub is_passed : Test → Action → Bool
is_passed single (action.Make kind object) = single object
is_passed single (action.Call kind op object args) = false
is_passed single (action.Fork process args place_on) = false
is_passed single action.Ended = false
is_passed single (action.Faulted fault) = false

-- an entry that passes, at a member that doesn't keep its object; or one that is applied
abbrev pub entry : Test → Performs → Copied → Message → Copied
entry single p c x = if is_passed single x.action then after_passed p false c x else after_applied p c x

-- the copies after one entry. Both numbers are written out, since they are the same whether it passes or is applied
abbrev pub after : Test → Performs → Copied → Message → Copied
after single p c x = record (entry single p c x) {
  processes = c.processes + length (forked x.action);
  applied = c.applied + 1;
}

-- its lines, in the order in which they ran: of an entry that passes the make's alone
abbrev pub lines_after : Test → Performs → Copied → Message → List Line
lines_after single p c x = if is_passed single x.action then (acted p c x).lines else lines_applied p c x

-- the copies after entries
abbrev pub after_all : Test → Performs → Copied → List Message → Copied
after_all single p c [] = c
after_all single p c (x ∷ xs) = after_all single p (after single p c x) xs

-- the single objects that entries made, with their types
abbrev pub counted : Test → Performs → List Message → Kinds
counted single p list = (after_all single p opening_copies list).singles
