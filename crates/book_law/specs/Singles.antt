-- Single copies: each is kept by one member, its owner, with the calls that are suspended on it. A copy exists from the moment when
-- its make enters the list, where the making doesn't fault; some other member may apply that entry before the owner does
-- (docs/RUNTIME.md, One member's copies).
use Rattle.std.specs.Prelude.{ℕ, ◌+◌, zero, suc, List, [], ◌∷◌, ◌==◌, Option, Some, None, if◌then◌else◌}
use Rattle.orca_base.specs.declared.ids.KindNo.{KindNo}
use Rattle.orca_base.specs.declared.ids.ObjectId.{ObjectId}
use Rattle.value_core.specs.declared.action.Instance.{Instance}
use Rattle.value_core.specs.declared.action.Line.{Line}
use Rattle.value_core.specs.declared.action.Action.{Action}
use Rattle.value_core.specs.declared.action.Action.TheVariants as action
use Rattle.value_core.specs.declared.meaning.Making.{Making}
use Rattle.value_core.specs.declared.meaning.Making.TheVariants as making
use Rattle.value_core.specs.Meaning.{Performs}
use Rattle.value_core.specs.History.{object_at}
use Rattle.guard_queue.specs.declared.queue.Suspended.{Suspended}
use Rattle.object_manager.specs.After.{Copied, opening_copies}
use Rattle.object_manager.specs.Singles.{after_single, lines_single}
use Rattle.object_manager.specs.State.{message_of}
use Rattle.book_law.specs.Passes.{Test}

-- a single copy: its object, its owner, the place of its make, its state, and the calls suspended on it
pub record Single : Type 0 where
  pub object : ObjectId
  pub owner : ℕ
  pub place : ℕ
  pub kept : Instance
  pub queue : List Suspended

-- how many calls of a process are among suspended ones
abbrev pub waiting : ℕ → List Suspended → ℕ
waiting j [] = zero
waiting j (call ∷ calls) = if call.process.0 == j then suc (waiting j calls) else waiting j calls

-- and how many are suspended on single copies
abbrev pub waits : ℕ → List Single → ℕ
waits j [] = zero
waits j (x ∷ xs) = waiting j x.queue + waits j xs

-- a member that keeps this object alone. That whatever else its owner keeps changes nothing of what follows is a law (Owners.antt)
abbrev pub alone : Single → Copied
alone x = record opening_copies { own = (x.object, x.kept) ∷ []; waits = x.queue }

-- the lines of a call on a single copy: its own, and those of the calls that it lets run
abbrev pub lines_on : Performs → Single → Suspended → List Line
lines_on p x call = lines_single p (alone x) (message_of call)

abbrev pub kept_or : Option Instance → Instance → Instance
kept_or None kept = kept
kept_or (Some after) kept = after

-- the single copy after a call
abbrev pub after_on : Performs → Single → Suspended → Single
after_on p x call = record x {
  kept = kept_or (object_at (after_single p (alone x) (message_of call)).own x.object) x.kept;
  queue = (after_single p (alone x) (message_of call)).waits;
}

-- the single copy that a making gives, where it makes one
abbrev pub single_of : ℕ → ℕ → ObjectId → KindNo → Making → List Single
single_of owner place object kind (making.Made state) =
    record {
      object = object;
      owner = owner;
      place = place;
      kept = record { kind = kind; state = state };
      queue = [];
    } ∷ []
single_of owner place object kind (making.Broke fault) = []

-- what an entry of this place adds, whose message is of a process of this member
abbrev pub singles_by : Test → Performs → ℕ → ℕ → Action → List Single
singles_by single p owner place (action.Make kind object) = if single object then single_of owner place object kind (p.made kind) else []
singles_by single p owner place (action.Call kind op object args) = []
singles_by single p owner place (action.Fork process args place_on) = []
singles_by single p owner place action.Ended = []
singles_by single p owner place (action.Faulted fault) = []
