-- The processes that a list of entries begins: each fork begins one, which has the next number. Process 0 is there from the start, on
-- member 0.
use Rattle.std.specs.Prelude.{ℕ, ℤ, pos, suc, Bool, false, List, [], ◌∷◌, ◌++◌, Option, None, Some, slice_get, unsigned_abs}
use Rattle.std.specs.Int.{int_rem_euclid}
use Rattle.orca_base.specs.declared.ids.ObjectId.{ObjectId}
use Rattle.orca_base.specs.declared.ids.TextNo.{TextNo}
use Rattle.value_core.specs.Datum.{Data}
use Rattle.value_core.specs.Datum as datum
use Rattle.value_core.specs.declared.action.Action.{Action}
use Rattle.value_core.specs.declared.action.Action.TheVariants as action
use Rattle.value_core.specs.declared.message.Message.{Message}
use Rattle.book_law.specs.Passes.{Test}
use Rattle.world_rules.specs.Frame.{Frame, chooses_single}

-- a process: its text and arguments, its member, and the place of the entry that forked it
pub record Begun : Type 0 where
  pub text : TextNo
  pub args : Data
  pub home : ℕ
  pub place : ℕ

abbrev pub first_process : Frame → Begun
first_process f = record { text = f.computes.main; args = datum.none; home = 0; place = 0 }

-- a process's member; processes that don't exist count as member 0's
abbrev pub home_or_first : Option Begun → ℕ
home_or_first None = 0
home_or_first (Some process) = process.home

abbrev pub home_in : List Begun → ℕ → ℕ
home_in processes i = home_or_first (slice_get processes i)

-- the member that a fork names: its number modulo N, from 0 to N - 1 also where it is negative. Else it is the parent's
abbrev pub member_named : ℕ → ℕ → Option ℤ → ℕ
member_named nodes parent None = parent
member_named nodes parent (Some n) = unsigned_abs (int_rem_euclid n (pos nodes))

-- the process that an entry of this place begins, whose process is on this member
abbrev pub begun_by : ℕ → ℕ → ℕ → Action → List Begun
begun_by nodes parent place (action.Fork text args place_on) =
    record { text = text; args = args; home = member_named nodes parent place_on; place = place } ∷ []
begun_by nodes parent place (action.Make kind object) = []
begun_by nodes parent place (action.Call kind op object args) = []
begun_by nodes parent place action.Ended = []
begun_by nodes parent place (action.Faulted fault) = []

-- the processes after one more entry
abbrev pub with_entry : Frame → List Begun → ℕ → Message → List Begun
with_entry f processes place x =
    processes ++ begun_by f.settings.nodes (home_in processes x.process.0) place x.action

abbrev pub processes_from : Frame → List Begun → ℕ → List Message → List Begun
processes_from f processes applied [] = processes
processes_from f processes applied (x ∷ xs) = processes_from f (with_entry f processes (suc applied) x) (suc applied) xs

-- the processes that there are after these entries, by their numbers
abbrev pub processes_in : Frame → List Message → List Begun
processes_in f entries = processes_from f (first_process f ∷ []) 0 entries

-- ---- single objects

abbrev pub single_by : Frame → Option Begun → ℕ → Bool
single_by f None number = false
single_by f (Some maker) number = chooses_single f.settings.choices maker.text number

-- which objects are single, as far as their makers are among these processes: an object's id names its maker
abbrev pub singles_of : Frame → List Begun → Test
singles_of f processes object = single_by f (slice_get processes object.process) object.number

-- a single object's owner is its maker's member
abbrev pub owner_in : List Begun → ObjectId → ℕ
owner_in processes object = home_in processes object.process
