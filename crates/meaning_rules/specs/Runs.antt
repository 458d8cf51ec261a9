-- What a program does by itself, for the rows that are computed: process 0 alone, each of whose actions is done.
use Rattle.std.specs.Prelude.{ℕ, zero, suc, pos, Some, List, [], ◌∷◌, ◌++◌, map, codes}
use Rattle.orca_base.specs.declared.fault.FaultKind.{FaultKind}
use Rattle.orca_base.specs.declared.ids.KindNo.{KindNo}
use Rattle.orca_base.specs.declared.ids.ObjectId.{ObjectId}
use Rattle.link_rules.specs.Units.{Source}
use Rattle.value_core.specs.Datum.{Datum, data_of}
use Rattle.value_core.specs.Datum as datum
use Rattle.value_core.specs.Fits.{Kinds}
use Rattle.value_core.specs.History.{output_by, output_kind, output_object}
use Rattle.value_core.specs.declared.action.Class.{Class}
use Rattle.value_core.specs.declared.action.Line.{Line}
use Rattle.value_core.specs.declared.meaning.Making.{Making}
use Rattle.value_core.specs.declared.meaning.Tried.{Tried}
use Rattle.value_core.specs.declared.meaning.Tried.TheVariants as tried
use Rattle.value_core.specs.declared.value.Value.TheVariants.{Int}
use Rattle.value_core.specs.declared.action.Action.{Action}
use Rattle.value_core.specs.declared.action.Action.TheVariants as action
use Rattle.value_core.specs.declared.action.Reply.{Reply}
use Rattle.value_core.specs.declared.action.Reply.TheVariants as reply
use Rattle.value_core.specs.declared.meaning.Doing.{Doing}
use Rattle.value_core.specs.declared.meaning.Doing.TheVariants as doing
use Rattle.meaning_rules.specs.Meanings.{computes_of, performs_of}

-- what process 0 does next after these replies, within so many turns
abbrev pub does : List Source → ℕ → List Reply → Doing
does us turns replies = (computes_of us).doing (computes_of us).main (record { 0 = 0 }) datum.none replies turns

-- what it wrote, and how it stands
pub record Stand : Type 0 where
  pub wrote : List ℕ
  pub now : Doing

abbrev pub stand : List ℕ → Doing → Stand
stand wrote now = record { wrote = wrote; now = now }

-- so many actions at most, each with the reply Done
abbrev pub writes : List ℕ → Action → List ℕ
writes wrote act = wrote ++ output_by act

abbrev pub behind : (List Reply → Doing) → ℕ → List Reply → List ℕ → Doing → Stand
behind next zero replies wrote now = stand wrote now
behind next (suc k) replies wrote (doing.At action.Ended) = stand wrote (doing.At action.Ended)
behind next (suc k) replies wrote (doing.At (action.Faulted fault)) = stand wrote (doing.At (action.Faulted fault))
behind next (suc k) replies wrote (doing.At act) =
    behind next k (replies ++ reply.Done ∷ []) (writes wrote act) (next (replies ++ reply.Done ∷ []))
behind next (suc k) replies wrote doing.Busy = stand wrote doing.Busy

abbrev pub runs_by : (List Reply → Doing) → Stand
runs_by next = behind next 9 [] [] (next [])

-- what a program writes within so many turns, and how it stands then
abbrev pub runs : List Source → ℕ → Stand
runs us turns = runs_by (does us turns)

-- how it may stand
abbrev pub ended : Doing
ended = doing.At action.Ended

abbrev pub faulted : FaultKind → Doing
faulted fault = doing.At (action.Faulted fault)

-- ---- the one object type of a program

abbrev pub kind : KindNo
kind = record { 0 = 1 }

-- a try of its operation with this number, on this state, with these arguments
abbrev pub tries : List Source → ℕ → List Datum → List Datum → Tried
tries us op state args = (performs_of us).tries kind (record { 0 = op }) (data_of state) (data_of args)

abbrev pub did : ℕ → List Datum → Reply → Tried
did guard state reply = tried.Did guard (data_of state) reply

abbrev pub makes : List Source → Making
makes us = (performs_of us).made kind

abbrev pub class : List Source → ℕ → Class
class us op = (performs_of us).class_of kind (record { 0 = op })

abbrev pub integers : List ℕ → List Datum
integers ns = map (λ n. datum.int (pos n)) ns

abbrev pub gave : ℕ → Reply
gave n = reply.Gave (Int (pos n))

-- ---- histories

abbrev pub line_of : ℕ → ℕ → Action → ℕ → Reply → Line
line_of process call act guard answer =
    record { process = record { 0 = process }; call = record { 0 = call }; action = act; guard = guard; reply = answer }

-- the object that the first process makes
abbrev pub first_object : ObjectId
first_object = record { process = 0; number = 1 }

abbrev pub first_made : Kinds
first_made = (first_object, kind) ∷ []

-- a call of its operation with this number
abbrev pub calls_first : ℕ → List Datum → Action
calls_first op args = action.Call kind (record { 0 = op }) first_object (data_of args)

abbrev pub writes_line : List ℕ → Action
writes_line text = action.Call output_kind (record { 0 = 0 }) output_object (data_of (datum.text text ∷ []))

-- one of `one_orca`: its four lines
abbrev pub four_lines : List Line
four_lines =
    line_of 0 0 (action.Make kind first_object) 0 reply.Done
    ∷ line_of 0 1 (calls_first 1 (integers (6 ∷ []))) 0 reply.Done
    ∷ line_of 0 2 (calls_first 0 []) 0 (gave 6)
    ∷ line_of 0 3 (writes_line (codes "6")) 0 reply.Done ∷ []

-- and one of `pool_orca`, in which both producers come first
abbrev pub forks_producer : ℕ → ℕ → Action
forks_producer base member =
    action.Fork (record { 0 = 0 }) (data_of (datum.object 0 1 ∷ datum.int (pos base) ∷ [])) (Some (pos member))

abbrev pub puts : ℕ → Action
puts n = calls_first 0 (integers (n ∷ []))

abbrev pub twelve_lines : List Line
twelve_lines =
    line_of 0 0 (action.Make kind first_object) 0 reply.Done
    ∷ line_of 0 1 (forks_producer 10 1) 0 reply.Done
    ∷ line_of 0 2 (forks_producer 20 2) 0 reply.Done
    ∷ line_of 2 0 (puts 21) 0 reply.Done
    ∷ line_of 1 0 (puts 11) 0 reply.Done
    ∷ line_of 0 3 (calls_first 1 []) 1 (gave 11)
    ∷ line_of 0 4 (calls_first 1 []) 1 (gave 21)
    ∷ line_of 2 1 (puts 22) 0 reply.Done
    ∷ line_of 1 1 (puts 12) 0 reply.Done
    ∷ line_of 0 5 (calls_first 1 []) 1 (gave 12)
    ∷ line_of 0 6 (calls_first 1 []) 1 (gave 22)
    ∷ line_of 0 7 (writes_line (codes "66")) 0 reply.Done ∷ []

-- a history in which process 0 waits: nothing was put yet
abbrev pub three_lines : List Line
three_lines =
    line_of 0 0 (action.Make kind first_object) 0 reply.Done
    ∷ line_of 0 1 (forks_producer 10 1) 0 reply.Done
    ∷ line_of 0 2 (forks_producer 20 2) 0 reply.Done ∷ []
