-- What evaluations are made of. What holds of a result, a fault, a turn, a call or fork, of one evaluation and then another, of one in
-- other variables, and of rounds where it holds of what they are made of, holds of every phrase and function; and where it holds of a make
-- too, of every process (Everywhere.antt).
use Rattle.std.specs.Prelude.{◌≡◌, Bool, true, false, List, Option, Result}
use Rattle.orca_base.specs.declared.fault.FaultKind.{FaultKind}
use Rattle.orca_base.specs.declared.ids.KindNo.{KindNo}
use Rattle.orca_base.specs.declared.ids.ObjectId.{ObjectId}
use Rattle.value_core.specs.Datum.{Datum}
use Rattle.value_core.specs.declared.action.Action.{Action}
use Rattle.value_core.specs.declared.action.Action.TheVariants as action
use Rattle.meaning_rules.specs.States.{State, Out, Goes, Stops, Faults, after, gives, turn, act}
use Rattle.meaning_rules.specs.Loops.{Flow, Round, while_round, until_round, repeated}

-- a round of `while` or of `repeat`, which takes a turn where the loop goes on
pub data IsRound (G : (A : Type 0) → (State → Out A) → Type 0) : (State → Out Round) → Type 0 where
  of_while : (test : State → Out Datum) (body : State → Out Flow) → G Datum test → G Flow body → IsRound G (while_round test body)
  of_until : (test : State → Out Datum) (body : State → Out Flow) → G Datum test → G Flow body → IsRound G (until_round test body)

-- an action to which statements come: a call or a fork
abbrev pub is_of_statement : Action → Bool
is_of_statement (action.Call kind op object args) = true
is_of_statement (action.Fork process args place_on) = true
is_of_statement (action.Make kind object) = false
is_of_statement action.Ended = false
is_of_statement (action.Faulted fault) = false

abbrev pub Makes : ((A : Type 0) → (State → Out A) → Type 0) → Type 0
Makes G = (kind : KindNo) (object : ObjectId) → G (Option Datum) (λ s. act (action.Make kind object) s)

pub record Closed (G : (A : Type 0) → (State → Out A) → Type 0) : Type 1 where
  pub goes : (A : Type 0) (x : A) → G A (λ s. Goes x s)
  pub faults : (A : Type 0) (fault : FaultKind) → G A (λ s. Stops (Faults fault))
  pub gives : (A : Type 0) (r : List Datum → Result A FaultKind) → G A (λ s. gives (r s.frame) s)
  pub then : (A B : Type 0) (f : State → Out A) (next : A → State → Out B) → G A f → ((x : A) → G B (next x)) → G B (λ s. after (f s) next)
  pub turns : G (Unit {0}) turn
  pub acts : (a : List Datum → Action) → ((frame : List Datum) → is_of_statement (a frame) ≡ true) → G (Option Datum) (λ s. act (a s.frame) s)
  pub framed : (A : Type 0) (g : List Datum → State → Out A) (h : List Datum → List Datum) → ((frame : List Datum) → G A (g frame)) →
      G A (λ s. g s.frame (record s { frame = h s.frame }))
  pub repeats : (round : State → Out Round) → G Round round → IsRound G round → G Flow (repeated round)
