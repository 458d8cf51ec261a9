-- That an evaluation with more turns goes as it does with fewer, unless these are used up.
use Rattle.std.proofs.Common.{refl, ap, sym, ◌∙◌, subst, arith}
use Rattle.std.specs.Prelude.{◌≡◌, ℕ, zero, suc, ◌+◌, List, [], ◌∷◌, Result, Ok, Err}
use Rattle.orca_base.specs.declared.fault.FaultKind.{FaultKind}
use Rattle.value_core.specs.Datum.{Datum}
use Rattle.value_core.specs.declared.action.Action.{Action}
use Rattle.value_core.specs.declared.action.Action.TheVariants as action
use Rattle.value_core.specs.declared.action.Reply.{Reply}
use Rattle.value_core.specs.declared.action.Reply.TheVariants as reply
use Rattle.meaning_rules.specs.States.{State, Out, Goes, Stops, Needs, Faults, Busy, after, gives, begun, turn, replied, act}
use Rattle.meaning_rules.proofs.Closed.{Closed, Makes}
use Rattle.meaning_rules.specs.Loops.{Flow, On, Back, Round, Over, Again, Leave, go_on, loop, repeated, next_round}

-- so many turns more
abbrev pub more : ℕ → State → State
more k s = record s { left = s.left + k }

-- with so many turns more it ends so
abbrev pub Keeps : {A : Type 0} → ℕ → Out A → Out A → Type 0
Keeps k (Goes x s) o = o ≡ Goes x (more k s)
Keeps k (Stops (Needs action)) o = o ≡ Stops (Needs action)
Keeps k (Stops (Faults fault)) o = o ≡ Stops (Faults fault)
Keeps k (Stops Busy) o = Unit {0}

pub record Steady {A : Type 0} (f : State → Out A) : Type 0 where
  pub steady : (k : ℕ) (s : State) → Keeps k (f s) (f (more k s))

pub after_keeps : {A B : Type 0} (k : ℕ) (o o' : Out A) (next : A → State → Out B) → Keeps k o o' → ((x : A) → Steady (next x)) →
    Keeps k (after o next) (after o' next)
after_keeps k (Goes x s) o' next is steady = subst (λ p. Keeps k (next x s) (after p next)) (sym is) ((steady x).steady k s)
after_keeps k (Stops (Needs action)) o' next is steady = ap (λ p. after p next) is
after_keeps k (Stops (Faults fault)) o' next is steady = ap (λ p. after p next) is
after_keeps k (Stops Busy) o' next is steady = tt

pub then_steady : {A B : Type 0} (f : State → Out A) (next : A → State → Out B) → Steady f → ((x : A) → Steady (next x)) →
    Steady (λ s. after (f s) next)
then_steady f next first others = record { steady = λ k s. after_keeps k (f s) (f (more k s)) next (first.steady k s) others }

pub goes_steady : {A : Type 0} (x : A) → Steady (λ s. Goes x s)
goes_steady x = record { steady = λ k s. refl }

pub gives_keeps : {A : Type 0} (k : ℕ) (s : State) (r : Result A FaultKind) → Keeps k (gives r s) (gives r (more k s))
gives_keeps k s (Ok x) = refl
gives_keeps k s (Err fault) = refl

-- a result that looks at the variables alone
pub result_steady : {A : Type 0} (r : List Datum → Result A FaultKind) → Steady (λ s. gives (r s.frame) s)
result_steady r = record { steady = λ k s. gives_keeps k s (r s.frame) }

pub stops_steady : {A : Type 0} (fault : FaultKind) → Steady {A = A} (λ s. Stops (Faults fault))
stops_steady fault = record { steady = λ k s. refl }

-- ---- turns and replies

begun_keeps : (k n : ℕ) (s : State) → Keeps k (begun n s) (begun (n + k) (more k s))
begun_keeps k zero s = tt
begun_keeps k (suc zero) s = tt
begun_keeps k (suc (suc n)) s =
    let e : suc (suc n) + k ≡ suc (suc (n + k)) = omega arith in
    let l : suc (n + k) ≡ suc n + k = omega arith in
    ap (λ m. begun m (more k s)) e ∙ ap (λ m. Goes tt (record s { left = m })) l

pub turn_steady : Steady turn
turn_steady = record { steady = λ k s. begun_keeps k s.left s }

replied_keeps : (k : ℕ) (action : Action) (s : State) (replies : List Reply) → Keeps k (replied action s replies) (replied action (more k s) replies)
replied_keeps k action s [] = refl
replied_keeps k action s (reply.Done ∷ replies) = refl
replied_keeps k action s (reply.Gave value ∷ replies) = refl
replied_keeps k action s (reply.Broke fault ∷ replies) = refl

-- an action that looks at the variables alone
pub act_steady : (a : List Datum → Action) → Steady (λ s. act (a s.frame) s)
act_steady a = record { steady = λ k s. replied_keeps k (a s.frame) s s.replies }

-- ---- loops

pub go_on_steady : (flow : Flow) (next : State → Out Flow) → Steady next → Steady (λ s. go_on flow s next)
go_on_steady On next h = h
go_on_steady (Back x) next h = goes_steady (Back x)

next_keeps : (k : ℕ) (r : Round) (s : State) (f g : State → Out Flow) → Keeps k (f s) (g (more k s)) → Keeps k (next_round r s f) (next_round r (more k s) g)
next_keeps k Over s f g h = refl
next_keeps k Again s f g h = h
next_keeps k (Leave x) s f g h = refl

module _ (round : State → Out Round) (h : Steady round) where
  -- a round and the rounds behind it
  round_keeps : (k : ℕ) (f g : State → Out Flow) → ((s : State) → Keeps k (f s) (g (more k s))) → (o o' : Out Round) → Keeps k o o' →
      Keeps k (after o (λ r s1. next_round r s1 f)) (after o' (λ r s1. next_round r s1 g))
  round_keeps k f g rest (Goes r s1) o' is =
      subst (λ p. Keeps k (next_round r s1 f) (after p (λ r s1. next_round r s1 g))) (sym is) (next_keeps k r s1 f g (rest s1))
  round_keeps k f g rest (Stops (Needs action)) o' is = ap (λ p. after p (λ r s1. next_round r s1 g)) is
  round_keeps k f g rest (Stops (Faults fault)) o' is = ap (λ p. after p (λ r s1. next_round r s1 g)) is
  round_keeps k f g rest (Stops Busy) o' is = tt

  loop_keeps : (m j k : ℕ) (s : State) → Keeps k (loop m round s) (loop (m + j) round (more k s))
  unfolding loop
  loop_keeps zero j k s = tt
  loop_keeps (suc m) j k s =
      let e : suc m + j ≡ suc (m + j) = omega arith in
      subst (λ n. Keeps k (loop (suc m) round s) (loop n round (more k s))) (sym e)
      (round_keeps k (loop m round) (loop (m + j) round) (loop_keeps m j k) (round s) (round (more k s)) (h.steady k s))

  pub repeated_steady : Steady (repeated round)
  repeated_steady = record {
    steady = λ k s.
        let e : suc s.left + k ≡ suc (s.left + k) = omega arith in
        subst (λ n. Keeps k (loop (suc s.left) round s) (loop n round (more k s))) e (loop_keeps (suc s.left) k k s);
  }

-- ---- other variables

framed_steady : {A : Type 0} (g : List Datum → State → Out A) (h : List Datum → List Datum) → ((frame : List Datum) → Steady (g frame)) →
    Steady (λ s. g s.frame (record s { frame = h s.frame }))
framed_steady g h all = record { steady = λ k s. (all s.frame).steady k (record s { frame = h s.frame }) }

pub busy_steady : {A : Type 0} → Steady {A = A} (λ s. Stops Busy)
busy_steady = record { steady = λ k s. tt }

pub make_steady : Makes (λ A f. Steady f)
make_steady kind object = act_steady (λ frame. action.Make kind object)

pub all_steady : Closed (λ A f. Steady f)
all_steady = record {
  goes = λ A x. goes_steady x;
  faults = λ A fault. stops_steady fault;
  gives = λ A r. result_steady r;
  then = λ A B f next first others. then_steady f next first others;
  turns = turn_steady;
  acts = λ a asked. act_steady a;
  framed = λ A g h all. framed_steady g h all;
  repeats = λ round h is. repeated_steady round h;
}
