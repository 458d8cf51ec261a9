-- Replies are used from the front: what an evaluation did with some of them it does with these alone, and others behind change nothing.
use Rattle.std.proofs.Common.{refl, ap, sym, ◌∙◌}
use Rattle.std.specs.Prelude.{◌≡◌, ℕ, zero, suc, List, [], ◌∷◌, ◌++◌, Option, Result, Ok, Err}
use Rattle.std.proofs.lemmas.List.{append_assoc}
use Rattle.orca_base.specs.declared.fault.FaultKind.{FaultKind}
use Rattle.value_core.specs.Datum.{Datum}
use Rattle.value_core.specs.declared.action.Action.{Action}
use Rattle.value_core.specs.declared.action.Action.TheVariants as action
use Rattle.value_core.specs.declared.action.Reply.{Reply}
use Rattle.value_core.specs.declared.action.Reply.TheVariants as reply
use Rattle.meaning_rules.specs.States.{State, Stop, Out, Goes, Stops, Needs, Faults, Busy, after, gives, begun, turn, replied, act}
use Rattle.meaning_rules.specs.Loops.{Flow, On, Back, Round, Over, Again, Leave, loop, repeated, next_round}
use Rattle.meaning_rules.specs.Replies.{with_replies, Fronted, Front}
use Rattle.meaning_rules.proofs.Closed.{Closed, Makes}

-- ---- one evaluation and then another

module _ {A B : Type 0} (f : State → Out A) (next : A → State → Out B) where
  -- what the second stops with behind some replies stops both
  still_behind : (s s1 : State) (x : A) (used rest : List Reply) (why : Stop) → s.replies ≡ used ++ s1.replies →
      ((rest : List Reply) → f (with_replies (used ++ rest) s) ≡ Goes x (with_replies rest s1)) →
      next x (with_replies (s1.replies ++ rest) s1) ≡ Stops why → after (f (with_replies (s.replies ++ rest) s)) next ≡ Stops why
  still_behind s s1 x used rest why are goes still =
      ap (λ rs. after (f (with_replies rs s)) next) (ap (λ rs. rs ++ rest) are ∙ append_assoc used s1.replies rest)
      ∙ (ap (λ o. after o next) (goes (s1.replies ++ rest)) ∙ still)

  behind_front : (s s1 : State) (x : A) (used : List Reply) → s.replies ≡ used ++ s1.replies →
      ((rest : List Reply) → f (with_replies (used ++ rest) s) ≡ Goes x (with_replies rest s1)) →
      (o : Out B) → Fronted (next x) s1 o → Fronted (λ t. after (f t) next) s o
  behind_front s s1 x used are goes (Goes y s2) h = (
    used ++ h.0,
    are ∙ (ap (λ rs. used ++ rs) h.1 ∙ sym (append_assoc used h.0 s2.replies)),
    λ rest. ap (λ rs. after (f (with_replies rs s)) next) (append_assoc used h.0 rest) ∙ (ap (λ o. after o next) (goes (h.0 ++ rest)) ∙ h.2 rest),
  )
  behind_front s s1 x used are goes (Stops (Needs action)) h =
      λ fault rest. still_behind s s1 x used (reply.Broke fault ∷ rest) (Faults fault) are goes (h fault rest)
  behind_front s s1 x used are goes (Stops (Faults fault)) h = λ rest. still_behind s s1 x used rest (Faults fault) are goes (h rest)
  behind_front s s1 x used are goes (Stops Busy) h = λ rest. still_behind s s1 x used rest Busy are goes (h rest)

  after_front : (s : State) (o : Out A) → Fronted f s o → ((x : A) → Front B (next x)) → Fronted (λ t. after (f t) next) s (after o next)
  after_front s (Goes x s1) h others = behind_front s s1 x h.0 h.1 h.2 (next x s1) ((others x).front s1)
  after_front s (Stops (Needs action)) h others = λ fault rest. ap (λ o. after o next) (h fault rest)
  after_front s (Stops (Faults fault)) h others = λ rest. ap (λ o. after o next) (h rest)
  after_front s (Stops Busy) h others = λ rest. ap (λ o. after o next) (h rest)

pub then_front : (A B : Type 0) (f : State → Out A) (next : A → State → Out B) → Front A f → ((x : A) → Front B (next x)) → Front B (λ s. after (f s) next)
then_front A B f next first others = record { front = λ s. after_front f next s (f s) (first.front s) others }

-- ---- what uses no reply

goes_front : (A : Type 0) (x : A) → Front A (λ s. Goes x s)
goes_front A x = record { front = λ s. ([], refl, λ rest. refl) }

faults_front : (A : Type 0) (fault : FaultKind) → Front A (λ s. Stops (Faults fault))
faults_front A fault = record { front = λ s rest. refl }

gives_fronted : (A : Type 0) (r : List Datum → Result A FaultKind) (s : State) (x : Result A FaultKind) → r s.frame ≡ x →
    Fronted (λ t. gives (r t.frame) t) s (gives x s)
gives_fronted A r s (Ok x) is = ([], refl, λ rest. ap (λ y. gives y (with_replies rest s)) is)
gives_fronted A r s (Err fault) is = λ rest. ap (λ y. gives y (with_replies (s.replies ++ rest) s)) is

gives_front : (A : Type 0) (r : List Datum → Result A FaultKind) → Front A (λ s. gives (r s.frame) s)
gives_front A r = record { front = λ s. gives_fronted A r s (r s.frame) refl }

turn_fronted : (frame : List Datum) (replies : List Reply) (left : ℕ) →
    Fronted turn (record { frame = frame; replies = replies; left = left }) (begun left (record { frame = frame; replies = replies; left = left }))
turn_fronted frame replies zero = λ rest. refl
turn_fronted frame replies (suc zero) = λ rest. refl
turn_fronted frame replies (suc (suc n)) = ([], refl, λ rest. refl)

turn_front : Front (Unit {0}) turn
turn_front = record { front = λ s. turn_fronted s.frame s.replies s.left }

-- ---- an action uses one

act_fronted : (a : List Datum → Action) (frame : List Datum) (left : ℕ) (replies : List Reply) →
    Fronted (λ s. act (a s.frame) s) (record { frame = frame; replies = replies; left = left })
    (replied (a frame) (record { frame = frame; replies = replies; left = left }) replies)
act_fronted a frame left [] = λ fault rest. refl
act_fronted a frame left (reply.Done ∷ replies) = (reply.Done ∷ [], refl, λ rest. refl)
act_fronted a frame left (reply.Gave value ∷ replies) = (reply.Gave value ∷ [], refl, λ rest. refl)
act_fronted a frame left (reply.Broke fault ∷ replies) = λ rest. refl

act_front : (a : List Datum → Action) → Front (Option Datum) (λ s. act (a s.frame) s)
act_front a = record { front = λ s. act_fronted a s.frame s.left s.replies }

pub make_front : Makes Front
make_front kind object = act_front (λ frame. action.Make kind object)

-- ---- other variables

framed_fronted : (A : Type 0) (g : List Datum → State → Out A) (h : List Datum → List Datum) (s : State) (o : Out A) →
    Fronted (g s.frame) (record s { frame = h s.frame }) o → Fronted (λ t. g t.frame (record t { frame = h t.frame })) s o
framed_fronted A g h s (Goes x s1) k = k
framed_fronted A g h s (Stops (Needs action)) k = k
framed_fronted A g h s (Stops (Faults fault)) k = k
framed_fronted A g h s (Stops Busy) k = k

framed_front : (A : Type 0) (g : List Datum → State → Out A) (h : List Datum → List Datum) → ((frame : List Datum) → Front A (g frame)) →
    Front A (λ s. g s.frame (record s { frame = h s.frame }))
framed_front A g h all = record {
  front = λ s. framed_fronted A g h s (g s.frame (record s { frame = h s.frame })) ((all s.frame).front (record s { frame = h s.frame }));
}

-- ---- rounds

next_front : (r : Round) (rounds : State → Out Flow) → Front Flow rounds → Front Flow (λ s. next_round r s rounds)
next_front Over rounds h = goes_front Flow On
next_front Again rounds h = h
next_front (Leave x) rounds h = goes_front Flow (Back x)

module _ (round : State → Out Round) (h : Front Round round) where
  pub loop_front : (n : ℕ) → Front Flow (loop n round)
  unfolding loop
  loop_front zero = record { front = λ s rest. refl }
  loop_front (suc n) = then_front Round Flow round (λ r s1. next_round r s1 (loop n round)) h (λ r. next_front r (loop n round) (loop_front n))

  repeated_fronted : (s : State) (o : Out Flow) → Fronted (loop (suc s.left) round) s o → Fronted (repeated round) s o
  repeated_fronted s (Goes x s1) k = k
  repeated_fronted s (Stops (Needs action)) k = k
  repeated_fronted s (Stops (Faults fault)) k = k
  repeated_fronted s (Stops Busy) k = k

  repeated_front : Front Flow (repeated round)
  repeated_front = record { front = λ s. repeated_fronted s (repeated round s) ((loop_front (suc s.left)).front s) }

pub fronts : Closed Front
fronts = record {
  goes = goes_front;
  faults = faults_front;
  gives = gives_front;
  then = then_front;
  turns = turn_front;
  acts = λ a asked. act_front a;
  framed = framed_front;
  repeats = λ round h is. repeated_front round h;
}
