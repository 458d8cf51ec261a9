-- That what a process does next, once it isn't busy, is the same for every greater number of turns, and where it needs no reply with more
-- replies.
use Rattle.std.proofs.Common.{refl, ap, ◌∙◌}
use Rattle.std.proofs.lemmas.List.{append_assoc}
use Rattle.std.specs.Prelude.{◌≡◌, ℕ, ◌++◌, List, true, Option, Result, Ok, Err, [], ◌∷◌, zero, suc, slice_get}
use Rattle.orca_base.specs.declared.fault.FaultKind.{FaultKind}
use Rattle.value_core.specs.Datum.{Datum}
use Rattle.value_core.specs.Performable.{is_performable}
use Rattle.value_core.specs.declared.action.Action.{Action}
use Rattle.value_core.specs.declared.action.Action.TheVariants as action
use Rattle.value_core.specs.declared.action.Reply.{Reply}
use Rattle.value_core.specs.declared.action.Reply.TheVariants as reply
use Rattle.value_core.specs.declared.meaning.Doing.TheVariants as doing
use Rattle.link_rules.specs.Units.{Source}
use Rattle.meaning_rules.specs.Programs.{process_texts}
use Rattle.meaning_rules.specs.States.{State, Out, Goes, Stops, Needs, Faults, Busy, after, gives, begun, replied}
use Rattle.meaning_rules.specs.Loops.{Flow, Round, Over, Again, Leave, loop, next_round}
use Rattle.meaning_rules.specs.Calls.{Calls, Passed}
use Rattle.meaning_rules.specs.Functions.{calls}
use Rattle.meaning_rules.specs.Processes.{doing_of, text_run}
use Rattle.meaning_rules.specs.Settled.{IsSettled}
use Rattle.meaning_rules.specs.Replies.{Fronted, Front, UsesFront, IsOver, StaysOver}
use Rattle.meaning_rules.proofs.Closed.{Closed, Makes, is_of_statement}
use Rattle.meaning_rules.proofs.Everywhere as everywhere
use Rattle.meaning_rules.proofs.Everywhere.{text_holds}
use Rattle.meaning_rules.proofs.Fronts.{fronts, loop_front, make_front}
use Rattle.meaning_rules.proofs.Steady.{Keeps, Steady, all_steady, busy_steady, make_steady}

-- the same is done next
doing_kept : (k : ℕ) (o o' : Out Flow) → Keeps k o o' → (doing_of o ≡ doing.Busy → ⊥) → doing_of o' ≡ doing_of o
doing_kept k (Goes flow s) o' is settled = ap doing_of is
doing_kept k (Stops (Needs action)) o' is settled = ap doing_of is
doing_kept k (Stops (Faults fault)) o' is settled = ap doing_of is
doing_kept k (Stops Busy) o' is settled = absurd (settled refl)

pub is_settled : (us : List Source) → IsSettled us
is_settled us text number args replies n k settled =
    doing_kept k _ _ ((text_holds (λ A f. Steady f) all_steady make_steady us number busy_steady args (slice_get (process_texts us) text.0)).steady k (record { frame = []; replies = replies; left = n })) settled

-- ---- replies

-- an action that is needed is one that gets a reply
abbrev Waits : {A : Type 0} → Out A → Type 0
Waits (Goes x s) = Unit {0}
Waits (Stops (Needs action)) = is_performable action ≡ true
Waits (Stops (Faults fault)) = Unit {0}
Waits (Stops Busy) = Unit {0}

record Waiting (A : Type 0) (f : State → Out A) : Type 0 where
  waits : (s : State) → Waits (f s)

after_waits : (A B : Type 0) (o : Out A) (next : A → State → Out B) → Waits o → ((x : A) → Waiting B (next x)) → Waits (after o next)
after_waits A B (Goes x s) next h others = (others x).waits s
after_waits A B (Stops (Needs action)) next h others = h
after_waits A B (Stops (Faults fault)) next h others = tt
after_waits A B (Stops Busy) next h others = tt

then_waiting : (A B : Type 0) (f : State → Out A) (next : A → State → Out B) → Waiting A f → ((x : A) → Waiting B (next x)) →
    Waiting B (λ s. after (f s) next)
then_waiting A B f next first others = record { waits = λ s. after_waits A B (f s) next (first.waits s) others }

gives_waits : (A : Type 0) (r : Result A FaultKind) (s : State) → Waits (gives r s)
gives_waits A (Ok x) s = tt
gives_waits A (Err fault) s = tt

begun_waits : (n : ℕ) (s : State) → Waits (begun n s)
begun_waits zero s = tt
begun_waits (suc zero) s = tt
begun_waits (suc (suc n)) s = tt

-- what statements come to gets a reply
statement_performs : (a : Action) → is_of_statement a ≡ true → is_performable a ≡ true
statement_performs (action.Call kind op object args) is = refl
statement_performs (action.Fork process args place_on) is = refl
statement_performs (action.Make kind object) is = refl
statement_performs action.Ended is = is
statement_performs (action.Faulted fault) is = is

replied_waits : (a : Action) → is_performable a ≡ true → (s : State) (replies : List Reply) → Waits (replied a s replies)
replied_waits a performable s [] = performable
replied_waits a performable s (reply.Done ∷ replies) = tt
replied_waits a performable s (reply.Gave value ∷ replies) = tt
replied_waits a performable s (reply.Broke fault ∷ replies) = tt

next_waiting : (r : Round) (rounds : State → Out Flow) → Waiting Flow rounds → Waiting Flow (λ s. next_round r s rounds)
next_waiting Over rounds h = record { waits = λ s. tt }
next_waiting Again rounds h = h
next_waiting (Leave x) rounds h = record { waits = λ s. tt }

loop_waiting : (n : ℕ) (round : State → Out Round) → Waiting Round round → Waiting Flow (loop n round)
unfolding loop
loop_waiting zero round h = record { waits = λ s. tt }
loop_waiting (suc n) round h = then_waiting Round Flow round (λ r s1. next_round r s1 (loop n round)) h (λ r. next_waiting r (loop n round) (loop_waiting n round h))

make_waiting : Makes Waiting
make_waiting kind object = record { waits = λ s. replied_waits (action.Make kind object) refl s s.replies }

all_waiting : Closed Waiting
all_waiting = record {
  goes = λ A x. record { waits = λ s. tt };
  faults = λ A fault. record { waits = λ s. tt };
  gives = λ A r. record { waits = λ s. gives_waits A (r s.frame) s };
  then = then_waiting;
  turns = record { waits = λ s. begun_waits s.left s };
  acts = λ a asked. record { waits = λ s. replied_waits (a s.frame) (statement_performs (a s.frame) (asked s.frame)) s s.replies };
  framed = λ A g h all. record { waits = λ s. (all s.frame).waits (record s { frame = h s.frame }) };
  repeats = λ round h is. record { waits = λ s. (loop_waiting (suc s.left) round h).waits s };
}

module _ (us : List Source) (levels : ℕ) where
  abbrev call : Calls
  call = calls us levels

  call_front : (i : ℕ) (given : List Passed) → Front (Option Datum) (call i given)
  call_front = everywhere.calls_holds Front fronts us levels

pub uses_front : (us : List Source) → UsesFront us
uses_front us = record {
  values = λ levels. everywhere.eval_holds Front fronts (call us levels) (call_front us levels);
  links = λ levels. everywhere.links_holds Front fronts (call us levels) (call_front us levels);
  paths = λ levels. everywhere.path_holds Front fronts (call us levels) (call_front us levels);
  rows = λ levels. everywhere.all_holds Front fronts (call us levels) (call_front us levels);
  passed = λ levels. everywhere.arguments_holds Front fronts (call us levels) (call_front us levels);
  targets = λ levels. everywhere.target_holds Front fronts (call us levels) (call_front us levels);
  statement = λ levels. everywhere.run_holds Front fronts (call us levels) (call_front us levels);
  statements = λ levels. everywhere.run_all_holds Front fronts (call us levels) (call_front us levels);
  arms = λ levels. everywhere.arms_holds Front fronts (call us levels) (call_front us levels);
  rounds = λ k round h. loop_front round h k;
  counted = everywhere.count_holds Front fronts;
  functions = call_front us;
  makes = everywhere.variables_holds Front fronts make_front us;
}

performs_not_over : (a : Action) → is_performable a ≡ true → IsOver (doing.At a) → ⊥
performs_not_over (action.Make kind object) is over = over
performs_not_over (action.Call kind op object args) is over = over
performs_not_over (action.Fork process args place_on) is over = over
performs_not_over action.Ended is over = absurd cc
performs_not_over (action.Faulted fault) is over = absurd cc

over_kept : (f : State → Out Flow) (s : State) (more : List Reply) (o : Out Flow) → f s ≡ o → Waits o → Fronted f s o → IsOver (doing_of o) →
    doing_of (f (record s { replies = s.replies ++ more })) ≡ doing_of o
over_kept f s more (Goes flow s1) is waits h over =
    ap (λ rs. doing_of (f (record s { replies = rs ++ more }))) h.1
    ∙ (ap (λ rs. doing_of (f (record s { replies = rs }))) (append_assoc h.0 s1.replies more) ∙ ap doing_of (h.2 (s1.replies ++ more)))
over_kept f s more (Stops (Needs a)) is waits h over = absurd (performs_not_over a waits over)
over_kept f s more (Stops (Faults fault)) is waits h over = ap doing_of (h more)
over_kept f s more (Stops Busy) is waits h over = ap doing_of (h more)

busy_front : Front Flow (λ s. Stops Busy)
busy_front = record { front = λ s rest. refl }

pub stays_over : (us : List Source) → StaysOver us
stays_over us text number args replies more turns over =
    let s : State = record { frame = []; replies = replies; left = turns } in
    over_kept (text_run us number args (slice_get (process_texts us) text.0)) s more _ refl
    ((text_holds Waiting all_waiting make_waiting us number (record { waits = λ t. tt }) args (slice_get (process_texts us) text.0)).waits s)
    ((text_holds Front fronts make_front us number busy_front args (slice_get (process_texts us) text.0)).front s) over
