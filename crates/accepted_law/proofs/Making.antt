-- What a process makes has a specification: statements come to no make, and a variable's object type goes by one.
use Rattle.std.proofs.Common.{◌≤◌, refl, ap, subst, arith}
use Rattle.std.specs.Prelude.{◌≡◌, ℕ, zero, suc, ◌+◌, true, List, [], ◌∷◌, ◌++◌, drop, take, filter, length, slice_get, Option, Some, None, Result, Ok, Err}
use Rattle.std.specs.List.{AllByRecursion}
use Rattle.std.proofs.lemmas.Option.{slice_get_within}
use Rattle.orca_base.specs.declared.fault.FaultKind.{FaultKind}
use Rattle.orca_base.specs.declared.ids.KindNo.{KindNo}
use Rattle.orca_base.specs.declared.ids.ObjectId.{ObjectId}
use Rattle.orca_base.specs.declared.ids.ProcessNo.{ProcessNo}
use Rattle.orca_syntax.specs.Syntax.{Parameter, Block}
use Rattle.link_rules.specs.Units.{Source}
use Rattle.type_rules.specs.Breaches.{IsWellTyped}
use Rattle.type_rules.specs.Scopes.{Local, Scope}
use Rattle.type_rules.specs.TopLevel as top
use Rattle.type_rules.specs.TopLevel.{What, TopName, top_names}
use Rattle.value_core.specs.Datum.{Datum, Data, list_of}
use Rattle.value_core.specs.Datum as datum
use Rattle.value_core.specs.declared.action.Action.{Action}
use Rattle.value_core.specs.declared.action.Action.TheVariants as action
use Rattle.value_core.specs.declared.action.Reply.{Reply}
use Rattle.value_core.specs.declared.action.Reply.TheVariants as reply
use Rattle.value_core.specs.declared.meaning.Doing.{Doing}
use Rattle.value_core.specs.declared.meaning.Doing.TheVariants as doing
use Rattle.meaning_rules.specs.Accepted.{AreTexts}
use Rattle.meaning_rules.specs.Functions.{all_calls}
use Rattle.meaning_rules.specs.Loops.{Flow, Round, Over, Again, Leave, loop, next_round}
use Rattle.meaning_rules.specs.Openings.{opening}
use Rattle.meaning_rules.specs.Processes.{behind, block_run, doing_of, make, object_type_of, own_object, text_run, variable_made, variables_made, what_run}
use Rattle.meaning_rules.specs.Programs.{is_specification, kind_of, process_scope, process_texts, specifications}
use Rattle.meaning_rules.specs.States.{State, Out, Goes, Stops, Needs, Faults, Busy, act, after, begun, gives, replied}
use Rattle.meaning_rules.specs.Statements.{run_all}
use Rattle.meaning_rules.proofs.Closed.{Closed, is_of_statement}
use Rattle.meaning_rules.proofs.Everywhere.{calls_holds, run_all_holds}
use Rattle.accepted_law.specs.NextNamed.{MakesKnown}
use Rattle.accepted_law.proofs.Operations.{filtered_place}
use Rattle.accepted_law.proofs.Specified.{IsSpecifiedLocal, process_specified}
use Rattle.accepted_law.proofs.Tops.{IsFineTop, tops_fine}

-- ---- a make to which an evaluation comes is of a type of which this holds

module _ (P : KindNo → Type 0) where
  abbrev Only : {A : Type 0} → Out A → Type 0
  Only (Goes x s) = Unit {0}
  Only (Stops (Needs (action.Make kind object))) = P kind
  Only (Stops (Needs (action.Call kind op object args))) = Unit {0}
  Only (Stops (Needs (action.Fork process args place_on))) = Unit {0}
  Only (Stops (Needs action.Ended)) = Unit {0}
  Only (Stops (Needs (action.Faulted fault))) = Unit {0}
  Only (Stops (Faults fault)) = Unit {0}
  Only (Stops Busy) = Unit {0}

  record MakesOnly (A : Type 0) (f : State → Out A) : Type 0 where
    only : (s : State) → Only (f s)

  after_only : (A B : Type 0) (o : Out A) (next : A → State → Out B) → Only o → ((x : A) → MakesOnly B (next x)) → Only (after o next)
  after_only A B (Goes x s) next h others = (others x).only s
  after_only A B (Stops (Needs (action.Make kind object))) next h others = h
  after_only A B (Stops (Needs (action.Call kind op object args))) next h others = tt
  after_only A B (Stops (Needs (action.Fork process args place_on))) next h others = tt
  after_only A B (Stops (Needs action.Ended)) next h others = tt
  after_only A B (Stops (Needs (action.Faulted fault))) next h others = tt
  after_only A B (Stops (Faults fault)) next h others = tt
  after_only A B (Stops Busy) next h others = tt

  then_only : (A B : Type 0) (f : State → Out A) (next : A → State → Out B) → MakesOnly A f → ((x : A) → MakesOnly B (next x)) → MakesOnly B (λ s. after (f s) next)
  then_only A B f next first others = record { only = λ s. after_only A B (f s) next (first.only s) others }

  gives_only : (A : Type 0) (r : Result A FaultKind) (s : State) → Only (gives r s)
  gives_only A (Ok x) s = tt
  gives_only A (Err fault) s = tt

  begun_only : (n : ℕ) (s : State) → Only (begun n s)
  begun_only zero s = tt
  begun_only (suc zero) s = tt
  begun_only (suc (suc n)) s = tt

  replied_only : (a : Action) → Only {A = Option Datum} (Stops (Needs a)) → (s : State) (replies : List Reply) → Only (replied a s replies)
  replied_only a h s [] = h
  replied_only a h s (reply.Done ∷ replies) = tt
  replied_only a h s (reply.Gave value ∷ replies) = tt
  replied_only a h s (reply.Broke fault ∷ replies) = tt

  statement_only : (a : Action) → is_of_statement a ≡ true → Only {A = Option Datum} (Stops (Needs a))
  statement_only (action.Make kind object) is = absurd cc
  statement_only (action.Call kind op object args) is = tt
  statement_only (action.Fork process args place_on) is = tt
  statement_only action.Ended is = tt
  statement_only (action.Faulted fault) is = tt

  next_only : (r : Round) (rounds : State → Out Flow) → MakesOnly Flow rounds → MakesOnly Flow (λ s. next_round r s rounds)
  next_only Over rounds h = record { only = λ s. tt }
  next_only Again rounds h = h
  next_only (Leave x) rounds h = record { only = λ s. tt }

  loop_only : (n : ℕ) (round : State → Out Round) → MakesOnly Round round → MakesOnly Flow (loop n round)
  unfolding loop
  loop_only zero round h = record { only = λ s. tt }
  loop_only (suc n) round h = then_only Round Flow round (λ r s1. next_round r s1 (loop n round)) h (λ r. next_only r (loop n round) (loop_only n round h))

  all_only : Closed MakesOnly
  all_only = record {
    goes = λ A x. record { only = λ s. tt };
    faults = λ A fault. record { only = λ s. tt };
    gives = λ A r. record { only = λ s. gives_only A (r s.frame) s };
    then = then_only;
    turns = record { only = λ s. begun_only s.left s };
    acts = λ a asked. record { only = λ s. replied_only (a s.frame) (statement_only (a s.frame) (asked s.frame)) s s.replies };
    framed = λ A g h all. record { only = λ s. (all s.frame).only (record s { frame = h s.frame }) };
    repeats = λ round h is. record { only = λ s. (loop_only (suc s.left) round h).only s };
  }

  -- ---- a process, where this holds of the object types of its names

  module _ (us : List Source) (number : ProcessNo) where
    abbrev HasType : Local → Type 0
    HasType l = (i : ℕ) → object_type_of l ≡ Some i → P (kind_of us i)

    make_only : (count i : ℕ) → P (kind_of us i) → MakesOnly Datum (make us number count i)
    make_only count i h =
        then_only _ _ (λ s. act (action.Make (kind_of us i) (own_object number count)) s) (λ _ s1. Goes (datum.object number.0 count) s1)
        (record { only = λ s. replied_only (action.Make (kind_of us i) (own_object number count)) h s s.replies })
        (λ _. record { only = λ s. tt })

    behind_only : (x : Datum) (others : State → Out (List Datum)) → MakesOnly (List Datum) others → MakesOnly (List Datum) (behind x others)
    behind_only x others h = then_only _ _ others (λ xs s1. Goes (x ∷ xs) s1) h (λ xs. record { only = λ s. tt })

    variable_only : (count : ℕ) (l : Local) (o : Option ℕ) (others : ℕ → State → Out (List Datum)) → ((i : ℕ) → o ≡ Some i → P (kind_of us i)) →
        ((n : ℕ) → MakesOnly (List Datum) (others n)) → MakesOnly (List Datum) (variable_made us number count l o others)
    variable_only count l None others type h = behind_only (opening us l.type) (others count) (h count)
    variable_only count l (Some i) others type h =
        then_only _ _ (make us number count i) (λ x s1. behind x (others (count + 1)) s1) (make_only count i (type i refl))
        (λ x. behind_only x (others (count + 1)) (h (count + 1)))

    variables_only : (ls : List Local) → AllByRecursion HasType ls → (count : ℕ) → MakesOnly (List Datum) (variables_made us number ls count)
    variables_only [] all count = record { only = λ s. tt }
    variables_only (l ∷ ls) all count = variable_only count l (object_type_of l) (variables_made us number ls) all.0 (variables_only ls all.1)

    dropped : (n : ℕ) (ls : List Local) → AllByRecursion HasType ls → AllByRecursion HasType (drop n ls)
    dropped zero ls all = all
    dropped (suc n) [] all = tt
    dropped (suc n) (l ∷ ls) all = dropped n ls all.1

    block_only : (args : Data) (v : Scope) (b : Block) → AllByRecursion HasType v.locals → MakesOnly Flow (block_run us number args v b)
    block_only args v b all =
        then_only _ _ (variables_made us number (drop (length (list_of args)) v.locals) 1)
        (λ xs s1. run_all (all_calls us) v b.statements (record s1 { frame = list_of args ++ xs }))
        (variables_only (drop (length (list_of args)) v.locals) (dropped (length (list_of args)) v.locals all) 1)
        (λ xs. record { only = λ s. (run_all_holds MakesOnly all_only (all_calls us) (calls_holds MakesOnly all_only us 64) v b.statements).only (record s { frame = list_of args ++ xs }) })

    what_only : ((m : List ℕ) (ps : List Parameter) (b : Block) → AllByRecursion HasType (process_scope us m ps b).locals) → (args : Data) (t : TopName) (w : What) →
        MakesOnly Flow (what_run us number args t w)
    what_only types args t (top.Process ps b) = block_only args (process_scope us t.defined.by ps b) b (types t.defined.by ps b)
    what_only types args t (top.Constant b) = record { only = λ s. tt }
    what_only types args t (top.TypeName of) = record { only = λ s. tt }
    what_only types args t (top.Value of i) = record { only = λ s. tt }
    what_only types args t (top.Specified hs) = record { only = λ s. tt }
    what_only types args t (top.Implemented os) = record { only = λ s. tt }
    what_only types args t (top.Function ps r b) = record { only = λ s. tt }

    text_only : ((m : List ℕ) (ps : List Parameter) (b : Block) → AllByRecursion HasType (process_scope us m ps b).locals) → (args : Data) (o : Option TopName) →
        MakesOnly Flow (text_run us number args o)
    text_only types args None = record { only = λ s. tt }
    text_only types args (Some t) = what_only types args t t.what

  doing_only : (out : Out Flow) → Only out → (kind : KindNo) (object : ObjectId) → doing_of out ≡ doing.At (action.Make kind object) → P kind
  doing_only (Goes flow s) h kind object is = absurd cc
  doing_only (Stops (Needs (action.Make made other))) h kind object is = subst P (ap (kind_in made) is) h
    where
      kind_in : KindNo → Doing → KindNo
      kind_in k (doing.At (action.Make kind object)) = kind
      kind_in k _ = k
  doing_only (Stops (Needs (action.Call other op at args))) h kind object is = absurd cc
  doing_only (Stops (Needs (action.Fork process args place_on))) h kind object is = absurd cc
  doing_only (Stops (Needs action.Ended)) h kind object is = absurd cc
  doing_only (Stops (Needs (action.Faulted fault))) h kind object is = absurd cc
  doing_only (Stops (Faults fault)) h kind object is = absurd cc
  doing_only (Stops Busy) h kind object is = absurd cc

-- ---- each of its names has a type that goes by a specification

abbrev IsKnown : List Source → KindNo → Type 0
IsKnown us kind = (1 ≤ kind.0) × (kind.0 ≤ length (specifications us))

pub makes_known : (us : List Source) → IsWellTyped us → AreTexts us → MakesKnown us
makes_known us typed sound text number args replies turns kind object is =
    let fine = tops_fine us typed sound in
    doing_only (IsKnown us)
    (text_run us number args (slice_get (process_texts us) text.0) (record { frame = []; replies = replies; left = turns }))
    ((text_only (IsKnown us) us number (λ m ps b. known fine (process_scope us m ps b).locals (process_specified us fine m ps b)) args (slice_get (process_texts us) text.0)).only
    (record { frame = []; replies = replies; left = turns }))
    kind object is
  where
    known : (fine : AllByRecursion (IsFineTop us) (top_names us)) (ls : List Local) → AllByRecursion (IsSpecifiedLocal us fine) ls →
        AllByRecursion (λ l. (i : ℕ) → object_type_of l ≡ Some i → IsKnown us (kind_of us i)) ls
    known fine [] all = tt
    known fine (l ∷ ls) all = (
      λ i e.
          let h = all.0 i e in
          let before = length (filter is_specification (take i (top_names us))) in
          let first : 1 ≤ suc before = omega arith in (
            first,
            slice_get_within (specifications us) before h.0 (filtered_place is_specification (top_names us) i h.0 h.1 h.2),
          ),
      known fine ls all.1,
    )
