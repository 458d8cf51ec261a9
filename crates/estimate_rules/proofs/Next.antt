-- What a process makes next, where so many of its objects are made.
use Rattle.std.proofs.Common.{refl, ap, sym, ◌∙◌, arith}
use Rattle.std.specs.Prelude.{◌≡◌, ℕ, zero, suc, ◌+◌, Bool, true, false, cond, List, [], ◌∷◌, ◌++◌, length, drop, slice_get, is_some, replicate, Option, Some, None}
use Rattle.orca_base.specs.declared.ids.ProcessNo.{ProcessNo}
use Rattle.orca_base.specs.declared.ids.TextNo.{TextNo}
use Rattle.link_rules.specs.Units.{Source}
use Rattle.type_rules.specs.TopLevel as top
use Rattle.type_rules.specs.TopLevel.{What, TopName}
use Rattle.type_rules.specs.Scopes.{Local}
use Rattle.value_core.specs.Datum.{Datum, Data, list_of}
use Rattle.value_core.specs.Datum as datum
use Rattle.value_core.specs.declared.action.Action.TheVariants as action
use Rattle.value_core.specs.declared.action.Reply.{Reply}
use Rattle.value_core.specs.declared.action.Reply.TheVariants as reply
use Rattle.value_core.specs.declared.meaning.Doing.TheVariants as doing
use Rattle.meaning_rules.specs.Openings.{opening}
use Rattle.meaning_rules.specs.Programs.{kind_of, process_scope, process_texts}
use Rattle.meaning_rules.specs.Functions.{all_calls}
use Rattle.meaning_rules.specs.Statements.{run_all}
use Rattle.meaning_rules.specs.Processes.{behind, doing_of, next_doing, object_type_of, own_object, text_run, variable_made, variables_made, what_run}
use Rattle.meaning_rules.specs.States.{State, Out, Goes, Stops, Needs, after, replied}
use Rattle.estimate_rules.specs.Sites.{is_object, object_variables, parameters_in, variables_in, variables_of}

-- the object variables with one variable more in front
variables_more : (l : Local) (ls : List Local) (b : Bool) → is_object l ≡ b → object_variables (l ∷ ls) ≡ cond b (l ∷ object_variables ls) (object_variables ls)
variables_more l ls b e = ap (λ c. cond c (l ∷ object_variables ls) (object_variables ls)) e

abbrev number_in : Option ℕ → ℕ
number_in None = 0
number_in (Some i) = i

abbrev local_or : Local → Option Local → Local
local_or d None = d
local_or d (Some l) = l

module _ (us : List Source) (number : ProcessNo) (l : Local) (i : ℕ) (is : object_type_of l ≡ Some i) where
  -- it makes this one, as the how manyeth of its own
  abbrev Makes : {A : Type 0} → ℕ → Out A → Type 0
  Makes count o = o ≡ Stops (Needs (action.Make (kind_of us i) (own_object number count)))

  -- with one variable more in front
  one_next : (k : Local) (ls : List Local) (count : ℕ) →
      ((count n : ℕ) (s : State) → s.replies ≡ replicate n reply.Done → slice_get (object_variables ls) n ≡ Some l → Makes (count + n) (variables_made us number ls count s)) →
      (o : Option ℕ) → object_type_of k ≡ o → (n : ℕ) (s : State) → s.replies ≡ replicate n reply.Done → slice_get (object_variables (k ∷ ls)) n ≡ Some l →
      Makes (count + n) (variable_made us number count k o (variables_made us number ls) s)
  one_next k ls count made None e n s replies at =
      let none : is_object k ≡ false = ap (λ (o : Option ℕ). is_some o) e in
      let there = ap (λ (ks : List Local). slice_get ks n) (sym (variables_more k ls false none)) ∙ at in
      ap (λ (o : Out (List Datum)). after o (λ xs s1. Goes (opening us k.type ∷ xs) s1)) (made count n s replies there)
  one_next k ls count made (Some j) e zero s replies at =
      let some : is_object k ≡ true = ap (λ (o : Option ℕ). is_some o) e in
      let there : Some k ≡ Some l = ap (λ (ks : List Local). slice_get ks 0) (sym (variables_more k ls true some)) ∙ at in
      let same : j ≡ i = ap number_in (sym e ∙ ap object_type_of (ap (local_or k) there) ∙ is) in
      let first : count ≡ count + 0 = omega arith in
      ap (λ (rs : List Reply). after (after (replied (action.Make (kind_of us j) (own_object number count)) s rs)
      (λ _ s1. Goes (datum.object number.0 count) s1)) (λ x s1. behind x (variables_made us number ls (count + 1)) s1)) replies
      ∙ ap (λ (m : ℕ). Stops (Needs (action.Make (kind_of us m) (own_object number count)))) same
      ∙ ap (λ (m : ℕ). Stops (Needs (action.Make (kind_of us i) (own_object number m)))) first
  one_next k ls count made (Some j) e (suc n) s replies at =
      let some : is_object k ≡ true = ap (λ (o : Option ℕ). is_some o) e in
      let there : slice_get (object_variables ls) n ≡ Some l = ap (λ (ks : List Local). slice_get ks (suc n)) (sym (variables_more k ls true some)) ∙ at in
      let later : (count + 1) + n ≡ count + suc n = omega arith in
      ap (λ (rs : List Reply). after (after (replied (action.Make (kind_of us j) (own_object number count)) s rs)
      (λ _ s1. Goes (datum.object number.0 count) s1)) (λ x s1. behind x (variables_made us number ls (count + 1)) s1)) replies
      ∙ ap (λ (o : Out (List Datum)). after o (λ xs s1. Goes (datum.object number.0 count ∷ xs) s1))
      (made (count + 1) n (record s { replies = replicate n reply.Done }) refl there)
      ∙ ap (λ (m : ℕ). Stops (Needs (action.Make (kind_of us i) (own_object number m)))) later

  next_made : (ls : List Local) (count n : ℕ) (s : State) → s.replies ≡ replicate n reply.Done → slice_get (object_variables ls) n ≡ Some l →
      Makes (count + n) (variables_made us number ls count s)
  next_made [] count n s replies at = absurd cc
  next_made (k ∷ ls) count n s replies at =
      one_next k ls count (λ m n1 s1 told there. next_made ls m n1 s1 told there) (object_type_of k) refl n s replies at

  -- what a process with these arguments does, where so many of its objects are made
  what_next : (args : Data) (n turns : ℕ) (t : TopName) (w : What) → length (list_of args) ≡ parameters_in w →
      slice_get (object_variables (variables_in us t.defined.by w)) n ≡ Some l →
      doing_of (what_run us number args t w (record { frame = []; replies = replicate n reply.Done; left = turns }))
      ≡ doing.At (action.Make (kind_of us i) (own_object number (suc n)))
  what_next args n turns t (top.Process ps b) many at =
      let v = process_scope us t.defined.by ps b in
      let s : State = record { frame = []; replies = replicate n reply.Done; left = turns } in
      let next : 1 + n ≡ suc n = omega arith in
      ap (λ (m : ℕ). doing_of (after (variables_made us number (drop m v.locals) 1 s) (λ xs s1.
      run_all (all_calls us) v b.statements (record s1 { frame = list_of args ++ xs })))) many
      ∙ ap (λ (o : Out (List Datum)). doing_of (after o (λ xs s1.
      run_all (all_calls us) v b.statements (record s1 { frame = list_of args ++ xs })))) (next_made (drop (length ps) v.locals) 1 n s refl at)
      ∙ ap (λ (m : ℕ). doing.At (action.Make (kind_of us i) (own_object number m))) next
  what_next args n turns t (top.Constant c) many at = absurd cc
  what_next args n turns t (top.TypeName of) many at = absurd cc
  what_next args n turns t (top.Value of n1) many at = absurd cc
  what_next args n turns t (top.Specified hs) many at = absurd cc
  what_next args n turns t (top.Implemented os) many at = absurd cc
  what_next args n turns t (top.Function ps r b) many at = absurd cc

pub next_object : (us : List Source) (text : TextNo) (t : TopName) (number : ProcessNo) (args : Data) (n turns i : ℕ) (l : Local) →
    slice_get (process_texts us) text.0 ≡ Some t → length (list_of args) ≡ parameters_in t.what →
    slice_get (object_variables (variables_of us t)) n ≡ Some l → object_type_of l ≡ Some i →
    next_doing us text number args (replicate n reply.Done) turns ≡ doing.At (action.Make (kind_of us i) (own_object number (suc n)))
next_object us text t number args n turns i l at many there is =
    ap (λ (o : Option TopName). doing_of (text_run us number args o (record { frame = []; replies = replicate n reply.Done; left = turns }))) at
    ∙ what_next us number l i is args n turns t t.what many there
