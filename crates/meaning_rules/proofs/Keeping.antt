-- Evaluations that leave the last of the variables, which are an object's fields, as they are.
use Rattle.std.proofs.Common.{refl, ap, sym, ◌∙◌, subst, arith, inl, inr}
use Rattle.std.specs.Prelude.{◌≡◌, ◌⊎◌, ◌<◌, ◌≤◌, ℕ, zero, suc, ◌+◌, ℤ, pos, ◌+ℤ◌, List, [], ◌∷◌, ◌++◌, length, drop, slice_set, ok_or, None, Result, Ok, Err}
use Rattle.std.proofs.lemmas.List.{set-append_left, length-set, length-append}
use Rattle.std.proofs.lemmas.Option.{slice_get_past}
use Rattle.orca_base.specs.declared.fault.FaultKind.{FaultKind}
use Rattle.orca_base.specs.declared.fault.FaultKind.TheVariants.{IndexOutside}
use Rattle.value_core.specs.Datum.{Datum}
use Rattle.value_core.specs.Datum as datum
use Rattle.value_core.specs.declared.action.Action.{Action}
use Rattle.value_core.specs.declared.action.Reply.{Reply}
use Rattle.value_core.specs.declared.action.Reply.TheVariants as reply
use Rattle.value_ops.specs.Elements.{least_of, without_least, inserted, deleted}
use Rattle.graph_values.specs.Graphs as graphs
use Rattle.value_paths.specs.Paths.{part_at}
use Rattle.meaning_rules.specs.Variables.{changed_at}
use Rattle.meaning_rules.specs.Operators.{and_then}
use Rattle.meaning_rules.specs.Operators.{fitting, integer_in}
use Rattle.meaning_rules.specs.States.{State, Stop, Out, Goes, Stops, Busy, after, gives, begun, turn, replied, act}
use Rattle.meaning_rules.specs.Variables.{Target, whole_at, held, stored, change, enlarge, store, put, drop_element, take, add_node, delete_node}
use Rattle.meaning_rules.specs.Loops.{Flow, On, Back, Round, Over, Again, Leave, go_on, loop, repeated, next_round, with_name, without_name, counted_round, count}

abbrev pub Any : {A : Type 0} → A → Type 0
Any x = Unit {0}

-- behind so many values these are kept
pub record Holds (m : ℕ) (kept : List Datum) (s : State) : Type 0 where
  pub front : List Datum
  pub long : length front ≡ m
  pub are : s.frame ≡ front ++ kept

abbrev pub Leaves : {A : Type 0} → ℕ → List Datum → (A → Type 0) → Out A → Type 0
Leaves m kept P (Goes x s) = Holds m kept s × P x
Leaves m kept P (Stops why) = Unit {0}

pub record Keeping {A : Type 0} (m : ℕ) (kept : List Datum) (P : A → Type 0) (f : State → Out A) : Type 0 where
  pub keeping : (s : State) → Holds m kept s → Leaves m kept P (f s)

-- a place that isn't one of these
abbrev pub Spares : ℕ → List Datum → ℕ → Type 0
Spares m kept place = (place < m) ⊎ (m + length kept ≤ place)

-- the same values, in another state
pub same_frame : (m : ℕ) (kept : List Datum) (s t : State) → t.frame ≡ s.frame → Holds m kept s → Holds m kept t
same_frame m kept s t same h = record { front = h.front; long = h.long; are = same ∙ h.are }

module _ (kept : List Datum) where
  pub after_leaves : {A B : Type 0} (m : ℕ) (P : A → Type 0) (Q : B → Type 0) (o : Out A) (next : A → State → Out B) → Leaves m kept P o →
      ((x : A) → P x → Keeping m kept Q (next x)) → Leaves m kept Q (after o next)
  after_leaves m P Q (Goes x s) next h others = (others x h.1).keeping s h.0
  after_leaves m P Q (Stops why) next h others = tt

  pub then_keeping : {A B : Type 0} (m : ℕ) (P : A → Type 0) (Q : B → Type 0) (f : State → Out A) (next : A → State → Out B) → Keeping m kept P f →
      ((x : A) → P x → Keeping m kept Q (next x)) → Keeping m kept Q (λ s. after (f s) next)
  then_keeping m P Q f next first others = record { keeping = λ s h. after_leaves m P Q (f s) next (first.keeping s h) others }

  pub goes_keeping : {A : Type 0} (m : ℕ) (P : A → Type 0) (x : A) → P x → Keeping m kept P (λ s. Goes x s)
  goes_keeping m P x holds = record { keeping = λ s h. (h, holds) }

  pub stops_keeping : {A : Type 0} (m : ℕ) (P : A → Type 0) (why : Stop) → Keeping m kept P (λ s. Stops why)
  stops_keeping m P why = record { keeping = λ s h. tt }

  gives_leaves : {A : Type 0} (m : ℕ) (s : State) (r : Result A FaultKind) → Holds m kept s → Leaves m kept (Any {A = A}) (gives r s)
  gives_leaves m s (Ok x) h = (h, tt)
  gives_leaves m s (Err fault) h = tt

  pub gives_keeping : {A : Type 0} (m : ℕ) (r : State → Result A FaultKind) → Keeping m kept (Any {A = A}) (λ s. gives (r s) s)
  gives_keeping m r = record { keeping = λ s h. gives_leaves m s (r s) h }

  -- ---- turns and replies

  begun_leaves : (m n : ℕ) (s : State) → Holds m kept s → Leaves m kept Any (begun n s)
  begun_leaves m zero s h = tt
  begun_leaves m (suc zero) s h = tt
  begun_leaves m (suc (suc n)) s h = (same_frame m kept s (record s { left = suc n }) refl h, tt)

  pub turn_keeping : (m : ℕ) → Keeping m kept Any turn
  turn_keeping m = record { keeping = λ s h. begun_leaves m s.left s h }

  replied_leaves : (m : ℕ) (action : Action) (s : State) (replies : List Reply) → Holds m kept s → Leaves m kept Any (replied action s replies)
  replied_leaves m action s [] h = tt
  replied_leaves m action s (reply.Done ∷ replies) h = (same_frame m kept s (record s { replies = replies }) refl h, tt)
  replied_leaves m action s (reply.Gave value ∷ replies) h = (same_frame m kept s (record s { replies = replies }) refl h, tt)
  replied_leaves m action s (reply.Broke fault ∷ replies) h = tt

  pub act_keeping : (m : ℕ) (a : State → Action) → Keeping m kept Any (λ s. act (a s) s)
  act_keeping m a = record { keeping = λ s h. replied_leaves m (a s) s s.replies h }

  -- ---- variables

  stored_holds : (m place : ℕ) (whole : Datum) (s : State) → place < m → Holds m kept s → Holds m kept (stored place whole s)
  stored_holds m place whole s less h =
      let long : length h.front ≡ m = h.long in
      record {
        front = slice_set h.front place whole;
        long = length-set h.front place whole ∙ h.long;
        are = ap (λ f. slice_set f place whole) h.are ∙ set-append_left h.front kept place whole (omega (arith, less, long));
      }

  beyond : (m : ℕ) (to : Target) (s : State) → m + length kept ≤ to.slot → Holds m kept s → whole_at to s ≡ Err IndexOutside
  beyond m to s above h =
      let long : length h.front ≡ m = h.long in
      let both : length (h.front ++ kept) ≡ length h.front + length kept = length-append h.front kept in
      let all : length s.frame ≡ length (h.front ++ kept) = ap length h.are in
      ap (λ o. ok_or o IndexOutside) (slice_get_past s.frame to.slot (omega (arith, above, long, both, all)))

  -- a variable that isn't kept is written, by what is made of its value
  write_leaves : (m : ℕ) (make : Result Datum FaultKind → Result Datum FaultKind) (to : Target) → make (Err IndexOutside) ≡ Err IndexOutside →
      Spares m kept to.slot → (s : State) → Holds m kept s →
      Leaves m kept (Any {A = Unit {0}}) (after (gives (make (whole_at to s)) s) (λ whole s1. Goes tt (stored to.slot whole s1)))
  write_leaves m make to strict (inl less) s h =
      after_leaves m Any Any (gives (make (whole_at to s)) s) (λ whole s1. Goes tt (stored to.slot whole s1)) (gives_leaves m s (make (whole_at to s)) h)
      (λ whole _. record { keeping = λ s1 h1. (stored_holds m to.slot whole s1 less h1, tt) })
  write_leaves m make to strict (inr above) s h =
      subst (λ r. Leaves m kept (Any {A = Unit {0}}) (after (gives r s) (λ whole s1. Goes tt (stored to.slot whole s1))))
      (sym (ap make (beyond m to s above h) ∙ strict)) tt

  pub change_keeping : (m : ℕ) (to : Target) (by : Datum → Result Datum FaultKind) → Spares m kept to.slot → Keeping m kept Any (change to by)
  change_keeping m to by spares = record { keeping = λ s h. write_leaves m (λ r. and_then r (changed_at to.path by)) to refl spares s h }

  pub enlarge_keeping : (m : ℕ) (to : Target) (by : Datum → Result Datum FaultKind) → Spares m kept to.slot → Keeping m kept Any (enlarge to by)
  enlarge_keeping m to by spares =
      record { keeping = λ s h. write_leaves m (λ r. and_then (and_then r (changed_at to.path by)) fitting) to refl spares s h }

  pub store_keeping : (m : ℕ) (to : Target) (x : Datum) → Spares m kept to.slot → Keeping m kept Any (store to x)
  store_keeping m to x spares = enlarge_keeping m to (λ old. Ok x) spares

  pub put_keeping : (m : ℕ) (to : Target) (x : Datum) → Spares m kept to.slot → Keeping m kept Any (put to x)
  put_keeping m to x spares = enlarge_keeping m to (λ all. Ok (inserted x all)) spares

  pub drop_keeping : (m : ℕ) (to : Target) (x : Datum) → Spares m kept to.slot → Keeping m kept Any (drop_element to x)
  drop_keeping m to x spares = change_keeping m to (λ all. Ok (deleted x all)) spares

  held_keeping : (m : ℕ) (to : Target) → Keeping m kept Any (held to)
  held_keeping m to = gives_keeping m (λ s. and_then (whole_at to s) (part_at to.path))

  pub take_keeping : (m : ℕ) (to : Target) → Spares m kept to.slot → Keeping m kept Any (take to)
  take_keeping m to spares =
      then_keeping m Any Any _ _ (held_keeping m to) (λ all _.
      then_keeping m Any Any _ _ (gives_keeping m (λ s. least_of all)) (λ least _.
      then_keeping m Any Any _ _ (change_keeping m to (λ old. Ok (without_least old)) spares) (λ x _. goes_keeping m Any least tt)))

  pub add_keeping : (m : ℕ) (to : Target) (fresh : Datum) → Spares m kept to.slot → Keeping m kept Any (add_node to fresh)
  add_keeping m to fresh spares =
      then_keeping m Any Any _ _ (held_keeping m to) (λ graph _.
      then_keeping m Any Any _ _ (gives_keeping m (λ s. graphs.added fresh graph)) (λ new _.
      then_keeping m Any Any _ _ (store_keeping m to new.1 spares) (λ x _. goes_keeping m Any _ tt)))

  pub delete_keeping : (m : ℕ) (to : Target) (name : Datum) → Spares m kept to.slot → Keeping m kept Any (delete_node to name)
  delete_keeping m to name spares =
      then_keeping m Any Any _ _ (change_keeping m to (graphs.deleted (integer_in name)) spares) (λ x _. goes_keeping m Any None tt)

  -- ---- loops

  pub go_on_keeping : (m : ℕ) (flow : Flow) (next : State → Out Flow) → Keeping m kept Any next → Keeping m kept Any (λ s. go_on flow s next)
  go_on_keeping m On next h = h
  go_on_keeping m (Back x) next h = goes_keeping m Any (Back x) tt

  next_keeping : (m : ℕ) (r : Round) (rounds : State → Out Flow) → Keeping m kept Any rounds → Keeping m kept Any (λ s. next_round r s rounds)
  next_keeping m Over rounds h = goes_keeping m Any On tt
  next_keeping m Again rounds h = h
  next_keeping m (Leave x) rounds h = goes_keeping m Any (Back x) tt

  loop_keeping : (m n : ℕ) (round : State → Out Round) → Keeping m kept Any round → Keeping m kept Any (loop n round)
  unfolding loop
  loop_keeping m zero round h = stops_keeping m Any Busy
  loop_keeping m (suc n) round h = then_keeping m Any Any _ _ h (λ r _. next_keeping m r (loop n round) (loop_keeping m n round h))

  pub repeated_keeping : (m : ℕ) (round : State → Out Round) → Keeping m kept Any round → Keeping m kept Any (repeated round)
  repeated_keeping m round h = record { keeping = λ s holds. (loop_keeping m (suc s.left) round h).keeping s holds }

  -- without the name in front
  dropped : (m : ℕ) (front : List Datum) (s : State) → length front ≡ suc m → s.frame ≡ front ++ kept → Holds m kept (without_name s)
  dropped m [] s long are = absurd (omega (arith, long))
  dropped m (x ∷ front) s long are = record { front = front; long = omega (arith, long); are = ap (λ f. drop 1 f) are }

  counted_keeping : (m : ℕ) (i : ℤ) (body : State → Out Flow) → Keeping (suc m) kept Any body → Keeping m kept Any (counted_round i body)
  counted_keeping m i body h = then_keeping m Any Any _ _ (turn_keeping m) (λ _ _. record {
    keeping = λ s holds.
        inside (body (with_name (datum.int i) s))
        (h.keeping (with_name (datum.int i) s)
        (record { front = datum.int i ∷ holds.front; long = ap suc holds.long; are = ap (λ f. datum.int i ∷ f) holds.are }));
  })
    where
      inside : (o : Out Flow) → Leaves (suc m) kept Any o → Leaves m kept (Any {A = Flow}) (after o (λ flow s2. Goes flow (without_name s2)))
      inside (Goes flow s2) left = (dropped m left.0.front s2 left.0.long left.0.are, tt)
      inside (Stops why) left = tt

  pub count_keeping : (m n : ℕ) (i : ℤ) (body : State → Out Flow) → Keeping (suc m) kept Any body → Keeping m kept Any (count n i body)
  count_keeping m zero i body h = goes_keeping m Any On tt
  count_keeping m (suc n) i body h =
      then_keeping m Any Any _ _ (counted_keeping m i body h) (λ flow _.
      go_on_keeping m flow (count n (i +ℤ pos 1) body) (count_keeping m n (i +ℤ pos 1) body h))
