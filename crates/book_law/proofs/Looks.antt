-- The second computed run.
use Rattle.std.proofs.Common.{◌≡◌, ◌==◌, ◌+◌, ◌*◌, inl, inr, ℕ, Bool, true, false, Some, List, [], ◌∷◌, refl, sym, ap, ◌∙◌, arith, if◌then◌else◌}
use Rattle.std.specs.Prelude.{slice_get}
use Rattle.std.proofs.lemmas.Bool.{eq-eqb}
use Rattle.value_core.specs.Datum as datum
use Rattle.value_core.specs.declared.message.Message.{Message}
use Rattle.value_core.specs.declared.action.Instance.{Instance}
use Rattle.book_law.specs.Cell.{call, cell, kind, line}
use Rattle.book_law.specs.Course.{Came}
use Rattle.book_law.specs.Course.Next.{Submits, Orders, Forks, Applies, Reads_at}
use Rattle.book_law.specs.Course.Came.{Opens, Then}
use Rattle.book_law.specs.Events.{In, asking}
use Rattle.book_law.specs.Example.{born}
use Rattle.book_law.specs.Looks.{IsLooking, again_applied, again_followed, again_ordered, again_submitted, first, fork_applied, fork_followed, fork_ordered, fork_submitted, forks, looked, looked_again, looked_twice, looks, make_applied, make_followed, make_ordered, make_submitted, makes, mark_applied, mark_followed, mark_ordered, mark_submitted, marks, marks_again, opened, other, runs, seen_late, take_applied, take_followed, take_ordered, take_submitted, takes}
use Rattle.book_law.specs.Replicated.{all_replicated}
use Rattle.book_law.specs.Singles.{Single}

-- ---- which messages the list lacks

-- a number that tells the five messages apart
abbrev key : Message → ℕ
key m = m.process.0 + 2 * m.call.0

abbrev lacks : ℕ → List Message → Bool
lacks k [] = true
lacks k (y ∷ ys) = if k == key y then false else lacks k ys

not_in : (m : Message) (ys : List Message) → lacks (key m) ys ≡ true → In m ys → ⊥
not_in m [] e h = h
not_in m (y ∷ ys) e (inl f) =
    let same : (key m == key y) ≡ true = eq-eqb (key m) (key y) (ap key f) in
    let g : false ≡ true = sym (ap (λ b. if b then false else lacks (key m) ys) same) ∙ e in
    absurd (cc g)
not_in m (y ∷ ys) e (inr h) = go (key m == key y) e (λ rest. not_in m ys rest h)
  where
    go : (b : Bool) → (if b then false else lacks (key m) ys) ≡ true → (lacks (key m) ys ≡ true → ⊥) → ⊥
    go true f ih = cc f
    go false f ih = ih f

none_owned : (i : ℕ) (x : Single) → slice_get [] i ≡ Some x → ⊥
none_owned i x is = cc is

-- ---- event by event

to_fork_followed : Came all_replicated looks runs fork_followed
to_fork_followed =
    let to_opened : Came all_replicated looks runs opened = Opens 0 refl in
    let to_make_submitted : Came all_replicated looks runs make_submitted = Then opened make_submitted to_opened (Submits 0 (first 0 0) makes refl refl (record { process = refl; call = refl; next = refl }) refl) in
    let to_make_ordered : Came all_replicated looks runs make_ordered = Then make_submitted make_ordered to_make_submitted (Orders makes (asking makes (first 0 0)) refl (inl refl) (not_in makes [] refl) (record { shared = λ o h. refl; unmade = λ o h i x is same. none_owned i x is }) refl refl) in
    let to_make_applied : Came all_replicated looks runs make_applied = Then make_ordered make_applied to_make_ordered (Applies 0 makes refl refl) in
    let to_fork_submitted : Came all_replicated looks runs fork_submitted = Then make_applied fork_submitted to_make_applied (Submits 0 (first 1 1) forks refl refl (record { process = refl; call = refl; next = refl }) refl) in
    let to_fork_ordered : Came all_replicated looks runs fork_ordered = Then fork_submitted fork_ordered to_fork_submitted (Forks forks born 1 (inl refl) (not_in forks (makes ∷ []) refl) refl refl) in
    let to_fork_applied : Came all_replicated looks runs fork_applied = Then fork_ordered fork_applied to_fork_ordered (Applies 0 forks refl refl) in
    let to_make_followed : Came all_replicated looks runs make_followed = Then fork_applied make_followed to_fork_applied (Applies 1 makes refl refl) in
    Then make_followed fork_followed to_make_followed (Applies 1 forks refl refl)

to_mark_applied : Came all_replicated looks runs mark_applied
to_mark_applied =
    let to_take_submitted : Came all_replicated looks runs take_submitted = Then fork_followed take_submitted to_fork_followed (Submits 1 (other 0 2) takes refl refl (record { process = refl; call = refl; next = refl }) refl) in
    let to_take_ordered : Came all_replicated looks runs take_ordered = Then take_submitted take_ordered to_take_submitted (Orders takes (asking takes (other 0 2)) refl (inl refl) (not_in takes (makes ∷ forks ∷ []) refl) (record { shared = λ o h. refl; unmade = λ o h i x is same. none_owned i x is }) refl refl) in
    let to_take_applied : Came all_replicated looks runs take_applied = Then take_ordered take_applied to_take_ordered (Applies 0 takes refl refl) in
    let to_mark_submitted : Came all_replicated looks runs mark_submitted = Then take_applied mark_submitted to_take_applied (Submits 0 (first 2 2) marks refl refl (record { process = refl; call = refl; next = refl }) refl) in
    let to_mark_ordered : Came all_replicated looks runs mark_ordered = Then mark_submitted mark_ordered to_mark_submitted (Orders marks (asking marks (first 2 2)) refl (inl refl) (not_in marks (makes ∷ forks ∷ takes ∷ []) refl) (record { shared = λ o h. refl; unmade = λ o h i x is same. none_owned i x is }) refl refl) in
    Then mark_ordered mark_applied to_mark_ordered (Applies 0 marks refl refl)

to_mark_followed : Came all_replicated looks runs mark_followed
to_mark_followed =
    let to_again_submitted : Came all_replicated looks runs again_submitted = Then mark_applied again_submitted to_mark_applied (Submits 0 (first 3 4) marks_again refl refl (record { process = refl; call = refl; next = refl }) refl) in
    let to_again_ordered : Came all_replicated looks runs again_ordered = Then again_submitted again_ordered to_again_submitted (Orders marks_again (asking marks_again (first 3 4)) refl (inl refl) (not_in marks_again (makes ∷ forks ∷ takes ∷ marks ∷ []) refl) (record { shared = λ o h. refl; unmade = λ o h i x is same. none_owned i x is }) refl refl) in
    let to_again_applied : Came all_replicated looks runs again_applied = Then again_ordered again_applied to_again_ordered (Applies 0 marks_again refl refl) in
    let to_take_followed : Came all_replicated looks runs take_followed = Then again_applied take_followed to_again_applied (Applies 1 takes refl refl) in
    Then take_followed mark_followed to_take_followed (Applies 1 marks refl refl)

abbrev empty : Instance
empty = record { kind = kind; state = datum.none }

abbrev marked : Instance
marked = record { kind = kind; state = datum.more (datum.char 1) datum.none }

to_seen_late : Came all_replicated looks runs seen_late
to_seen_late =
    let to_looked : Came all_replicated looks runs looked = Then mark_followed looked to_mark_followed (Reads_at 1 (other 1 4) 4 (line 1 1 (call 2) 0) refl
    (record { free = refl; after = omega arith; before = omega arith; process = refl; call = refl; next = refl; is_read = record { kind = kind; op = record { 0 = 2 }; object = cell; args = datum.none; is = refl; performed = (empty, refl, (refl, refl)); shared = refl; keeps = refl } }) refl) in
    let to_looked_twice : Came all_replicated looks runs looked_twice = Then looked looked_twice to_looked (Reads_at 1 (other 2 4) 4 (line 1 2 (call 2) 0) refl
    (record { free = refl; after = omega arith; before = omega arith; process = refl; call = refl; next = refl; is_read = record { kind = kind; op = record { 0 = 2 }; object = cell; args = datum.none; is = refl; performed = (empty, refl, (refl, refl)); shared = refl; keeps = refl } }) refl) in
    let to_again_followed : Came all_replicated looks runs again_followed = Then looked_twice again_followed to_looked_twice (Applies 1 marks_again refl refl) in
    let to_looked_again : Came all_replicated looks runs looked_again = Then again_followed looked_again to_again_followed (Reads_at 1 (other 3 4) 5 (line 1 3 (call 2) 1) refl
    (record { free = refl; after = omega arith; before = omega arith; process = refl; call = refl; next = refl; is_read = record { kind = kind; op = record { 0 = 2 }; object = cell; args = datum.none; is = refl; performed = (marked, refl, (refl, refl)); shared = refl; keeps = refl } }) refl) in
    Then looked_again seen_late to_looked_again (Applies 2 makes refl refl)

pub is_looking : IsLooking
is_looking = record { came = to_seen_late; book = refl; waits = refl; runs_on = refl }
