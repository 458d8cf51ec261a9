-- A small run, computed: a call waits, another process's write lets it go on, and a read stands behind both in its place.
use Rattle.std.proofs.Common.{◌≡◌, inl, ⊎_elim, Some, None, ap, arith, List, [], ◌∷◌, length, refl}
use Rattle.orca_base.specs.declared.ids.ObjectId.{ObjectId}
use Rattle.value_core.specs.Datum.{Data}
use Rattle.value_core.specs.Datum as datum
use Rattle.value_core.specs.declared.message.Message.{Message}
use Rattle.value_core.specs.declared.action.Action.TheVariants as action
use Rattle.value_core.specs.declared.action.Reply.TheVariants as answer
use Rattle.object_manager.specs.After.{opening_copies}
use Rattle.book_law.specs.Cell.{at_first, call, cell, computes, fork, kind, line, make, message, performs, single, suspended}
use Rattle.book_law.specs.Example.{IsRun, born, first_line, opened, make_submitted, make_ordered, make_applied, fork_submitted, fork_ordered, fork_applied, wait_submitted, wait_taken, make_followed, fork_followed, mark_submitted, mark_taken, mark_heard, wait_heard, runner, second_line}
use Rattle.book_law.specs.Passes.{after_all, counted}
use Rattle.book_law.specs.Performed.{placed}
use Rattle.book_law.specs.Singles.{after_on, lines_on, singles_by}
use Rattle.value_core.specs.History.{output_kind, output_object}
use Rattle.book_law.specs.Course.{Came}
use Rattle.book_law.specs.Course.Next.{Submits, Orders, Forks, Applies, Takes_call, Hears_answer}
use Rattle.book_law.specs.Course.Came.{Opens, Then}
use Rattle.book_law.proofs.Kept.{Promised}
use Rattle.book_law.specs.Events.{In}
use Rattle.book_law.proofs.Courses.{every_run}
use Rattle.book_law.specs.Replicated.{all_replicated}
use Rattle.book_law.specs.Book.{Placed, book}

-- process 0 makes the cell, forks, and calls operation 1, which waits; process 1 reads at place 3 and at place 2, and adds a mark
abbrev list : List Message
list = message 0 0 make refl ∷ message 0 1 fork refl ∷ message 0 2 (call 1) refl ∷ message 1 2 (call 0) refl ∷ []

abbrev aside : List Placed
aside = record { place = 2; line = line 1 0 (call 2) 0 } ∷ record { place = 3; line = line 1 1 (call 2) 0 } ∷ record { place = 4; line = line 1 3 (call 2) 0 } ∷ []

its_book : book all_replicated performs list aside
    ≡ line 0 0 make 0 ∷ line 0 1 fork 0 ∷ line 1 0 (call 2) 0 ∷ line 1 1 (call 2) 0 ∷ line 1 2 (call 0) 0 ∷ line 0 2 (call 1) 1 ∷ line 1 3 (call 2) 0 ∷ []
its_book = refl

waits_before : length (after_all all_replicated performs opening_copies (message 0 0 make refl ∷ message 0 1 fork refl ∷ message 0 2 (call 1) refl ∷ [])).queue ≡ 1
waits_before = refl

free_after : (after_all all_replicated performs opening_copies list).queue ≡ []
free_after = refl

-- ---- the same cell, kept by process 0's member alone

-- process 0 makes the cell, forks, and calls operation 1, which waits at its member; process 1 makes a cell of its own, which is
-- replicated, and asks for operation 0, which lets both run
abbrev other : ObjectId
other = record { process = 1; number = 2 }

abbrev listed : List Message
listed = message 0 0 make refl ∷ message 0 1 fork refl ∷ message 1 0 (action.Make kind other) refl ∷ []

it_is_added : singles_by single performs 0 1 make ≡ at_first ∷ []
it_is_added = refl

it_is_counted : counted single performs listed ≡ (cell, kind) ∷ []
it_is_counted = refl

-- no member holds it among the replicated objects
copies_lack_it : (after_all single performs opening_copies listed).objects ≡ (output_object, record { kind = output_kind; state = datum.none }) ∷ (other, record { kind = kind; state = datum.none }) ∷ []
copies_lack_it = refl

-- the first call waits
first_waits : (after_on performs at_first (suspended 0 2 1)).queue ≡ suspended 0 2 1 ∷ []
first_waits = refl

no_line_yet : lines_on performs at_first (suspended 0 2 1) ≡ []
no_line_yet = refl

-- the second lets it run
both_run : lines_on performs (after_on performs at_first (suspended 0 2 1)) (suspended 1 1 0) ≡ line 1 1 (call 0) 0 ∷ line 0 2 (call 1) 1 ∷ []
both_run = refl

-- the owner applied three entries when it took the second call
its_own_book : book single performs listed (placed 3 (line 1 1 (call 0) 0 ∷ line 0 2 (call 1) 1 ∷ []))
    ≡ line 0 0 make 0 ∷ line 0 1 fork 0 ∷ line 1 0 (action.Make kind other) 0 ∷ line 1 1 (call 0) 0 ∷ line 0 2 (call 1) 1 ∷ []
its_own_book = refl

-- ---- that run, from event to event: process 1 calls as its first action

other_call : (m y : Message) → (m.call.0 ≡ y.call.0 → ⊥) → m ≡ y → ⊥
other_call m y apart e = apart (ap (λ (x : Message). x.call.0) e)

other_process : (m y : Message) → (m.process.0 ≡ y.process.0 → ⊥) → m ≡ y → ⊥
other_process m y apart e = apart (ap (λ (x : Message). x.process.0) e)

not_in_one : (m y : Message) → (m.call.0 ≡ y.call.0 → ⊥) → In m (y ∷ []) → ⊥
not_in_one m y apart h = ⊎_elim (λ e. other_call m y apart e) (λ u. u) h

not_in_two : (m y z : Message) → (m.call.0 ≡ y.call.0 → ⊥) → (m.call.0 ≡ z.call.0 → ⊥) → In m (y ∷ z ∷ []) → ⊥
not_in_two m y z one two h = ⊎_elim (λ e. other_call m y one e) (λ u. not_in_one m z two u) h

its_entered : In (message 1 0 (call 0) refl) (message 0 0 make refl ∷ message 0 1 fork refl ∷ message 0 2 (call 1) refl ∷ []) → ⊥
its_entered h = ⊎_elim (λ e. other_process (message 1 0 (call 0) refl) (message 0 0 make refl) (λ f. omega (arith, f)) e)
    (λ u. not_in_two (message 1 0 (call 0) refl) (message 0 1 fork refl) (message 0 2 (call 1) refl) (λ f. omega (arith, f)) (λ f. omega (arith, f)) u) h

-- it is a run
it_came : Came single performs computes wait_heard
it_came =
    let to_opened : Came single performs computes opened = Opens 0 refl in
    let to_make_submitted : Came single performs computes make_submitted = Then opened make_submitted to_opened (Submits 0 (runner 0 0 [] 0 None None) (message 0 0 make refl) refl refl (record { process = refl; call = refl; next = refl }) refl) in
    let to_make_ordered : Came single performs computes make_ordered = Then make_submitted make_ordered to_make_submitted (Orders (message 0 0 make refl) (runner 0 0 [] 0 (Some (message 0 0 make refl)) None) refl (inl refl) (λ h. h) (record { shared = λ o h. absurd h; unmade = λ o h i x is. absurd (cc is) }) refl refl) in
    let to_make_applied : Came single performs computes make_applied = Then make_ordered make_applied to_make_ordered (Applies 0 (message 0 0 make refl) refl refl) in
    let to_fork_submitted : Came single performs computes fork_submitted = Then make_applied fork_submitted to_make_applied (Submits 0 (runner 0 0 (answer.Done ∷ []) 1 None None) (message 0 1 fork refl) refl refl (record { process = refl; call = refl; next = refl }) refl) in
    let to_fork_ordered : Came single performs computes fork_ordered = Then fork_submitted fork_ordered to_fork_submitted (Forks (message 0 1 fork refl) born 1 (inl refl) (not_in_one (message 0 1 fork refl) (message 0 0 make refl) (λ f. omega (arith, f))) refl refl) in
    let to_fork_applied : Came single performs computes fork_applied = Then fork_ordered fork_applied to_fork_ordered (Applies 0 (message 0 1 fork refl) refl refl) in
    let to_wait_submitted : Came single performs computes wait_submitted = Then fork_applied wait_submitted to_fork_applied (Submits 0 (runner 0 0 (answer.Done ∷ answer.Done ∷ []) 2 None None) (message 0 2 (call 1) refl) refl refl (record { process = refl; call = refl; next = refl }) refl) in
    let to_wait_taken : Came single performs computes wait_taken = Then wait_submitted wait_taken to_wait_submitted (Takes_call 0 at_first (runner 0 0 (answer.Done ∷ answer.Done ∷ []) 2 (Some (message 0 2 (call 1) refl)) None) (suspended 0 2 1)
    (record { copy = refl; runner = refl; out = refl; new = not_in_two (message 0 2 (call 1) refl) (message 0 0 make refl) (message 0 1 fork refl) (λ f. omega (arith, f)) (λ f. omega (arith, f)); object = refl; kept = omega arith; after = omega arith }) refl) in
    let to_make_followed : Came single performs computes make_followed = Then wait_taken make_followed to_wait_taken (Applies 1 (message 0 0 make refl) refl refl) in
    let to_fork_followed : Came single performs computes fork_followed = Then make_followed fork_followed to_make_followed (Applies 1 (message 0 1 fork refl) refl refl) in
    let to_mark_submitted : Came single performs computes mark_submitted = Then fork_followed mark_submitted to_fork_followed (Submits 1 (runner 1 1 [] 2 None None) (message 1 0 (call 0) refl) refl refl (record { process = refl; call = refl; next = refl }) refl) in
    let to_mark_taken : Came single performs computes mark_taken = Then mark_submitted mark_taken to_mark_submitted (Takes_call 0 (after_on performs at_first (suspended 0 2 1)) (runner 1 1 [] 2 (Some (message 1 0 (call 0) refl)) None) (suspended 1 0 0)
    (record { copy = refl; runner = refl; out = refl; new = its_entered; object = refl; kept = omega arith; after = omega arith }) refl) in
    let to_mark_heard : Came single performs computes mark_heard = Then mark_taken mark_heard to_mark_taken (Hears_answer 1 (runner 1 1 [] 2 (Some (message 1 0 (call 0) refl)) (Some first_line)) first_line refl refl (omega arith) refl) in
    Then mark_heard wait_heard to_mark_heard (Hears_answer 0 (runner 0 0 (answer.Done ∷ answer.Done ∷ []) 2 (Some (message 0 2 (call 1) refl)) (Some second_line)) second_line refl refl (omega arith) refl)

-- and so it has a book
pub is_run : IsRun
is_run = record { came = it_came; book = refl }

its_promise : Promised single performs computes wait_heard.list wait_heard.aside wait_heard.owned wait_heard.applied wait_heard.runners
its_promise = every_run single performs computes wait_heard it_came
