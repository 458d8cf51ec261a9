-- Each wrong rule of reads and copies is told apart by the line at which its book stops being a history, or by the marks of the cell.
use Rattle.std.proofs.Common.{◌≡◌, ℕ, Some, List, [], ◌∷◌, ◌++◌, length, refl, sym, ap, ◌∙◌, arith, subst}
use Rattle.std.specs.Prelude.{slice_get}
use Rattle.value_core.specs.Datum as datum
use Rattle.value_core.specs.Datum.{Data}
use Rattle.value_core.specs.declared.action.Instance.{Instance}
use Rattle.value_core.specs.declared.action.Line.{Line}
use Rattle.value_core.specs.declared.action.Reply.TheVariants as answer
use Rattle.value_core.specs.Meaning.{Performs, Computes}
use Rattle.value_core.specs.History.{Answers, Configuration, IsStep, LegalFrom, Process, after_line, after_lines, object_at, opening}
use Rattle.book_law.specs.Cell.{call, cell, fork, kind, line, make}
use Rattle.book_law.specs.Looks.{looks, replied, runs, try_on}
use Rattle.book_law.specs.WrongReads.{WrongReads, look}

-- a line among legal ones is a step behind those before it
step_at : (p : Performs) (q : Computes) (c : Configuration) (xs : List Line) (l : Line) (ys : List Line) → LegalFrom p q c (xs ++ l ∷ ys) → IsStep p q (after_lines p c xs) l
step_at p q c [] l ys legal = legal.0
step_at p q c (x ∷ xs) l ys legal = step_at p q (after_line p c x) xs l ys legal.1

-- a line with another call number than its process's next
no_number : (c : Configuration) (l : Line) (process : Process) → slice_get c.processes l.process.0 ≡ Some process → (l.call.0 ≡ length process.replies → ⊥) → IsStep looks runs c l → ⊥
no_number c l process is apart s =
    let e : Some process ≡ Some s.process = sym is ∙ s.exists in
    let f : s.process ≡ process = cc in
    apart (s.call ∙ ap (λ (z : Process). length z.replies) f)

-- a look by another guard than the cell's state gives
no_guard : (c : Configuration) (process number guard : ℕ) (kept : Instance) → object_at c.objects cell ≡ Some kept → (Answers (try_on kept.state 2) guard answer.Done → ⊥) → IsStep looks runs c (line process number (call 2) guard) → ⊥
no_guard c process number guard kept is apart s =
    let done = s.performed in
    let e : Some done.0 ≡ Some kept = sym done.1 ∙ is in
    let f : done.0 ≡ kept = cc in
    apart (subst (λ (z : Instance). Answers (try_on z.state 2) guard answer.Done) f done.2)

abbrev first : ℕ → Process
first n = record { text = record { 0 = 0 }; args = datum.none; replies = replied n }

abbrev other : ℕ → Process
other n = record { text = record { 0 = 1 }; args = datum.none; replies = replied n }

abbrev empty : Instance
empty = record { kind = kind; state = datum.none }

abbrev mark : Data
mark = datum.more (datum.char 1) datum.none

abbrev marked : Instance
marked = record { kind = kind; state = mark }

abbrev marked_twice : Instance
marked_twice = record { kind = kind; state = datum.more (datum.char 1) mark }

-- the lines of the first four entries
abbrev four : List Line
four = line 0 0 make 0 ∷ line 0 1 fork 0 ∷ line 0 2 (call 0) 0 ∷ line 1 0 (call 1) 1 ∷ []

no_zero : Answers (try_on mark 2) 0 answer.Done → ⊥
no_zero e = let f : 0 ≡ 1 = e.0 in cc f

no_one : Answers (try_on datum.none 2) 1 answer.Done → ⊥
no_one e = let f : 1 ≡ 0 = e.0 in cc f

two_marks : Some marked_twice ≡ Some marked → ⊥
two_marks e =
    let same : marked_twice ≡ marked = cc in
    let state : datum.more (datum.char 1) mark ≡ mark = ap (λ (i : Instance). i.state) same in
    absurd (cc state)

pub wrong_reads : WrongReads
wrong_reads = record {
  right = (
    record { process = first 0; exists = refl; call = refl; next = refl; performed = (refl, refl) },
    (
      record { process = first 1; exists = refl; call = refl; next = refl; performed = (refl, refl) },
      (
        record { process = first 2; exists = refl; call = refl; next = refl; performed = (empty, refl, (refl, refl)) },
        (
          record { process = other 0; exists = refl; call = refl; next = refl; performed = (marked, refl, (refl, refl)) },
          (
            record { process = other 1; exists = refl; call = refl; next = refl; performed = (empty, refl, (refl, refl)) },
            (
              record { process = other 2; exists = refl; call = refl; next = refl; performed = (empty, refl, (refl, refl)) },
              (
                record { process = first 3; exists = refl; call = refl; next = refl; performed = (empty, refl, (refl, refl)) },
                (
                  record { process = other 3; exists = refl; call = refl; next = refl; performed = (marked, refl, (refl, refl)) },
                  tt,
                ),
              ),
            ),
          ),
        ),
      ),
    ),
  );
  copies = refl;
  at_end = λ h. no_guard (after_lines looks (opening runs) (four ++ line 0 3 (call 0) 0 ∷ [])) 1 1 0 marked refl no_zero (step_at looks runs (opening runs) (four ++ line 0 3 (call 0) 0 ∷ []) look [] h);
  below_own = λ h. no_number (after_lines looks (opening runs) four) (line 1 2 (call 2) 0) (other 1) refl (λ e. omega (arith, e)) (step_at looks runs (opening runs) four (line 1 2 (call 2) 0) (line 0 3 (call 0) 0 ∷ line 1 1 (call 2) 1 ∷ []) h);
  newer_copies = λ h. no_guard (after_lines looks (opening runs) four) 1 1 1 empty refl no_one (step_at looks runs (opening runs) four (line 1 1 (call 2) 1) (line 0 3 (call 0) 0 ∷ []) h);
  write_as_read = two_marks;
  applied_twice = λ e. two_marks (sym e);
}
