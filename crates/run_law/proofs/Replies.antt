-- The replies of a process, off the lines of a book.
use Rattle.std.proofs.Common.{◌≡◌, ◌≤◌, ℕ, zero, suc, List, [], ◌∷◌, length, take, Option, None, Some, refl, sym, ap, ◌∙◌, subst, arith}
use Rattle.std.specs.Prelude.{slice_get}
use Rattle.std.proofs.lemmas.List.{take-append-le, take_all}
use Rattle.value_core.specs.History.{Legal, Process, opening, processes_of, replies_in, replies_of}
use Rattle.value_core.specs.Meaning.{Computes, Performs}
use Rattle.value_core.specs.declared.action.Line.{Line}
use Rattle.value_core.specs.declared.action.Reply.{Reply}
use Rattle.book_law.specs.Events.{lines_by, replies_to}
use Rattle.book_law.specs.Promise.{AtMostOneMore}
use Rattle.book_law.proofs.Processes.{born_among, none_yet, replies_after}
use Rattle.run_law.specs.Replies.{RepliesByLines}

past_none : {A : Type 0} (xs : List A) (i : ℕ) → slice_get xs i ≡ None → length xs ≤ i
past_none [] i is = omega arith
past_none (x ∷ xs) zero is = absurd (cc is)
past_none (x ∷ xs) (suc i) is = let le = past_none xs i is in omega (arith, le)

pub by_lines : (p : Performs) (q : Computes) → RepliesByLines p q
by_lines p q lines i legal = go i refl
  where
    -- a process that a line forked, or none
    later : (o : Option Process) → slice_get (processes_of p q lines) i ≡ o → slice_get (opening q).processes i ≡ None → replies_of p q lines i ≡ replies_to (lines_by i lines)
    later None none before =
        ap replies_in none ∙ ap replies_to (sym (none_yet p q (opening q) lines i legal (past_none (processes_of p q lines) i none)))
    later (Some y) is before = ap replies_in is ∙ born_among p q (opening q) lines i y legal before is

    go : (n : ℕ) → i ≡ n → replies_of p q lines i ≡ replies_to (lines_by i lines)
    go zero e = subst (λ (j : ℕ). replies_of p q lines j ≡ replies_to (lines_by j lines)) (sym e) (ap replies_in (replies_after p (opening q) lines 0 _ refl))
    go (suc n) e = later (slice_get (processes_of p q lines) i) refl (ap (slice_get (opening q).processes) e)

front_of : (had all : List Reply) → AtMostOneMore had all → had ≡ take (length had) all
front_of had all few =
    sym (take_all (length had) had (omega arith)) ∙ sym (take-append-le (length had) had few.0 (omega arith)) ∙ ap (take (length had)) (sym few.1)

pub off_book : (p : Performs) (q : Computes) (lines : List Line) (i : ℕ) (had : List Reply) → Legal p q lines → AtMostOneMore had (replies_of p q lines i) → had ≡ take (length had) (replies_to (lines_by i lines))
off_book p q lines i had legal few = front_of had (replies_of p q lines i) few ∙ ap (take (length had)) (by_lines p q lines i legal)
