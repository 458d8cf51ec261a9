-- Each line of an entry, and each operation beside the list, is in the book.
use Rattle.std.proofs.Common.{◌≡◌, ℕ, zero, suc, ◌+◌, ◌≤◌, ◌<◌, ⊎_elim, List, [], ◌∷◌, ◌++◌, length, sym, arith, subst}
use Rattle.std.proofs.lemmas.Bool.{cases_eq, cases_lt}
use Rattle.std.proofs.lemmas.Option.{slice_get_within}
use Rattle.value_core.specs.declared.action.Line.{Line}
use Rattle.value_core.specs.declared.message.Message.{Message}
use Rattle.value_core.specs.Meaning.{Performs}
use Rattle.object_manager.specs.After.{Copied, opening_copies}
use Rattle.book_law.specs.Passes.{Test, after, lines_after}
use Rattle.book_law.specs.Book.{Placed, aside_at, behind, book, book_from, copies_at, up_to}
use Rattle.book_law.specs.Events.{In}
use Rattle.book_law.specs.Promise.{AllInBook}
use Rattle.book_law.proofs.Books.{behind_next, cut}
use Rattle.book_law.proofs.Courses.{came_sound}
use Rattle.book_law.proofs.Objects.{in_first, in_second}
use Rattle.book_law.proofs.Replying.{in_aside}

-- what stands beside the list at a place behind these copies
in_from : (single : Test) (p : Performs) (c : Copied) (xs : List Message) (aside : List Placed) (n : ℕ) (l : Line) → c.applied < n → n ≤ c.applied + length xs → In l (aside_at n aside) → In l (book_from single p c xs aside)
in_from single p c [] aside n l lt le h = absurd (omega (arith, lt, le))
in_from single p c (x ∷ xs) aside n l lt le h =
    let here = lines_after single p c x in
    let new = aside_at (c.applied + 1) aside in
    let rest = book_from single p (after single p c x) xs aside in
    ⊎_elim
    (λ (e : n ≡ c.applied + 1). in_first l (here ++ new) rest (in_second l here new (subst (λ (m : ℕ). In l (aside_at m aside)) e h)))
    (λ apart. in_second l (here ++ new) rest (in_from single p (after single p c x) xs aside n l (omega (arith, lt, apart)) (omega (arith, le)) h))
    (cases_eq n (c.applied + 1))

at_place : (single : Test) (p : Performs) (list : List Message) (aside : List Placed) (n : ℕ) (l : Line) → n ≤ length list → In l (aside_at n aside) → In l (book single p list aside)
at_place single p list aside zero l le h = in_first l (aside_at 0 aside) (book_from single p opening_copies list aside) h
at_place single p list aside (suc n) l le h = in_second l (aside_at 0 aside) (book_from single p opening_copies list aside) (in_from single p opening_copies list aside (suc n) l (omega arith) (omega (arith, le)) h)

pub all_in_book : AllInBook
all_in_book single p q w came =
    let sound = came_sound single p q w came in
    let k = sound.kept in
    record {
      entries = λ n y l is h.
          let le = slice_get_within w.list n y is in
          let lines = lines_after single p (copies_at single p w.list n) y in
          let next = behind_next single p w.list w.aside n y is (omega (arith, le)) in
          let inside : In l (behind single p w.list w.aside n) =
          subst (λ (ls : List Line). In l ls) (sym next) (in_first l (lines ++ aside_at (suc n) w.aside) (behind single p w.list w.aside (suc n)) (in_first l lines (aside_at (suc n) w.aside) h)) in
          subst (λ (ls : List Line). In l ls) (sym (cut single p w.list w.aside n)) (in_second l (up_to single p w.list w.aside n) (behind single p w.list w.aside n) inside);
      beside = λ r h.
          let there = in_aside r w.aside h in
          ⊎_elim
          (λ (lt : length w.list < r.place). absurd (subst (λ (ls : List Line). In r.line ls) (k.held r.place lt) there))
          (λ (le : r.place ≤ length w.list). at_place single p w.list w.aside r.place r.line le there)
          (cases_lt (length w.list) r.place);
    }
