-- The book has as many lines as were performed.
use Rattle.std.proofs.Common.{◌≡◌, ℕ, zero, suc, ◌+◌, ◌≤◌, ◌<◌, ◌==◌, Bool, true, false, cond, leb, Some, List, [], ◌∷◌, ◌++◌, length, take, refl, sym, ap, ◌∙◌, arith, append-nil, length-append}
use Rattle.std.specs.Prelude.{slice_get}
use Rattle.std.proofs.lemmas.Bool.{eqb-true, eqb-false, eq-eqb, leb-true, leb-false}
use Rattle.std.proofs.lemmas.Option.{slice_get_within}
use Rattle.value_core.specs.declared.action.Line.{Line}
use Rattle.value_core.specs.declared.message.Message.{Message}
use Rattle.value_core.specs.Meaning.{Performs}
use Rattle.book_law.specs.Passes.{Test, lines_after}
use Rattle.book_law.specs.Book.{aside_at, book, copies_at, up_to}
use Rattle.book_law.specs.declared.placing.Placed.{Placed}
use Rattle.book_law.specs.Performed.{Performed}
use Rattle.book_law.proofs.Books.{book-append, copies_applied, take_at, up_to_all}
use Rattle.book_law.proofs.Processes.{get_some}

-- how many have a place up to n
abbrev within : ℕ → List Placed → ℕ
within n [] = 0
within n (r ∷ rs) = cond (leb r.place n) 1 0 + within n rs

within_first : (xs : List Placed) → within 0 xs ≡ length (aside_at 0 xs)
within_first [] = refl
within_first (r ∷ rs) = go (leb r.place 0) (r.place == 0) refl refl (within_first rs)
  where
    go : (a c : Bool) → leb r.place 0 ≡ a → (r.place == 0) ≡ c → within 0 rs ≡ length (aside_at 0 rs)
        → cond a 1 0 + within 0 rs ≡ length (cond c (r.line ∷ aside_at 0 rs) (aside_at 0 rs))
    go true true la lc h = omega (arith, h)
    go false false la lc h = omega (arith, h)
    go true false la lc h = absurd (eqb-false r.place 0 lc (omega (arith, leb-true r.place 0 la)))
    go false true la lc h = absurd (omega (arith, leb-false r.place 0 la, eqb-true r.place 0 lc))

within_next : (n : ℕ) (xs : List Placed) → within (suc n) xs ≡ within n xs + length (aside_at (suc n) xs)
within_next n [] = refl
within_next n (r ∷ rs) = go (leb r.place n) (leb r.place (suc n)) (r.place == suc n) refl refl refl (within_next n rs)
  where
    go : (a b c : Bool) → leb r.place n ≡ a → leb r.place (suc n) ≡ b → (r.place == suc n) ≡ c
        → within (suc n) rs ≡ within n rs + length (aside_at (suc n) rs)
        → cond b 1 0 + within (suc n) rs ≡ (cond a 1 0 + within n rs) + length (cond c (r.line ∷ aside_at (suc n) rs) (aside_at (suc n) rs))
    go true true false la lb lc h = omega (arith, h)
    go false true true la lb lc h = omega (arith, h)
    go false false false la lb lc h = omega (arith, h)
    go true true true la lb lc h = absurd (omega (arith, leb-true r.place n la, eqb-true r.place (suc n) lc))
    go true false c la lb lc h = absurd (omega (arith, leb-true r.place n la, leb-false r.place (suc n) lb))
    go false true false la lb lc h =
        absurd (eqb-false r.place (suc n) lc (omega (arith, leb-false r.place n la, leb-true r.place (suc n) lb)))
    go false false true la lb lc h = absurd (omega (arith, leb-false r.place (suc n) lb, eqb-true r.place (suc n) lc))

no_head : (c : Bool) (l : Line) (ls : List Line) → cond c (l ∷ ls) ls ≡ [] → ls ≡ []
no_head true l ls is = absurd (cc is)
no_head false l ls is = is

no_line : (c : Bool) (l : Line) (ls : List Line) → c ≡ true → cond c (l ∷ ls) ls ≡ [] → ⊥
no_line true l ls c is = absurd (cc is)
no_line false l ls c is = absurd (cc c)

within_all : (n : ℕ) (xs : List Placed) → ((m : ℕ) → n < m → aside_at m xs ≡ []) → within n xs ≡ length xs
within_all n [] none = refl
within_all n (r ∷ rs) none =
    go (leb r.place n) refl (within_all n rs (λ m lt. no_head (r.place == m) r.line (aside_at m rs) (none m lt)))
  where
    go : (a : Bool) → leb r.place n ≡ a → within n rs ≡ length rs → cond a 1 0 + within n rs ≡ suc (length rs)
    go true la h = omega (arith, h)
    go false la h =
        absurd (no_line (r.place == r.place) r.line (aside_at r.place rs) (eq-eqb r.place r.place refl) (none r.place (leb-false r.place n la)))

up_to_next : (single : Test) (p : Performs) (list : List Message) (aside : List Placed) (n : ℕ) (y : Message) → slice_get list n ≡ Some y
    → up_to single p list aside (suc n) ≡ up_to single p list aside n ++ (lines_after single p (copies_at single p list n) y ++ aside_at (suc n) aside)
up_to_next single p list aside n y is =
    let lt = slice_get_within list n y is in
    let e = copies_applied single p list n (omega (arith, lt)) in
    let c = copies_at single p list n in
    ap (λ (l : List Message). book single p l aside) (take_at list n y is)
    ∙ book-append single p (take n list) (y ∷ []) aside
    ∙ ap (λ (ls : List Line). up_to single p list aside n ++ ls) (append-nil (lines_after single p c y ++ aside_at (c.applied + 1) aside))
    ∙ ap (λ m. up_to single p list aside n ++ (lines_after single p c y ++ aside_at m aside)) (let f : c.applied + 1 ≡ suc n = omega (arith, e) in f)

counted_to : (single : Test) (p : Performs) (list : List Message) (aside performed : List Placed) (n : ℕ) → n ≤ length list
    → Performed single p list aside performed → length (up_to single p list aside n) ≡ within n performed
counted_to single p list aside performed zero le h =
    ap length (append-nil (aside_at 0 aside) ∙ sym h.first) ∙ sym (within_first performed)
counted_to single p list aside performed (suc n) le h =
    let y = get_some list n (omega arith) in
    let more = lines_after single p (copies_at single p list n) y.0 ++ aside_at (suc n) aside in
    let a = ap length (up_to_next single p list aside n y.0 y.1) in
    let b = length-append (up_to single p list aside n) more in
    let c = counted_to single p list aside performed n (omega (arith, le)) h in
    let d = ap length (h.entries n y.0 y.1) in
    let e = within_next n performed in
    omega (arith, a, b, c, d, e)

pub lines_counted : (single : Test) (p : Performs) (list : List Message) (aside performed : List Placed) → Performed single p list aside performed
    → length performed ≡ length (book single p list aside)
lines_counted single p list aside performed h =
    let a = within_all (length list) performed h.above in
    let b = counted_to single p list aside performed (length list) (omega arith) h in
    let c = ap length (up_to_all single p list aside (length list) (omega arith)) in
    omega (arith, a, b, c)
