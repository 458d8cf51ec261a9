-- The book cut at a place, an entry longer, and a read richer.
use Rattle.std.proofs.Common.{◌⊎◌, inl, inr, ⊎_elim, ◌≡◌, ℕ, zero, suc, ◌+◌, ◌≤◌, ◌<◌, Some, List, [], ◌∷◌, ◌++◌, length, take, drop, refl, sym, ap, ◌∙◌, arith, subst, append-nil, append_assoc}
use Rattle.std.specs.Prelude.{slice_get}
use Rattle.std.proofs.lemmas.List.{take-append-drop, take-append-le, append_cancel_left, drop-append-le, drop_all, length-take-le, take_all}
use Rattle.std.proofs.lemmas.Bool.{cases_eq}
use Rattle.value_core.specs.declared.action.Line.{Line}
use Rattle.value_core.specs.declared.message.Message.{Message}
use Rattle.value_core.specs.Meaning.{Performs}
use Rattle.object_manager.specs.After.{Copied, opening_copies}
use Rattle.book_law.specs.Passes.{Test, after, after_all, lines_after}
use Rattle.book_law.specs.Book.{Placed, behind, book, book_from, copies_at, aside_at, up_to}
use Rattle.book_law.specs.Performed.{placed}
use Rattle.book_law.specs.Events.{In, lines_by}
use Rattle.book_law.proofs.Objects.{in_append, in_first, in_second}
use Rattle.book_law.proofs.Lists.{append_none_left, append_none_right, in_push, lines_by-append, lines_by-none, aside_at-here, aside_at-other, reads_by-other}

-- ---- copies

pub after_all-append : (single : Test) (p : Performs) (c : Copied) (xs ys : List Message) → after_all single p c (xs ++ ys) ≡ after_all single p (after_all single p c xs) ys
after_all-append single p c [] ys = refl
after_all-append single p c (x ∷ xs) ys = after_all-append single p (after single p c x) xs ys

pub applied_all : (single : Test) (p : Performs) (c : Copied) (xs : List Message) → (after_all single p c xs).applied ≡ c.applied + length xs
applied_all single p c [] = omega arith
applied_all single p c (x ∷ xs) = let e = applied_all single p (after single p c x) xs in omega (arith, e)

pub take_at : {A : Type 0} (xs : List A) (n : ℕ) (x : A) → slice_get xs n ≡ Some x → take (suc n) xs ≡ take n xs ++ x ∷ []
take_at [] n x e = absurd (cc e)
take_at (y ∷ xs) zero x e = let f : y ≡ x = cc in ap (λ u. u ∷ []) f
take_at {A} (y ∷ xs) (suc n) x e = ap (λ (r : List A). y ∷ r) (take_at xs n x e)

drop_at : {A : Type 0} (xs : List A) (n : ℕ) (x : A) → slice_get xs n ≡ Some x → drop n xs ≡ x ∷ drop (suc n) xs
drop_at [] n x e = absurd (cc e)
drop_at {A} (y ∷ xs) zero x e = let f : y ≡ x = cc in ap (λ (u : A). u ∷ xs) f
drop_at (y ∷ xs) (suc n) x e = drop_at xs n x e

length_take : {A : Type 0} (xs : List A) (n : ℕ) → n ≤ length xs → length (take n xs) ≡ n
length_take xs zero le = refl
length_take [] (suc n) le = absurd (omega arith)
length_take (x ∷ xs) (suc n) le = ap suc (length_take xs n (omega arith))

pub copies_all : (single : Test) (p : Performs) (list : List Message) → copies_at single p list (length list) ≡ after_all single p opening_copies list
copies_all single p list = ap (after_all single p opening_copies) (take_all (length list) list (omega arith))

pub copies_next : (single : Test) (p : Performs) (list : List Message) (n : ℕ) (x : Message) → slice_get list n ≡ Some x → copies_at single p list (suc n) ≡ after single p (copies_at single p list n) x
copies_next single p list n x is = ap (after_all single p opening_copies) (take_at list n x is) ∙ after_all-append single p opening_copies (take n list) (x ∷ [])

pub copies_applied : (single : Test) (p : Performs) (list : List Message) (n : ℕ) → n ≤ length list → (copies_at single p list n).applied ≡ n
copies_applied single p list n le = let e = applied_all single p opening_copies (take n list) in let f = length_take list n le in omega (arith, e, f)

-- fewer entries, fewer processes
few_first : (single : Test) (p : Performs) (c : Copied) (xs : List Message) → c.processes ≤ (after_all single p c xs).processes
few_first single p c [] = omega arith
few_first single p c (x ∷ xs) = let e = few_first single p (after single p c x) xs in omega (arith, e)

more_gap : (single : Test) (p : Performs) (c : Copied) (xs : List Message) (m n : ℕ) → m ≤ n → (after_all single p c (take m xs)).processes ≤ (after_all single p c (take n xs)).processes
more_gap single p c xs zero n le = few_first single p c (take n xs)
more_gap single p c xs (suc m) zero le = absurd (omega arith)
more_gap single p c [] (suc m) (suc n) le = omega arith
more_gap single p c (x ∷ xs) (suc m) (suc n) le = more_gap single p (after single p c x) xs m n (omega arith)

pub copies_more : (single : Test) (p : Performs) (list : List Message) (m n : ℕ) → m ≤ n → (copies_at single p list m).processes ≤ (copies_at single p list n).processes
copies_more single p list m n le = more_gap single p opening_copies list m n le

pub copies_most : (single : Test) (p : Performs) (list : List Message) (n : ℕ) → (copies_at single p list n).processes ≤ (after_all single p opening_copies list).processes
copies_most single p list n =
    let e = after_all-append single p opening_copies (take n list) (drop n list) in
    let f : after_all single p (copies_at single p list n) (drop n list) ≡ after_all single p opening_copies list = sym e ∙ ap (after_all single p opening_copies) (take-append-drop n list) in
    subst (λ (c : Copied). (copies_at single p list n).processes ≤ c.processes) f (few_first single p (copies_at single p list n) (drop n list))

-- ---- cuts

pub book_from-append : (single : Test) (p : Performs) (c : Copied) (xs ys : List Message) (aside : List Placed) → book_from single p c (xs ++ ys) aside ≡ book_from single p c xs aside ++ book_from single p (after_all single p c xs) ys aside
book_from-append single p c [] ys aside = refl
book_from-append single p c (x ∷ xs) ys aside =
    ap (λ (ls : List Line). (lines_after single p c x ++ aside_at (c.applied + 1) aside) ++ ls) (book_from-append single p (after single p c x) xs ys aside)
    ∙ sym (append_assoc (lines_after single p c x ++ aside_at (c.applied + 1) aside) (book_from single p (after single p c x) xs aside) (book_from single p (after_all single p (after single p c x) xs) ys aside))

pub book-append : (single : Test) (p : Performs) (xs ys : List Message) (aside : List Placed) → book single p (xs ++ ys) aside ≡ book single p xs aside ++ book_from single p (after_all single p opening_copies xs) ys aside
book-append single p xs ys aside =
    ap (λ (ls : List Line). aside_at 0 aside ++ ls) (book_from-append single p opening_copies xs ys aside)
    ∙ sym (append_assoc (aside_at 0 aside) (book_from single p opening_copies xs aside) (book_from single p (after_all single p opening_copies xs) ys aside))

-- the book is what comes up to a place, and what comes behind it
pub cut : (single : Test) (p : Performs) (list : List Message) (aside : List Placed) (n : ℕ) → book single p list aside ≡ up_to single p list aside n ++ behind single p list aside n
cut single p list aside n = ap (λ (l : List Message). book single p l aside) (sym (take-append-drop n list)) ∙ book-append single p (take n list) (drop n list) aside

pub up_to_all : (single : Test) (p : Performs) (list : List Message) (aside : List Placed) (n : ℕ) → length list ≤ n → up_to single p list aside n ≡ book single p list aside
up_to_all single p list aside n le = ap (λ (l : List Message). book single p l aside) (take_all n list le)

pub behind_all : (single : Test) (p : Performs) (list : List Message) (aside : List Placed) (n : ℕ) → length list ≤ n → behind single p list aside n ≡ []
behind_all single p list aside n le = ap (λ (l : List Message). book_from single p (copies_at single p list n) l aside) (drop_all n list le)

-- behind a place come the next entry's lines, what stands beside the list at its place, and what is behind that
pub behind_next : (single : Test) (p : Performs) (list : List Message) (aside : List Placed) (n : ℕ) (x : Message) → slice_get list n ≡ Some x → n ≤ length list
    → behind single p list aside n ≡ (lines_after single p (copies_at single p list n) x ++ aside_at (suc n) aside) ++ behind single p list aside (suc n)
behind_next single p list aside n x is le =
    ap (λ (l : List Message). book_from single p (copies_at single p list n) l aside) (drop_at list n x is)
    ∙ ap (λ (k : ℕ). (lines_after single p (copies_at single p list n) x ++ aside_at k aside) ++ book_from single p (after single p (copies_at single p list n) x) (drop (suc n) list) aside) (let e = copies_applied single p list n le in let f : (copies_at single p list n).applied + 1 ≡ suc n = omega (arith, e) in f)
    ∙ ap (λ (c : Copied). (lines_after single p (copies_at single p list n) x ++ aside_at (suc n) aside) ++ book_from single p c (drop (suc n) list) aside) (sym (copies_next single p list n x is))

-- ---- an entry longer

pub copies_push : (single : Test) (p : Performs) (list : List Message) (x : Message) → after_all single p opening_copies (list ++ x ∷ []) ≡ after single p (after_all single p opening_copies list) x
copies_push single p list x = after_all-append single p opening_copies list (x ∷ [])

pub copies_keep : (single : Test) (p : Performs) (list : List Message) (x : Message) (n : ℕ) → n ≤ length list → copies_at single p (list ++ x ∷ []) n ≡ copies_at single p list n
copies_keep single p list x n le = ap (after_all single p opening_copies) (take-append-le n list (x ∷ []) le)

pub up_to_keep : (single : Test) (p : Performs) (list : List Message) (aside : List Placed) (x : Message) (n : ℕ) → n ≤ length list → up_to single p (list ++ x ∷ []) aside n ≡ up_to single p list aside n
up_to_keep single p list aside x n le = ap (λ (l : List Message). book single p l aside) (take-append-le n list (x ∷ []) le)

-- the lines of the last entry, and no read of its place
last_lines : (single : Test) (p : Performs) (list : List Message) (aside : List Placed) (x : Message) → ((n : ℕ) → length list < n → aside_at n aside ≡ []) → book_from single p (after_all single p opening_copies list) (x ∷ []) aside ≡ lines_after single p (after_all single p opening_copies list) x
last_lines single p list aside x none =
    let e = applied_all single p opening_copies list in
    append-nil (lines_after single p (after_all single p opening_copies list) x ++ aside_at ((after_all single p opening_copies list).applied + 1) aside)
    ∙ ap (λ (ls : List Line). lines_after single p (after_all single p opening_copies list) x ++ ls) (none ((after_all single p opening_copies list).applied + 1) (omega (arith, e)))
    ∙ append-nil (lines_after single p (after_all single p opening_copies list) x)

pub book_push : (single : Test) (p : Performs) (list : List Message) (aside : List Placed) (x : Message) → ((n : ℕ) → length list < n → aside_at n aside ≡ []) → book single p (list ++ x ∷ []) aside ≡ book single p list aside ++ lines_after single p (after_all single p opening_copies list) x
book_push single p list aside x none = book-append single p list (x ∷ []) aside ∙ ap (λ (ls : List Line). book single p list aside ++ ls) (last_lines single p list aside x none)

pub behind_push : (single : Test) (p : Performs) (list : List Message) (aside : List Placed) (x : Message) (n : ℕ) → n ≤ length list → ((n : ℕ) → length list < n → aside_at n aside ≡ [])
    → behind single p (list ++ x ∷ []) aside n ≡ behind single p list aside n ++ lines_after single p (after_all single p opening_copies list) x
behind_push single p list aside x n le none =
    let c = copies_at single p list n in
    ap (λ (d : Copied). book_from single p d (drop n (list ++ x ∷ [])) aside) (copies_keep single p list x n le)
    ∙ ap (λ (l : List Message). book_from single p c l aside) (drop-append-le n list (x ∷ []) le)
    ∙ book_from-append single p c (drop n list) (x ∷ []) aside
    ∙ ap (λ (d : Copied). behind single p list aside n ++ book_from single p d (x ∷ []) aside) (sym (after_all-append single p opening_copies (take n list) (drop n list)) ∙ ap (after_all single p opening_copies) (take-append-drop n list))
    ∙ ap (λ (ls : List Line). behind single p list aside n ++ ls) (last_lines single p list aside x none)

-- ---- a read richer

-- a read of an earlier place changes nothing behind
pub from_earlier : (single : Test) (p : Performs) (c : Copied) (xs : List Message) (aside : List Placed) (r : Placed) → r.place ≤ c.applied → book_from single p c xs (aside ++ r ∷ []) ≡ book_from single p c xs aside
from_earlier single p c [] aside r le = refl
from_earlier single p c (x ∷ xs) aside r le =
    ap (λ (ls : List Line). (lines_after single p c x ++ ls) ++ book_from single p (after single p c x) xs (aside ++ r ∷ [])) (aside_at-other (c.applied + 1) aside r (λ (e : r.place ≡ c.applied + 1). absurd (omega (arith, e))))
    ∙ ap (λ (ls : List Line). (lines_after single p c x ++ aside_at (c.applied + 1) aside) ++ ls) (from_earlier single p (after single p c x) xs aside r (omega arith))

-- a read of a later place changes nothing before
from_later : (single : Test) (p : Performs) (c : Copied) (xs : List Message) (aside : List Placed) (r : Placed) → c.applied + length xs < r.place → book_from single p c xs (aside ++ r ∷ []) ≡ book_from single p c xs aside
from_later single p c [] aside r lt = refl
from_later single p c (x ∷ xs) aside r lt =
    ap (λ (ls : List Line). (lines_after single p c x ++ ls) ++ book_from single p (after single p c x) xs (aside ++ r ∷ [])) (aside_at-other (c.applied + 1) aside r (λ (e : r.place ≡ c.applied + 1). absurd (omega (arith, e))))
    ∙ ap (λ (ls : List Line). (lines_after single p c x ++ aside_at (c.applied + 1) aside) ++ ls) (from_later single p (after single p c x) xs aside r (omega arith))

pub book_later : (single : Test) (p : Performs) (xs : List Message) (aside : List Placed) (r : Placed) → length xs < r.place → book single p xs (aside ++ r ∷ []) ≡ book single p xs aside
book_later single p xs aside r lt =
    ap (λ (ls : List Line). ls ++ book_from single p opening_copies xs (aside ++ r ∷ [])) (aside_at-other 0 aside r (λ (e : r.place ≡ 0). absurd (omega (arith, e))))
    ∙ ap (λ (ls : List Line). aside_at 0 aside ++ ls) (from_later single p opening_copies xs aside r (omega arith))

-- in its place it comes last
from_here : (single : Test) (p : Performs) (c : Copied) (xs : List Message) (aside : List Placed) (r : Placed) (k : ℕ) → r.place ≡ c.applied + suc k → suc k ≤ length xs
    → book_from single p c xs (aside ++ r ∷ []) ≡ book_from single p c (take (suc k) xs) aside ++ r.line ∷ book_from single p (after_all single p c (take (suc k) xs)) (drop (suc k) xs) aside
from_here single p c [] aside r k is le = absurd (omega arith)
from_here single p c (x ∷ xs) aside r zero is le =
    let here = lines_after single p c x in
    let old = aside_at (c.applied + 1) aside in
    let rest = book_from single p (after single p c x) xs aside in
    ap (λ (ls : List Line). (here ++ ls) ++ book_from single p (after single p c x) xs (aside ++ r ∷ [])) (aside_at-here (c.applied + 1) aside r (omega (arith, is)))
    ∙ ap (λ (ls : List Line). (here ++ (old ++ r.line ∷ [])) ++ ls) (from_earlier single p (after single p c x) xs aside r (omega (arith, is)))
    ∙ ap (λ (ls : List Line). ls ++ rest) (sym (append_assoc here old (r.line ∷ [])))
    ∙ append_assoc (here ++ old) (r.line ∷ []) rest
    ∙ ap (λ (ls : List Line). ls ++ r.line ∷ rest) (sym (append-nil (here ++ old)))
from_here single p c (x ∷ xs) aside r (suc k) is le =
    let here = lines_after single p c x ++ aside_at (c.applied + 1) aside in
    ap (λ (ls : List Line). (lines_after single p c x ++ ls) ++ book_from single p (after single p c x) xs (aside ++ r ∷ [])) (aside_at-other (c.applied + 1) aside r (λ (e : r.place ≡ c.applied + 1). absurd (omega (arith, e, is))))
    ∙ ap (λ (ls : List Line). here ++ ls) (from_here single p (after single p c x) xs aside r k (omega (arith, is)) (omega arith))
    ∙ sym (append_assoc here (book_from single p (after single p c x) (take (suc k) xs) aside) (r.line ∷ book_from single p (after_all single p (after single p c x) (take (suc k) xs)) (drop (suc k) xs) aside))

pub book_here : (single : Test) (p : Performs) (xs : List Message) (aside : List Placed) (r : Placed) (n : ℕ) → r.place ≡ n → n ≤ length xs
    → book single p xs (aside ++ r ∷ []) ≡ up_to single p xs aside n ++ r.line ∷ behind single p xs aside n
book_here single p xs aside r zero is le =
    ap (λ (ls : List Line). ls ++ book_from single p opening_copies xs (aside ++ r ∷ [])) (aside_at-here 0 aside r is)
    ∙ ap (λ (ls : List Line). (aside_at 0 aside ++ r.line ∷ []) ++ ls) (from_earlier single p opening_copies xs aside r (omega (arith, is)))
    ∙ append_assoc (aside_at 0 aside) (r.line ∷ []) (book_from single p opening_copies xs aside)
    ∙ ap (λ (ls : List Line). ls ++ r.line ∷ book_from single p opening_copies xs aside) (sym (append-nil (aside_at 0 aside)))
book_here single p xs aside r (suc k) is le =
    ap (λ (ls : List Line). ls ++ book_from single p opening_copies xs (aside ++ r ∷ [])) (aside_at-other 0 aside r (λ (e : r.place ≡ 0). absurd (omega (arith, e, is))))
    ∙ ap (λ (ls : List Line). aside_at 0 aside ++ ls) (from_here single p opening_copies xs aside r k (omega (arith, is)) le)
    ∙ sym (append_assoc (aside_at 0 aside) (book_from single p opening_copies (take (suc k) xs) aside) (r.line ∷ behind single p xs aside (suc k)))

-- another's read is no line of a process
pub behind_other : (single : Test) (p : Performs) (j : ℕ) (c : Copied) (xs : List Message) (aside : List Placed) (r : Placed) → (r.line.process.0 ≡ j → ⊥) → lines_by j (book_from single p c xs (aside ++ r ∷ [])) ≡ lines_by j (book_from single p c xs aside)
behind_other single p j c [] aside r apart = refl
behind_other single p j c (x ∷ xs) aside r apart =
    let here = lines_after single p c x in
    let new = aside_at (c.applied + 1) (aside ++ r ∷ []) in
    let old = aside_at (c.applied + 1) aside in
    let rest = book_from single p (after single p c x) xs (aside ++ r ∷ []) in
    let was = book_from single p (after single p c x) xs aside in
    lines_by-append j (here ++ new) rest
    ∙ ap (λ (ls : List Line). ls ++ lines_by j rest) (lines_by-append j here new ∙ ap (λ (ls : List Line). lines_by j here ++ ls) (reads_by-other j (c.applied + 1) aside r apart) ∙ sym (lines_by-append j here old))
    ∙ ap (λ (ls : List Line). lines_by j (here ++ old) ++ ls) (behind_other single p j (after single p c x) xs aside r apart)
    ∙ sym (lines_by-append j (here ++ old) was)

-- a cut of a beginning
pub up_to_less : (single : Test) (p : Performs) (list : List Message) (aside : List Placed) (m n : ℕ) → m ≤ n → up_to single p (take n list) aside m ≡ up_to single p list aside m
up_to_less single p list aside m n le = ap (λ (l : List Message). book single p l aside) (take_take m n list le)
  where
    take_take : {A : Type 0} (m n : ℕ) (xs : List A) → m ≤ n → take m (take n xs) ≡ take m xs
    take_take zero n xs le = refl
    take_take (suc m) zero xs le = absurd (omega arith)
    take_take (suc m) (suc n) [] le = refl
    take_take {A} (suc m) (suc n) (x ∷ xs) le = ap (λ (r : List A). x ∷ r) (take_take m n xs (omega arith))

-- ---- behind later places

-- what a process has nowhere behind a place it has nowhere behind a later one
none_from : (single : Test) (p : Performs) (j : ℕ) (c : Copied) (xs : List Message) (aside : List Placed) (n : ℕ) → lines_by j (book_from single p c xs aside) ≡ [] → lines_by j (book_from single p (after_all single p c (take n xs)) (drop n xs) aside) ≡ []
none_from single p j c xs aside zero none = none
none_from single p j c [] aside (suc n) none = none
none_from single p j c (x ∷ xs) aside (suc n) none =
    let here = lines_after single p c x ++ aside_at (c.applied + 1) aside in
    let rest = book_from single p (after single p c x) xs aside in
    none_from single p j (after single p c x) xs aside n (append_none_right (lines_by j here) (lines_by j rest) (sym (lines_by-append j here rest) ∙ none))

none_gap : (single : Test) (p : Performs) (j : ℕ) (c : Copied) (xs : List Message) (aside : List Placed) (m n : ℕ) → m ≤ n → lines_by j (book_from single p (after_all single p c (take m xs)) (drop m xs) aside) ≡ [] → lines_by j (book_from single p (after_all single p c (take n xs)) (drop n xs) aside) ≡ []
none_gap single p j c xs aside zero n le none = none_from single p j c xs aside n none
none_gap single p j c xs aside (suc m) zero le none = absurd (omega arith)
none_gap single p j c [] aside (suc m) (suc n) le none = none
none_gap single p j c (x ∷ xs) aside (suc m) (suc n) le none = none_gap single p j (after single p c x) xs aside m n (omega arith) none

pub none_later : (single : Test) (p : Performs) (j : ℕ) (list : List Message) (aside : List Placed) (m n : ℕ) → m ≤ n → lines_by j (behind single p list aside m) ≡ [] → lines_by j (behind single p list aside n) ≡ []
none_later single p j list aside m n le none = none_gap single p j opening_copies list aside m n le none

-- what is behind the places up to one, among what is behind it
pub behind_cut : (single : Test) (p : Performs) (list : List Message) (aside : List Placed) (n m : ℕ) → n ≤ m → behind single p list aside n ≡ behind single p (take m list) aside n ++ behind single p list aside m
behind_cut single p list aside n m le =
    let a = cut single p list aside n in
    let b = cut single p list aside m in
    let d = cut single p (take m list) aside n in
    let e : up_to single p (take m list) aside n ≡ up_to single p list aside n = up_to_less single p list aside n m le in
    append_cancel_left (up_to single p list aside n) (behind single p list aside n) (behind single p (take m list) aside n ++ behind single p list aside m)
    (sym a ∙ b ∙ ap (λ (ls : List Line). ls ++ behind single p list aside m) (d ∙ ap (λ (ls : List Line). ls ++ behind single p (take m list) aside n) e)
    ∙ append_assoc (up_to single p list aside n) (behind single p (take m list) aside n) (behind single p list aside m))

-- ---- several lines at one place

-- what stands at a place, where lines are put on at one
pub placed_here : (n : ℕ) (aside : List Placed) (lines : List Line) → aside_at n (aside ++ placed n lines) ≡ aside_at n aside ++ lines
placed_here n aside [] = ap (aside_at n) (append-nil aside) ∙ sym (append-nil (aside_at n aside))
placed_here n aside (l ∷ lines) =
    let r : Placed = record { place = n; line = l } in
    ap (aside_at n) (sym (append_assoc aside (r ∷ []) (placed n lines)))
    ∙ placed_here n (aside ++ r ∷ []) lines
    ∙ ap (λ (ls : List Line). ls ++ lines) (aside_at-here n aside r refl)
    ∙ append_assoc (aside_at n aside) (l ∷ []) lines

pub placed_there : (n k : ℕ) (aside : List Placed) (lines : List Line) → (n ≡ k → ⊥) → aside_at k (aside ++ placed n lines) ≡ aside_at k aside
placed_there n k aside [] apart = ap (aside_at k) (append-nil aside)
placed_there n k aside (l ∷ lines) apart =
    let r : Placed = record { place = n; line = l } in
    ap (aside_at k) (sym (append_assoc aside (r ∷ []) (placed n lines)))
    ∙ placed_there n k (aside ++ r ∷ []) lines apart
    ∙ aside_at-other k aside r apart

-- who has none of the lines has there what it had
pub placed_by : (j n k : ℕ) (aside : List Placed) (lines : List Line) → lines_by j lines ≡ [] → lines_by j (aside_at k (aside ++ placed n lines)) ≡ lines_by j (aside_at k aside)
placed_by j n k aside lines none = ⊎_elim
    (λ (e : n ≡ k). subst (λ (m : ℕ). lines_by j (aside_at m (aside ++ placed n lines)) ≡ lines_by j (aside_at m aside)) e
    (ap (lines_by j) (placed_here n aside lines) ∙ lines_by-append j (aside_at n aside) lines ∙ ap (λ (ls : List Line). lines_by j (aside_at n aside) ++ ls) none ∙ append-nil (lines_by j (aside_at n aside))))
    (λ apart. ap (lines_by j) (placed_there n k aside lines apart)) (cases_eq n k)

-- the book with lines put in behind their place
pub book_inserts : (single : Test) (p : Performs) (xs : List Message) (aside : List Placed) (n : ℕ) (lines : List Line) → n ≤ length xs
    → book single p xs (aside ++ placed n lines) ≡ up_to single p xs aside n ++ (lines ++ behind single p xs aside n)
book_inserts single p xs aside n [] le = ap (book single p xs) (append-nil aside) ∙ cut single p xs aside n
book_inserts single p xs aside n (l ∷ lines) le =
    let r : Placed = record { place = n; line = l } in
    let t = length-take-le n xs le in
    let first : up_to single p xs (aside ++ r ∷ []) n ≡ up_to single p xs aside n ++ l ∷ [] =
    book_here single p (take n xs) aside r n refl (omega (arith, t))
    ∙ ap (λ (ls : List Line). ls ++ l ∷ behind single p (take n xs) aside n) (up_to_less single p xs aside n n (omega arith))
    ∙ ap (λ (ls : List Line). up_to single p xs aside n ++ l ∷ ls) (behind_all single p (take n xs) aside n (omega (arith, t))) in
    ap (book single p xs) (sym (append_assoc aside (r ∷ []) (placed n lines)))
    ∙ book_inserts single p xs (aside ++ r ∷ []) n lines le
    ∙ ap (λ (ls : List Line). ls ++ (lines ++ behind single p xs (aside ++ r ∷ []) n)) first
    ∙ ap (λ (ls : List Line). (up_to single p xs aside n ++ l ∷ []) ++ (lines ++ ls)) (from_earlier single p (copies_at single p xs n) (drop n xs) aside r (let e = copies_applied single p xs n le in omega (arith, e)))
    ∙ append_assoc (up_to single p xs aside n) (l ∷ []) (lines ++ behind single p xs aside n)

pub behind_earlier : (single : Test) (p : Performs) (list : List Message) (aside : List Placed) (n m : ℕ) (lines : List Line) → n ≤ m → m ≤ length list → behind single p list (aside ++ placed n lines) m ≡ behind single p list aside m
behind_earlier single p list aside n m [] le short = ap (λ (rs : List Placed). behind single p list rs m) (append-nil aside)
behind_earlier single p list aside n m (l ∷ lines) le short =
    let r : Placed = record { place = n; line = l } in
    ap (λ (rs : List Placed). behind single p list rs m) (sym (append_assoc aside (r ∷ []) (placed n lines)))
    ∙ behind_earlier single p list (aside ++ r ∷ []) n m lines le short
    ∙ from_earlier single p (copies_at single p list m) (drop m list) aside r (let e = copies_applied single p list m short in omega (arith, e))

pub up_to_later : (single : Test) (p : Performs) (list : List Message) (aside : List Placed) (n m : ℕ) (lines : List Line) → m < n → n ≤ length list → up_to single p list (aside ++ placed n lines) m ≡ up_to single p list aside m
up_to_later single p list aside n m [] lt le = ap (λ (rs : List Placed). up_to single p list rs m) (append-nil aside)
up_to_later single p list aside n m (l ∷ lines) lt le =
    let r : Placed = record { place = n; line = l } in
    ap (λ (rs : List Placed). up_to single p list rs m) (sym (append_assoc aside (r ∷ []) (placed n lines)))
    ∙ up_to_later single p list (aside ++ r ∷ []) n m lines lt le
    ∙ book_later single p (take m list) aside r (let e = length-take-le m list (omega arith) in omega (arith, e))

-- ---- what lies behind a place

-- what lies behind a later place lies behind an earlier one
pub in_later : (single : Test) (p : Performs) (list : List Message) (aside : List Placed) (m n : ℕ) (l : Line) → m ≤ n → In l (behind single p list aside n) → In l (behind single p list aside m)
in_later single p list aside m n l le h =
    subst (λ (ls : List Line). In l ls) (sym (behind_cut single p list aside m n le)) (in_second l (behind single p (take n list) aside m) (behind single p list aside n) h)

from_in : (single : Test) (p : Performs) (c : Copied) (xs : List Message) (aside : List Placed) (r : Placed) (l : Line) → In l (book_from single p c xs (aside ++ r ∷ [])) → In l (book_from single p c xs aside) ⊎ (l ≡ r.line)
from_in single p c [] aside r l h = inl h
from_in single p c (x ∷ xs) aside r l h = ⊎_elim
    (λ u. ⊎_elim (λ v. inl (in_first l (here ++ old) rest (in_first l here old v))) (λ v. ⊎_elim (λ w. inl (in_first l (here ++ old) rest (in_second l here old w))) (λ w. inr w) (at v)) (in_append l here new u))
    (λ u. ⊎_elim (λ v. inl (in_second l (here ++ old) rest v)) (λ v. inr v) (from_in single p (after single p c x) xs aside r l u))
    (in_append l (here ++ new) (book_from single p (after single p c x) xs (aside ++ r ∷ [])) h)
  where
    here : List Line
    here = lines_after single p c x

    new : List Line
    new = aside_at (c.applied + 1) (aside ++ r ∷ [])

    old : List Line
    old = aside_at (c.applied + 1) aside

    rest : List Line
    rest = book_from single p (after single p c x) xs aside

    at : In l new → In l old ⊎ (l ≡ r.line)
    at v = ⊎_elim
        (λ (e : r.place ≡ c.applied + 1). in_push l r.line old (subst (λ (ls : List Line). In l ls) (aside_at-here (c.applied + 1) aside r e) v))
        (λ apart. inl (subst (λ (ls : List Line). In l ls) (aside_at-other (c.applied + 1) aside r apart) v)) (cases_eq r.place (c.applied + 1))

pub behind_in : (single : Test) (p : Performs) (list : List Message) (aside : List Placed) (n m : ℕ) (lines : List Line) (l : Line) → In l (behind single p list (aside ++ placed n lines) m) → In l (behind single p list aside m) ⊎ In l lines
behind_in single p list aside n m [] l h = inl (subst (λ (rs : List Placed). In l (behind single p list rs m)) (append-nil aside) h)
behind_in single p list aside n m (k ∷ lines) l h =
    let r : Placed = record { place = n; line = k } in
    ⊎_elim
    (λ u. ⊎_elim (λ v. inl v) (λ v. inr (inl v)) (from_in single p (copies_at single p list m) (drop m list) aside r l u))
    (λ u. inr (inr u))
    (behind_in single p list (aside ++ r ∷ []) n m lines l (subst (λ (rs : List Placed). In l (behind single p list rs m)) (sym (append_assoc aside (r ∷ []) (placed n lines))) h))

-- who has no lines of entries behind a place, and none beside the list, has none
from_quiet : (single : Test) (p : Performs) (j : ℕ) (c : Copied) (xs : List Message) (aside : List Placed) → lines_by j (book_from single p c xs []) ≡ [] → ((k : ℕ) → c.applied < k → lines_by j (aside_at k aside) ≡ []) → lines_by j (book_from single p c xs aside) ≡ []
from_quiet single p j c [] aside none quiet = refl
from_quiet single p j c (x ∷ xs) aside none quiet =
    let here = lines_after single p c x in
    let rest = book_from single p (after single p c x) xs [] in
    let two : lines_by j (here ++ []) ++ lines_by j rest ≡ [] = sym (lines_by-append j (here ++ []) rest) ∙ none in
    let one : lines_by j here ≡ [] = ap (lines_by j) (sym (append-nil here)) ∙ append_none_left (lines_by j (here ++ [])) (lines_by j rest) two in
    let new = aside_at (c.applied + 1) aside in
    let more = book_from single p (after single p c x) xs aside in
    lines_by-append j (here ++ new) more
    ∙ ap (λ (ls : List Line). ls ++ lines_by j more) (lines_by-append j here new ∙ ap (λ (ls : List Line). ls ++ lines_by j new) one ∙ quiet (c.applied + 1) (omega arith))
    ∙ from_quiet single p j (after single p c x) xs aside (append_none_right (lines_by j (here ++ [])) (lines_by j rest) two) (λ k lt. quiet k (omega arith))

pub quiet_behind : (single : Test) (p : Performs) (j : ℕ) (list : List Message) (aside : List Placed) (n : ℕ) → n ≤ length list → lines_by j (behind single p list [] n) ≡ [] → ((k : ℕ) → n < k → lines_by j (aside_at k aside) ≡ []) → lines_by j (behind single p list aside n) ≡ []
quiet_behind single p j list aside n le none quiet =
    let e = copies_applied single p list n le in
    from_quiet single p j (copies_at single p list n) (drop n list) aside none (λ k lt. quiet k (omega (arith, lt, e)))

-- no line of a process is among those that are none of it
pub by_none : (j : ℕ) (l : Line) (lines : List Line) → lines_by j lines ≡ [] → In l lines → l.process.0 ≡ j → ⊥
by_none j l [] none h is = h
by_none j l (k ∷ lines) none (inl e) is = let n = lines_by-none j k lines none in n.0 (ap (λ (x : Line). x.process.0) (sym e) ∙ is)
by_none j l (k ∷ lines) none (inr h) is = let n = lines_by-none j k lines none in by_none j l lines n.1 h is
