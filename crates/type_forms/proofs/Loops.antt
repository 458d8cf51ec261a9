-- What a loop over a list has left, and a set of names, one more in it.
use Rattle.std.proofs.Common.{◌≡◌, ℕ, suc, ◌<◌, ◌+◌, Bool, true, false, ◌||◌, List, [], ◌∷◌, ◌++◌, length, get_or, take, drop, map, refl, sym, ap, ◌∙◌, arith, append_assoc}
use Rattle.std.specs.Prelude.{bytes_eq}
use Rattle.std.proofs.Math.Seq.{drop-cons}
use Rattle.std.proofs.lemmas.List.{map-append, take_more}
use Rattle.std.proofs.lemmas.Slice.Eq.{bytes_eq-Decides}

pub rest_is : {A : Type 0} (xs : List A) (i : ℕ) (x : A) → i < length xs → x ≡ get_or xs i x → drop i xs ≡ x ∷ drop (i + 1) xs
rest_is {A} xs i x lt is =
    let next : suc i ≡ i + 1 = omega arith in
    drop-cons xs i x lt ∙ ap (λ (v : A). v ∷ drop (suc i) xs) (sym is) ∙ ap (λ (k : ℕ). x ∷ drop k xs) next

-- an item more of those that a loop went over
pub mapped_more : {A B : Type 0} (f : A → B) (xs : List A) (i : ℕ) (x : A) → i < length xs → x ≡ get_or xs i x →
    map f (take (i + 1) xs) ≡ map f (take i xs) ++ f x ∷ []
mapped_more f xs i x lt is =
    ap (map f) (take_more xs i x lt) ∙ map-append f (take i xs) (get_or xs i x ∷ [])
    ∙ ap (λ v. map f (take i xs) ++ f v ∷ []) (sym is)

-- a part more of what is appended
pub appended : {A : Type 0} (old new own rest front all : List A) → new ≡ old ++ own → front ≡ own ++ rest → old ++ front ≡ all → new ++ rest ≡ all
appended {A} old new own rest front all e f h = rw (e, append_assoc) (ap (λ (v : List A). old ++ v) (sym f) ∙ h)

pub or_turn : (p q r : Bool) → ((p || q) || r) ≡ (q || (p || r))
or_turn true true r = refl
or_turn true false r = refl
or_turn false true r = refl
or_turn false false r = refl

pub bytes_turned : (xs ys : List ℕ) → bytes_eq xs ys ≡ bytes_eq ys xs
bytes_turned xs ys = by_both (bytes_eq xs ys) (bytes_eq ys xs) refl refl
  where
    by_both : (p q : Bool) → bytes_eq xs ys ≡ p → bytes_eq ys xs ≡ q → p ≡ q
    by_both true true e f = refl
    by_both false false e f = refl
    by_both true false e f = sym ((bytes_eq-Decides ys xs).1 (sym ((bytes_eq-Decides xs ys).0 e))) ∙ f
    by_both false true e f = sym (sym ((bytes_eq-Decides xs ys).1 (sym ((bytes_eq-Decides ys xs).0 f))) ∙ e)
