-- That a list has an element.
use Rattle.std.proofs.Common.{◌≡◌, ◌↔◌, ℕ, zero, suc, ◌<◌, Bool, true, false, cond, List, [], ◌∷◌, length, get_or, refl, ap, sym, ◌∙◌, arith}
use Rattle.std.specs.Prelude.{IsTrue, ◌||◌, remove}
use Rattle.std.specs.Cmp.{Equal-is}
use Rattle.std.specs.List.{Contains}
use Rattle.std.specs.Ordering.{is_eq}
use Rattle.value_core.specs.Datum.{Datum, Data, data_of, list_of, data_of-list_of}
use Rattle.value_core.specs.Datum as datum
use Rattle.value_core.specs.Order.{datum_cmp}
use Rattle.value_core.specs.OrderLaws.{datum_cmp-exact}
use Rattle.value_ops.specs.Elements.{has, without, rest_of}

pub same_from : (x e : Datum) → is_eq (datum_cmp x e) ≡ true → x ≡ e
same_from x e h = (datum_cmp-exact x e).0 ((Equal-is (datum_cmp x e)).0 h)

pub eq_from : (x e : Datum) → x ≡ e → is_eq (datum_cmp x e) ≡ true
eq_from x e h = (Equal-is (datum_cmp x e)).1 ((datum_cmp-exact x e).1 h)

later : (x e : Datum) (xs : List Datum) → Contains xs e → Contains (x ∷ xs) e
later x e xs h = (suc h.0, omega (arith, h.1), h.2)

found : (e : Datum) (xs : List Datum) → has e xs ≡ true → Contains xs e
found e [] h = absurd cc
found e (x ∷ xs) h = by_first (is_eq (datum_cmp x e)) refl (found e xs)
  where
    by_first : (b : Bool) → is_eq (datum_cmp x e) ≡ b → (has e xs ≡ true → Contains xs e) → Contains (x ∷ xs) e
    by_first true is rest = (0, omega arith, same_from x e is)
    by_first false is rest = later x e xs (rest (ap (λ b. b || has e xs) (sym is) ∙ h))

met : (e : Datum) (xs : List Datum) (k : ℕ) → k < length xs → get_or xs k e ≡ e → has e xs ≡ true
met e [] k h is = absurd (omega (arith, h))
met e (x ∷ xs) zero h is = ap (λ b. b || has e xs) (eq_from x e is)
met e (x ∷ xs) (suc k) h is = by_first (is_eq (datum_cmp x e)) (met e xs k (omega (arith, h)) is)
  where
    by_first : (b : Bool) → has e xs ≡ true → (b || has e xs) ≡ true
    by_first true rest = refl
    by_first false rest = rest

pub has-Contains : (e : Datum) (xs : List Datum) (b : Bool) → b ≡ has e xs → IsTrue b ↔ Contains xs e
has-Contains e xs b is = (λ h. found e xs (sym is ∙ h), λ h. is ∙ met e xs h.0 h.1 h.2)

-- what isn't there isn't taken out
pub without_none : (e : Datum) (xs : List Datum) → has e xs ≡ false → without e xs ≡ xs
without_none e [] h = refl
without_none e (x ∷ xs) h = by_first (is_eq (datum_cmp x e)) h (without_none e xs)
  where
    by_first : (b : Bool) → (b || has e xs) ≡ false → (has e xs ≡ false → without e xs ≡ xs) → cond b xs (x ∷ without e xs) ≡ x ∷ xs
    by_first true gone rest = absurd cc
    by_first false gone rest = ap (λ ys. x ∷ ys) (rest gone)

-- what is left behind the first
pub rest_removed : (w : Data) → data_of (remove (list_of w) 0) ≡ rest_of w
rest_removed datum.none = refl
rest_removed (datum.more x w) = data_of-list_of w
