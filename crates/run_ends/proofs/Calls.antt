-- Sets of calls, and the places that they tell.
use Rattle.std.proofs.Common.{◌≡◌, ◌==◌, ◌&&◌, ◌||◌, ◌++◌, ◌∷◌, [], ℕ, suc, Bool, true, false, cond, List, Option, None, Some, is_some, option_copied, slice_get, take, map, refl, ap, sym, ◌∙◌}
use Rattle.std.proofs.lemmas.List.{map-append}
use Rattle.std.specs.Borrow.{Bor}
use Rattle.std.specs.Cmp.{unsigned_tied}
use Rattle.std.specs.Ordering.{is_eq, nat_cmp, ordering_then}
use Rattle.std.specs.declared.cmp.Ordering.{Ordering}
use Rattle.std.specs.declared.cmp.Ordering.TheVariants.{Less, Equal, Greater}
use Rattle.world_parts.proofs.Lists.{take_next}
use Rattle.run_ends.specs.Telling.{call_cmp}

both_equal : (o p : Ordering) → is_eq (ordering_then o p) ≡ (is_eq o && is_eq p)
both_equal Less p = refl
both_equal Equal p = refl
both_equal Greater p = refl

-- two calls are equal by their process and their number
pub equal_is : (a b c d : ℕ) → is_eq (call_cmp (a, b) (c, d)) ≡ ((a == c) && (b == d))
equal_is a b c d =
    both_equal (nat_cmp a c) (nat_cmp b d) ∙ ap (λ s. s && is_eq (nat_cmp b d)) (unsigned_tied a c) ∙ ap (λ s. (a == c) && s) (unsigned_tied b d)

pub or_so : (a b : Bool) → cond a true b ≡ (a || b)
or_so true b = refl
or_so false b = refl

-- what is lent is there where its value is
pub some_copied : {T : Type 0} (o : Option (Bor T)) → is_some o ≡ is_some (option_copied o)
some_copied None = refl
some_copied (Some x) = refl

-- one more of a list was told
pub told_next : {A B : Type 0} (tell : A → B) (all : List A) (k next : ℕ) (one : A) (now new : List B) (told : B) → suc k ≡ next → slice_get all k ≡ Some one → new ≡ now ++ told ∷ [] → told ≡ tell one → now ≡ map tell (take k all) → new ≡ map tell (take next all)
told_next {A} {B} tell all k next one now new told up at is so h =
    is ∙ ap (λ (l : List B). l ++ told ∷ []) h ∙ ap (λ (x : B). map tell (take k all) ++ x ∷ []) so
    ∙ sym (ap (map tell) (take_next all k one at) ∙ map-append tell (take k all) (one ∷ [])) ∙ ap (λ (n : ℕ). map tell (take n all)) up
