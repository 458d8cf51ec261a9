-- The specification at a place among names of the top level, the object type with its number, and how a class is known.
use Rattle.std.proofs.Common.{◌≡◌, ℕ, zero, suc, ◌<◌, ◌+◌, ◌-◌, Bool, true, false, ◌&&◌, cond, List, ◌∷◌, length, get_or, drop, map, filter, Option, Some, refl, sym, ap, ◌∙◌, arith}
use Rattle.std.specs.Prelude.{◌==◌, slice_get, option_and_then}
use Rattle.std.proofs.lemmas.Bool.{eqb-true}
use Rattle.std.proofs.Math.Bool.{Bool-set}
use Rattle.std.proofs.Math.Logic.{∥∥₁_elim}
use Rattle.link_rules.specs.Units.{Source}
use Rattle.type_rules.specs.TopLevel.{TopName}
use Rattle.type_forms.specs.declared.tops.Top.{Top}
use Rattle.type_forms.specs.Seen.{top}
use Rattle.type_forms.proofs.Loops.{rest_is}
use Rattle.value_core.specs.declared.action.Class.{Class}
use Rattle.value_core.specs.declared.action.Class.TheVariants.{Reads, Writes}
use Rattle.meaning_rules.specs.Programs.{is_specification, specifications, specified, type_at}

abbrev specified_in : List Top → List TopName
specified_in xs = filter is_specification (map top xs)

front_is : (xs : List Top) (i k : ℕ) (x : Top) (all : Option TopName) → i < length xs → x ≡ get_or xs i x → slice_get (specified_in (drop i xs)) k ≡ all →
    slice_get (cond (is_specification (top x)) (top x ∷ specified_in (drop (i + 1) xs)) (specified_in (drop (i + 1) xs))) k ≡ all
front_is xs i k x all lt is before = ap (λ (l : List Top). slice_get (specified_in l) k) (sym (rest_is xs i x lt is)) ∙ before

-- one name more
less : (xs : List TopName) (x : TopName) (k : ℕ) (b : Bool) (all : Option TopName) → (b && k == 0) ≡ false → slice_get (cond b (x ∷ xs) xs) k ≡ all →
    slice_get xs (cond b (k - 1) k) ≡ all
less xs x k false all other h = h
less xs x zero true all other h = absurd (cc other)
less xs x (suc k) true all other h = let back : suc k - 1 ≡ k = omega arith in ap (slice_get xs) back ∙ h

pub sought_behind : (xs : List Top) (i k next : ℕ) (x : Top) (b found : Bool) (all : Option TopName) → i < length xs → x ≡ get_or xs i x →
    b ≡ is_specification (top x) → found ≡ (b && k == 0) → found ≡ false → next ≡ cond b (k - 1) k →
    slice_get (specified_in (drop i xs)) k ≡ all → slice_get (specified_in (drop (i + 1) xs)) next ≡ all
sought_behind xs i k next x b found all lt is e f other n before =
    ap (slice_get (specified_in (drop (i + 1) xs))) n
    ∙ less (specified_in (drop (i + 1) xs)) (top x) k b all (sym f ∙ other)
    (ap (λ (c : Bool). slice_get (cond c (top x ∷ specified_in (drop (i + 1) xs)) (specified_in (drop (i + 1) xs))) k) e ∙ front_is xs i k x all lt is before)

-- and the one that is sought
at_front : (xs : List TopName) (x : TopName) (k : ℕ) (b : Bool) (all : Option TopName) → (b && k == 0) ≡ true → slice_get (cond b (x ∷ xs) xs) k ≡ all → Some x ≡ all
at_front xs x k false all same h = absurd (cc same)
at_front xs x zero true all same h = h
at_front xs x (suc k) true all same h = let none = eqb-true (suc k) 0 same in absurd (omega (arith, none))

pub sought_here : (xs : List Top) (i k : ℕ) (x : Top) (b found : Bool) (all : Option TopName) → i < length xs → x ≡ get_or xs i x →
    b ≡ is_specification (top x) → found ≡ (b && k == 0) → found ≡ true → slice_get (specified_in (drop i xs)) k ≡ all → Some (top x) ≡ all
sought_here xs i k x b found all lt is e f same before =
    at_front (specified_in (drop (i + 1) xs)) (top x) k b all (sym f ∙ same)
    (ap (λ (c : Bool). slice_get (cond c (top x ∷ specified_in (drop (i + 1) xs)) (specified_in (drop (i + 1) xs))) k) e ∙ front_is xs i k x all lt is before)

-- ---- object types

-- the object type with a number, by its specification
pub numbered : (us : List Source) (n : ℕ) (o : Option TopName) → (n ≡ 0 → ⊥) → o ≡ slice_get (specifications us) (n - 1) →
    option_and_then (specified us) o ≡ type_at us n
numbered us zero o apart e = absurd (apart refl)
numbered us (suc k) o apart e = let back : suc k - 1 ≡ k = omega arith in ap (option_and_then (specified us)) (e ∙ ap (slice_get (specifications us)) back)

-- ---- classes

abbrev writes : Class → Bool
writes Reads = false
writes Writes = true

same_class : (a b : Class) → writes a ≡ writes b → a ≡ b
same_class Reads Reads e = refl
same_class Writes Writes e = refl
same_class Reads Writes e = absurd (cc e)
same_class Writes Reads e = absurd (cc e)

-- a class is known by what is kept as known
pub class_known : {A : Type 0} (a b : Class) → ∥ A ∥₁ → (A → a ≡ b) → a ≡ b
class_known a b told is =
    let once : IsProp (writes a ≡ writes b) = hlevel Bool-set in
    same_class a b (∥∥₁_elim told once (λ x. ap writes (is x)))
