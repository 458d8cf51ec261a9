-- What code's own types are, where the definitions see them as the same.
use Rattle.std.proofs.Common.{◌≡◌, ◌⊎◌, inl, inr, ℕ, zero, suc, ◌+◌, ◌<◌, ◌≤◌, Bool, true, false, IsTrue, List, [], ◌∷◌, ◌++◌, Option, Some, None, map, take, drop, length, get_or, slice_get, refl, sym, ap, ◌∙◌, arith}
use Rattle.std.specs.Borrow.{Bor}
use Rattle.std.specs.Option.{option_copied}
use Rattle.std.specs.Prelude.{◌↔◌, is_some, option_map, reverse}
use Rattle.std.proofs.lemmas.Bool.{cases_lt}
use Rattle.std.proofs.lemmas.List.{get_or-map, map-append, reverse-append, reverse-reverse, take_more}
use Rattle.std.proofs.lemmas.Option.{slice_get_cases, slice_get_past}
use Rattle.value_core.specs.Datum.{Datum}
use Rattle.value_core.specs.View.{datum_of, value_of, value_of-datum_of}
use Rattle.value_core.specs.declared.value.Value.{Value}
use Rattle.value_paths.specs.declared.step.Step.{Step as ValueStep}
use Rattle.value_paths.specs.declared.step.Step.TheVariants as value_step
use Rattle.meaning_rules.specs.Variables.{Target as RuleTarget}
use Rattle.frame_variables.specs.Gives.{passed_of, path_of, step_of}
use Rattle.frame_variables.specs.declared.steps.Passed.{Passed}
use Rattle.frame_variables.specs.declared.steps.Passed.TheVariants as passed
use Rattle.frame_variables.specs.declared.steps.Step.{Step}
use Rattle.frame_variables.specs.declared.steps.Step.TheVariants as step
use Rattle.frame_variables.specs.declared.steps.Target.{Target}
use Rattle.code_rules.specs.Machine.{lent}

-- ---- answers

-- an answer that is no, where the other thing would make it yes
pub never : (P : Type 0) (b : Bool) → b ≡ false → (P → IsTrue b) → (IsTrue false ↔ P)
never P b is would = ((λ t. absurd (let gone : false ≡ true = t in cc)), (λ p. sym is ∙ would p))

-- what isn't there has no value
pub no_value : {A B : Type 0} (f : A → B) (r : Option (Bor A)) → is_some r ≡ false → option_map f (option_copied r) ≡ None
no_value f None is = refl
no_value f (Some x) is = absurd (let gone : true ≡ false = is in cc)

-- ---- lists

module _ {A B : Type 0} (f : A → B) where
  -- a view that can be taken back, and so tells its values apart
  map_back : (g : B → A) → ((x : A) → g (f x) ≡ x) → (xs : List A) → map g (map f xs) ≡ xs
  map_back g back [] = refl
  map_back g back (x ∷ xs) = ap (λ y. y ∷ map g (map f xs)) (back x) ∙ ap (λ ys. x ∷ ys) (map_back g back xs)

  pub map_alike : (g : B → A) → ((x : A) → g (f x) ≡ x) → (xs ys : List A) → map f xs ≡ map f ys → xs ≡ ys
  map_alike g back xs ys same = sym (map_back g back xs) ∙ ap (map g) same ∙ map_back g back ys

  pub map_twice : {C : Type 0} (g : B → C) (xs : List A) → map g (map f xs) ≡ map (λ x. g (f x)) xs
  map_twice g [] = refl
  map_twice g (x ∷ xs) = ap (λ ys. g (f x) ∷ ys) (map_twice g xs)

  module _ (one other : List A) (i : ℕ) (x y : A) (low : i < length one) (low' : i < length other) (read : x ≡ get_or one i x) (read' : y ≡ get_or other i y) where
    -- lists that are seen as the same are so at each place
    pub there_alike : map f one ≡ map f other → f x ≡ f y
    there_alike same =
        ap f read
        ∙ sym (get_or-map f one i x (f x) low)
        ∙ ap (λ zs. get_or zs i (f x)) same
        ∙ get_or-map f other i y (f x) low'
        ∙ ap f (sym read')

-- reversed lists are the same where the lists are
pub reversed_alike : {A : Type 0} (xs ys : List A) → reverse xs ≡ reverse ys → xs ≡ ys
reversed_alike xs ys same = sym (reverse-reverse xs) ∙ ap reverse same ∙ reverse-reverse ys

-- ---- lists that are read place by place

-- the same at each place, and so the same
same_at_all : {A : Type 0} (xs ys : List A) → ((k : ℕ) → slice_get xs k ≡ slice_get ys k) → xs ≡ ys
same_at_all [] [] same = refl
same_at_all [] (y ∷ ys) same = absurd (let gone : None ≡ Some y = same zero in cc)
same_at_all (x ∷ xs) [] same = absurd (let gone : Some x ≡ None = same zero in cc)
same_at_all (x ∷ xs) (y ∷ ys) same =
    let first : Some x ≡ Some y = same zero in
    let is : x ≡ y = cc in
    ap (λ z. z ∷ xs) is ∙ ap (λ zs. y ∷ zs) (same_at_all xs ys (λ k. same (suc k)))

-- no value stands at the length, nor behind it
pub ends : {A : Type 0} (xs : List A) (i : ℕ) → slice_get xs i ≡ None → length xs ≤ i
ends {A = A} xs i none = by_case (slice_get_cases xs i).1
  where
    by_case : ((x : A) × (i < length xs) × (slice_get xs i ≡ Some x) × (get_or xs i x ≡ x)) ⊎ ((length xs ≤ i) × (slice_get xs i ≡ None)) → length xs ≤ i
    by_case (inl some) = absurd (let gone : None ≡ Some some.0 = sym none ∙ some.2 in cc)
    by_case (inr past) = past.0

module _ {A : Type 0} (xs ys : List A) (n : ℕ) (same : (k : ℕ) → k < n → slice_get xs k ≡ slice_get ys k) where
  -- the same at each place in front of the ends of both
  pub same_to_end : length xs ≤ n → length ys ≤ n → xs ≡ ys
  same_to_end few few' = same_at_all xs ys (λ k. by_case k (cases_lt k n))
    where
      by_case : (k : ℕ) → (k < n) ⊎ (n ≤ k) → slice_get xs k ≡ slice_get ys k
      by_case k (inl low) = same k low
      by_case k (inr high) = slice_get_past xs k (omega (arith, few, high)) ∙ sym (slice_get_past ys k (omega (arith, few', high)))

-- one value more is taken
pub take_one_more : {A : Type 0} (xs : List A) (i : ℕ) (x : A) → slice_get xs i ≡ Some x → take (i + 1) xs ≡ take i xs ++ x ∷ []
take_one_more {A = A} xs i x is = by_case (slice_get_cases xs i).1
  where
    by_case : ((y : A) × (i < length xs) × (slice_get xs i ≡ Some y) × (get_or xs i y ≡ y)) ⊎ ((length xs ≤ i) × (slice_get xs i ≡ None)) → take (i + 1) xs ≡ take i xs ++ x ∷ []
    by_case (inl some) =
        let both : Some some.0 ≡ Some x = sym some.2 ∙ is in
        let one : some.0 ≡ x = cc in
        take_more xs i some.0 some.1 ∙ ap (λ y. take i xs ++ y ∷ []) (some.3 ∙ one)
    by_case (inr past) = absurd (let gone : None ≡ Some x = sym past.1 ∙ is in cc)

-- ---- values

values_alike : (xs ys : List Value) → reverse (map datum_of xs) ≡ reverse (map datum_of ys) → xs ≡ ys
values_alike xs ys same = map_alike datum_of value_of value_of-datum_of xs ys (reversed_alike (map datum_of xs) (map datum_of ys) same)

-- operands, by the values that they are
pub operands_alike : (one other : List Datum) (xs ys : List Value) (b : Bool) → one ≡ reverse (map datum_of xs) → other ≡ reverse (map datum_of ys) →
    (IsTrue b ↔ (xs ≡ ys)) → (IsTrue b ↔ (one ≡ other))
operands_alike one other xs ys b is is' same =
    ((λ t. is ∙ ap (λ vs. reverse (map datum_of vs)) (same.0 t) ∙ sym is'), (λ e. same.1 (values_alike xs ys (sym is ∙ e ∙ is'))))

-- the last value is on top
last_on_top : (all below : List Value) (x : Value) → all ≡ below ++ x ∷ [] → reverse (map datum_of all) ≡ datum_of x ∷ reverse (map datum_of below)
last_on_top all below x is =
    ap (λ vs. reverse (map datum_of vs)) is
    ∙ ap reverse (map-append datum_of below (x ∷ []))
    ∙ reverse-append (map datum_of below) (datum_of x ∷ [])

-- ---- what is lent

abbrev step_in : ValueStep → Step
step_in (value_step.Index low index) = step.Index low index
step_in (value_step.Field place) = step.Field place
step_in (value_step.Node name) = step.Node name

step_in-step_of : (s : Step) → step_in (step_of s) ≡ s
step_in-step_of (step.Index low index) = refl
step_in-step_of (step.Field place) = refl
step_in-step_of (step.Node name) = refl

abbrev path_in : Option RuleTarget → List ValueStep
path_in None = []
path_in (Some to) = to.path

pub lent_alike : (one other : Passed) (to to' : Target) (p q : List Step) (b : Bool) → one ≡ passed.Lent to → other ≡ passed.Lent to' →
    to.slot ≡ to'.slot → p ≡ to.path.items → q ≡ to'.path.items → (IsTrue b ↔ (p ≡ q)) →
    (IsTrue b ↔ (lent (passed_of one) ≡ lent (passed_of other)))
lent_alike one other to to' p q b is is' slots path path' same =
    let left = ap (λ x. lent (passed_of x)) is in
    let right = ap (λ x. lent (passed_of x)) is' in (
      (λ t.
          let paths : path_of to.path.items ≡ path_of to'.path.items = ap path_of (sym path ∙ same.0 t ∙ path') in
          let targets : Some (record { slot = to.slot; path = path_of to.path.items }) ≡ Some (record { slot = to'.slot; path = path_of to'.path.items }) =
          λ i. Some (record { slot = slots i; path = paths i }) in
          left ∙ targets ∙ sym right),
      (λ e.
          same.1 (path ∙ map_alike step_of step_in step_in-step_of to.path.items to'.path.items (ap path_in (sym left ∙ e ∙ right)) ∙ sym path')),
    )

-- operands that are others, with one more on top
module _ (one other : List Datum) (all below ys : List Value) (x top : Value) (is : one ≡ reverse (map datum_of all)) (is' : other ≡ reverse (map datum_of ys))
    (ends : all ≡ below ++ x ∷ []) where
  whole : one ≡ datum_of x ∷ reverse (map datum_of below)
  whole = is ∙ last_on_top all below x ends

  pub below_alike : (b : Bool) → x ≡ top → (IsTrue b ↔ (below ≡ ys)) → (IsTrue b ↔ (one ≡ datum_of top ∷ other))
  below_alike b same rest = (
    (λ t.
        whole
        ∙ ap (λ v. datum_of v ∷ reverse (map datum_of below)) same
        ∙ ap (λ vs. datum_of top ∷ reverse (map datum_of vs)) (rest.0 t)
        ∙ ap (λ vs. datum_of top ∷ vs) (sym is')),
    (λ e. rest.1 (values_alike below ys (ap (drop 1) (sym whole ∙ e) ∙ is'))),
  )
