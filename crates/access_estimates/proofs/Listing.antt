-- Lists that grow as a loop goes on.
use Rattle.std.proofs.Common.{◌≡◌, ℕ, zero, suc, ◌<◌, ◌+◌, Bool, true, false, cond, List, [], ◌∷◌, ◌++◌, length, get_or, take, drop, map, filter, Option, Some, None, refl, sym, ap, ◌∙◌, arith}
use Rattle.std.specs.Prelude.{flat_map, position}
use Rattle.std.specs.List.{cons_option}
use Rattle.std.proofs.Math.Seq.{drop-cons}
use Rattle.std.proofs.lemmas.List.{append-nil, length-append, map-append}
use Rattle.std.proofs.lemmas.Grind.{flat_map-append}
use Rattle.std.proofs.lemmas.List.Elements.{filter-append}
use Rattle.link_rules.specs.Units.{Source}
use Rattle.type_tables.specs.Entries.{or_other}
use Rattle.program_tables.proofs.Listing.{placed_next}
use Rattle.program_bodies.proofs.Matched.{seen_more}
use Rattle.access_estimates.proofs.Rest.{appended, rest_is}
use Rattle.access_estimates.specs.declared.uses.Use.{Use as SeenUse}
use Rattle.access_estimates.specs.Seen.{all_seen, use_seen}
use Rattle.access_estimates.specs.declared.resolved.ResolvedUse.{ResolvedUse}
use Rattle.access_estimates.specs.Resolved.{all_resolved, resolved_by}
use Rattle.access_estimates.specs.Locals.{PlainLocal}
use Rattle.access_estimates.specs.Lookups.{option_list}

-- one more, seen in two ways
pub pushed : {X Y : Type 0} (view : X → Y) (xs ys : List X) (x : X) (all more : List Y) (y : Y) → ys ≡ xs ++ x ∷ [] → map view xs ≡ all → view x ≡ y →
    more ≡ all ++ y ∷ [] → map view ys ≡ more
pushed {X} {Y} view xs ys x all more y e before own after =
    ap (map view) e ∙ map-append view xs (x ∷ []) ∙ ap (λ (l : List Y). l ++ view x ∷ []) before ∙ ap (λ (v : Y). all ++ v ∷ []) own ∙ sym after

-- ---- lists of lists

-- what is put one behind the other is each with its own
pub listed : {X Y : Type 0} (f : X → List Y) (xs : List X) → flat_map f xs ≡ flat_map (λ ys. ys) (map f xs)
listed f [] = refl
listed {X} {Y} f (x ∷ xs) = ap (λ (l : List Y). f x ++ l) (listed f xs)

-- one list more
pub joined_more : {A X : Type 0} (view : A → List X) (ys : List A) (x : A) →
    flat_map (λ l. l) (map view (ys ++ x ∷ [])) ≡ flat_map (λ l. l) (map view ys) ++ view x
joined_more {A} {X} view ys x =
    ap (flat_map (λ (l : List X). l)) (map-append view ys (x ∷ []))
    ∙ flat_map-append (λ (l : List X). l) (map view ys) (view x ∷ [])
    ∙ ap (λ (l : List X). flat_map (λ (m : List X). m) (map view ys) ++ l) (append-nil (view x))

-- ---- what may be absent

pub cons_is : {X : Type 0} (o : Option X) (xs : List X) → cons_option o xs ≡ option_list o ++ xs
cons_is None xs = refl
cons_is (Some x) xs = refl

-- ---- what passes a test

pub passed_map : {A B C : Type 0} (view : A → B) (p : B → Bool) (f : B → C) (xs : List A) (i : ℕ) (x : A) → i < length xs → x ≡ get_or xs i x →
    map f (filter p (map view (drop i xs))) ≡ cond (p (view x)) (f (view x) ∷ []) [] ++ map f (filter p (map view (drop (i + 1) xs)))
passed_map {A} {B} {C} view p f xs i x lt is =
    ap (λ (l : List A). map f (filter p (map view l))) (rest_is xs i x lt is) ∙ by_test (p (view x)) refl
  where
    others : List B
    others = filter p (map view (drop (i + 1) xs))

    by_test : (b : Bool) → p (view x) ≡ b → map f (cond (p (view x)) (view x ∷ others) others) ≡ cond (p (view x)) (f (view x) ∷ []) [] ++ map f others
    by_test true e = rw e refl
    by_test false e = rw e refl

pub counted_more : {A B : Type 0} (view : A → B) (p : B → Bool) (xs : List A) (i : ℕ) (x : A) → i < length xs → x ≡ get_or xs i x →
    length (filter p (map view (take (i + 1) xs))) ≡ length (filter p (map view (take i xs))) + cond (p (view x)) 1 0
counted_more {A} {B} view p xs i x lt is =
    ap (λ (l : List B). length (filter p l)) (seen_more view xs i x lt is)
    ∙ ap (λ (l : List B). length l) (filter-append p (map view (take i xs)) (view x ∷ []))
    ∙ length-append (filter p (map view (take i xs))) (filter p (view x ∷ []))
    ∙ ap (λ (k : ℕ). length (filter p (map view (take i xs))) + k) (by_test (p (view x)))
  where
    by_test : (b : Bool) → length (cond b (view x ∷ []) []) ≡ cond b 1 0
    by_test true = refl
    by_test false = refl

-- ---- elements that have a value where there is none

or_any : {A : Type 0} (xs : List A) (i : ℕ) (a b : A) → i < length xs → get_or xs i a ≡ get_or xs i b
or_any [] i a b lt = absurd (omega (arith, lt))
or_any (x ∷ xs) zero a b lt = refl
or_any (x ∷ xs) (suc i) a b lt = or_any xs i a b (omega (arith, lt))

pub placed_at : {A X : Type 0} (view : A → X) (t : X → Bool) (xs : List A) (k : ℕ) (d : A) (was now : Option ℕ) → k < length xs →
    was ≡ position t (map view (take k xs)) → now ≡ or_other was (cond (t (view (get_or xs k d))) (Some k) None) → now ≡ position t (map view (take (k + 1) xs))
placed_at view t xs k d was now lt before after =
    placed_next view t xs k (get_or xs k d) was now lt (or_any xs k d (get_or xs k d) lt) before after

pub uses_more : (us : List Source) (m : List ℕ) (ns : List PlainLocal) (uses : List SeenUse) (i : ℕ) (d : SeenUse) (own : Option ResolvedUse) (old new all : List ResolvedUse) → i < length uses →
    new ≡ old ++ option_list own → own ≡ resolved_by us m ns (use_seen (get_or uses i d)) → old ++ all_resolved us m ns (all_seen (drop i uses)) ≡ all →
    new ++ all_resolved us m ns (all_seen (drop (i + 1) uses)) ≡ all
uses_more us m ns uses i d own old new all lt e found h =
    let next : suc i ≡ i + 1 = omega arith in
    let rest = all_resolved us m ns (all_seen (drop (i + 1) uses)) in
    appended old new (option_list own) rest _ all e
    (ap (λ (l : List SeenUse). all_resolved us m ns (all_seen l)) (drop-cons uses i d lt)
    ∙ ap (λ (k : ℕ). cons_option (resolved_by us m ns (use_seen (get_or uses i d))) (all_resolved us m ns (all_seen (drop k uses)))) next
    ∙ cons_is (resolved_by us m ns (use_seen (get_or uses i d))) rest
    ∙ ap (λ (o : Option ResolvedUse). option_list o ++ rest) (sym found))
    h
