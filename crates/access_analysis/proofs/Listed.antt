-- The classes of all operations in a table: one more in it, what a name adds, and what stands at a place.
use Rattle.std.proofs.Common.{◌≡◌, ℕ, zero, suc, ◌<◌, ◌≤◌, ◌+◌, Bool, true, false, cond, List, [], ◌∷◌, ◌++◌, length, get_or, take, map, filter, Option, Some, None, refl, sym, ap, ◌∙◌, append_assoc, append-nil, arith}
use Rattle.std.specs.Prelude.{option_and_then, option_map, slice_get, unwrap_or}
use Rattle.std.specs.Option.{option_map_or}
use Rattle.std.proofs.Math.ListN.{get_or-map}
use Rattle.std.proofs.lemmas.List.{length-map, map-append, take_all, take_more}
use Rattle.std.proofs.lemmas.List.Elements.{filter-append}
use Rattle.std.proofs.lemmas.Option.{slice_get-map}
use Rattle.orca_base.specs.declared.ids.KindNo.{KindNo}
use Rattle.orca_base.specs.declared.ids.OpNo.{OpNo}
use Rattle.orca_syntax.specs.Syntax.{Operation}
use Rattle.link_rules.specs.Units.{Source}
use Rattle.type_rules.specs.TopLevel.{TopName}
use Rattle.value_core.specs.declared.action.Class.{Class}
use Rattle.value_core.specs.declared.action.Class.TheVariants.{Writes}
use Rattle.meaning_rules.specs.Classes.{class_of, operation_class, type_class}
use Rattle.meaning_rules.specs.Programs.{ObjectType, specifications, specified, type_at}
use Rattle.program_bodies.proofs.Matched.{seen_more}
use Rattle.access_analysis.specs.Tables.{class_at_place, specified_classes, type_classes}

-- one operation more
pub listed_more : {A X Y : Type 0} (view : A → X) (f : X → Y) (xs : List A) (i : ℕ) (x : A) (old new : List Y) (y : Y) → i < length xs → x ≡ get_or xs i x →
    new ≡ old ++ y ∷ [] → y ≡ f (view x) → old ≡ map f (map view (take i xs)) → new ≡ map f (map view (take (i + 1) xs))
listed_more {A} {X} {Y} view f xs i x old new y lt is more same before =
    more
    ∙ ap (λ (l : List Y). l ++ y ∷ []) before
    ∙ ap (λ (z : Y). map f (map view (take i xs)) ++ z ∷ []) same
    ∙ sym (ap (map f) (seen_more view xs i x lt is) ∙ map-append f (map view (take i xs)) (view x ∷ []))

-- ---- what a name of the top level adds

-- nothing, where it doesn't pass
pub adds_none : {X Y : Type 0} (f : X → Y) (x : X) (b : Bool) (ys : List Y) → b ≡ false → ys ≡ ys ++ map f (cond b (x ∷ []) [])
adds_none f x true ys is = absurd (cc is)
adds_none f x false ys is = sym (append-nil ys)

pub adds_one : {V X Y : Type 0} (view : V → Y) (f : X → Y) (x : X) (v : V) (b : Bool) (old new : List V) → b ≡ true → new ≡ old ++ v ∷ [] → view v ≡ f x →
    map view new ≡ map view old ++ map f (cond b (x ∷ []) [])
adds_one view f x v false old new is more same = absurd (cc is)
adds_one {V} {X} {Y} view f x v true old new is more same =
    ap (map view) more ∙ map-append view old (v ∷ []) ∙ ap (λ (y : Y). map view old ++ y ∷ []) same

-- the one list in front is empty
pub one_empty : {V Y : Type 0} (view : V → List Y) (v : V) (none all : List V) → none ≡ [] → all ≡ none ++ v ∷ [] → view v ≡ [] → map view all ≡ [] ∷ []
one_empty {V} {Y} view v none all empty is seen =
    ap (map view) (is ∙ ap (λ (l : List V). l ++ v ∷ []) empty) ∙ ap (λ (t : List Y). t ∷ []) seen

passed_more : {A X : Type 0} (view : A → X) (p : X → Bool) (xs : List A) (k : ℕ) (x : A) → k < length xs → x ≡ get_or xs k x →
    filter p (take (k + 1) (map view xs)) ≡ filter p (take k (map view xs)) ++ cond (p (view x)) (view x ∷ []) []
passed_more {A} {X} view p xs k x less is =
    let long = length-map xs view in
    ap (filter p) (take_more (map view xs) k (view x) (omega (arith, less, long)))
    ∙ filter-append p (take k (map view xs)) (get_or (map view xs) k (view x) ∷ [])
    ∙ ap (λ (v : X). filter p (take k (map view xs)) ++ filter p (v ∷ [])) (get_or-map view xs k x ∙ ap view (sym is))

-- one name more is gone through
pub grown : {A X Y : Type 0} (view : A → X) (p : X → Bool) (f : X → Y) (front : List Y) (xs : List A) (k : ℕ) (x : A) (old new : List Y) → k < length xs →
    x ≡ get_or xs k x → old ≡ front ++ map f (filter p (take k (map view xs))) → new ≡ old ++ map f (cond (p (view x)) (view x ∷ []) []) →
    new ≡ front ++ map f (filter p (take (k + 1) (map view xs)))
grown {A} {X} {Y} view p f front xs k x old new less is before more =
    more
    ∙ ap (λ (ys : List Y). ys ++ map f (cond (p (view x)) (view x ∷ []) [])) before
    ∙ append_assoc front (map f (filter p (take k (map view xs)))) (map f (cond (p (view x)) (view x ∷ []) []))
    ∙ ap (λ (ys : List Y). front ++ ys)
    (sym (map-append f (filter p (take k (map view xs))) (cond (p (view x)) (view x ∷ []) [])) ∙ ap (map f) (sym (passed_more view p xs k x less is)))

-- and all are
pub all_grown : {A X Y : Type 0} (view : A → X) (p : X → Bool) (f : X → Y) (front : List Y) (xs : List A) (k : ℕ) (all : List X) (ys : List Y) → length xs ≤ k →
    map view xs ≡ all → ys ≡ front ++ map f (filter p (take k (map view xs))) → ys ≡ front ++ map f (filter p all)
all_grown {A} {X} {Y} view p f front xs k all ys past seen is =
    let long = length-map xs view in
    is ∙ ap (λ (ts : List X). front ++ map f (filter p ts)) (take_all k (map view xs) (omega (arith, long, past)) ∙ seen)

-- ---- what stands at a place

row_mapped : {V : Type 0} (view : V → List Class) (o : Option V) → option_map_or view o [] ≡ unwrap_or (option_map view o) []
row_mapped view None = refl
row_mapped view (Some v) = refl

-- as it is read, a row first
pub class_read : {V : Type 0} (view : V → List Class) (table : List V) (kind : KindNo) (op : OpNo) (k i : ℕ) (row : List Class) (x : Class) → k ≡ kind.0 → i ≡ op.0 →
    row ≡ option_map_or view (slice_get table k) [] → x ≡ unwrap_or (slice_get row i) Writes → x ≡ class_at_place (map view table) kind op
class_read {V} view table kind op k i row x at place e f =
    f
    ∙ ap (λ (l : List Class). unwrap_or (slice_get l i) Writes)
    (e ∙ ap (λ (j : ℕ). option_map_or view (slice_get table j) []) at ∙ row_mapped view (slice_get table kind.0)
    ∙ ap (λ (o : Option (List Class)). unwrap_or o []) (sym (slice_get-map view table kind.0)))
    ∙ ap (λ (j : ℕ). unwrap_or (slice_get (unwrap_or (slice_get (map view table) kind.0) []) j) Writes) place

in_classes : (us : List Source) (op : OpNo) (o : Option ObjectType) →
    unwrap_or (slice_get (option_map_or (type_classes us) o []) op.0) Writes ≡ option_map_or (type_class us op) o Writes
in_classes us op None = refl
in_classes us op (Some t) =
    ap (λ (o : Option Class). unwrap_or o Writes) (slice_get-map (operation_class us t) t.operations op.0) ∙ by (slice_get t.operations op.0)
  where
    by : (o : Option Operation) → unwrap_or (option_map (operation_class us t) o) Writes ≡ option_map_or (operation_class us t) o Writes
    by None = refl
    by (Some x) = refl

at_number : (us : List Source) (op : OpNo) (n : ℕ) →
    unwrap_or (slice_get (unwrap_or (slice_get ([] ∷ map (specified_classes us) (specifications us)) n) []) op.0) Writes
    ≡ option_map_or (type_class us op) (type_at us n) Writes
at_number us op zero = refl
at_number us op (suc k) =
    ap (λ (o : Option (List Class)). unwrap_or (slice_get (unwrap_or o []) op.0) Writes) (slice_get-map (specified_classes us) (specifications us) k)
    ∙ by (slice_get (specifications us) k)
  where
    by : (o : Option TopName) →
        unwrap_or (slice_get (unwrap_or (option_map (specified_classes us) o) []) op.0) Writes ≡ option_map_or (type_class us op) (option_and_then (specified us) o) Writes
    by None = refl
    by (Some t) = in_classes us op (specified us t)

pub right_classes : (us : List Source) (table : List (List Class)) → table ≡ [] ∷ map (specified_classes us) (specifications us) → (kind : KindNo) (op : OpNo) →
    class_at_place table kind op ≡ class_of us kind op
right_classes us table is kind op = ap (λ (t : List (List Class)). class_at_place t kind op) is ∙ at_number us op kind.0
