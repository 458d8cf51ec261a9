-- Nodes whose names rise.
use Rattle.std.proofs.Common.{◌≡◌, ℕ, zero, suc, ◌<◌, ◌≤◌, Bool, true, false, cond, ℤ, List, [], ◌∷◌, length, get_or, map, None, Some, refl, ap, sym, ◌∙◌, subst, arith}
use Rattle.std.specs.Int.{cast_signed, cast_unsigned, w64}
use Rattle.std.specs.Prelude.{FitsSigned, int_lt, remove, slice_get, slice_set}
use Rattle.std.specs.Cmp.{Equal-is, tied_itself}
use Rattle.std.specs.FinMap.{int_cmp-IsAntisymmetric}
use Rattle.std.specs.List.{All, AllByRecursion}
use Rattle.std.specs.List.Sorted.{IsPartitionedBy, IsStrictlySortedBy}
use Rattle.std.specs.declared.cmp.Ordering.{Ordering}
use Rattle.std.specs.declared.cmp.Ordering.TheVariants.{Less, Equal, Greater}
use Rattle.std.specs.Ordering.{int_cmp, int_eq, is_eq, is_lt, ordering_reverse}
use Rattle.std.proofs.lemmas.Cmp.{int_cmp_total}
use Rattle.std.proofs.lemmas.List.Elements.{All-head, All-tail}
use Rattle.std.proofs.lemmas.Int.{to_z-of_z}
use Rattle.value_core.specs.Datum.{Datum}
use Rattle.value_core.specs.View.{datum_of}
use Rattle.value_core.specs.declared.value.Value.{Value}
use Rattle.graph_values.specs.Graphs.{AreNamed, IsNode, is_named, name_in, node_of, value_at, value_in, with_node, without_node}
use Rattle.graph_values.specs.Places.{Parted, StandsAt, is_before}

-- a test of two integers is that of their order
lt_by : (a b : Bool) → is_lt (cond a Less (cond b Greater Equal)) ≡ a
lt_by true b = refl
lt_by false true = refl
lt_by false false = refl

pub lt_is : (x y : ℤ) → is_lt (int_cmp x y) ≡ int_lt x y
lt_is x y = lt_by (int_lt x y) (int_lt y x)

less : (r : Ordering) → is_lt r ≡ true → r ≡ Less
less Less h = refl
less Equal h = absurd cc
less Greater h = absurd cc

unlike : (r : Ordering) → is_lt r ≡ true → is_eq r ≡ false
unlike Less h = refl
unlike Equal h = absurd cc
unlike Greater h = refl

greater : (r : Ordering) → is_lt r ≡ false → is_eq r ≡ false → r ≡ Greater
greater Less h k = absurd cc
greater Equal h k = absurd cc
greater Greater h k = refl

-- a name in front isn't the name
front : (name : ℤ) (v : Value) → is_before name v ≡ true → is_named name (datum_of v) ≡ false
front name v h = unlike (int_cmp (name_in (datum_of v)) name) (lt_is (name_in (datum_of v)) name ∙ h)

-- a name behind a greater one isn't the name
behind : (name x y : ℤ) → int_cmp x name ≡ Greater → int_cmp x y ≡ Less → int_eq y name ≡ false
behind name x y h k =
    let name_below_x : int_cmp name x ≡ Less = int_cmp_total.antisymm name x ∙ ap ordering_reverse h in
    ap is_eq (int_cmp_total.antisymm y name ∙ ap ordering_reverse (int_cmp_total.trans name x y name_below_x k))

further : (name : ℤ) (v : Value) (vs : List Value) (i : ℕ) → Parted name (v ∷ vs) (suc i) → Parted name vs i
further name v vs i spot = (λ k d low lt. spot.0 (suc k) d (omega arith) (omega (arith, lt)), λ k d low lt. spot.1 (suc k) d (omega (arith, low)) (omega (arith, lt)))

-- the node at the place
pub set_at : (name : ℤ) (w : Datum) (vs : List Value) (i : ℕ) (d : Value) → i < length vs → Parted name vs i → is_named name (datum_of (get_or vs i d)) ≡ true →
    with_node name w (map datum_of vs) ≡ slice_set (map datum_of vs) i w
set_at name w [] i d h spot same = absurd (omega (arith, h))
set_at name w (v ∷ vs) zero d h spot same = ap (λ b. cond b (w ∷ map datum_of vs) (datum_of v ∷ with_node name w (map datum_of vs))) same
set_at name w (v ∷ vs) (suc i) d h spot same =
    ap (λ b. cond b (w ∷ map datum_of vs) (datum_of v ∷ with_node name w (map datum_of vs))) (front name v (spot.0 0 v (omega arith) (omega arith)))
    ∙ ap (λ xs. datum_of v ∷ xs) (set_at name w vs i d (omega (arith, h)) (further name v vs i spot) same)

pub deleted_at : (name : ℤ) (vs : List Value) (i : ℕ) (d : Value) → i < length vs → Parted name vs i → is_named name (datum_of (get_or vs i d)) ≡ true →
    without_node name (map datum_of vs) ≡ remove (map datum_of vs) i
deleted_at name [] i d h spot same = absurd (omega (arith, h))
deleted_at name (v ∷ vs) zero d h spot same = ap (λ b. cond b (map datum_of vs) (datum_of v ∷ without_node name (map datum_of vs))) same
deleted_at name (v ∷ vs) (suc i) d h spot same =
    ap (λ b. cond b (map datum_of vs) (datum_of v ∷ without_node name (map datum_of vs))) (front name v (spot.0 0 v (omega arith) (omega arith)))
    ∙ ap (λ xs. datum_of v ∷ xs) (deleted_at name vs i d (omega (arith, h)) (further name v vs i spot) same)

pub value_there : (name : ℤ) (vs : List Value) (i : ℕ) (d : Value) → i < length vs → Parted name vs i → is_named name (datum_of (get_or vs i d)) ≡ true →
    value_at name (map datum_of vs) ≡ Some (value_in (datum_of (get_or vs i d)))
value_there name [] i d h spot same = absurd (omega (arith, h))
value_there name (v ∷ vs) zero d h spot same = ap (λ b. cond b (Some (value_in (datum_of v))) (value_at name (map datum_of vs))) same
value_there name (v ∷ vs) (suc i) d h spot same =
    ap (λ b. cond b (Some (value_in (datum_of v))) (value_at name (map datum_of vs))) (front name v (spot.0 0 v (omega arith) (omega arith)))
    ∙ value_there name vs i d (omega (arith, h)) (further name v vs i spot) same

-- no node has the name
none_behind : (name x : ℤ) (xs : List Datum) → int_cmp x name ≡ Greater → AllByRecursion (λ y. int_cmp x y ≡ Less) (map name_in xs) → value_at name xs ≡ None
none_behind name x [] h all = refl
none_behind name x (y ∷ xs) h all = ap (λ b. cond b (Some (value_in y)) (value_at name xs)) (behind name x (name_in y) h all.0) ∙ none_behind name x xs h all.1

pub absent_at : (name : ℤ) (vs : List Value) (i : ℕ) → IsStrictlySortedBy int_cmp (map name_in (map datum_of vs)) → Parted name vs i →
    ((d : Value) → i < length vs → is_named name (datum_of (get_or vs i d)) ≡ false) → value_at name (map datum_of vs) ≡ None
unfolding IsStrictlySortedBy
absent_at name [] i rises spot apart = refl
absent_at name (v ∷ vs) zero rises spot apart =
    let x = name_in (datum_of v) in
    let here : is_named name (datum_of v) ≡ false = apart v (omega arith) in
    let above : int_cmp x name ≡ Greater = greater (int_cmp x name) (lt_is x name ∙ spot.1 0 v (omega arith) (omega arith)) here in
    ap (λ b. cond b (Some (value_in (datum_of v))) (value_at name (map datum_of vs))) here ∙ none_behind name x (map datum_of vs) above rises.0
absent_at name (v ∷ vs) (suc i) rises spot apart =
    ap (λ b. cond b (Some (value_in (datum_of v))) (value_at name (map datum_of vs))) (front name v (spot.0 0 v (omega arith) (omega arith)))
    ∙ absent_at name vs i rises.1 (further name v vs i spot) (λ d h. apart d (omega (arith, h)))

-- names that rise are parted by any name
later_above : (x : ℤ) (vs : List Value) (j : ℕ) (d : Value) → AllByRecursion (λ y. int_cmp x y ≡ Less) (map name_in (map datum_of vs)) → j < length vs → int_cmp x (name_in (datum_of (get_or vs j d))) ≡ Less
later_above x [] j d all h = absurd (omega (arith, h))
later_above x (v ∷ vs) zero d all h = all.0
later_above x (v ∷ vs) (suc j) d all h = later_above x vs j d all.1 (omega (arith, h))

pub parted : (name : ℤ) (vs : List Value) → IsStrictlySortedBy int_cmp (map name_in (map datum_of vs)) → IsPartitionedBy (is_before name) vs
unfolding IsStrictlySortedBy
parted name [] rises i j d le lt before = absurd (omega (arith, lt))
parted name (v ∷ vs) rises zero zero d le lt before = before
parted name (v ∷ vs) rises zero (suc j) d le lt before =
    let x = name_in (datum_of v) in
    let y = name_in (datum_of (get_or vs j d)) in
    let first : int_cmp x y ≡ Less = later_above x vs j d rises.0 (omega (arith, lt)) in
    let second : int_cmp y name ≡ Less = less (int_cmp y name) (lt_is y name ∙ before) in
    sym (lt_is x name) ∙ ap is_lt (int_cmp_total.trans x y name first second)
parted name (v ∷ vs) rises (suc i) zero d le lt before = absurd (omega (arith, le))
parted name (v ∷ vs) rises (suc i) (suc j) d le lt before = parted name vs rises.1 i j d (omega (arith, le)) (omega (arith, lt)) before

-- the place has the node with the name
length_map : (vs : List Value) → length (map datum_of vs) ≡ length vs
length_map [] = refl
length_map (v ∷ vs) = ap suc (length_map vs)

at_map : (vs : List Value) (i : ℕ) (d : Value) → i < length vs → slice_get (map datum_of vs) i ≡ Some (datum_of (get_or vs i d))
at_map [] i d h = absurd (omega (arith, h))
at_map (v ∷ vs) zero d h = refl
at_map (v ∷ vs) (suc i) d h = at_map vs i d (omega (arith, h))

node_at : (xs : List Datum) (i : ℕ) (x : Datum) → All IsNode xs → slice_get xs i ≡ Some x → IsNode x
node_at [] i x all is = absurd cc
node_at (y ∷ xs) zero x all is = let same : y ≡ x = cc in subst IsNode same (All-head IsNode y xs all)
node_at (y ∷ xs) (suc i) x all is = node_at xs i x (All-tail IsNode y xs all) is

pub stands_at : (name : ℤ) (vs : List Value) (i : ℕ) (v : Value) → AreNamed (map datum_of vs) → Parted name vs i → i < length vs → v ≡ get_or vs i v → name_in (datum_of v) ≡ name → StandsAt name (map datum_of vs) i
stands_at name vs i v named spot here is same =
    let met : is_named name (datum_of (get_or vs i v)) ≡ true =
    ap (λ x. is_named name (datum_of x)) (sym is) ∙ (Equal-is (int_cmp (name_in (datum_of v)) name)).1 (ap (λ z. int_cmp z name) same ∙ tied_itself int_cmp_total name) in
    let shown : slice_get (map datum_of vs) i ≡ Some (datum_of v) = at_map vs i v here ∙ ap (λ x. Some (datum_of x)) (sym is) in
    record {
      within = omega (arith, length_map vs, here);
      node = λ x at'. let e : datum_of v ≡ x = cc in
          subst (λ y. y ≡ node_of name (value_in y)) e (node_at (map datum_of vs) i (datum_of v) named.nodes shown ∙ ap (λ z. node_of z (value_in (datum_of v))) same);
      value = λ x at'. let e : datum_of v ≡ x = cc in
          value_there name vs i v here spot met ∙ ap (λ y. Some (value_in (datum_of y))) (sym is) ∙ ap (λ y. Some (value_in y)) e;
      set = λ w. set_at name w vs i v here spot met;
      deleted = deleted_at name vs i v here spot met;
    }

any_default : (vs : List Value) (i : ℕ) (d v : Value) → i < length vs → get_or vs i d ≡ get_or vs i v
any_default [] i d v h = absurd (omega (arith, h))
any_default (x ∷ vs) zero d v h = refl
any_default (x ∷ vs) (suc i) d v h = any_default vs i d v (omega (arith, h))

-- the node at the place has another name
pub stands_nowhere : (name : ℤ) (vs : List Value) (i : ℕ) (v : Value) → AreNamed (map datum_of vs) → Parted name vs i → i < length vs → v ≡ get_or vs i v →
    is_named name (datum_of v) ≡ false → value_at name (map datum_of vs) ≡ None
stands_nowhere name vs i v named spot here is apart =
    absent_at name vs i named.rising spot (λ d h. ap (λ x. is_named name (datum_of x)) (any_default vs i d v here ∙ sym is) ∙ apart)

-- the place is behind all nodes
pub stands_behind : (name : ℤ) (vs : List Value) (i : ℕ) → AreNamed (map datum_of vs) → Parted name vs i → length vs ≤ i → value_at name (map datum_of vs) ≡ None
stands_behind name vs i named spot past = absent_at name vs i named.rising spot (λ d h. absurd (omega (arith, h, past)))

-- integers of 64 bits that have the same bits
pub same_word : (x y : ℤ) → FitsSigned w64 x → FitsSigned w64 y → cast_unsigned w64 x ≡ cast_unsigned w64 y → x ≡ y
same_word x y h k bits = sym (to_z-of_z w64 x h) ∙ ap (cast_signed w64) bits ∙ to_z-of_z w64 y k

pub other_word : (x y : ℤ) → (cast_unsigned w64 x ≡ cast_unsigned w64 y → ⊥) → int_eq x y ≡ false
other_word x y apart = by_answer (int_eq x y) refl
  where
    by_answer : (b : Bool) → int_eq x y ≡ b → b ≡ false
    by_answer true is = absurd (apart (ap (cast_unsigned w64) (int_cmp-IsAntisymmetric x y ((Equal-is (int_cmp x y)).0 is))))
    by_answer false is = refl
