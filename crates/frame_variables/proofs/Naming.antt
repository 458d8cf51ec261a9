-- Nodes of a name other than 0, found by halving among values that rise: they stand from the first on that isn't below the fields of the
-- name alone.
use Rattle.std.proofs.Common.{◌≡◌, ℕ, zero, suc, ◌+◌, ◌<◌, ◌≤◌, Bool, true, false, cond, ℤ, pos, List, [], ◌∷◌, get_or, length, map, Some, None, refl, ap, sym, ◌∙◌, subst, arith}
use Rattle.std.specs.Prelude.{nat_lt, not, position}
use Rattle.std.specs.Cmp.{Equal-is, tied_itself}
use Rattle.std.specs.FinMap.{int_cmp-IsAntisymmetric}
use Rattle.std.specs.List.{AllByRecursion, position_or_len}
use Rattle.std.specs.List.Sorted.{IsPartitionedBy, IsStrictlySortedBy}
use Rattle.std.specs.declared.cmp.Ordering.{Ordering}
use Rattle.std.specs.declared.cmp.Ordering.TheVariants.{Less, Equal, Greater}
use Rattle.std.specs.Ordering.{int_cmp, int_eq, is_eq, is_lt, ordering_reverse, ordering_then}
use Rattle.std.proofs.lemmas.Bool.{ltb-false, ltb-true}
use Rattle.std.proofs.lemmas.Cmp.{int_cmp_total}
use Rattle.value_core.specs.Datum.{Datum, Data}
use Rattle.value_core.specs.Datum as datum
use Rattle.value_core.specs.Order.{data_cmp, datum_cmp}
use Rattle.value_core.specs.OrderLaws.{datum_exact, datum_total}
use Rattle.value_core.specs.View.{datum_of}
use Rattle.value_core.specs.declared.value.Value.{Value}
use Rattle.graph_values.specs.Graphs.{is_named, node_of}
use Rattle.frame_variables.specs.Naming.{Precedes, is_before, name_alone}

-- what is named isn't before its name
not_before_itself : (w : Data) (r : Ordering) → r ≡ Equal → is_lt (ordering_then r (data_cmp w datum.none)) ≡ false
not_before_itself datum.none Equal h = refl
not_before_itself (datum.more v w) Equal h = refl
not_before_itself w Less h = absurd cc
not_before_itself w Greater h = absurd cc

same_name : (z name : ℤ) → int_eq z name ≡ true → int_cmp z name ≡ Equal
same_name z name h = (Equal-is (int_cmp z name)).0 h

no_name : {X : Type 0} (name : ℤ) → (name ≡ pos 0 → ⊥) → int_eq (pos 0) name ≡ true → X
no_name name other h = absurd (other (sym (int_cmp-IsAntisymmetric (pos 0) name (same_name (pos 0) name h))))

named_not_before : (name : ℤ) (x : Datum) → (name ≡ pos 0 → ⊥) → is_named name x ≡ true → is_before name x ≡ false
named_not_before name (datum.fields (datum.more (datum.int z) w)) other h = not_before_itself w (int_cmp z name) (same_name z name h)
named_not_before name x other h = no_name name other h

before_not_named : (name : ℤ) (x : Datum) → (name ≡ pos 0 → ⊥) → is_before name x ≡ true → is_named name x ≡ false
before_not_named name x other before = by_name (is_named name x) refl
  where
    by_name : (b : Bool) → is_named name x ≡ b → b ≡ false
    by_name false h = refl
    by_name true h = let wrong = sym before ∙ named_not_before name x other h in absurd cc

-- between the name alone and what is named, all is named
first_decides : (v : Datum) (w ws : Data) (name : ℤ) (r : Ordering) → datum_cmp v (datum.int name) ≡ r → is_lt (ordering_then r (data_cmp ws datum.none)) ≡ false → (v ≡ datum.int name → ⊥) →
    ordering_then (datum_cmp (datum.int name) v) (data_cmp w ws) ≡ Less
first_decides v w ws name Less is h other = absurd cc
first_decides v w ws name Equal is h other = absurd (other (datum_exact v (datum.int name) is))
first_decides v w ws name Greater is h other = ap (λ r. ordering_then r (data_cmp w ws)) (datum_total.antisymm (datum.int name) v ∙ ap ordering_reverse is)

int_not_named : (v : Datum) (ws : Data) (name : ℤ) → is_named name (datum.fields (datum.more v ws)) ≡ false → v ≡ datum.int name → ⊥
int_not_named v ws name h is =
    let wrong : true ≡ false = sym (ap (λ r. is_eq r) (tied_itself datum_total (datum.int name))) ∙ ap (λ u. is_named name (datum.fields (datum.more u ws))) (sym is) ∙ h in absurd cc

pub below_what_is_named : (name : ℤ) (x y : Datum) → (name ≡ pos 0 → ⊥) → is_before name x ≡ false → is_named name x ≡ false → is_named name y ≡ true → datum_cmp y x ≡ Less
below_what_is_named name x (datum.fields (datum.more (datum.int z) w)) other late unnamed named =
    let z_is : z ≡ name = int_cmp-IsAntisymmetric z name (same_name z name named) in
    subst (λ n. datum_cmp (datum.fields (datum.more (datum.int n) w)) x ≡ Less) (sym z_is) (by_kind x late unnamed)
  where
    by_kind : (x : Datum) → is_before name x ≡ false → is_named name x ≡ false → datum_cmp (datum.fields (datum.more (datum.int name) w)) x ≡ Less
    by_kind (datum.fields (datum.more v ws)) late unnamed = first_decides v w ws name (datum_cmp v (datum.int name)) refl late (int_not_named v ws name unnamed)
    by_kind (datum.fields datum.none) late unnamed = absurd cc
    by_kind (datum.set u) late unnamed = refl
    by_kind (datum.bag u) late unnamed = refl
    by_kind (datum.object p n) late unnamed = refl
    by_kind v late unnamed = absurd cc
below_what_is_named name x y other late unnamed named = no_name name other named

-- ---- lists

above_at : (x : Datum) (vs : List Value) (j : ℕ) (d : Value) → AllByRecursion (λ y. datum_cmp x y ≡ Less) (map datum_of vs) → j < length vs → datum_cmp x (datum_of (get_or vs j d)) ≡ Less
above_at x [] j d all h = absurd (omega (arith, h))
above_at x (v ∷ vs) zero d all h = all.0
above_at x (v ∷ vs) (suc j) d all h = above_at x vs j d all.1 (omega (arith, h))

lt_less : (r : Ordering) → is_lt r ≡ true → r ≡ Less
lt_less Less h = refl
lt_less Equal h = absurd cc
lt_less Greater h = absurd cc

pub nodes_parted : (name : ℤ) (vs : List Value) → IsStrictlySortedBy datum_cmp (map datum_of vs) → IsPartitionedBy (λ v. is_before name (datum_of v)) vs
unfolding IsStrictlySortedBy
nodes_parted name [] rises i j d le lt h = absurd (omega (arith, lt))
nodes_parted name (v ∷ vs) rises zero zero d le lt h = h
nodes_parted name (v ∷ vs) rises zero (suc j) d le lt h =
    let over : datum_cmp (datum_of v) (datum_of (get_or vs j d)) ≡ Less = above_at (datum_of v) vs j d rises.0 (omega (arith, lt)) in
    ap is_lt (datum_total.trans (datum_of v) (datum_of (get_or vs j d)) (name_alone name) over (lt_less (datum_cmp (datum_of (get_or vs j d)) (name_alone name)) h))
nodes_parted name (v ∷ vs) rises (suc i) zero d le lt h = absurd (omega (arith, le))
nodes_parted name (v ∷ vs) rises (suc i) (suc j) d le lt h = nodes_parted name vs rises.1 i j d (omega (arith, le)) (omega (arith, lt)) h

further : (name : ℤ) (v : Value) (vs : List Value) (i : ℕ) → Precedes name (v ∷ vs) (suc i) → Precedes name vs i
further name v vs i spot = (λ k d low lt. spot.0 (suc k) d (omega arith) (omega (arith, lt)), λ k d low lt. spot.1 (suc k) d (omega (arith, low)) (omega (arith, lt)))

one_more : (n : ℕ) → 1 + n ≡ suc n
one_more n = omega arith

first_named : (name : ℤ) (v : Value) (vs : List Value) (n : ℕ) → is_named name (datum_of v) ≡ false → position_or_len (λ u. is_named name (datum_of u)) vs ≡ n → position_or_len (λ u. is_named name (datum_of u)) (v ∷ vs) ≡ suc n
first_named name v vs n apart rest =
    ap (λ b. cond (not b) (1 + position_or_len (λ u. is_named name (datum_of u)) vs) 0) apart ∙ ap (λ m. 1 + m) rest ∙ one_more n

-- a node that stands there
named_at : (name : ℤ) (vs : List Value) (i : ℕ) (d : Value) → (name ≡ pos 0 → ⊥) → i < length vs → Precedes name vs i → is_named name (datum_of (get_or vs i d)) ≡ true →
    position_or_len (λ u. is_named name (datum_of u)) vs ≡ i
named_at name [] i d other h spot is = absurd (omega (arith, h))
named_at name (v ∷ vs) zero d other h spot is = ap (λ b. cond (not b) (1 + position_or_len (λ u. is_named name (datum_of u)) vs) 0) is
named_at name (v ∷ vs) (suc i) d other h spot is =
    first_named name v vs i (before_not_named name (datum_of v) other (spot.0 0 v (omega arith) (omega arith)))
    (named_at name vs i d other (omega (arith, h)) (further name v vs i spot) is)

-- none behind what is late and not named
none_behind : (name : ℤ) (x : Datum) (vs : List Value) → (name ≡ pos 0 → ⊥) → is_before name x ≡ false → is_named name x ≡ false → AllByRecursion (λ y. datum_cmp x y ≡ Less) (map datum_of vs) →
    position_or_len (λ u. is_named name (datum_of u)) vs ≡ length vs
none_behind name x [] other late apart all = refl
none_behind name x (v ∷ vs) other late apart all = first_named name v vs (length vs) (by_name (is_named name (datum_of v)) refl) (none_behind name x vs other late apart all.1)
  where
    by_name : (b : Bool) → is_named name (datum_of v) ≡ b → b ≡ false
    by_name false h = refl
    by_name true h =
        let below = below_what_is_named name x (datum_of v) other late apart h in
        let wrong : Greater ≡ Less = sym (ap ordering_reverse below) ∙ sym (datum_total.antisymm x (datum_of v)) ∙ all.0 in absurd cc

-- no node stands there
unnamed_at : (name : ℤ) (vs : List Value) (i : ℕ) → (name ≡ pos 0 → ⊥) → i ≤ length vs → Precedes name vs i → IsStrictlySortedBy datum_cmp (map datum_of vs) →
    ((d : Value) → i < length vs → is_named name (datum_of (get_or vs i d)) ≡ false) → position_or_len (λ u. is_named name (datum_of u)) vs ≡ length vs
unfolding IsStrictlySortedBy
unnamed_at name [] i other h spot rises apart = refl
unnamed_at name (v ∷ vs) zero other h spot rises apart =
    let here = apart v (omega arith) in
    first_named name v vs (length vs) here (none_behind name (datum_of v) vs other (spot.1 0 v (omega arith) (omega arith)) here rises.0)
unnamed_at name (v ∷ vs) (suc i) other h spot rises apart =
    first_named name v vs (length vs) (before_not_named name (datum_of v) other (spot.0 0 v (omega arith) (omega arith)))
    (unnamed_at name vs i other (omega (arith, h)) (further name v vs i spot) rises.1 (λ d low. apart d (omega (arith, low))))

-- and so what code answers
pub place_named : (name : ℤ) (vs : List Value) (i : ℕ) (d : Value) → (name ≡ pos 0 → ⊥) → i < length vs → Precedes name vs i → is_named name (datum_of (get_or vs i d)) ≡ true →
    Some i ≡ position (λ u. is_named name (datum_of u)) vs
place_named name vs i d other h spot is =
    by_place (position_or_len (λ u. is_named name (datum_of u)) vs) (named_at name vs i d other h spot is)
  where
    low_is : (b : Bool) → nat_lt i (length vs) ≡ b → b ≡ true
    low_is true is = refl
    low_is false is = let past = ltb-false i (length vs) is in absurd (omega (arith, past, h))

    by_place : (n : ℕ) → n ≡ i → Some i ≡ cond (nat_lt n (length vs)) (Some n) None
    by_place n same = subst (λ m. Some i ≡ cond (nat_lt m (length vs)) (Some m) None) (sym same) (sym (ap (λ b. cond b (Some i) None) (low_is (nat_lt i (length vs)) refl)))

pub place_unnamed : (name : ℤ) (vs : List Value) (i : ℕ) → (name ≡ pos 0 → ⊥) → i ≤ length vs → Precedes name vs i → IsStrictlySortedBy datum_cmp (map datum_of vs) →
    ((d : Value) → i < length vs → is_named name (datum_of (get_or vs i d)) ≡ false) → None ≡ position (λ u. is_named name (datum_of u)) vs
place_unnamed name vs i other h spot rises apart =
    by_place (position_or_len (λ u. is_named name (datum_of u)) vs) (unnamed_at name vs i other h spot rises apart)
  where
    low_is : (b : Bool) → nat_lt (length vs) (length vs) ≡ b → b ≡ false
    low_is false is = refl
    low_is true is = let low = ltb-true (length vs) (length vs) is in absurd (omega (arith, low))

    by_place : (n : ℕ) → n ≡ length vs → None ≡ cond (nat_lt n (length vs)) (Some n) None
    by_place n same = subst (λ m. None ≡ cond (nat_lt m (length vs)) (Some m) None) (sym same) (sym (ap (λ b. cond b (Some (length vs)) None) (low_is (nat_lt (length vs) (length vs)) refl)))

-- what code finds there, by the name as a word
any_default : (vs : List Value) (i : ℕ) (d v : Value) → i < length vs → get_or vs i d ≡ get_or vs i v
any_default [] i d v h = absurd (omega (arith, h))
any_default (x ∷ vs) zero d v h = refl
any_default (x ∷ vs) (suc i) d v h = any_default vs i d v (omega (arith, h))

pub halved_named : (name name' : ℤ) (vs : List Value) (i : ℕ) (v : Value) → name' ≡ name → (name ≡ pos 0 → ⊥) → Precedes name' vs i → i < length vs → v ≡ get_or vs i v → is_named name' (datum_of v) ≡ true →
    Some i ≡ position (λ u. is_named name (datum_of u)) vs
halved_named name name' vs i v same other spot low is named =
    place_named name vs i v other low (subst (λ n. Precedes n vs i) same spot) (ap (λ u. is_named name (datum_of u)) (sym is) ∙ ap (λ n. is_named n (datum_of v)) (sym same) ∙ named)

pub halved_other : (name name' : ℤ) (vs : List Value) (i : ℕ) (v : Value) → name' ≡ name → (name ≡ pos 0 → ⊥) → i ≤ length vs → Precedes name' vs i → IsStrictlySortedBy datum_cmp (map datum_of vs) → i < length vs → v ≡ get_or vs i v →
    is_named name' (datum_of v) ≡ false → None ≡ position (λ u. is_named name (datum_of u)) vs
halved_other name name' vs i v same other within spot rises low is unnamed =
    place_unnamed name vs i other within (subst (λ n. Precedes n vs i) same spot) rises
    (λ d below. ap (λ u. is_named name (datum_of u)) (any_default vs i d v low ∙ sym is) ∙ ap (λ n. is_named n (datum_of v)) (sym same) ∙ unnamed)

pub halved_past : (name name' : ℤ) (vs : List Value) (i : ℕ) → name' ≡ name → (name ≡ pos 0 → ⊥) → i ≤ length vs → Precedes name' vs i → IsStrictlySortedBy datum_cmp (map datum_of vs) → length vs ≤ i →
    None ≡ position (λ u. is_named name (datum_of u)) vs
halved_past name name' vs i same other within spot rises past =
    place_unnamed name vs i other within (subst (λ n. Precedes n vs i) same spot) rises (λ d below. absurd (omega (arith, past, below)))

-- ---- values before all nodes of a name

pub itself_named : (name : ℤ) (x : Datum) → is_named name (node_of name x) ≡ true
itself_named name x = ap is_eq (tied_itself int_cmp_total name)

pub before_node : (name : ℤ) (x y : Datum) → is_before name y ≡ true → datum_cmp y (node_of name x) ≡ Less
before_node name x y before =
    datum_total.trans y (name_alone name) (node_of name x) (lt_less (datum_cmp y (name_alone name)) before)
    (ap (λ r. ordering_then r Less) (tied_itself int_cmp_total name))

-- behind a node, all of another name is above any node of its name
pub late_behind : (name : ℤ) (y z : Datum) → (name ≡ pos 0 → ⊥) → is_named name y ≡ true → datum_cmp y z ≡ Less → is_before name z ≡ false
late_behind name y z other named less = by_answer (is_before name z) refl
  where
    by_answer : (b : Bool) → is_before name z ≡ b → b ≡ false
    by_answer false is = refl
    by_answer true is =
        let early : is_before name y ≡ true = ap is_lt (datum_total.trans y z (name_alone name) less (lt_less (datum_cmp z (name_alone name)) is)) in
        let wrong : true ≡ false = sym early ∙ named_not_before name y other named in absurd cc

-- in front of a node, all of another name is before its name
pub early_before : (name : ℤ) (y u : Datum) → (name ≡ pos 0 → ⊥) → is_named name y ≡ false → is_named name u ≡ true → datum_cmp y u ≡ Less → is_before name y ≡ true
early_before name y u other unnamed named less = by_answer (is_before name y) refl
  where
    by_answer : (b : Bool) → is_before name y ≡ b → b ≡ true
    by_answer true is = refl
    by_answer false is =
        let below = below_what_is_named name y u other is unnamed named in
        let wrong : Greater ≡ Less = sym (ap ordering_reverse below) ∙ sym (datum_total.antisymm y u) ∙ less in absurd cc
