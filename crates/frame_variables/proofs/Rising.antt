-- Nodes that rise stay so where one goes, where one comes behind the others, and where the one of a name changes.
use Rattle.std.proofs.Common.{◌≡◌, ℕ, zero, suc, ◌+◌, ◌-◌, ◌≤◌, Bool, true, false, cond, ℤ, pos, List, [], ◌∷◌, ◌++◌, length, map, Some, refl, ap, sym, ◌∙◌, subst, arith}
use Rattle.std.specs.Prelude.{not, remove, slice_get}
use Rattle.std.specs.List.{AllByRecursion}
use Rattle.std.specs.List.Sorted.{IsStrictlySortedBy}
use Rattle.std.specs.Ordering.{is_lt}
use Rattle.std.specs.declared.cmp.Ordering.TheVariants.{Less}
use Rattle.value_core.specs.Datum.{Datum, list_of-data_of}
use Rattle.value_core.specs.Order.{datum_cmp}
use Rattle.value_core.specs.OrderLaws.{datum_total}
use Rattle.value_core.specs.View.{datum_of}
use Rattle.value_core.specs.declared.value.Value.{Value}
use Rattle.graph_values.specs.Graphs.{graph_of, is_named, node_of, nodes_in, with_node}
use Rattle.frame_variables.specs.Naming.{AreBefore, is_before, name_alone}
use Rattle.frame_variables.specs.Ordered.{AllOrdered, IsOrdered}
use Rattle.frame_variables.proofs.Keeping.{above_first, as_data, is_less, joined, nodes_ordered}
use Rattle.frame_variables.proofs.Naming.{before_node, below_what_is_named, early_before, itself_named, late_behind}
use Rattle.frame_variables.proofs.Placing.{node_place}

-- ---- lists

rises_with_first : (x : Datum) (xs : List Datum) → AllByRecursion (λ y. datum_cmp x y ≡ Less) xs → IsStrictlySortedBy datum_cmp xs → IsStrictlySortedBy datum_cmp (x ∷ xs)
unfolding IsStrictlySortedBy
rises_with_first x xs above rest = (above, rest)

above_of : (x : Datum) (xs : List Datum) → IsStrictlySortedBy datum_cmp (x ∷ xs) → AllByRecursion (λ y. datum_cmp x y ≡ Less) xs
unfolding IsStrictlySortedBy
above_of x xs h = h.0

rest_of : (x : Datum) (xs : List Datum) → IsStrictlySortedBy datum_cmp (x ∷ xs) → IsStrictlySortedBy datum_cmp xs
unfolding IsStrictlySortedBy
rest_of x xs h = h.1

all_removed : (P : Datum → Type 0) (xs : List Datum) (i : ℕ) → AllByRecursion P xs → AllByRecursion P (remove xs i)
all_removed P [] zero h = tt
all_removed P [] (suc i) h = tt
all_removed P (x ∷ xs) zero h = h.1
all_removed P (x ∷ xs) (suc i) h = (h.0, all_removed P xs i h.1)

all_more : (P : Datum → Type 0) (xs : List Datum) (y : Datum) → AllByRecursion P xs → P y → AllByRecursion P (xs ++ y ∷ [])
all_more P [] y h one = (one, tt)
all_more P (x ∷ xs) y h one = (h.0, all_more P xs y h.1 one)

rising_removed : (xs : List Datum) (i : ℕ) → IsStrictlySortedBy datum_cmp xs → IsStrictlySortedBy datum_cmp (remove xs i)
unfolding IsStrictlySortedBy
rising_removed [] zero h = tt
rising_removed [] (suc i) h = tt
rising_removed (x ∷ xs) zero h = h.1
rising_removed (x ∷ xs) (suc i) h = (all_removed (λ y. datum_cmp x y ≡ Less) xs i h.0, rising_removed xs i h.1)

rising_more : (xs : List Datum) (y : Datum) → IsStrictlySortedBy datum_cmp xs → AllByRecursion (λ x. datum_cmp x y ≡ Less) xs → IsStrictlySortedBy datum_cmp (xs ++ y ∷ [])
unfolding IsStrictlySortedBy
rising_more [] y h below = (tt, tt)
rising_more (x ∷ xs) y h below = (all_more (λ z. datum_cmp x z ≡ Less) xs y h.0 below.0, rising_more xs y h.1 below.1)

-- ---- graphs

pub graph_ordered : (next : ℤ) (xs : List Datum) → AllOrdered xs → IsStrictlySortedBy datum_cmp xs → IsOrdered (graph_of next xs)
graph_ordered next xs all rises = (tt, ((as_data xs all, subst (IsStrictlySortedBy datum_cmp) (sym (list_of-data_of xs)) rises), tt))

-- `deletenode`
pub removed_ordered : (next : ℤ) (g v : Datum) (xs ys : List Datum) (i : ℕ) → IsOrdered g → xs ≡ nodes_in g → ys ≡ remove xs i → v ≡ graph_of next ys → IsOrdered v
removed_ordered next g v xs ys i h nodes gone is =
    let of_nodes = nodes_ordered g h in
    let left : ys ≡ remove (nodes_in g) i = gone ∙ ap (λ zs. remove zs i) nodes in
    subst IsOrdered (sym (is ∙ ap (graph_of next) left))
    (graph_ordered next (remove (nodes_in g) i) (all_removed IsOrdered (nodes_in g) i of_nodes.0) (rising_removed (nodes_in g) i of_nodes.1))

-- `addnode`: where the last node is before a name, all are
last_before : (name : ℤ) (vs : List Value) (n : ℕ) (last : Value) → suc n ≡ length vs → slice_get vs n ≡ Some last → is_before name (datum_of last) ≡ true → IsStrictlySortedBy datum_cmp (map datum_of vs) →
    AreBefore name (map datum_of vs)
last_before name [] n last long is before rises = tt
last_before name (v ∷ []) zero last long is before rises = let same : v ≡ last = cc in (ap (λ u. is_before name (datum_of u)) same ∙ before, tt)
last_before name (v ∷ []) (suc n) last long is before rises = absurd (omega (arith, long))
last_before name (v ∷ w ∷ vs) zero last long is before rises = absurd (omega (arith, long))
last_before name (v ∷ w ∷ vs) (suc n) last long is before rises =
    let rest = last_before name (w ∷ vs) n last (omega (arith, long)) is before (rest_of (datum_of v) (map datum_of (w ∷ vs)) rises) in
    let first = above_of (datum_of v) (map datum_of (w ∷ vs)) rises in
    (ap is_lt (datum_total.trans (datum_of v) (datum_of w) (name_alone name) first.0 (is_less (datum_cmp (datum_of w) (name_alone name)) rest.0)), rest)

pub last_of : (name name' : ℤ) (vs : List Value) (last : Value) → name' ≡ name → Some last ≡ slice_get vs (length vs - 1) → is_before name' (datum_of last) ≡ true → IsStrictlySortedBy datum_cmp (map datum_of vs) →
    AreBefore name (map datum_of vs)
last_of name name' [] last same stood before rises = tt
last_of name name' (v ∷ vs) last same stood before rises =
    let place : length (v ∷ vs) - 1 ≡ length vs = omega arith in
    last_before name (v ∷ vs) (length vs) last (omega arith) (sym (stood ∙ ap (slice_get (v ∷ vs)) place)) (ap (λ n. is_before n (datum_of last)) (sym same) ∙ before) rises

pub none_before : (name : ℤ) (vs : List Value) → length vs ≤ 0 → AreBefore name (map datum_of vs)
none_before name [] empty = tt
none_before name (v ∷ vs) empty = absurd (omega (arith, empty))

below_node : (name : ℤ) (x : Datum) (xs : List Datum) → AreBefore name xs → AllByRecursion (λ y. datum_cmp y (node_of name x) ≡ Less) xs
below_node name x [] h = tt
below_node name x (y ∷ xs) h = (before_node name x y h.0, below_node name x xs h.1)

pub added_ordered : (name next : ℤ) (g fresh v : Datum) (xs ys : List Datum) → IsOrdered g → IsOrdered fresh → xs ≡ nodes_in g → AreBefore name xs → ys ≡ xs ++ node_of name fresh ∷ [] → v ≡ graph_of next ys → IsOrdered v
added_ordered name next g fresh v xs ys h one nodes before more is =
    let of_nodes = nodes_ordered g h in
    let all : AllOrdered xs = subst AllOrdered (sym nodes) of_nodes.0 in
    let rises : IsStrictlySortedBy datum_cmp xs = subst (IsStrictlySortedBy datum_cmp) (sym nodes) of_nodes.1 in
    subst IsOrdered (sym (is ∙ ap (graph_of next) more))
    (graph_ordered next (xs ++ node_of name fresh ∷ []) (joined xs (node_of name fresh ∷ []) all ((tt, (one, tt)), tt)) (rising_more xs (node_of name fresh) rises (below_node name fresh xs before)))

-- ---- the node of a name changes

with_all : (name : ℤ) (y : Datum) (xs : List Datum) → AllOrdered xs → IsOrdered y → AllOrdered (with_node name y xs)
with_all name y [] h one = tt
with_all name y (x ∷ xs) h one = by_name (is_named name x) (with_all name y xs h.1 one)
  where
    by_name : (b : Bool) → AllOrdered (with_node name y xs) → AllOrdered (cond b (y ∷ xs) (x ∷ with_node name y xs))
    by_name true rest = (one, h.1)
    by_name false rest = (h.0, rest)

-- what is above a value stays so
above_with : (name : ℤ) (y z : Datum) (xs : List Datum) → ((u : Datum) → is_named name u ≡ true → datum_cmp y u ≡ Less → datum_cmp y z ≡ Less) → AllByRecursion (λ u. datum_cmp y u ≡ Less) xs → AllByRecursion (λ u. datum_cmp y u ≡ Less) (with_node name z xs)
above_with name y z [] put h = tt
above_with name y z (x ∷ xs) put h = by_name (is_named name x) refl (above_with name y z xs put h.1)
  where
    by_name : (b : Bool) → is_named name x ≡ b → AllByRecursion (λ u. datum_cmp y u ≡ Less) (with_node name z xs) → AllByRecursion (λ u. datum_cmp y u ≡ Less) (cond b (z ∷ xs) (x ∷ with_node name z xs))
    by_name true named rest = (put x named h.0, h.1)
    by_name false named rest = (h.0, rest)

-- what is behind a node is above any node of its name, where the next one has another
above_named : (name : ℤ) (x y : Datum) (xs : List Datum) → (name ≡ pos 0 → ⊥) → is_named name y ≡ true → IsStrictlySortedBy datum_cmp (y ∷ xs) → ((z : Datum) → slice_get xs 0 ≡ Some z → is_named name z ≡ false) →
    AllByRecursion (λ u. datum_cmp (node_of name x) u ≡ Less) xs
above_named name x y [] other named rises alone = tt
above_named name x y (z ∷ xs) other named rises alone =
    let above = above_of y (z ∷ xs) rises in
    let less = below_what_is_named name z (node_of name x) other (late_behind name y z other named above.0) (alone z refl) (itself_named name x) in
    (less, above_first (node_of name x) z xs less (above_of z xs (rest_of y (z ∷ xs) rises)))

pub get_next : (y : Datum) (xs : List Datum) (i j : ℕ) → j ≡ suc i → slice_get (y ∷ xs) j ≡ slice_get xs i
get_next y xs i j is = ap (λ n. slice_get (y ∷ xs) n) is

pub rising_with : (name : ℤ) (x : Datum) (xs : List Datum) → (name ≡ pos 0 → ⊥) → ((z : Datum) → slice_get xs (node_place name xs + 1) ≡ Some z → is_named name z ≡ false) → IsStrictlySortedBy datum_cmp xs →
    IsStrictlySortedBy datum_cmp (with_node name (node_of name x) xs)
rising_with name x [] other alone h = h
rising_with name x (y ∷ xs) other alone h = by_name (is_named name y) refl alone (λ next. rising_with name x xs other next (rest_of y xs h))
  where
    by_name : (b : Bool) → is_named name y ≡ b → ((z : Datum) → slice_get (y ∷ xs) (cond (not b) (1 + node_place name xs) 0 + 1) ≡ Some z → is_named name z ≡ false) →
        (((z : Datum) → slice_get xs (node_place name xs + 1) ≡ Some z → is_named name z ≡ false) → IsStrictlySortedBy datum_cmp (with_node name (node_of name x) xs)) →
        IsStrictlySortedBy datum_cmp (cond b (node_of name x ∷ xs) (y ∷ with_node name (node_of name x) xs))
    by_name true named alone rest =
        rises_with_first (node_of name x) xs (above_named name x y xs other named h (λ z is. alone z (get_next y xs 0 1 (omega arith) ∙ is))) (rest_of y xs h)
    by_name false named alone rest =
        rises_with_first y (with_node name (node_of name x) xs)
        (above_with name y (node_of name x) xs (λ u is less. before_node name x y (early_before name y u other named is less)) (above_of y xs h))
        (rest (λ z is. alone z (get_next y xs (node_place name xs + 1) (1 + node_place name xs + 1) (omega arith) ∙ is)))

pub node_ordered : (name next : ℤ) (x : Datum) (xs : List Datum) → (name ≡ pos 0 → ⊥) → ((z : Datum) → slice_get xs (node_place name xs + 1) ≡ Some z → is_named name z ≡ false) → AllOrdered xs → IsStrictlySortedBy datum_cmp xs →
    IsOrdered x → IsOrdered (graph_of next (with_node name (node_of name x) xs))
node_ordered name next x xs other alone all rises one =
    graph_ordered next (with_node name (node_of name x) xs) (with_all name (node_of name x) xs all (tt, (one, tt))) (rising_with name x xs other alone rises)
