-- A graph that is changed is a graph.
use Rattle.std.proofs.Common.{◌≡◌, Bool, true, false, cond, ℤ, pos, List, [], ◌∷◌, ◌++◌, map, refl, ap, sym, subst, arith}
use Rattle.std.specs.Prelude.{◌+ℤ◌, ◌≤ℤ◌, ◌<ℤ◌}
use Rattle.std.specs.Cmp.{Equal-is}
use Rattle.std.specs.FinMap.{int_cmp-IsAntisymmetric}
use Rattle.std.specs.List.{All, AllByRecursion}
use Rattle.std.specs.List.Sorted.{IsStrictlySortedBy}
use Rattle.std.specs.declared.cmp.Ordering.{Ordering}
use Rattle.std.specs.declared.cmp.Ordering.TheVariants.{Less, Equal, Greater}
use Rattle.std.specs.Ordering.{MatchOrdering, int_cmp}
use Rattle.std.proofs.lemmas.Cmp.{int_ranked}
use Rattle.std.proofs.lemmas.Int.{ints}
use Rattle.std.proofs.lemmas.List.Elements.{All-from_recursion, recursion_from_All}
use Rattle.value_core.specs.Datum.{Datum, list_of-data_of}
use Rattle.graph_values.specs.Graphs.{AreNamed, IsGraph, IsNode, graph_of, is_named, name_in, node_of, nodes_in, with_node, without_node}

-- what a graph asks of its nodes and its next name
abbrev pub IsGiven : ℤ → Datum → Type 0
IsGiven next x = (pos 1 ≤ℤ name_in x) × (name_in x <ℤ next)

pub make_graph : (next : ℤ) (xs : List Datum) → AllByRecursion IsNode xs → IsStrictlySortedBy int_cmp (map name_in xs) → AllByRecursion (IsGiven next) xs → pos 1 ≤ℤ next → IsGraph (graph_of next xs)
make_graph next xs nodes rising given least = record {
  form = ap (graph_of next) (sym (list_of-data_of xs));
  named = subst AreNamed (sym (list_of-data_of xs)) (record { nodes = All-from_recursion IsNode xs nodes; rising = rising });
  given = subst (All (IsGiven next)) (sym (list_of-data_of xs)) (All-from_recursion (IsGiven next) xs given);
  next = least;
}

-- both answers of a test
pub by_test : {A : Type 0} (P : A → Type 0) (b : Bool) (x y : A) → (b ≡ true → P x) → (b ≡ false → P y) → P (cond b x y)
by_test P true x y p q = p refl
by_test P false x y p q = q refl

-- what holds of each node
all_without : (P : Datum → Type 0) (name : ℤ) (xs : List Datum) → AllByRecursion P xs → AllByRecursion P (without_node name xs)
all_without P name [] all = tt
all_without P name (x ∷ xs) all = by_test (AllByRecursion P) (is_named name x) xs (x ∷ without_node name xs) (λ here. all.1) (λ apart. (all.0, all_without P name xs all.1))

all_names_without : (P : ℤ → Type 0) (name : ℤ) (xs : List Datum) → AllByRecursion P (map name_in xs) → AllByRecursion P (map name_in (without_node name xs))
all_names_without P name [] all = tt
all_names_without P name (x ∷ xs) all = by_test (λ ys. AllByRecursion P (map name_in ys)) (is_named name x) xs (x ∷ without_node name xs) (λ here. all.1) (λ apart. (all.0, all_names_without P name xs all.1))

rising_without : (name : ℤ) (xs : List Datum) → IsStrictlySortedBy int_cmp (map name_in xs) → IsStrictlySortedBy int_cmp (map name_in (without_node name xs))
unfolding IsStrictlySortedBy
rising_without name [] rising = tt
rising_without name (x ∷ xs) rising = by_test (λ ys. IsStrictlySortedBy int_cmp (map name_in ys)) (is_named name x) xs (x ∷ without_node name xs)
    (λ here. rising.1) (λ apart. (all_names_without (λ y. int_cmp (name_in x) y ≡ Less) name xs rising.0, rising_without name xs rising.1))

pub deleted_graph : (name : ℤ) (g : Datum) → IsGraph g → IsGraph (graph_of (name_in g) (without_node name (nodes_in g)))
deleted_graph name g h = make_graph (name_in g) (without_node name (nodes_in g))
    (all_without IsNode name (nodes_in g) (recursion_from_All IsNode (nodes_in g) h.named.nodes))
    (rising_without name (nodes_in g) h.named.rising)
    (all_without (IsGiven (name_in g)) name (nodes_in g) (recursion_from_All (IsGiven (name_in g)) (nodes_in g) h.given))
    h.next

-- the same names stand in the same places
pub same_name : (name : ℤ) (x : Datum) → is_named name x ≡ true → name_in x ≡ name
same_name name x h = int_cmp-IsAntisymmetric (name_in x) name ((Equal-is (int_cmp (name_in x) name)).0 h)

names_with : (name : ℤ) (v : Datum) (xs : List Datum) → map name_in (with_node name (node_of name v) xs) ≡ map name_in xs
names_with name v [] = refl
names_with name v (x ∷ xs) = by_test (λ ys. map name_in ys ≡ map name_in (x ∷ xs)) (is_named name x) (node_of name v ∷ xs) (x ∷ with_node name (node_of name v) xs)
    (λ here. ap (λ z. z ∷ map name_in xs) (sym (same_name name x here))) (λ apart. ap (λ zs. name_in x ∷ zs) (names_with name v xs))

nodes_with : (name : ℤ) (v : Datum) (xs : List Datum) → AllByRecursion IsNode xs → AllByRecursion IsNode (with_node name (node_of name v) xs)
nodes_with name v [] all = tt
nodes_with name v (x ∷ xs) all = by_test (AllByRecursion IsNode) (is_named name x) (node_of name v ∷ xs) (x ∷ with_node name (node_of name v) xs)
    (λ here. (refl, all.1)) (λ apart. (all.0, nodes_with name v xs all.1))

given_with : (next name : ℤ) (v : Datum) (xs : List Datum) → AllByRecursion (IsGiven next) xs → AllByRecursion (IsGiven next) (with_node name (node_of name v) xs)
given_with next name v [] all = tt
given_with next name v (x ∷ xs) all = by_test (AllByRecursion (IsGiven next)) (is_named name x) (node_of name v ∷ xs) (x ∷ with_node name (node_of name v) xs)
    (λ here. (subst (λ z. (pos 1 ≤ℤ z) × (z <ℤ next)) (same_name name x here) all.0, all.1)) (λ apart. (all.0, given_with next name v xs all.1))

pub assigned_graph : (name : ℤ) (v g : Datum) → IsGraph g → IsGraph (graph_of (name_in g) (with_node name (node_of name v) (nodes_in g)))
assigned_graph name v g h = make_graph (name_in g) (with_node name (node_of name v) (nodes_in g))
    (nodes_with name v (nodes_in g) (recursion_from_All IsNode (nodes_in g) h.named.nodes))
    (subst (IsStrictlySortedBy int_cmp) (sym (names_with name v (nodes_in g))) h.named.rising)
    (given_with (name_in g) name v (nodes_in g) (recursion_from_All (IsGiven (name_in g)) (nodes_in g) h.given))
    h.next

-- one node more, with the next name
all_append : (P : Datum → Type 0) (xs : List Datum) (y : Datum) → AllByRecursion P xs → P y → AllByRecursion P (xs ++ y ∷ [])
all_append P [] y all h = (h, tt)
all_append P (x ∷ xs) y all h = (all.0, all_append P xs y all.1 h)

less_from : (x y : ℤ) (r : Ordering) → MatchOrdering r (x <ℤ y) (x ≡ y) (y <ℤ x) → x <ℤ y → r ≡ Less
less_from x y Less ranks h = refl
less_from x y Equal ranks h = absurd (omega (arith, ints, ranks))
less_from x y Greater ranks h = absurd (omega (arith, ints, ranks))

pub lower : (x y : ℤ) → x <ℤ y → int_cmp x y ≡ Less
lower x y h = less_from x y (int_cmp x y) (int_ranked x y (int_cmp x y) refl) h

names_append : (P : ℤ → Type 0) (xs : List Datum) (y : Datum) → AllByRecursion P (map name_in xs) → P (name_in y) → AllByRecursion P (map name_in (xs ++ y ∷ []))
names_append P [] y all h = (h, tt)
names_append P (x ∷ xs) y all h = (all.0, names_append P xs y all.1 h)

rising_append : (xs : List Datum) (y : Datum) → IsStrictlySortedBy int_cmp (map name_in xs) → AllByRecursion (λ x. name_in x <ℤ name_in y) xs → IsStrictlySortedBy int_cmp (map name_in (xs ++ y ∷ []))
unfolding IsStrictlySortedBy
rising_append [] y rising below = (tt, tt)
rising_append (x ∷ xs) y rising below = (names_append (λ z. int_cmp (name_in x) z ≡ Less) xs y rising.0 (lower (name_in x) (name_in y) below.0), rising_append xs y rising.1 below.1)

all_weaker : (P Q : Datum → Type 0) → ((x : Datum) → P x → Q x) → (xs : List Datum) → AllByRecursion P xs → AllByRecursion Q xs
all_weaker P Q f [] all = tt
all_weaker P Q f (x ∷ xs) all = (f x all.0, all_weaker P Q f xs all.1)

step_up : (x next : ℤ) → x <ℤ next → x <ℤ (next +ℤ pos 1)
step_up x next h = omega (arith, ints, h)

next_up : (next : ℤ) → next <ℤ (next +ℤ pos 1)
next_up next = omega (arith, ints)

least_up : (next : ℤ) → pos 1 ≤ℤ next → pos 1 ≤ℤ (next +ℤ pos 1)
least_up next h = omega (arith, ints, h)

pub added_graph : (fresh g : Datum) → IsGraph g → IsGraph (graph_of (name_in g +ℤ pos 1) (nodes_in g ++ node_of (name_in g) fresh ∷ []))
added_graph fresh g h =
    let given = recursion_from_All (IsGiven (name_in g)) (nodes_in g) h.given in
    make_graph (name_in g +ℤ pos 1) (nodes_in g ++ node_of (name_in g) fresh ∷ [])
    (all_append IsNode (nodes_in g) (node_of (name_in g) fresh) (recursion_from_All IsNode (nodes_in g) h.named.nodes) refl)
    (rising_append (nodes_in g) (node_of (name_in g) fresh) h.named.rising (all_weaker (IsGiven (name_in g)) (λ x. name_in x <ℤ name_in g) (λ x k. k.1) (nodes_in g) given))
    (all_append (IsGiven (name_in g +ℤ pos 1)) (nodes_in g) (node_of (name_in g) fresh)
    (all_weaker (IsGiven (name_in g)) (IsGiven (name_in g +ℤ pos 1)) (λ x k. (k.0, step_up (name_in x) (name_in g) k.1)) (nodes_in g) given)
    (h.next, next_up (name_in g)))
    (least_up (name_in g) h.next)
