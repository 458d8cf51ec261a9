-- Graphs are sound where their values are, and how large they are.
use Rattle.std.proofs.Common.{◌≡◌, ◌+◌, ◌<◌, ◌≤◌, Bool, true, false, cond, ℤ, pos, negsuc, List, [], ◌∷◌, ◌++◌, map, Some, Result, Ok, Err, refl, ap, sym, ◌∙◌, subst, arith}
use Rattle.std.specs.Int.{w64}
use Rattle.std.specs.Prelude.{FitsSigned, ◌+ℤ◌, ◌≤ℤ◌, ◌<ℤ◌, is_some}
use Rattle.std.specs.List.{All, AllByRecursion}
use Rattle.std.specs.List.Sorted.{IsStrictlySortedBy}
use Rattle.std.specs.declared.cmp.Ordering.TheVariants.{Less}
use Rattle.std.specs.Ordering.{int_cmp, int_eq, ordering_then}
use Rattle.std.proofs.lemmas.Int.{ints}
use Rattle.std.proofs.lemmas.List.Elements.{All-from_recursion, recursion_from_All}
use Rattle.orca_base.specs.declared.fault.FaultKind.{FaultKind}
use Rattle.orca_base.specs.declared.fault.FaultKind.TheVariants.{IndexOutside, Overflow}
use Rattle.orca_base.specs.declared.limits.TheConstants.{VALUE_NESTING}
use Rattle.value_core.specs.Datum.{Datum, Data, data_of, list_of, list_of-data_of}
use Rattle.value_core.specs.Datum as datum
use Rattle.value_core.specs.Order.{data_cmp, datum_cmp}
use Rattle.value_core.specs.Size.{size_of, size_of_all}
use Rattle.value_core.specs.Sound.{AreWellFormed, IsShort, IsSound, IsWellFormed, nesting, nesting_of_all}
use Rattle.graph_values.specs.Calls.{grown, name_of}
use Rattle.graph_values.specs.Graphs.{IsGraph, IsNode, added, assigned, deleted, graph_of, is_named, last_name, name_in, node_in, node_of, nodes_in, value_at, value_in, with_node, without_node}
use Rattle.graph_values.specs.SoundNodes.{IsSoundNode}
use Rattle.graph_values.proofs.Kept.{IsGiven, added_graph, assigned_graph, deleted_graph}

-- what a call that succeeds gives
pub added_gives : (b : Bool) (n name : ℤ) (h g : Datum) → cond {A = Result (ℤ × Datum) FaultKind} b (Err Overflow) (Ok (n, h)) ≡ Ok (name, g) → (n ≡ name) × (h ≡ g)
added_gives true n name h g is = absurd cc
added_gives false n name h g is = let same : n ∷ [] ≡ name ∷ [] = ap name_of is in (cc, ap (λ r. grown r h) is)

pub changed_gives : (b : Bool) (h g : Datum) → cond {A = Result Datum FaultKind} b (Ok h) (Err IndexOutside) ≡ Ok g → (b ≡ true) × (h ≡ g)
changed_gives true h g is = (refl, cc)
changed_gives false h g is = absurd cc

pub kept_added : (fresh g h : Datum) (name : ℤ) → IsGraph g → added fresh g ≡ Ok (name, h) → IsGraph h × (name ≡ name_in g) × (name_in h ≡ (name +ℤ pos 1))
kept_added fresh g h name graph is =
    let gives = added_gives (int_eq (name_in g) last_name) (name_in g) name (graph_of (name_in g +ℤ pos 1) (nodes_in g ++ node_of (name_in g) fresh ∷ [])) h is in
    (subst IsGraph gives.1 (added_graph fresh g graph), sym gives.0, ap name_in (sym gives.1) ∙ ap (λ z. z +ℤ pos 1) gives.0)

pub kept_deleted : (name : ℤ) (g h : Datum) → IsGraph g → deleted name g ≡ Ok h → IsGraph h × (name_in h ≡ name_in g)
kept_deleted name g h graph is =
    let gives = changed_gives (is_some (node_in name g)) (graph_of (name_in g) (without_node name (nodes_in g))) h is in
    (subst IsGraph gives.1 (deleted_graph name g graph), ap name_in (sym gives.1))

pub kept_assigned : (name : ℤ) (v g h : Datum) → IsGraph g → assigned name v g ≡ Ok h → IsGraph h × (name_in h ≡ name_in g)
kept_assigned name v g h graph is =
    let gives = changed_gives (is_some (node_in name g)) (graph_of (name_in g) (with_node name (node_of name v) (nodes_in g))) h is in
    (subst IsGraph gives.1 (assigned_graph name v g graph), ap name_in (sym gives.1))

-- the set of the nodes rises
first_decides : (x y : Datum) → IsNode x → IsNode y → int_cmp (name_in x) (name_in y) ≡ Less → datum_cmp x y ≡ Less
first_decides x y p q h =
    ap (λ z. datum_cmp z y) p ∙ ap (datum_cmp (node_of (name_in x) (value_in x))) q
    ∙ ap (λ r. ordering_then r (data_cmp (datum.more (value_in x) datum.none) (datum.more (value_in y) datum.none))) h

rises_behind : (x : Datum) (xs : List Datum) → IsNode x → AllByRecursion IsNode xs → AllByRecursion (λ z. int_cmp (name_in x) z ≡ Less) (map name_in xs) → AllByRecursion (λ y. datum_cmp x y ≡ Less) xs
rises_behind x [] node nodes all = tt
rises_behind x (y ∷ xs) node nodes all = (first_decides x y node nodes.0 all.0, rises_behind x xs node nodes.1 all.1)

nodes_rise : (xs : List Datum) → AllByRecursion IsNode xs → IsStrictlySortedBy int_cmp (map name_in xs) → IsStrictlySortedBy datum_cmp xs
unfolding IsStrictlySortedBy
nodes_rise [] nodes rising = tt
nodes_rise (x ∷ xs) nodes rising = (rises_behind x xs nodes.0 nodes.1 rising.0, nodes_rise xs nodes.1 rising.1)

pub set_rises : (g : Datum) → IsGraph g → IsStrictlySortedBy datum_cmp (nodes_in g)
set_rises g h = nodes_rise (nodes_in g) (recursion_from_All IsNode (nodes_in g) h.named.nodes) h.named.rising

-- soundness
fits_below : (z next : ℤ) → pos 1 ≤ℤ z → z <ℤ next → FitsSigned w64 next → FitsSigned w64 z
fits_below (pos k) (pos n) least below fits = let less : k < n = omega (arith, ints, below) in record { sfits = omega (arith, less, fits.sfits) }
fits_below (pos k) (negsuc n) least below fits = absurd below.lt
fits_below (negsuc k) next least below fits = absurd least.le

node_well : (next : ℤ) (x : Datum) → FitsSigned w64 next → IsGiven next x → IsNode x → IsSoundNode x → IsWellFormed x
node_well next x fits given node sound = subst IsWellFormed (sym node)
    ((fits_below (name_in x) next given.0 given.1 fits, (sound.sound.well_formed, tt)), omega arith)

nodes_well : (next : ℤ) (xs : List Datum) → FitsSigned w64 next → AllByRecursion (IsGiven next) xs → AllByRecursion IsNode xs → AllByRecursion IsSoundNode xs → AreWellFormed (data_of xs)
nodes_well next [] fits given nodes sound = tt
nodes_well next (x ∷ xs) fits given nodes sound = (node_well next x fits given.0 nodes.0 sound.0, nodes_well next xs fits given.1 nodes.1 sound.1)

node_nests : (x : Datum) → IsNode x → IsSoundNode x → nesting x + 2 ≤ VALUE_NESTING
node_nests x node sound = let e : nesting x ≡ nesting (node_of (name_in x) (value_in x)) = ap nesting node in omega (arith, e, sound.shallow)

nodes_nest : (xs : List Datum) → AllByRecursion IsNode xs → AllByRecursion IsSoundNode xs → nesting_of_all (data_of xs) + 2 ≤ VALUE_NESTING
nodes_nest [] nodes sound = omega arith
nodes_nest (x ∷ xs) nodes sound = omega (arith, node_nests x nodes.0 sound.0, nodes_nest xs nodes.1 sound.1)

pub graph_sound : (g : Datum) → IsGraph g → FitsSigned w64 (name_in g) → AllByRecursion IsSoundNode (nodes_in g) → IsShort (nodes_in g) → IsSound g
graph_sound g h fits sound short =
    let xs = nodes_in g in
    let nodes = recursion_from_All IsNode xs h.named.nodes in
    subst IsSound (sym h.form) (record {
      well_formed = (
        (
          fits,
          (
            (
              nodes_well (name_in g) xs fits (recursion_from_All (IsGiven (name_in g)) xs h.given) nodes sound,
              subst IsShort (sym (list_of-data_of xs)) short,
              subst (IsStrictlySortedBy datum_cmp) (sym (list_of-data_of xs)) (set_rises g h),
            ),
            tt,
          ),
        ),
        omega arith,
      );
      shallow = omega (arith, nodes_nest xs nodes sound);
    })

-- and back
value_sound : (x : Datum) → IsNode x → IsWellFormed x → nesting x + 2 ≤ VALUE_NESTING → IsSoundNode x
value_sound x node well flat =
    let e : nesting x ≡ nesting (node_of (name_in x) (value_in x)) = ap nesting node in
    let both : IsWellFormed (node_of (name_in x) (value_in x)) = subst IsWellFormed node well in
    record {
      sound = record { well_formed = both.0.1.0; shallow = omega (arith, e, flat) };
      shallow = omega (arith, e, flat);
    }

values_sound : (xs : List Datum) → AllByRecursion IsNode xs → AreWellFormed (data_of xs) → nesting_of_all (data_of xs) + 2 ≤ VALUE_NESTING → AllByRecursion IsSoundNode xs
values_sound [] nodes well flat = tt
values_sound (x ∷ xs) nodes well flat = (value_sound x nodes.0 well.0 (omega (arith, flat)), values_sound xs nodes.1 well.1 (omega (arith, flat)))

pub nodes_sound : (g : Datum) → IsGraph g → IsSound g → FitsSigned w64 (name_in g) × All IsSoundNode (nodes_in g) × IsShort (nodes_in g)
nodes_sound g h sound =
    let xs = nodes_in g in
    let whole : IsSound (graph_of (name_in g) xs) = subst IsSound h.form sound in (
      whole.well_formed.0.0,
      All-from_recursion IsSoundNode xs (values_sound xs (recursion_from_All IsNode xs h.named.nodes) whole.well_formed.0.1.0.0 (omega (arith, whole.shallow))),
      subst IsShort (list_of-data_of xs) whole.well_formed.0.1.0.1,
    )

-- sizes
size_append : (xs : List Datum) (y : Datum) → size_of_all (data_of (xs ++ y ∷ [])) ≡ size_of_all (data_of xs) + size_of y
size_append [] y = omega arith
size_append (x ∷ xs) y = omega (arith, size_append xs y)

pub size_added : (fresh g h : Datum) (name : ℤ) → IsGraph g → added fresh g ≡ Ok (name, h) → size_of h ≡ size_of g + size_of fresh + 2
size_added fresh g h name graph is =
    let gives = added_gives (int_eq (name_in g) last_name) (name_in g) name (graph_of (name_in g +ℤ pos 1) (nodes_in g ++ node_of (name_in g) fresh ∷ [])) h is in
    let before : size_of g ≡ size_of (graph_of (name_in g) (nodes_in g)) = ap size_of graph.form in
    let after : size_of (graph_of (name_in g +ℤ pos 1) (nodes_in g ++ node_of (name_in g) fresh ∷ [])) ≡ size_of h = ap size_of gives.1 in
    omega (arith, before, after, size_append (nodes_in g) (node_of (name_in g) fresh))

some_same : (x y : Datum) → Some x ≡ Some y → x ≡ y
some_same x y h = cc

size_without : (name : ℤ) (xs : List Datum) (v : Datum) → AllByRecursion IsNode xs → value_at name xs ≡ Some v → size_of_all (data_of (without_node name xs)) + size_of v + 2 ≡ size_of_all (data_of xs)
size_without name [] v nodes found = absurd cc
size_without name (x ∷ xs) v nodes found = by_first (is_named name x) refl (size_without name xs v nodes.1)
  where
    by_first : (b : Bool) → is_named name x ≡ b → (value_at name xs ≡ Some v → size_of_all (data_of (without_node name xs)) + size_of v + 2 ≡ size_of_all (data_of xs)) →
        size_of_all (data_of (cond b xs (x ∷ without_node name xs))) + size_of v + 2 ≡ size_of_all (data_of (x ∷ xs))
    by_first true here rest =
        let same : value_in x ≡ v = some_same (value_in x) v (sym (ap (λ b. cond b (Some (value_in x)) (value_at name xs)) here) ∙ found) in
        let one : size_of x ≡ size_of (value_in x) + 2 = ap size_of nodes.0 ∙ (omega arith) in
        omega (arith, one, ap size_of same)
    by_first false apart rest =
        let e : size_of_all (data_of (without_node name xs)) + size_of v + 2 ≡ size_of_all (data_of xs) = rest (sym (ap (λ b. cond b (Some (value_in x)) (value_at name xs)) apart) ∙ found) in
        omega (arith, e)

pub size_deleted : (name : ℤ) (g h v : Datum) → IsGraph g → node_in name g ≡ Some v → deleted name g ≡ Ok h → size_of h + size_of v + 2 ≡ size_of g
size_deleted name g h v graph found is =
    let gives = changed_gives (is_some (node_in name g)) (graph_of (name_in g) (without_node name (nodes_in g))) h is in
    let before : size_of g ≡ size_of (graph_of (name_in g) (nodes_in g)) = ap size_of graph.form in
    let after : size_of (graph_of (name_in g) (without_node name (nodes_in g))) ≡ size_of h = ap size_of gives.1 in
    omega (arith, before, after, size_without name (nodes_in g) v (recursion_from_All IsNode (nodes_in g) graph.named.nodes) found)

size_with : (name : ℤ) (xs : List Datum) (u v : Datum) → AllByRecursion IsNode xs → value_at name xs ≡ Some u → size_of_all (data_of (with_node name (node_of name v) xs)) + size_of u ≡ size_of_all (data_of xs) + size_of v
size_with name [] u v nodes found = absurd cc
size_with name (x ∷ xs) u v nodes found = by_first (is_named name x) refl (size_with name xs u v nodes.1)
  where
    by_first : (b : Bool) → is_named name x ≡ b → (value_at name xs ≡ Some u → size_of_all (data_of (with_node name (node_of name v) xs)) + size_of u ≡ size_of_all (data_of xs) + size_of v) →
        size_of_all (data_of (cond b (node_of name v ∷ xs) (x ∷ with_node name (node_of name v) xs))) + size_of u ≡ size_of_all (data_of (x ∷ xs)) + size_of v
    by_first true here rest =
        let same : value_in x ≡ u = some_same (value_in x) u (sym (ap (λ b. cond b (Some (value_in x)) (value_at name xs)) here) ∙ found) in
        let one : size_of x ≡ size_of (value_in x) + 2 = ap size_of nodes.0 ∙ (omega arith) in
        omega (arith, one, ap size_of same)
    by_first false apart rest =
        let e : size_of_all (data_of (with_node name (node_of name v) xs)) + size_of u ≡ size_of_all (data_of xs) + size_of v = rest (sym (ap (λ b. cond b (Some (value_in x)) (value_at name xs)) apart) ∙ found) in
        omega (arith, e)

pub size_assigned : (name : ℤ) (u v g h : Datum) → IsGraph g → node_in name g ≡ Some u → assigned name v g ≡ Ok h → size_of h + size_of u ≡ size_of g + size_of v
size_assigned name u v g h graph found is =
    let gives = changed_gives (is_some (node_in name g)) (graph_of (name_in g) (with_node name (node_of name v) (nodes_in g))) h is in
    let before : size_of g ≡ size_of (graph_of (name_in g) (nodes_in g)) = ap size_of graph.form in
    let after : size_of (graph_of (name_in g) (with_node name (node_of name v) (nodes_in g))) ≡ size_of h = ap size_of gives.1 in
    omega (arith, before, after, size_with name (nodes_in g) u v (recursion_from_All IsNode (nodes_in g) graph.named.nodes) found)
