-- A part is no larger than the whole.
use Rattle.std.proofs.Common.{refl, ap, arith}
use Rattle.std.specs.Prelude.{◌≡◌, ◌≤◌, ◌+◌, Bool, true, false, if◌then◌else◌, ℕ, zero, suc, ℤ, pos, List, [], ◌∷◌, length, slice_get, unwrap_or, Option, Some, None, Result, Ok, Err}
use Rattle.orca_base.specs.declared.fault.FaultKind.{FaultKind}
use Rattle.value_core.specs.Datum.{Datum, Data, list_of, data_of, data_of-list_of, list_of-data_of}
use Rattle.value_core.specs.Datum as datum
use Rattle.value_core.specs.Size.{size_of, size_of_all}
use Rattle.value_ops.specs.Sizes.{place_of}
use Rattle.value_paths.specs.declared.step.Step.{Step}
use Rattle.value_paths.specs.declared.step.Step.TheVariants.{Field, Index, Node}
use Rattle.value_paths.specs.Paths.{array_in, at_place, found, part_to}
use Rattle.meaning_rules.proofs.PartsFit.{given}
use Rattle.graph_values.specs.Graphs.{fields_in, is_named, node_in, nodes_in, nodes_of, value_at, value_in}

pub size_some : (v : Datum) → 1 ≤ size_of v
size_some (datum.int z) = omega arith
size_some (datum.truth b) = omega arith
size_some (datum.char c) = omega arith
size_some (datum.enumerated n) = omega arith
size_some (datum.text s) = omega arith
size_some (datum.array w) = omega arith
size_some (datum.fields w) = omega arith
size_some (datum.set w) = omega arith
size_some (datum.bag w) = omega arith
size_some (datum.object p n) = omega arith

pub length_size : (w : Data) → length (list_of w) ≤ size_of_all w
length_size datum.none = omega arith
length_size (datum.more v w) =
    let one = size_some v in
    let rest = length_size w in
    omega (arith, one, rest)

-- the value in an option
abbrev inner : Datum → Option Datum → Datum
inner v None = v
inner v (Some x) = x

pub get_size : (w : Data) (k : ℕ) (p : Datum) → slice_get (list_of w) k ≡ Some p → size_of p ≤ size_of_all w
get_size datum.none k p is = absurd cc
get_size (datum.more v w) zero p is =
    let same : size_of v ≡ size_of p = ap (λ o. size_of (inner v o)) is in
    omega (arith, same)
get_size (datum.more v w) (suc k) p is =
    let rest : size_of p ≤ size_of_all w = get_size w k p is in
    omega (arith, rest)

pub found_is : (o : Option Datum) (p : Datum) → found o ≡ Ok p → o ≡ Some p
found_is None p is = absurd cc
found_is (Some x) p is = ap (λ r. Some (given x r)) is

fields_size : (v : Datum) (k : ℕ) (p : Datum) → slice_get (fields_in v) k ≡ Some p → size_of p ≤ size_of v
fields_size (datum.fields w) k p is =
    let rest : size_of p ≤ size_of_all w = get_size w k p is in
    omega (arith, rest)
fields_size (datum.int z) k p is = absurd cc
fields_size (datum.truth b) k p is = absurd cc
fields_size (datum.char c) k p is = absurd cc
fields_size (datum.enumerated n) k p is = absurd cc
fields_size (datum.text s) k p is = absurd cc
fields_size (datum.array w) k p is = absurd cc
fields_size (datum.set w) k p is = absurd cc
fields_size (datum.bag w) k p is = absurd cc
fields_size (datum.object q n) k p is = absurd cc

array_size : (v : Datum) (k : ℕ) (p : Datum) → slice_get (array_in v) k ≡ Some p → size_of p ≤ size_of v
array_size (datum.array w) k p is =
    let rest : size_of p ≤ size_of_all w = get_size w k p is in
    omega (arith, rest)
array_size (datum.int z) k p is = absurd cc
array_size (datum.truth b) k p is = absurd cc
array_size (datum.char c) k p is = absurd cc
array_size (datum.enumerated n) k p is = absurd cc
array_size (datum.text s) k p is = absurd cc
array_size (datum.fields w) k p is = absurd cc
array_size (datum.set w) k p is = absurd cc
array_size (datum.bag w) k p is = absurd cc
array_size (datum.object q n) k p is = absurd cc

pub array_length : (v : Datum) → length (array_in v) ≤ size_of v
array_length (datum.array w) = let rest = length_size w in omega (arith, rest)
array_length (datum.int z) = omega arith
array_length (datum.truth b) = omega arith
array_length (datum.char c) = omega arith
array_length (datum.enumerated n) = omega arith
array_length (datum.text s) = omega arith
array_length (datum.fields w) = omega arith
array_length (datum.set w) = omega arith
array_length (datum.bag w) = omega arith
array_length (datum.object q n) = omega arith

-- ---- nodes

value_size : (x : Datum) → size_of (value_in x) ≤ size_of x
value_size x = by (slice_get (fields_in x) 1) (λ p is. fields_size x 1 p is)
  where
    by : (o : Option Datum) → ((p : Datum) → o ≡ Some p → size_of p ≤ size_of x) → size_of (unwrap_or o (datum.int (pos 0))) ≤ size_of x
    by None h = size_some x
    by (Some p) h = h p refl

node_size : (name : ℤ) (xs : List Datum) (p : Datum) → value_at name xs ≡ Some p → size_of p ≤ size_of_all (data_of xs)
node_size name [] p is = absurd cc
node_size name (x ∷ xs) p is = by (is_named name x) is (node_size name xs p)
  where
    by : (b : Bool) → (if b then Some (value_in x) else value_at name xs) ≡ Some p → (value_at name xs ≡ Some p → size_of p ≤ size_of_all (data_of xs)) →
        size_of p ≤ size_of x + size_of_all (data_of xs)
    by true e rest =
        let same : size_of (value_in x) ≡ size_of p = ap (λ o. size_of (inner (value_in x) o)) e in
        let less = value_size x in
        omega (arith, same, less)
    by false e rest = let less = rest e in omega (arith, less)

nodes_size : (o : Option Datum) (n : ℕ) → ((x : Datum) → o ≡ Some x → size_of x ≤ n) → size_of_all (data_of (nodes_of o)) ≤ n
nodes_size None n h = omega arith
nodes_size (Some (datum.set w)) n h =
    let less : size_of_all w + 1 ≤ n = h (datum.set w) refl in
    let same : size_of_all (data_of (list_of w)) ≡ size_of_all w = ap size_of_all (data_of-list_of w) in
    omega (arith, less, same)
nodes_size (Some (datum.int z)) n h = omega arith
nodes_size (Some (datum.truth b)) n h = omega arith
nodes_size (Some (datum.char c)) n h = omega arith
nodes_size (Some (datum.enumerated k)) n h = omega arith
nodes_size (Some (datum.text s)) n h = omega arith
nodes_size (Some (datum.array w)) n h = omega arith
nodes_size (Some (datum.fields w)) n h = omega arith
nodes_size (Some (datum.bag w)) n h = omega arith
nodes_size (Some (datum.object q k)) n h = omega arith

placed_size : (place : Result ℕ FaultKind) (v p : Datum) → at_place place (array_in v) ≡ Ok p → size_of p ≤ size_of v
placed_size (Ok place) v p is = array_size v place p (found_is (slice_get (array_in v) place) p is)
placed_size (Err fault) v p is = absurd cc

pub part_size : (step : Step) (v p : Datum) → part_to step v ≡ Ok p → size_of p ≤ size_of v
part_size (Index low index) v p is = placed_size (place_of (length (array_in v)) low index) v p is
part_size (Field place) v p is = fields_size v place p (found_is (slice_get (fields_in v) place) p is)
part_size (Node name) v p is =
    let one : size_of p ≤ size_of_all (data_of (nodes_in v)) = node_size name (nodes_in v) p (found_is (node_in name v) p is) in
    let all : size_of_all (data_of (nodes_in v)) ≤ size_of v = nodes_size (slice_get (fields_in v) 1) (size_of v) (λ x at. fields_size v 1 x at) in
    omega (arith, one, all)
