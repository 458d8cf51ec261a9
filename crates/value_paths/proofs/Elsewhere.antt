-- What stands elsewhere stays, and where a path leads nowhere.
use Rattle.std.proofs.Common.{◌≡◌, ◌≢◌, ◌⊎◌, inl, inr, ℕ, zero, suc, Bool, true, false, cond, ℤ, pos, negsuc, List, [], ◌∷◌, length, Option, Some, None, Result, Ok, Err, refl, ap, sym, ◌∙◌, subst}
use Rattle.std.specs.Prelude.{IfOk, IsOkUnless, ◌-ℤ◌, nat_lt, slice_get, slice_set}
use Rattle.std.specs.Cmp.{Equal-is}
use Rattle.std.specs.FinMap.{int_cmp-IsAntisymmetric}
use Rattle.std.specs.Ordering.{int_cmp, int_eq}
use Rattle.orca_base.specs.declared.fault.FaultKind.{FaultKind}
use Rattle.orca_base.specs.declared.fault.FaultKind.TheVariants.{IndexOutside}
use Rattle.value_core.specs.Datum.{Datum, list_of-data_of}
use Rattle.value_ops.specs.Sizes.{place_of}
use Rattle.value_ops.specs.Sizes as sizes
use Rattle.graph_values.specs.Graphs.{fields_in, is_named, name_in, node_in, node_of, nodes_in, value_at, value_in, with_node}
use Rattle.value_paths.specs.declared.step.Step.{Step}
use Rattle.value_paths.specs.declared.step.Step.TheVariants.{Index, Field, Node}
use Rattle.value_paths.specs.Paths.{GoApart, LeadApart, and_then, array_in, at_place, found, part_at, part_to, set_place, where_found, with_part, with_step}
use Rattle.value_paths.proofs.Exchanges.{placed_length, step_stands}

-- lists
set_apart : (xs : List Datum) (i j : ℕ) (x : Datum) → i ≢ j → slice_get (slice_set xs i x) j ≡ slice_get xs j
set_apart [] i j x h = refl
set_apart (y ∷ xs) zero zero x h = absurd (h refl)
set_apart (y ∷ xs) zero (suc j) x h = refl
set_apart (y ∷ xs) (suc i) zero x h = refl
set_apart (y ∷ xs) (suc i) (suc j) x h = set_apart xs i j x (λ e. h (ap suc e))

placed_apart : (q r : Result ℕ FaultKind) (xs : List Datum) (x : Datum) → q ≢ r → at_place r (set_place q xs x) ≡ at_place r xs
placed_apart (Ok i) (Ok j) xs x h = ap found (set_apart xs i j x (λ e. h (ap Ok e)))
placed_apart (Ok i) (Err fault) xs x h = refl
placed_apart (Err fault) r xs x h = refl

-- nodes
same_name : (x y : ℤ) → int_eq x y ≡ true → x ≡ y
same_name x y h = int_cmp-IsAntisymmetric x y ((Equal-is (int_cmp x y)).0 h)

other_name : (x y : ℤ) → x ≢ y → int_eq x y ≡ false
other_name x y h = by_answer (int_eq x y) refl
  where
    by_answer : (b : Bool) → int_eq x y ≡ b → b ≡ false
    by_answer true is = absurd (h (same_name x y is))
    by_answer false is = refl

node_apart : (m n : ℤ) (x : Datum) (xs : List Datum) → m ≢ n → value_at n (with_node m (node_of m x) xs) ≡ value_at n xs
node_apart m n x [] h = refl
node_apart m n x (y ∷ xs) h = by_first (is_named m y) refl (node_apart m n x xs h)
  where
    by_first : (b : Bool) → is_named m y ≡ b → value_at n (with_node m (node_of m x) xs) ≡ value_at n xs →
        value_at n (cond b (node_of m x ∷ xs) (y ∷ with_node m (node_of m x) xs)) ≡ value_at n (y ∷ xs)
    by_first true here rest =
        ap (λ b. cond b (Some x) (value_at n xs)) (other_name m n h)
        ∙ sym (ap (λ b. cond b (Some (value_in y)) (value_at n xs)) (ap (λ z. int_eq z n) (same_name (name_in y) m here) ∙ other_name m n h))
    by_first false there rest = ap (λ o. cond (is_named n y) (Some (value_in y)) o) rest

-- one step
pub step_apart : (s t : Step) (v x : Datum) → LeadApart s t v → part_to t (with_step s v x) ≡ part_to t v
step_apart (Index low i) (Index bound j) v x h =
    let xs = array_in v in
    let q = place_of (length xs) low i in
    ap (λ ys. at_place (place_of (length ys) bound j) ys) (list_of-data_of (set_place q xs x))
    ∙ ap (λ n. at_place (place_of n bound j) (set_place q xs x)) (placed_length q xs x)
    ∙ placed_apart q (place_of (length xs) bound j) xs x h
step_apart (Field i) (Field j) v x h =
    ap (λ ys. found (slice_get ys j)) (list_of-data_of (slice_set (fields_in v) i x)) ∙ ap found (set_apart (fields_in v) i j x h)
step_apart (Node m) (Node n) v x h =
    ap (λ ys. found (value_at n ys)) (list_of-data_of (with_node m (node_of m x) (nodes_in v))) ∙ ap found (node_apart m n x (nodes_in v) h)
step_apart s t v x h = absurd h

-- paths
pub path_apart : (path other : List Step) (v x : Datum) → GoApart path other v → part_at other (with_part path v x) ≡ part_at other v
path_apart [] other v x h = absurd h
path_apart (s ∷ path) [] v x h = absurd h
path_apart (s ∷ path) (t ∷ other) v x h = by_part (part_to s v) refl h (path_apart path other)
  where
    by_part : (q : Result Datum FaultKind) → part_to s v ≡ q → LeadApart s t v ⊎ ((s ≡ t) × IfOk q (GoApart path other)) →
        ((c z : Datum) → GoApart path other c → part_at other (with_part path c z) ≡ part_at other c) →
        part_at (t ∷ other) (where_found q v (λ c. with_step s v (with_part path c x))) ≡ part_at (t ∷ other) v
    by_part (Ok c) leads (inl h) rest = ap (λ r. and_then r (part_at other)) (step_apart s t v (with_part path c x) h)
    by_part (Ok c) leads (inr h) rest =
        subst (λ u. part_at (u ∷ other) (with_step s v (with_part path c x)) ≡ part_at (u ∷ other) v) h.0
        (ap (λ r. and_then r (part_at other)) (step_stands s v c (with_part path c x) leads) ∙ rest c x h.1 ∙ sym (ap (λ r. and_then r (part_at other)) leads))
    by_part (Err fault) leads h rest = refl

-- faults
place_faults : (count : ℕ) (z : ℤ) → IsOkUnless (sizes.part_at count z) IndexOutside
place_faults count (pos n) = by_test (nat_lt n count)
  where
    by_test : (b : Bool) → IsOkUnless {T = ℕ} (cond b (Ok n) (Err IndexOutside)) IndexOutside
    by_test true = tt
    by_test false = refl
place_faults count (negsuc n) = refl

found_faults : (o : Option Datum) → IsOkUnless (found o) IndexOutside
found_faults None = refl
found_faults (Some x) = tt

at_place_faults : (q : Result ℕ FaultKind) (xs : List Datum) → IsOkUnless q IndexOutside → IsOkUnless (at_place q xs) IndexOutside
at_place_faults (Ok i) xs h = found_faults (slice_get xs i)
at_place_faults (Err fault) xs h = h

step_faults : (step : Step) (v : Datum) → IsOkUnless (part_to step v) IndexOutside
step_faults (Index low index) v = at_place_faults (place_of (length (array_in v)) low index) (array_in v) (place_faults (length (array_in v)) (index -ℤ low))
step_faults (Field place) v = found_faults (slice_get (fields_in v) place)
step_faults (Node name) v = found_faults (node_in name v)

then_faults : (q : Result Datum FaultKind) (f : Datum → Result Datum FaultKind) → IsOkUnless q IndexOutside → ((c : Datum) → IsOkUnless (f c) IndexOutside) → IsOkUnless (and_then q f) IndexOutside
then_faults (Ok c) f h rest = rest c
then_faults (Err fault) f h rest = h

pub path_faults : (path : List Step) (v : Datum) → IsOkUnless (part_at path v) IndexOutside
path_faults [] v = tt
path_faults (step ∷ path) v = then_faults (part_to step v) (part_at path) (step_faults step v) (path_faults path)
