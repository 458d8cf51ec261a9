-- The order of values is total, and exact: it answers Equal for equal values alone.
use Rattle.std.specs.Prelude.{◌≡◌, ◌↔◌, ℕ, zero, suc, ◌+◌, ◌≤◌, ℤ, pos, Bool, true, false, List, [], ◌∷◌, refl}
use Rattle.std.proofs.Common.{ap, sym, ◌∙◌, arith}
use Rattle.std.specs.declared.cmp.Ordering.{Ordering}
use Rattle.std.specs.declared.cmp.Ordering.TheVariants.{Less, Equal, Greater}
use Rattle.std.specs.Ordering.{ordering_then, ordering_reverse, nat_cmp, int_cmp, bool_cmp}
use Rattle.std.specs.Cmp.{IsTotalOrder, tied_itself}
use Rattle.std.specs.FinMap.{int_cmp-IsAntisymmetric, nat_cmp-IsAntisymmetric, slice_cmp-IsAntisymmetric}
use Rattle.std.specs.Cmp.Derive.{point_total}
use Rattle.std.specs.Cmp.Lexicographic.{slice_cmp}
use Rattle.std.proofs.lemmas.Cmp.{on_total, then_total, nat_cmp_total, int_cmp_total, lists_total}
use Rattle.orca_base.specs.declared.limits.TheConstants.{VALUE_NESTING}
use Rattle.value_core.specs.Datum.{Datum, Data, list_of}
use Rattle.value_core.specs.Datum as datum
use Rattle.value_core.specs.Order.{tag, datum_cmp, data_cmp}
use Rattle.value_core.specs.Sound.{nesting, nesting_of_all, IsSound}

-- the integer in a value, or 0
abbrev pub integer_in : Datum → ℤ
integer_in (datum.int z) = z
integer_in (datum.truth b) = pos 0
integer_in (datum.char c) = pos 0
integer_in (datum.enumerated n) = pos 0
integer_in (datum.text t) = pos 0
integer_in (datum.array w) = pos 0
integer_in (datum.fields w) = pos 0
integer_in (datum.set w) = pos 0
integer_in (datum.bag w) = pos 0
integer_in (datum.object p n) = pos 0

abbrev pub code_of : Bool → ℕ
code_of false = 0
code_of true = 1

-- the codes in a value, or none
abbrev pub codes_in : Datum → List ℕ
codes_in (datum.int z) = []
codes_in (datum.truth b) = code_of b ∷ []
codes_in (datum.char c) = c ∷ []
codes_in (datum.enumerated n) = n ∷ []
codes_in (datum.text t) = t
codes_in (datum.array w) = []
codes_in (datum.fields w) = []
codes_in (datum.set w) = []
codes_in (datum.bag w) = []
codes_in (datum.object p n) = p ∷ n ∷ []

-- the parts of a value, or none
abbrev pub parts_in : Datum → Data
parts_in (datum.int z) = datum.none
parts_in (datum.truth b) = datum.none
parts_in (datum.char c) = datum.none
parts_in (datum.enumerated n) = datum.none
parts_in (datum.text t) = datum.none
parts_in (datum.array w) = w
parts_in (datum.fields w) = w
parts_in (datum.set w) = w
parts_in (datum.bag w) = w
parts_in (datum.object p n) = datum.none

-- first by kind, then by integer, codes and parts, of which each value has one alone
abbrev pub keys_cmp : (List Datum → List Datum → Ordering) → Datum → Datum → Ordering
keys_cmp parts_cmp v w =
    ordering_then (nat_cmp (tag v) (tag w))
    (ordering_then (int_cmp (integer_in v) (integer_in w))
    (ordering_then (slice_cmp nat_cmp (codes_in v) (codes_in w))
    (parts_cmp (list_of (parts_in v)) (list_of (parts_in w)))))

-- the order of values that nest at most so deep
abbrev pub cmp_within : ℕ → Datum → Datum → Ordering
cmp_within zero v w = Equal
cmp_within (suc n) v w = keys_cmp (slice_cmp (cmp_within n)) v w

pub cmp_within_total : (n : ℕ) → IsTotalOrder (cmp_within n)
cmp_within_total zero = point_total
cmp_within_total (suc n) =
    then_total (on_total tag nat_cmp_total)
    (then_total (on_total integer_in int_cmp_total)
    (then_total (on_total codes_in (lists_total nat_cmp_total))
    (on_total (λ v. list_of (parts_in v)) (lists_total (cmp_within_total n)))))

-- nothing is decided later
then_equal : (r : Ordering) → ordering_then r Equal ≡ r
then_equal Less = refl
then_equal Equal = refl
then_equal Greater = refl

-- the order of values, by their keys
by_keys : (v w : Datum) →
    datum_cmp v w ≡ ordering_then (nat_cmp (tag v) (tag w))
    (ordering_then (int_cmp (integer_in v) (integer_in w))
    (ordering_then (slice_cmp nat_cmp (codes_in v) (codes_in w)) (data_cmp (parts_in v) (parts_in w))))
by_keys (datum.int y) (datum.int z) = sym (then_equal (int_cmp y z))
by_keys (datum.truth true) (datum.truth true) = refl
by_keys (datum.truth true) (datum.truth false) = refl
by_keys (datum.truth false) (datum.truth true) = refl
by_keys (datum.truth false) (datum.truth false) = refl
by_keys (datum.char c) (datum.char d) = sym (then_equal (ordering_then (nat_cmp c d) Equal) ∙ then_equal (nat_cmp c d))
by_keys (datum.enumerated m) (datum.enumerated n) = sym (then_equal (ordering_then (nat_cmp m n) Equal) ∙ then_equal (nat_cmp m n))
by_keys (datum.text s) (datum.text t) = sym (then_equal (slice_cmp nat_cmp s t))
by_keys (datum.array vs) (datum.array ws) = refl
by_keys (datum.fields vs) (datum.fields ws) = refl
by_keys (datum.set vs) (datum.set ws) = refl
by_keys (datum.bag vs) (datum.bag ws) = refl
by_keys (datum.object p m) (datum.object q n) = sym
    (then_equal (ordering_then (nat_cmp p q) (ordering_then (nat_cmp m n) Equal)) ∙
    ap (ordering_then (nat_cmp p q)) (then_equal (nat_cmp m n)))
by_keys v w = refl

none_first : (R : Datum → Datum → Ordering) (w : Data) → slice_cmp R [] (list_of w) ≡ data_cmp datum.none w
none_first R datum.none = refl
none_first R (datum.more v w) = refl

-- no value nests less than one deep
nests : (v : Datum) → 1 ≤ nesting v
nests (datum.int z) = omega arith
nests (datum.truth b) = omega arith
nests (datum.char c) = omega arith
nests (datum.enumerated n) = omega arith
nests (datum.text t) = omega arith
nests (datum.array w) = omega arith
nests (datum.fields w) = omega arith
nests (datum.set w) = omega arith
nests (datum.bag w) = omega arith
nests (datum.object p n) = omega arith

parts_nest : (v : Datum) (n : ℕ) → nesting v ≤ suc n → nesting_of_all (parts_in v) ≤ n
parts_nest (datum.int z) n h = omega arith
parts_nest (datum.truth b) n h = omega arith
parts_nest (datum.char c) n h = omega arith
parts_nest (datum.enumerated m) n h = omega arith
parts_nest (datum.text t) n h = omega arith
parts_nest (datum.array w) n h = omega arith
parts_nest (datum.fields w) n h = omega arith
parts_nest (datum.set w) n h = omega arith
parts_nest (datum.bag w) n h = omega arith
parts_nest (datum.object p m) n h = omega arith

-- where the lists of parts agree, so do the orders
by_parts : (n : ℕ) (v w : Datum) → slice_cmp (cmp_within n) (list_of (parts_in v)) (list_of (parts_in w)) ≡
    data_cmp (parts_in v) (parts_in w) → cmp_within (suc n) v w ≡ datum_cmp v w
by_parts n v w same = ap
    (λ r. ordering_then (nat_cmp (tag v) (tag w))
    (ordering_then (int_cmp (integer_in v) (integer_in w)) (ordering_then (slice_cmp nat_cmp (codes_in v) (codes_in w)) r))) same ∙
    sym (by_keys v w)

-- values that nest at most so deep are compared so deep
mutual
  pub within-datum : (v w : Datum) (n : ℕ) → nesting v ≤ n → nesting w ≤ n → cmp_within n v w ≡ datum_cmp v w
  within-datum v w zero h k = absurd (omega (arith, nests v))
  within-datum (datum.int z) w (suc n) h k = by_parts n (datum.int z) w (none_first (cmp_within n) (parts_in w))
  within-datum (datum.truth b) w (suc n) h k = by_parts n (datum.truth b) w (none_first (cmp_within n) (parts_in w))
  within-datum (datum.char c) w (suc n) h k = by_parts n (datum.char c) w (none_first (cmp_within n) (parts_in w))
  within-datum (datum.enumerated m) w (suc n) h k = by_parts n (datum.enumerated m) w (none_first (cmp_within n) (parts_in w))
  within-datum (datum.text t) w (suc n) h k = by_parts n (datum.text t) w (none_first (cmp_within n) (parts_in w))
  within-datum (datum.array vs) w (suc n) h k = by_parts n (datum.array vs) w
      (within-data vs (parts_in w) n (omega arith) (parts_nest w n k))
  within-datum (datum.fields vs) w (suc n) h k = by_parts n (datum.fields vs) w
      (within-data vs (parts_in w) n (omega arith) (parts_nest w n k))
  within-datum (datum.set vs) w (suc n) h k = by_parts n (datum.set vs) w (within-data vs (parts_in w) n (omega arith) (parts_nest w n k))
  within-datum (datum.bag vs) w (suc n) h k = by_parts n (datum.bag vs) w (within-data vs (parts_in w) n (omega arith) (parts_nest w n k))
  within-datum (datum.object p m) w (suc n) h k = by_parts n (datum.object p m) w (none_first (cmp_within n) (parts_in w))

  pub within-data : (vs ws : Data) (n : ℕ) → nesting_of_all vs ≤ n → nesting_of_all ws ≤ n →
      slice_cmp (cmp_within n) (list_of vs) (list_of ws) ≡ data_cmp vs ws
  within-data datum.none ws n h k = none_first (cmp_within n) ws
  within-data (datum.more v vs) datum.none n h k = refl
  within-data (datum.more v vs) (datum.more w ws) n h k =
      ap (λ r. ordering_then r (slice_cmp (cmp_within n) (list_of vs) (list_of ws))) (within-datum v w n (omega arith) (omega arith))
      ∙ ap (ordering_then (datum_cmp v w)) (within-data vs ws n (omega arith) (omega arith))

-- the order is total
pub datum_total : IsTotalOrder datum_cmp
datum_total = record {
  antisymm = λ v w.
      let n = nesting v + nesting w in
      sym (within-datum v w n (omega arith) (omega arith)) ∙ (cmp_within_total n).antisymm v w ∙
      ap ordering_reverse (within-datum w v n (omega arith) (omega arith));
  trans = λ u v w p q.
      let n = nesting u + nesting v + nesting w in
      sym (within-datum u w n (omega arith) (omega arith)) ∙
      (cmp_within_total n).trans u v w (within-datum u v n (omega arith) (omega arith) ∙ p)
      (within-datum v w n (omega arith) (omega arith) ∙ q);
  congr = λ u v w p.
      let n = nesting u + nesting v + nesting w in
      sym (within-datum u w n (omega arith) (omega arith)) ∙
      (cmp_within_total n).congr u v w (within-datum u v n (omega arith) (omega arith) ∙ p) ∙
      within-datum v w n (omega arith) (omega arith);
}

-- the order of lists of values, as that of the arrays that have them
pub data_total : IsTotalOrder data_cmp
data_total = on_total datum.array datum_total

-- the first of two that are Equal together is Equal, and the second
then_first : (r s : Ordering) → ordering_then r s ≡ Equal → r ≡ Equal
then_first Less s h = h
then_first Equal s h = refl
then_first Greater s h = h

then_second : (r s : Ordering) → ordering_then r s ≡ Equal → s ≡ Equal
then_second Less s h = cc
then_second Equal s h = h
then_second Greater s h = cc

exact_bool : (a b : Bool) → bool_cmp a b ≡ Equal → a ≡ b
exact_bool true true h = refl
exact_bool true false h = cc
exact_bool false true h = cc
exact_bool false false h = refl

-- it is Equal for equal values alone
mutual
  pub datum_exact : (v w : Datum) → datum_cmp v w ≡ Equal → v ≡ w
  datum_exact (datum.int y) (datum.int z) h = ap datum.int (int_cmp-IsAntisymmetric y z h)
  datum_exact (datum.truth a) (datum.truth b) h = ap datum.truth (exact_bool a b h)
  datum_exact (datum.char c) (datum.char d) h = ap datum.char (nat_cmp-IsAntisymmetric c d h)
  datum_exact (datum.enumerated m) (datum.enumerated n) h = ap datum.enumerated (nat_cmp-IsAntisymmetric m n h)
  datum_exact (datum.text s) (datum.text t) h = ap datum.text (slice_cmp-IsAntisymmetric nat_cmp-IsAntisymmetric s t h)
  datum_exact (datum.array vs) (datum.array ws) h = ap datum.array (data_exact vs ws h)
  datum_exact (datum.fields vs) (datum.fields ws) h = ap datum.fields (data_exact vs ws h)
  datum_exact (datum.set vs) (datum.set ws) h = ap datum.set (data_exact vs ws h)
  datum_exact (datum.bag vs) (datum.bag ws) h = ap datum.bag (data_exact vs ws h)
  datum_exact (datum.object p m) (datum.object q n) h =
      let same_process : p ≡ q = nat_cmp-IsAntisymmetric p q (then_first (nat_cmp p q) (nat_cmp m n) h) in
      let same_number : m ≡ n = nat_cmp-IsAntisymmetric m n (then_second (nat_cmp p q) (nat_cmp m n) h) in
      ap (λ x. datum.object x m) same_process ∙ ap (datum.object q) same_number
  datum_exact v w h = cc

  pub data_exact : (vs ws : Data) → data_cmp vs ws ≡ Equal → vs ≡ ws
  data_exact datum.none datum.none h = refl
  data_exact datum.none (datum.more w ws) h = cc
  data_exact (datum.more v vs) datum.none h = cc
  data_exact (datum.more v vs) (datum.more w ws) h =
      let same_first : v ≡ w = datum_exact v w (then_first (datum_cmp v w) (data_cmp vs ws) h) in
      let same_rest : vs ≡ ws = data_exact vs ws (then_second (datum_cmp v w) (data_cmp vs ws) h) in
      ap (λ x. datum.more x vs) same_first ∙ ap (datum.more w) same_rest

pub datum_cmp-exact : (v w : Datum) → (datum_cmp v w ≡ Equal) ↔ (v ≡ w)
datum_cmp-exact v w = (datum_exact v w, λ same. ap (datum_cmp v) (sym same) ∙ tied_itself datum_total v)

pub data_cmp-exact : (vs ws : Data) → (data_cmp vs ws ≡ Equal) ↔ (vs ≡ ws)
data_cmp-exact vs ws = (data_exact vs ws, λ same. ap (data_cmp vs) (sym same) ∙ tied_itself data_total vs)

-- sound values are compared as deep as values nest
pub sound-within : (v w : Datum) → IsSound v → IsSound w → cmp_within VALUE_NESTING v w ≡ datum_cmp v w
sound-within v w h k = within-datum v w VALUE_NESTING h.shallow k.shallow
