-- Places of elements and of nodes: of the first that passes a test.
use Rattle.std.proofs.Common.{◌≡◌, ◌+◌, ◌<◌, ◌≤◌, ℕ, zero, suc, Bool, true, false, cond, ℤ, List, [], ◌∷◌, length, map, Option, Some, None, refl, ap, sym, ◌∙◌, subst, arith}
use Rattle.std.specs.Prelude.{insert, is_some, nat_lt, not, position, remove, slice_get, slice_set, unwrap_or}
use Rattle.std.specs.List.{position_or_len}
use Rattle.std.proofs.lemmas.Bool.{ltb-false, ltb-true}
use Rattle.std.specs.Ordering.{is_eq, is_lt}
use Rattle.value_core.specs.Datum.{Datum, Data, data_of, list_of, data_of-list_of}
use Rattle.value_core.specs.Order.{datum_cmp}
use Rattle.value_core.specs.View.{datum_of}
use Rattle.value_core.specs.declared.value.Value.{Value}
use Rattle.value_ops.specs.Elements.{put_in, without}
use Rattle.graph_values.specs.Graphs.{is_named, value_at, value_in, with_node, without_node}

-- ---- places of values, and of what they show

pub place_shown : (test : Datum → Bool) (vs : List Value) → position_or_len test (map datum_of vs) ≡ position_or_len (λ v. test (datum_of v)) vs
place_shown test [] = refl
place_shown test (v ∷ vs) = ap (λ n. cond (not (test (datum_of v))) (1 + n) 0) (place_shown test vs)

pub length_shown : (vs : List Value) → length (map datum_of vs) ≡ length vs
length_shown [] = refl
length_shown (v ∷ vs) = ap suc (length_shown vs)

-- ---- one further

insert_more : (x e : Datum) (xs : List Datum) (i j : ℕ) → j ≡ suc i → insert (x ∷ xs) j e ≡ x ∷ insert xs i e
insert_more x e xs i j is = ap (λ n. insert (x ∷ xs) n e) is

remove_more : (x : Datum) (xs : List Datum) (i j : ℕ) → j ≡ suc i → remove (x ∷ xs) j ≡ x ∷ remove xs i
remove_more x xs i j is = ap (λ n. remove (x ∷ xs) n) is

set_more : (x y : Datum) (xs : List Datum) (i j : ℕ) → j ≡ suc i → slice_set (x ∷ xs) j y ≡ x ∷ slice_set xs i y
set_more x y xs i j is = ap (λ n. slice_set (x ∷ xs) n y) is

get_more : (x : Datum) (xs : List Datum) (i j : ℕ) → j ≡ suc i → slice_get (x ∷ xs) j ≡ slice_get xs i
get_more x xs i j is = ap (λ n. slice_get (x ∷ xs) n) is

-- ---- elements

abbrev pub place_for : Datum → List Datum → ℕ
place_for e xs = position_or_len (λ x. not (is_lt (datum_cmp x e))) xs

abbrev pub place_of : Datum → List Datum → ℕ
place_of e xs = position_or_len (λ x. is_eq (datum_cmp x e)) xs

pub put_at : (e : Datum) (xs : List Datum) → put_in e xs ≡ insert xs (place_for e xs) e
put_at e [] = refl
put_at e (x ∷ xs) = by_test (is_lt (datum_cmp x e)) (put_at e xs)
  where
    by_test : (b : Bool) → put_in e xs ≡ insert xs (place_for e xs) e → cond b (x ∷ put_in e xs) (e ∷ x ∷ xs) ≡ insert (x ∷ xs) (cond (not (not b)) (1 + place_for e xs) 0) e
    by_test true rest = ap (λ ys. x ∷ ys) rest ∙ sym (insert_more x e xs (place_for e xs) (1 + place_for e xs) (omega arith))
    by_test false rest = refl

pub gone_at : (e : Datum) (xs : List Datum) → place_of e xs < length xs → without e xs ≡ remove xs (place_of e xs)
gone_at e [] h = absurd (omega (arith, h))
gone_at e (x ∷ xs) h = by_test (is_eq (datum_cmp x e)) (gone_at e xs) h
  where
    by_test : (b : Bool) → (place_of e xs < length xs → without e xs ≡ remove xs (place_of e xs)) → cond (not b) (1 + place_of e xs) 0 < suc (length xs) →
        cond b xs (x ∷ without e xs) ≡ remove (x ∷ xs) (cond (not b) (1 + place_of e xs) 0)
    by_test true rest within = refl
    by_test false rest within = ap (λ ys. x ∷ ys) (rest (omega (arith, within))) ∙ sym (remove_more x xs (place_of e xs) (1 + place_of e xs) (omega arith))

pub none_gone : (e : Datum) (xs : List Datum) → length xs ≤ place_of e xs → without e xs ≡ xs
none_gone e [] h = refl
none_gone e (x ∷ xs) h = by_test (is_eq (datum_cmp x e)) (none_gone e xs) h
  where
    by_test : (b : Bool) → (length xs ≤ place_of e xs → without e xs ≡ xs) → suc (length xs) ≤ cond (not b) (1 + place_of e xs) 0 → cond b xs (x ∷ without e xs) ≡ x ∷ xs
    by_test true rest within = absurd (omega (arith, within))
    by_test false rest within = ap (λ ys. x ∷ ys) (rest (omega (arith, within)))

-- ---- nodes

abbrev pub node_place : ℤ → List Datum → ℕ
node_place name xs = position_or_len (is_named name) xs

pub node_set : (name : ℤ) (y : Datum) (xs : List Datum) → node_place name xs < length xs → with_node name y xs ≡ slice_set xs (node_place name xs) y
node_set name y [] h = absurd (omega (arith, h))
node_set name y (x ∷ xs) h = by_test (is_named name x) (node_set name y xs) h
  where
    by_test : (b : Bool) → (node_place name xs < length xs → with_node name y xs ≡ slice_set xs (node_place name xs) y) → cond (not b) (1 + node_place name xs) 0 < suc (length xs) →
        cond b (y ∷ xs) (x ∷ with_node name y xs) ≡ slice_set (x ∷ xs) (cond (not b) (1 + node_place name xs) 0) y
    by_test true rest within = refl
    by_test false rest within = ap (λ ys. x ∷ ys) (rest (omega (arith, within))) ∙ sym (set_more x y xs (node_place name xs) (1 + node_place name xs) (omega arith))

pub node_gone : (name : ℤ) (xs : List Datum) → node_place name xs < length xs → without_node name xs ≡ remove xs (node_place name xs)
node_gone name [] h = absurd (omega (arith, h))
node_gone name (x ∷ xs) h = by_test (is_named name x) (node_gone name xs) h
  where
    by_test : (b : Bool) → (node_place name xs < length xs → without_node name xs ≡ remove xs (node_place name xs)) → cond (not b) (1 + node_place name xs) 0 < suc (length xs) →
        cond b xs (x ∷ without_node name xs) ≡ remove (x ∷ xs) (cond (not b) (1 + node_place name xs) 0)
    by_test true rest within = refl
    by_test false rest within = ap (λ ys. x ∷ ys) (rest (omega (arith, within))) ∙ sym (remove_more x xs (node_place name xs) (1 + node_place name xs) (omega arith))

pub node_value : (name : ℤ) (xs : List Datum) (x : Datum) → slice_get xs (node_place name xs) ≡ Some x → value_at name xs ≡ Some (value_in x)
node_value name [] x h = absurd cc
node_value name (y ∷ xs) x h = by_test (is_named name y) (node_value name xs x) h
  where
    by_test : (b : Bool) → (slice_get xs (node_place name xs) ≡ Some x → value_at name xs ≡ Some (value_in x)) → slice_get (y ∷ xs) (cond (not b) (1 + node_place name xs) 0) ≡ Some x →
        cond b (Some (value_in y)) (value_at name xs) ≡ Some (value_in x)
    by_test true rest at_place = let same : y ≡ x = cc in ap (λ z. Some (value_in z)) same
    by_test false rest at_place = rest (sym (get_more y xs (node_place name xs) (1 + node_place name xs) (omega arith)) ∙ at_place)

pub node_none : (name : ℤ) (xs : List Datum) → length xs ≤ node_place name xs → value_at name xs ≡ None
node_none name [] h = refl
node_none name (x ∷ xs) h = by_test (is_named name x) (node_none name xs) h
  where
    by_test : (b : Bool) → (length xs ≤ node_place name xs → value_at name xs ≡ None) → suc (length xs) ≤ cond (not b) (1 + node_place name xs) 0 → cond b (Some (value_in x)) (value_at name xs) ≡ None
    by_test true rest within = absurd (omega (arith, within))
    by_test false rest within = rest (omega (arith, within))

-- ---- a place, as code finds it

within : {X : Type 0} (test : X → Bool) (xs : List X) → position_or_len test xs ≤ length xs
within test [] = omega arith
within test (x ∷ xs) = by_pass (not (test x)) (within test xs)
  where
    by_pass : (b : Bool) → position_or_len test xs ≤ length xs → cond b (1 + position_or_len test xs) 0 ≤ suc (length xs)
    by_pass true rest = omega (arith, rest)
    by_pass false rest = omega arith

some_at : {X : Type 0} (test : X → Bool) (xs : List X) (i : ℕ) → Some i ≡ position test xs → (i < length xs) × (i ≡ position_or_len test xs)
some_at test xs i is = by_test (nat_lt (position_or_len test xs) (length xs)) refl is
  where
    by_test : (b : Bool) → nat_lt (position_or_len test xs) (length xs) ≡ b → Some i ≡ cond b (Some (position_or_len test xs)) None → (i < length xs) × (i ≡ position_or_len test xs)
    by_test true low h =
        let same : i ≡ position_or_len test xs = cc in
        (subst (λ n. n < length xs) (sym same) (ltb-true (position_or_len test xs) (length xs) low), same)
    by_test false low h = absurd cc

none_at : {X : Type 0} (test : X → Bool) (xs : List X) → None ≡ position test xs → length xs ≤ position_or_len test xs
none_at test xs is = by_test (nat_lt (position_or_len test xs) (length xs)) refl is
  where
    by_test : (b : Bool) → nat_lt (position_or_len test xs) (length xs) ≡ b → None ≡ cond b (Some (position_or_len test xs)) None → length xs ≤ position_or_len test xs
    by_test true low h = absurd cc
    by_test false low h = let past = ltb-false (position_or_len test xs) (length xs) low in omega (arith, past)

-- the same of what values show
pub found_some : (test : Datum → Bool) (vs : List Value) (xs : List Datum) (i : ℕ) → Some i ≡ position (λ v. test (datum_of v)) vs → map datum_of vs ≡ xs → (i < length xs) × (i ≡ position_or_len test xs)
found_some test vs xs i is shown =
    let at_values = some_at (λ v. test (datum_of v)) vs i is in
    let longer : length vs ≡ length xs = sym (length_shown vs) ∙ ap length shown in
    (subst (λ n. i < n) longer at_values.0, at_values.1 ∙ sym (place_shown test vs) ∙ ap (position_or_len test) shown)

pub found_none : (test : Datum → Bool) (vs : List Value) (xs : List Datum) → None ≡ position (λ v. test (datum_of v)) vs → map datum_of vs ≡ xs → length xs ≤ position_or_len test xs
found_none test vs xs is shown =
    let past = none_at (λ v. test (datum_of v)) vs is in
    let longer : length vs ≡ length xs = sym (length_shown vs) ∙ ap length shown in
    let same : position_or_len (λ v. test (datum_of v)) vs ≡ position_or_len test xs = sym (place_shown test vs) ∙ ap (position_or_len test) shown in
    subst (λ n. n ≤ position_or_len test xs) longer (subst (λ n. length vs ≤ n) same past)

-- ---- elements, as code puts them and takes them out

place_or : (test : Datum → Bool) (vs : List Value) (xs : List Datum) (o : Option ℕ) (n place : ℕ) → o ≡ position (λ v. test (datum_of v)) vs → map datum_of vs ≡ xs → n ≡ length xs → place ≡ unwrap_or o n →
    place ≡ position_or_len test xs
place_or test vs xs (Some i) n place is shown all found = found ∙ (found_some test vs xs i is shown).1
place_or test vs xs None n place is shown all found = let past = found_none test vs xs is shown in let low = within test xs in omega (arith, past, low, all, found)

pub put_found : (e : Datum) (vs : List Value) (w w' : Data) (o : Option ℕ) (n place : ℕ) → o ≡ position (λ v. not (is_lt (datum_cmp (datum_of v) e))) vs → map datum_of vs ≡ list_of w → n ≡ length (list_of w) →
    place ≡ unwrap_or o n → list_of w' ≡ insert (list_of w) place e → w' ≡ data_of (put_in e (list_of w))
put_found e vs w w' o n place is shown all found put =
    sym (data_of-list_of w')
    ∙ ap data_of (put ∙ ap (λ i. insert (list_of w) i e) (place_or (λ x. not (is_lt (datum_cmp x e))) vs (list_of w) o n place is shown all found) ∙ sym (put_at e (list_of w)))

pub gone_found : (e : Datum) (vs : List Value) (w w' : Data) (place : ℕ) → Some place ≡ position (λ v. is_eq (datum_cmp (datum_of v) e)) vs → map datum_of vs ≡ list_of w →
    list_of w' ≡ remove (list_of w) place → w' ≡ data_of (without e (list_of w))
gone_found e vs w w' place is shown gone =
    let found = found_some (λ x. is_eq (datum_cmp x e)) vs (list_of w) place is shown in
    sym (data_of-list_of w') ∙ ap data_of (gone ∙ ap (remove (list_of w)) found.1 ∙ sym (gone_at e (list_of w) (subst (λ n. n < length (list_of w)) found.1 found.0)))

pub none_found : (e : Datum) (vs : List Value) (w : Data) → None ≡ position (λ v. is_eq (datum_cmp (datum_of v) e)) vs → map datum_of vs ≡ list_of w → w ≡ data_of (without e (list_of w))
none_found e vs w is shown =
    sym (data_of-list_of w) ∙ ap data_of (sym (none_gone e (list_of w) (found_none (λ x. is_eq (datum_cmp x e)) vs (list_of w) is shown)))

-- ---- nodes, as code finds them

pub stands : (xs : List Datum) (i : ℕ) → i < length xs → (x : Datum) × (slice_get xs i ≡ Some x)
stands [] i h = absurd (omega (arith, h))
stands (x ∷ xs) zero h = (x, refl)
stands (x ∷ xs) (suc i) h = stands xs i (omega (arith, h))

pub is_there : (name : ℤ) (xs : List Datum) → node_place name xs < length xs → is_some (value_at name xs) ≡ true
is_there name xs h = let found = stands xs (node_place name xs) h in ap is_some (node_value name xs found.0 found.1)
