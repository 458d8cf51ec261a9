-- What had a part gets the same part.
use Rattle.std.proofs.Common.{◌≡◌, ℕ, zero, suc, Bool, true, false, cond, ℤ, List, [], ◌∷◌, Some, refl, ap, sym, ◌∙◌}
use Rattle.std.specs.Prelude.{slice_get, slice_set}
use Rattle.std.specs.Cmp.{Equal-is}
use Rattle.std.specs.FinMap.{int_cmp-IsAntisymmetric}
use Rattle.std.specs.List.{AllByRecursion}
use Rattle.std.specs.Ordering.{int_cmp}
use Rattle.value_core.specs.Datum.{Datum}
use Rattle.graph_values.specs.Graphs.{IsNode, is_named, name_in, node_of, value_at, value_in, with_node}

-- a list that gets what it had
pub set_same : (xs : List Datum) (i : ℕ) (x : Datum) → slice_get xs i ≡ Some x → slice_set xs i x ≡ xs
set_same [] i x h = absurd cc
set_same (y ∷ xs) zero x h = let same : y ≡ x = cc in ap (λ z. z ∷ xs) (sym same)
set_same (y ∷ xs) (suc i) x h = ap (λ ys. y ∷ ys) (set_same xs i x h)

-- a graph
pub node_same : (name : ℤ) (u : Datum) (xs : List Datum) → AllByRecursion IsNode xs → value_at name xs ≡ Some u → with_node name (node_of name u) xs ≡ xs
node_same name u [] nodes is = absurd cc
node_same name u (x ∷ xs) nodes is = by_first (is_named name x) refl (node_same name u xs nodes.1)
  where
    by_first : (b : Bool) → is_named name x ≡ b → (value_at name xs ≡ Some u → with_node name (node_of name u) xs ≡ xs) → cond b (node_of name u ∷ xs) (x ∷ with_node name (node_of name u) xs) ≡ x ∷ xs
    by_first true here rest =
        let value : Some (value_in x) ≡ Some u = sym (ap (λ b. cond b (Some (value_in x)) (value_at name xs)) here) ∙ is in
        let same : value_in x ≡ u = cc in
        let name_is : name_in x ≡ name = int_cmp-IsAntisymmetric (name_in x) name ((Equal-is (int_cmp (name_in x) name)).0 here) in
        ap (λ y. y ∷ xs) (sym (nodes.0 ∙ ap (λ z. node_of z (value_in x)) name_is ∙ ap (node_of name) same))
    by_first false apart rest = ap (λ ys. x ∷ ys) (rest (sym (ap (λ b. cond b (Some (value_in x)) (value_at name xs)) apart) ∙ is))
