-- Parameters are counted in the tree, and in what it shows.
use Rattle.std.proofs.Common.{◌≡◌, refl, sym, ap, ◌∙◌, ℕ, nat_le, Bool, ◌&&◌, List, [], ◌∷◌, length, map}
use Rattle.std.proofs.lemmas.List.{length-map}
use Rattle.std.specs.List.{list_all}
use Rattle.orca_base.specs.declared.limits.TheConstants.{PARAMETERS}
use Rattle.orca_tree.specs.declared.tree.Head.{Head}
use Rattle.orca_tree.specs.declared.tree.Operation.{Operation}
use Rattle.orca_syntax.specs.Shown.{head, operation, typed_name}

pub few_heads : (hs : List Head) →
    list_all (λ h. nat_le (length h.parameters.items) PARAMETERS) hs ≡ list_all (λ h. nat_le (length h.parameters) PARAMETERS) (map head hs)
few_heads [] = refl
few_heads (h ∷ hs) =
    ap (λ (k : ℕ). nat_le k PARAMETERS && list_all (λ h. nat_le (length h.parameters.items) PARAMETERS) hs) (sym (length-map h.parameters.items typed_name))
    ∙ ap (λ (b : Bool). nat_le (length (map typed_name h.parameters.items)) PARAMETERS && b) (few_heads hs)

pub few_operations : (os : List Operation) →
    list_all (λ o. nat_le (length o.head.parameters.items) PARAMETERS) os
    ≡ list_all (λ o. nat_le (length o.head.parameters) PARAMETERS) (map operation os)
few_operations [] = refl
few_operations (o ∷ os) =
    ap (λ (k : ℕ). nat_le k PARAMETERS && list_all (λ o. nat_le (length o.head.parameters.items) PARAMETERS) os)
    (sym (length-map o.head.parameters.items typed_name))
    ∙ ap (λ (b : Bool). nat_le (length (map typed_name o.head.parameters.items)) PARAMETERS && b) (few_operations os)
