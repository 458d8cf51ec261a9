-- Types that are told to be one are the same.
use Rattle.std.proofs.Common.{◌≡◌, ℤ, true, List, [], ◌∷◌, refl, sym, ap, subst, ◌∙◌}
use Rattle.std.specs.Ordering.{int_eq}
use Rattle.std.specs.Cmp.{signed_Decides}
use Rattle.std.proofs.lemmas.Bool.{true≢false, eqb-true, eq-eqb}
use Rattle.link_rules.proofs.Truth.{and_first, and_second, both_true}
use Rattle.type_rules.specs.Types as types
use Rattle.type_rules.specs.Types.{Base, Layer, DataType, same_base, same_layer, same_layers, same_type}
use Rattle.type_rules.specs.Laws.{IsOneType}

base_is : (a b : Base) → same_base a b ≡ true → a ≡ b
base_is types.Integer types.Integer h = refl
base_is types.Boolean types.Boolean h = refl
base_is types.Character types.Character h = refl
base_is types.String types.String h = refl
base_is types.NodeName types.NodeName h = refl
base_is (types.Enumeration i) (types.Enumeration j) h = ap types.Enumeration (eqb-true i j h)
base_is (types.Record i) (types.Record j) h = ap types.Record (eqb-true i j h)
base_is (types.Object i) (types.Object j) h = ap types.Object (eqb-true i j h)
base_is _ _ h = absurd (true≢false (sym h))

base_itself : (a : Base) → same_base a a ≡ true
base_itself (types.Enumeration i) = eq-eqb i i refl
base_itself (types.Record i) = eq-eqb i i refl
base_itself (types.Object i) = eq-eqb i i refl
base_itself types.Integer = refl
base_itself types.Boolean = refl
base_itself types.Character = refl
base_itself types.String = refl
base_itself types.NodeName = refl

layer_is : (l m : Layer) → same_layer l m ≡ true → l ≡ m
layer_is (types.Array low high) (types.Array low' high') h =
    ap (λ (v : ℤ). types.Array v high) ((signed_Decides low low').0 (and_first (int_eq low low') (int_eq high high') h))
    ∙ ap (types.Array low') ((signed_Decides high high').0 (and_second (int_eq low low') (int_eq high high') h))
layer_is types.Set types.Set h = refl
layer_is types.Bag types.Bag h = refl
layer_is types.Graph types.Graph h = refl
layer_is _ _ h = absurd (true≢false (sym h))

layer_itself : (l : Layer) → same_layer l l ≡ true
layer_itself (types.Array low high) = both_true (int_eq low low) (int_eq high high) ((signed_Decides low low).1 refl) ((signed_Decides high high).1 refl)
layer_itself types.Set = refl
layer_itself types.Bag = refl
layer_itself types.Graph = refl

layers_are : (ls ms : List Layer) → same_layers ls ms ≡ true → ls ≡ ms
layers_are [] [] h = refl
layers_are (l ∷ ls) (m ∷ ms) h =
    ap (λ (v : Layer). v ∷ ls) (layer_is l m (and_first (same_layer l m) (same_layers ls ms) h))
    ∙ ap (λ (vs : List Layer). m ∷ vs) (layers_are ls ms (and_second (same_layer l m) (same_layers ls ms) h))
layers_are [] (m ∷ ms) h = absurd (true≢false (sym h))
layers_are (l ∷ ls) [] h = absurd (true≢false (sym h))

layers_themselves : (ls : List Layer) → same_layers ls ls ≡ true
layers_themselves [] = refl
layers_themselves (l ∷ ls) = both_true (same_layer l l) (same_layers ls ls) (layer_itself l) (layers_themselves ls)

itself : (t : DataType) → same_type t t ≡ true
itself t = both_true (same_layers t.layers t.layers) (same_base t.base t.base) (layers_themselves t.layers) (base_itself t.base)

pub one_type : (t u : DataType) → IsOneType t u
one_type t u = (
  (λ h.
      ap (λ (ls : List Layer). record { layers = ls; base = t.base }) (layers_are t.layers u.layers (and_first (same_layers t.layers u.layers) (same_base t.base u.base) h))
      ∙ ap (λ (b : Base). record { layers = u.layers; base = b }) (base_is t.base u.base (and_second (same_layers t.layers u.layers) (same_base t.base u.base) h))),
  (λ e. subst (λ (v : DataType). same_type t v ≡ true) e (itself t)),
)
