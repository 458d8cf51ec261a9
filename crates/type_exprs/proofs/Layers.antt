-- Rows of layers, compared from the end.
use Rattle.std.proofs.Common.{◌≡◌, ℕ, zero, suc, ◌+◌, ◌<◌, Bool, true, false, ◌&&◌, List, [], ◌∷◌, length, get_or, drop, refl, ap, ◌∙◌, arith}
use Rattle.std.specs.Prelude.{◌==◌, slice_get}
use Rattle.std.proofs.lemmas.Bool.{eqb-true}
use Rattle.type_rules.specs.declared.types.Base.{Base}
use Rattle.type_rules.specs.declared.types.Layer.{Layer}
use Rattle.type_rules.specs.Types.{outside, same_layer, same_layers}
use Rattle.type_forms.proofs.Loops.{rest_is}
use Rattle.type_exprs.specs.Wanted.{outside_by}

and_false : (b : Bool) → (b && false) ≡ false
and_false true = refl
and_false false = refl

pub layers_apart : (ls ms : List Layer) → (length ls ≡ length ms → ⊥) → same_layers ls ms ≡ false
layers_apart [] [] apart = absurd (apart refl)
layers_apart [] (m ∷ ms) apart = refl
layers_apart (l ∷ ls) [] apart = refl
layers_apart (l ∷ ls) (m ∷ ms) apart =
    ap (λ (b : Bool). same_layer l m && b) (layers_apart ls ms (λ e. apart (ap (λ (n : ℕ). suc n) e))) ∙ and_false (same_layer l m)

pub layers_more : (ls ms : List Layer) (i : ℕ) (l m : Layer) → i < length ls → i < length ms → l ≡ get_or ls i l → m ≡ get_or ms i m →
    same_layers (drop i ls) (drop i ms) ≡ (same_layer l m && same_layers (drop (i + 1) ls) (drop (i + 1) ms))
layers_more ls ms i l m lt lu is js =
    ap (λ (v : List Layer). same_layers v (drop i ms)) (rest_is ls i l lt is) ∙ ap (same_layers (l ∷ drop (i + 1) ls)) (rest_is ms i m lu js)

-- ---- the outermost layer

pub outside_first : (ls : List Layer) (b : Base) → outside_by (slice_get ls 0) b ≡ outside ls b
outside_first [] b = refl
outside_first (l ∷ ls) b = refl

pub empty_same : (ls : List Layer) → (length ls == 0) ≡ same_layers ls []
empty_same [] = refl
empty_same (l ∷ ls) = by_test (length (l ∷ ls) == 0) refl
  where
    by_test : (b : Bool) → (length (l ∷ ls) == 0) ≡ b → b ≡ false
    by_test true is = let none = eqb-true (length (l ∷ ls)) 0 is in absurd (omega (arith, none))
    by_test false is = refl

pub nothing_inside : (ls : List Layer) → length ls ≡ zero → ls ≡ drop 1 ls
nothing_inside [] e = refl
nothing_inside (l ∷ ls) e = absurd (omega (arith, e))
