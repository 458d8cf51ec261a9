use Rattle.std.proofs.Common.{◌≡◌, ℕ, ℤ, ◌+◌, ◌*◌, ◌-ℤ◌, min, nat_abs, [], Some, refl, ap, subst, ◌∙◌, to_z, of_z}
use Rattle.std.specs.Int.{w128}
use Rattle.std.specs.Prelude.{IfOk, int_le}
use Rattle.std.proofs.Math.Facts.{to_z-of_z}
use Rattle.type_rules.specs.declared.types.Layer.TheVariants.{Array}
use Rattle.type_rules.specs.declared.types.Measured.{Measured}
use Rattle.type_rules.specs.Rules.{Found, unless}
use Rattle.type_rules.specs.Types.{layered}
use Rattle.type_rules.specs.TypePhrases as phrases
use Rattle.type_rules.specs.TypePhrases.{within_limits}
use Rattle.type_forms.specs.Finding.{Finds}
use Rattle.type_forms.specs.Measures.{wrapped}
use Rattle.type_forms.proofs.ArrayLimits.{capped, small_again, within_same}
use Rattle.type_forms.proofs.phrases.array_of.Goals as goal

pub returns : goal.returns
returns c = λ le.
    let low = c.args.low in
    let high = c.args.high in
    let count = nat_abs (high -ℤ low) + 1 in
    let lo = to_z-of_z c.ranges.low in
    let hi = to_z-of_z c.ranges.high in
    let elements : c.elements.result ≡ min count 10001 =
    c.elements.ensures (ap (λ (v : ℤ). int_le v (to_z w128 (of_z w128 high))) lo ∙ ap (int_le low) hi ∙ le)
    ∙ ap (λ (v : ℤ). min (nat_abs (to_z w128 (of_z w128 high) -ℤ v) + 1) 10001) lo ∙ ap (λ (v : ℤ). min (nat_abs (v -ℤ low) + 1) 10001) hi in
    let size : c.array_size-size.result ≡ min (1 + count * c.args.of.size) 10001 =
    c.array_size-size.ensures ∙ ap (λ (k : ℕ). min (1 + k * c.args.of.size) 10001) elements ∙ capped count c.args.of.size in
    subst (λ (f : Found Measured). IfOk c.limited.result (λ r. Finds r f))
    (within_same c.args.at (wrapped (Array low high) c.array_size-size.result 1 c.args.of) (phrases.array_of low high c.args.of)
    (small_again (layered (Array low high) c.args.of.kind) (1 + c.args.of.nesting) (1 + count * c.args.of.size) c.array_size-size.result size))
    (subst (λ (v : ℤ). IfOk c.limited.result (λ r. Finds r (within_limits c.args.at (unless [] (Some (wrapped (Array low v) c.array_size-size.result 1 c.args.of)))))) hi
    (subst (λ (v : ℤ). IfOk c.limited.result (λ r. Finds r (within_limits c.args.at (unless [] (Some (wrapped (Array v (to_z w128 (of_z w128 high))) c.array_size-size.result 1 c.args.of)))))) lo
    (c.limited.ensures [] refl)))
