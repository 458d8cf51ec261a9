use Rattle.std.proofs.Common.{◌≡◌, ℕ, ℤ, ◌+◌, ◌-ℤ◌, nat_abs, replicate, sym, ap, ◌∙◌, to_z, of_z}
use Rattle.std.specs.Int.{w128}
use Rattle.std.proofs.Math.Facts.{to_z-of_z}
use Rattle.value_core.specs.Datum.{Data, data_of, data_of-list_of}
use Rattle.value_core.specs.Datum as datum
use Rattle.value_core.specs.View.{datum_of}
use Rattle.program_tables.proofs.openings.array_of.Goals as goal

pub returns : goal.returns
returns c =
    let low = c.args.low in
    let high = c.args.high in
    let far : c.abs_diff.result ≡ nat_abs (high -ℤ low) =
    c.abs_diff.ensures
    ∙ ap (λ (v : ℤ). nat_abs (to_z w128 (of_z w128 high) -ℤ v)) (to_z-of_z c.ranges.low)
    ∙ ap (λ (v : ℤ). nat_abs (v -ℤ low)) (to_z-of_z c.ranges.high) in
    ap (λ (d : Data). datum.array d)
    ((c.in_ok-new.ensures {u = tt})
    ∙ sym (data_of-list_of c.from_vec.result)
    ∙ ap data_of (c.from_vec.ensures ∙ (c.in_ok-all.ensures {u = tt}) ∙ ap (λ (k : ℕ). replicate (k + 1) (datum_of c.args.element)) far))
