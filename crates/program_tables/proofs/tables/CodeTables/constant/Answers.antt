use Rattle.std.proofs.Common.{◌≡◌, ℤ, List, ap, ◌∙◌, arith, to_z, of_z, w64}
use Rattle.std.specs.Prelude.{pos, slice_get, unwrap_or}
use Rattle.std.proofs.lemmas.Int.{ints}
use Rattle.value_core.specs.Datum as datum
use Rattle.program_tables.proofs.tables.CodeTables.constant.Goals as goal

pub returns : goal.returns
returns c = λ us t.
    let again : to_z w64 (of_z w64 c.value_at.result) ≡ c.value_at.result = omega (arith, ints) in
    ap (λ (z : ℤ). datum.int z)
    (again ∙ c.value_at.ensures ∙ ap (λ (l : List ℤ). unwrap_or (slice_get l c.args.number) (pos 0)) c.deref.ensures.value)
    ∙ t.constants c.args.number
