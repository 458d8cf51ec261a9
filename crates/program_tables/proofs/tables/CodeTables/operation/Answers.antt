use Rattle.std.proofs.Common.{◌<◌, ◌^◌, ℕ, zero, List, sym, ap, subst, ◌∙◌}
use Rattle.std.specs.Prelude.{unwrap_or}
use Rattle.std.specs.Borrow.{Bor}
use Rattle.std.specs.BTreeMap.{BTreeMap}
use Rattle.type_tables.specs.Tables.{entry_in}
use Rattle.orca_base.specs.declared.ids.OpNo.{OpNo}
use Rattle.program_tables.proofs.tables.CodeTables.operation.Goals as goal

abbrev numbered : ℕ → OpNo
numbered k = record { 0 = k }

pub returns : goal.returns
returns c = λ us t.
    let same = c.operation_at.ensures
    ∙ ap (λ (l : List (BTreeMap (Bor (List ℕ)) ℕ)). unwrap_or (entry_in l c.args.number c.args.name.now) zero) c.deref.ensures.value
    ∙ t.operations c.args.number c.args.name.now in
    ap numbered (c.as_short.ensures (subst (λ (k : ℕ). k < 2 ^ 16) (sym same) (t.coded.ops c.args.number c.args.name.now)) ∙ same)
