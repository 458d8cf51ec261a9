use Rattle.std.proofs.Common.{◌<◌, ◌^◌, ℕ, sym, ap, subst, ◌∙◌}
use Rattle.orca_base.specs.declared.ids.TextNo.{TextNo}
use Rattle.program_tables.proofs.tables.CodeTables.text.Goals as goal

abbrev numbered : ℕ → TextNo
numbered k = record { 0 = k }

pub returns : goal.returns
returns c = λ us t.
    let same = c.place_or_zero.ensures ∙ t.texts c.args.name.now in
    ap numbered (c.as_short.ensures (subst (λ (k : ℕ). k < 2 ^ 16) (sym same) (t.coded.texts c.args.name.now)) ∙ same)
