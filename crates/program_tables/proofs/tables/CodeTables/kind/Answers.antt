use Rattle.std.proofs.Common.{◌≡◌, ℕ, suc, ap, ◌∙◌, arith}
use Rattle.orca_base.specs.declared.ids.KindNo.{KindNo}
use Rattle.meaning_rules.specs.Programs.{kind_of}
use Rattle.program_tables.proofs.tables.CodeTables.kind.Goals as goal

abbrev numbered : ℕ → KindNo
numbered k = record { 0 = k }

pub returns : goal.returns
returns c = λ us t.
    let few = t.coded.kinds c.args.number in
    let same : suc c.specified_before.result ≡ (kind_of us c.args.number).0 =
    ap (λ (k : ℕ). suc k) c.specified_before.ensures ∙ t.kinds c.args.number in
    let short : c.as_short.result ≡ c.specified_before.result = c.as_short.ensures (omega (arith, few, same)) in
    ap numbered (omega (arith, few, same, short, c.saturating_add.ensures))
