use Rattle.std.proofs.Common.{ℕ, subst, sym, ap, ◌∙◌, w64}
use Rattle.std.specs.Prelude.{ℤ}
use Rattle.std.proofs.lemmas.Int.{to_z-of_z}
use Rattle.type_forms.specs.declared.tops.What.{What}
use Rattle.type_forms.specs.Seen.{top, what}
use Rattle.value_core.specs.Datum as datum
use Rattle.meaning_rules.specs.Designators.{top_value}
use Rattle.program_tables.specs.declared.tables.CodeTables.{CodeTables}
use Rattle.program_tables.specs.Tables.{IsTables}
use Rattle.program_bodies.proofs.names.top_value.Goals as goal

pub returns-in-Constant : goal.returns-in-Constant
returns-in-Constant c = λ us is there.
    ap (λ (z : ℤ). datum.int z) (to_z-of_z w64 c.constant.result (record { sfits = c.constant.type_inv }))
    ∙ c.constant.ensures us (subst (λ (t : CodeTables). IsTables us t) (sym c.tables.ensures) is.tables)
    ∙ sym (ap (λ (k : What). top_value us c.args.number (what k)) c.in-Constant.is)

pub returns-in-Value : goal.returns-in-Value
returns-in-Value c = λ us is there.
    ap (λ (k : ℕ). datum.enumerated k) (c.as_short.ensures (is.few c.args.number (top c.args.item) _ c.in-Value.place there (ap what c.in-Value.is)))
    ∙ sym (ap (λ (k : What). top_value us c.args.number (what k)) c.in-Value.is)
