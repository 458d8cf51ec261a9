use Rattle.std.proofs.Common.{ℕ, subst, sym, ap, ◌∙◌}
use Rattle.meaning_rules.specs.Calls.{object_number}
use Rattle.meaning_rules.specs.Designators.{root_type}
use Rattle.meaning_rules.specs.Programs.{kind_of, op_of}
use Rattle.program_tables.specs.declared.tables.CodeTables.{CodeTables}
use Rattle.program_tables.specs.Tables.{IsTables}
use Rattle.program_bodies.proofs.site.Site.operation.Goals as goal

pub returns-clause-kind : goal.returns-clause-kind
returns-clause-kind c = λ w s.
    c.kind.ensures w.program (subst (λ (t : CodeTables). IsTables w.program t) (sym c.tables-tables.ensures) s.code.tables)
    ∙ ap (kind_of w.program) (c.object_number-number.ensures ∙ ap object_number (c.root.ensures w s))

pub returns-clause-op : goal.returns-clause-op
returns-clause-op c = λ w s.
    c.operation.ensures w.program (subst (λ (t : CodeTables). IsTables w.program t) (sym c.tables-tables.ensures) s.code.tables)
    ∙ ap (λ (i : ℕ). op_of w.program i c.as_str.result.now) (c.object_number-number.ensures ∙ ap object_number (c.root.ensures w s))
    ∙ ap (op_of w.program (object_number (root_type w c.args.object.now))) c.as_str.ensures
