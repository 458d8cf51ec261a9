use Rattle.std.proofs.Common.{subst, sym, ap, ◌∙◌}
use Rattle.meaning_rules.specs.Programs.{text_of}
use Rattle.program_tables.specs.declared.tables.CodeTables.{CodeTables}
use Rattle.program_tables.specs.Tables.{IsTables}
use Rattle.program_bodies.proofs.site.Site.text.Goals as goal

pub returns : goal.returns
returns c = λ w s.
    c.text.ensures w.program (subst (λ (t : CodeTables). IsTables w.program t) (sym c.tables.ensures) s.code.tables) ∙ ap (text_of w.program) c.as_str.ensures
