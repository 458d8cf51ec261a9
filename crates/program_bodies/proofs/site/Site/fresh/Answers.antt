use Rattle.std.proofs.Common.{◌≡◌, Option, subst, sym, ap, ◌∙◌}
use Rattle.std.specs.Prelude.{IfOk, option_copied, option_map}
use Rattle.std.specs.Borrow.{Bor}
use Rattle.orca_tree.specs.declared.tree.Expression.{Expression}
use Rattle.type_rules.specs.Types.{inside_of}
use Rattle.value_core.specs.Datum.{Datum}
use Rattle.value_core.specs.View.{datum_of}
use Rattle.meaning_rules.specs.Openings.{opening}
use Rattle.program_tables.specs.declared.tables.CodeTables.{CodeTables}
use Rattle.program_tables.specs.Tables.{IsTables}
use Rattle.program_bodies.proofs.Passing.{fresh_of, node_of}
use Rattle.program_bodies.proofs.site.Site.fresh.Goals as goal

pub returns-in-None : goal.returns-in-None
returns-in-None c = λ w s.
    ap (node_of w) (ap (λ (o : Option (Bor Expression)). option_copied o) (sym c.in-None.is) ∙ c.first.ensures.value) ∙ fresh_of w c.args.given.now

pub returns-in-Some : goal.returns-in-Some
returns-in-Some c = λ w s.
    subst (λ (d : Datum). IfOk c.opening.result (λ v. datum_of v ≡ d))
    (ap (opening w.program) (c.inside-element.ensures ∙ ap (option_map inside_of) (c.designator.ensures w s))
    ∙ ap (node_of w) (ap (λ (o : Option (Bor Expression)). option_copied o) (sym c.in-Some.is) ∙ c.first.ensures.value)
    ∙ fresh_of w c.args.given.now)
    (c.opening.ensures w.program (subst (λ (t : CodeTables). IsTables w.program t) (sym c.tables.ensures) s.code.tables))
