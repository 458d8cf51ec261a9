use Rattle.std.proofs.Common.{ℕ, List, sym, ap, ◌∙◌}
use Rattle.type_rules.specs.TopLevel.{stands_for}
use Rattle.program_bodies.proofs.site.Site.outer.Goals as goal

pub returns-clause-inside : goal.returns-clause-inside
returns-clause-inside c = λ w s. c.stands_for.ensures.inside w.program (c.rule_tables-tables.ensures w.program s.code).typed.forms.names

pub returns-clause-stands : goal.returns-clause-stands
returns-clause-stands c = λ w s.
    c.stands_for.ensures.stands w.program (c.rule_tables-tables.ensures w.program s.code).typed.forms.names
    ∙ ap (stands_for w.program c.args.self.body.now.home.now) c.as_str.ensures
    ∙ ap (λ (m : List ℕ). stands_for w.program m c.args.name.now.text) (sym s.home)
