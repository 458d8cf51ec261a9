use Rattle.std.proofs.Common.{ap, ◌∙◌}
use Rattle.meaning_rules.specs.Designators.{outer_value}
use Rattle.program_bodies.proofs.site.Site.outer_value.Goals as goal

pub returns : goal.returns
returns c = λ w s. c.standing_value.ensures w.program s.code (c.outer.ensures.inside w s) ∙ ap (outer_value w.program) (c.outer.ensures.stands w s)
