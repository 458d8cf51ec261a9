use Rattle.std.proofs.Common.{subst, sym, ap, ◌∙◌}
use Rattle.type_forms.specs.declared.index.Standing.{Standing}
use Rattle.type_forms.specs.Indexed.{IsInside, standing}
use Rattle.meaning_rules.specs.Designators.{outer_value}
use Rattle.program_bodies.proofs.names.standing_value.Goals as goal

pub returns-in-Top : goal.returns-in-Top
returns-in-Top c = λ us is inside.
    c.top_value.ensures us is (subst (λ (k : Standing). IsInside us k) c.in-Top.is inside)
    ∙ sym (ap (λ (k : Standing). outer_value us (standing k)) c.in-Top.is)
