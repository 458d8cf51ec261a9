use Rattle.std.proofs.Common.{ℕ, ap, ◌∙◌}
use Rattle.code_rules.specs.Layouts.{spot}
use Rattle.code_exprs.proofs.code_site.CodeSite.slot.Goals as goal

pub returns : goal.returns
returns c = λ w l d. c.spot.ensures w l d ∙ ap (λ (k : ℕ). spot l k) (c.slot.ensures w d.site)
