use Rattle.std.proofs.Common.{sym, ◌∙◌}
use Rattle.code_exprs.proofs.Named.{outer_object, own_object}
use Rattle.code_exprs.proofs.code_site.CodeSite.object.Goals as goal

pub returns-in-Some : goal.returns-in-Some
returns-in-Some c = λ w l d. c.spot.ensures w l d ∙ own_object w l c.args.name.now c.in-Some.place (sym c.in-Some.is ∙ c.place.ensures w d.site)

pub returns-in-None : goal.returns-in-None
returns-in-None c = λ w l d. sym d.beyond ∙ outer_object w l c.args.name.now (sym c.in-None.is ∙ c.place.ensures w d.site)
