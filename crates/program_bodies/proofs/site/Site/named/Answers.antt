use Rattle.std.proofs.Common.{sym, ◌∙◌}
use Rattle.program_bodies.proofs.SeenNames.{outer_named, own_named}
use Rattle.program_bodies.proofs.site.Site.named.Goals as goal

pub returns-in-Some : goal.returns-in-Some
returns-in-Some c = λ w i s. own_named w c.args.name.now s c.in-Some.place (sym c.in-Some.is ∙ c.place.ensures w i)

pub returns-in-None : goal.returns-in-None
returns-in-None c = λ w i s. outer_named w c.args.name.now s _ (sym c.in-None.is ∙ c.place.ensures w i) (c.outer_value.ensures w i)
