use Rattle.std.proofs.Common.{ℕ, Option, length, sym, ap, ◌∙◌}
use Rattle.std.specs.Prelude.{unwrap_or}
use Rattle.program_bodies.specs.Bodies.{bears}
use Rattle.program_bodies.proofs.Placed.{place_or_all}
use Rattle.program_bodies.proofs.site.Site.slot.Goals as goal

pub returns-in-Some : goal.returns-in-Some
returns-in-Some c = λ w s.
    ap (λ (o : Option ℕ). unwrap_or o (length w.locals)) (sym c.in-Some.is ∙ c.place.ensures w s) ∙ place_or_all (bears c.args.name.now.text) w.locals

pub returns-in-None : goal.returns-in-None
returns-in-None c = λ w s.
    c.count.ensures w s
    ∙ ap (λ (o : Option ℕ). unwrap_or o (length w.locals)) (sym c.in-None.is ∙ c.place.ensures w s)
    ∙ place_or_all (bears c.args.name.now.text) w.locals
