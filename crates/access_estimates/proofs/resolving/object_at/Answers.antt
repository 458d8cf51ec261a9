use Rattle.std.proofs.Common.{Option, sym, ap, ◌∙◌}
use Rattle.std.specs.Prelude.{option_map, option_and_then}
use Rattle.std.specs.Borrow.{Bor}
use Rattle.std.proofs.lemmas.Option.{slice_get-map}
use Rattle.access_estimates.specs.declared.locals.Local.{Local}
use Rattle.access_estimates.specs.Locals.{PlainLocal, local_seen}
use Rattle.access_estimates.proofs.resolving.object_at.Goals as goal

pub returns-in-None : goal.returns-in-None
returns-in-None c =
    sym
    (ap (option_and_then (λ (n : PlainLocal). n.object))
    (slice_get-map local_seen c.args.names.now c.args.position
    ∙ ap (option_map local_seen) (sym c.local_at.ensures ∙ ap (λ (o : Option (Bor Local)). option_map (λ b. b.now) o) c.in-None.is)))

pub returns-in-Some : goal.returns-in-Some
returns-in-Some c =
    sym
    (ap (option_and_then (λ (n : PlainLocal). n.object))
    (slice_get-map local_seen c.args.names.now c.args.position
    ∙ ap (option_map local_seen) (sym c.local_at.ensures ∙ ap (λ (o : Option (Bor Local)). option_map (λ b. b.now) o) c.in-Some.is)))
