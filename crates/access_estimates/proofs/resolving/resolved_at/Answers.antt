use Rattle.std.proofs.Common.{ℕ, Option, Some, sym, ap, ◌∙◌}
use Rattle.std.specs.Prelude.{option_map}
use Rattle.access_estimates.specs.Seen.{use_seen}
use Rattle.access_estimates.specs.declared.resolved.Effect.{Effect}
use Rattle.access_estimates.specs.Resolved.{resolved_with}
use Rattle.access_estimates.proofs.resolving.resolved_at.Goals as goal

pub returns-in-None : goal.returns-in-None
returns-in-None c = λ us are.
    ap (λ (o : Option ℕ). option_map (resolved_with us c.args.home.now c.args.position (use_seen c.args.u.now)) o) (sym c.in-None.is ∙ c.object_at.ensures)

pub returns-in-Some : goal.returns-in-Some
returns-in-Some c = λ us are.
    ap (λ (e : Effect). Some (record { position = c.args.position; times = c.args.u.now.times; effect = e })) (c.effect.ensures us are)
    ∙ ap (λ (o : Option ℕ). option_map (resolved_with us c.args.home.now c.args.position (use_seen c.args.u.now)) o) (sym c.in-Some.is ∙ c.object_at.ensures)
