use Rattle.std.proofs.Common.{ℕ, Option, length, sym, ap, ◌∙◌}
use Rattle.std.specs.Prelude.{bytes_eq, position, unwrap_or}
use Rattle.std.proofs.lemmas.List.{length-map}
use Rattle.program_bodies.proofs.Placed.{place_or_all}
use Rattle.access_estimates.specs.Locals.{locals_seen, local_seen}
use Rattle.access_estimates.proofs.resolving.position_in.Goals as goal

pub returns : goal.returns
returns c = λ are.
    let ns = locals_seen c.args.names.now in
    c.position_or.ensures
    ∙ ap (λ (o : Option ℕ). unwrap_or o (length c.args.names.now)) (are c.args.name.now)
    ∙ ap (λ (k : ℕ). unwrap_or (position (λ o. bytes_eq o.name c.args.name.now) ns) k) (sym (length-map c.args.names.now local_seen))
    ∙ place_or_all (λ o. bytes_eq o.name c.args.name.now) ns
