use Rattle.std.proofs.Common.{ℕ, List, Some, None, cond, ap, ◌∙◌, arith}
use Rattle.std.specs.Prelude.{bytes_eq, position}
use Rattle.std.proofs.lemmas.List.{take_all}
use Rattle.access_estimates.specs.declared.locals.Local.{Local}
use Rattle.access_estimates.specs.Locals.{locals_seen, local_seen}
use Rattle.type_tables.specs.Entries.{entry, or_other}
use Rattle.access_estimates.proofs.Listing.{placed_at}
use Rattle.access_estimates.proofs.locals.positions_of.Goals as goal

pub names-preserved : goal.names-preserved
names-preserved c = λ n.
    placed_at local_seen (λ o. bytes_eq o.name n) c.args.names.now c.names.position _ _ _ c.names-test.true
    (c.names.invariant n) ((c.in_ok-note.ensures {u = tt}) n
    ∙ ap (λ (m : List ℕ). or_other (entry c.names.positions n) (cond (bytes_eq m n) (Some c.names.position) None)) c.name_of-name.ensures)

pub returns : goal.returns
returns c = λ n.
    c.names.invariant n
    ∙ ap (λ (l : List Local). position (λ o. bytes_eq o.name n) (locals_seen l)) (take_all c.names.position c.args.names.now (omega (arith, c.names-test.false)))
