use Rattle.std.proofs.Common.{◌+◌, ap, sym, ◌∙◌, refl, subst, Ok, Some}
use Rattle.std.specs.Int.{w64}
use Rattle.std.proofs.lemmas.Int.{to_z-of_z}
use Rattle.std.proofs.lemmas.Result.{err_from_is_err_and}
use Rattle.value_core.specs.Datum as datum
use Rattle.value_core.specs.View.{datum_of}
use Rattle.graph_values.specs.Graphs as graphs
use Rattle.meaning_rules.specs.States.{Goes}
use Rattle.meaning_rules.specs.Variables as rules
use Rattle.frame_variables.specs.Gives.{Gives, state_of, target_of}
use Rattle.frame_variables.specs.Exchanges.{IsPut}
use Rattle.frame_variables.proofs.Changing.{added_fails, added_goes, checked_enlarges}
use Rattle.frame_variables.proofs.Enlarging.{add_differs}
use Rattle.frame_variables.proofs.Growing.{put_within}
use Rattle.frame_variables.proofs.Stopping.{fails_without, gives_ok}
use Rattle.frame_variables.proofs.variables.add_node.Goals as goal

pub returns-in_err-lower-clause-gives : goal.returns-in_err-lower-clause-gives
returns-in_err-lower-clause-gives c =
    let p = err_from_is_err_and c.from_residual-in_err-lower.result c.from_residual-in_err-lower.ensures.1 in
    let s = state_of c.args.run.now in
    rw (p.1, p.2) (fails_without c.in_err-lower.field-0.0 (rules.add_node (target_of c.args.to.now) (datum_of c.args.fresh) s)
    ((c.in_err-lower.ensures {u = tt}).lowered s (datum_of c.in_ok-old.old) (c.in_ok-old.ensures {u = tt}).lifted))

pub check-requires : goal.check-requires
check-requires c =
    let fresh = datum_of c.args.fresh in
    let old = datum_of c.in_ok-old.old in
    let graph = datum_of c.in_ok-name.graph in
    let s = state_of c.args.run.now in
    put_within (target_of c.args.to.now) old graph s (state_of c.lower.new.run) c.bound_at-bound.result (c.size_beside-size.result + c.beside_node.result) 0 c.grown.result
    ((c.in_ok-lower.ensures {u = tt}).lowered s old (c.in_ok-old.ensures {u = tt}).lifted) c.bound_at-bound.ensures
    (add_differs fresh old graph c.in_ok-name.name c.bound_at-bound.result c.size_beside-size.result c.beside_node.result
    (gives_ok (graphs.added fresh old) s (c.in_ok-name.name, graph) ((c.in_ok-name.ensures {u = tt}).given s)) c.size_beside-size.ensures.size c.beside_node.ensures.grows) c.grown.ensures

pub returns-in_err-check-clause-gives : goal.returns-in_err-check-clause-gives
returns-in_err-check-clause-gives c =
    let p = err_from_is_err_and c.from_residual-in_err-check.result c.from_residual-in_err-check.ensures.1 in
    let s = state_of c.args.run.now in
    let to = target_of c.args.to.now in
    let put = (c.in_ok-lower.ensures {u = tt}).lowered s (datum_of c.in_ok-old.old) (c.in_ok-old.ensures {u = tt}).lifted in
    let stored = checked_enlarges to (λ old. Ok (datum_of c.in_ok-name.graph)) (datum_of c.in_ok-old.old) (datum_of c.in_ok-name.graph) s (state_of c.lower.new.run) c.check.result put refl c.check.ensures.fits in
    rw (p.1, p.2) (added_fails to (datum_of c.args.fresh) (datum_of c.in_ok-old.old) (datum_of c.in_ok-name.graph) c.in_ok-name.name s (state_of c.lower.new.run) c.in_err-check.field-0.0 put ((c.in_ok-name.ensures {u = tt}).given s)
    (subst (λ r. Gives (λ u. u) r (state_of c.lower.new.run) (rules.store to (datum_of c.in_ok-name.graph) s)) (c.in_err-check.was {u = tt}) stored))

pub returns-clause-gives : goal.returns-clause-gives
returns-clause-gives c =
    let s = state_of c.args.run.now in
    let s1 = state_of c.check.new.run in
    let to = target_of c.args.to.now in
    let old = datum_of c.in_ok-old.old in
    let graph = datum_of c.in_ok-name.graph in
    let same = sym c.check.ensures.same in
    let lowered = (c.in_ok-lower.ensures {u = tt}).lowered s old (c.in_ok-old.ensures {u = tt}).lifted in
    let fits = checked_enlarges to (λ old. Ok graph) old graph s (state_of c.lower.new.run) c.check.result lowered refl c.check.ensures.fits in
    let put = subst (IsPut to old graph s) same lowered in
    let stored = subst (λ t. Gives (λ u. u) c.check.result t (rules.store to graph s)) same fits in
    added_goes to (datum_of c.args.fresh) old graph c.in_ok-name.name s s1 put ((c.in_ok-name.ensures {u = tt}).given s)
    (subst (λ r. Gives (λ u. u) r s1 (rules.store to graph s)) (c.in_ok-check.was {u = tt}) stored)
    ∙ ap (λ n. Goes (Some (datum.int n)) s1) (sym (to_z-of_z w64 c.in_ok-name.name (c.in_ok-name.ensures {u = tt}).range))
