use Rattle.std.proofs.Common.{ap, subst, sym, Ok}
use Rattle.std.proofs.lemmas.Result.{err_from_is_err_and}
use Rattle.value_core.specs.View.{datum_of}
use Rattle.value_ops.specs.Elements.{inserted}
use Rattle.meaning_rules.specs.Variables as rules
use Rattle.frame_variables.specs.Gives.{Gives, state_of, target_of}
use Rattle.frame_variables.proofs.Changing.{checked_enlarges}
use Rattle.frame_variables.proofs.Growing.{put_differs, put_within}
use Rattle.frame_variables.proofs.Stopping.{fails_without}
use Rattle.frame_variables.proofs.variables.put.Goals as goal

pub returns-in_err-lower-clause-gives : goal.returns-in_err-lower-clause-gives
returns-in_err-lower-clause-gives c =
    let p = err_from_is_err_and c.from_residual-in_err-lower.result c.from_residual-in_err-lower.ensures.1 in
    let s = state_of c.args.run.now in
    rw (p.1, p.2) (fails_without c.in_err-lower.field-0.0 (rules.put (target_of c.args.to.now) (datum_of c.args.element) s)
    ((c.in_err-lower.ensures {u = tt}).lowered s (datum_of c.in_ok-all.all) (c.in_ok-all.ensures {u = tt}).lifted))

pub check-requires : goal.check-requires
check-requires c =
    let e = datum_of c.args.element in
    let old = datum_of c.in_ok-all.all in
    let new = datum_of c.insert.new.all in
    let s = state_of c.args.run.now in
    put_within (target_of c.args.to.now) old new s (state_of c.lower.new.run) c.bound_at-bound.result c.moved-more.result 0 c.grown.result
    ((c.in_ok-lower.ensures {u = tt}).lowered s old (c.in_ok-all.ensures {u = tt}).lifted) c.bound_at-bound.ensures
    (put_differs e old new c.bound_at-bound.result c.size_beside-size.result c.moved-more.result c.count-before.result
    (c.in_ok-in_order.ensures {u = tt}).inserted c.size_beside-size.ensures.size c.count-before.ensures c.moved-more.ensures.moved) c.grown.ensures

pub returns-clause-gives : goal.returns-clause-gives
returns-clause-gives c =
    let to = target_of c.args.to.now in
    let e = datum_of c.args.element in
    let s = state_of c.args.run.now in
    subst (λ t. Gives (λ u. u) c.check.result t (rules.put to e s)) (sym c.check.ensures.same)
    (checked_enlarges to (λ all. Ok (inserted e all)) (datum_of c.in_ok-all.all) (datum_of c.insert.new.all) s (state_of c.lower.new.run) c.check.result
    ((c.in_ok-lower.ensures {u = tt}).lowered s (datum_of c.in_ok-all.all) (c.in_ok-all.ensures {u = tt}).lifted) (ap Ok (sym (c.in_ok-in_order.ensures {u = tt}).inserted)) c.check.ensures.fits)
