use Rattle.std.proofs.Common.{◌≡◌, ap, subst, sym, Ok}
use Rattle.std.proofs.lemmas.Result.{err_from_is_err_and}
use Rattle.value_core.specs.View.{datum_of}
use Rattle.value_ops.specs.Elements.{deleted}
use Rattle.meaning_rules.specs.States.{Goes}
use Rattle.meaning_rules.specs.Variables as rules
use Rattle.frame_variables.specs.Gives.{state_of, target_of}
use Rattle.frame_variables.proofs.Changing.{changes}
use Rattle.frame_variables.proofs.Growing.{drop_differs, put_within}
use Rattle.frame_variables.proofs.Stopping.{fails_without}
use Rattle.frame_variables.proofs.variables.drop_element.Goals as goal

pub keep-requires : goal.keep-requires
keep-requires c =
    let e = datum_of c.args.element.now in
    let old = datum_of c.in_ok-all.all in
    let new = datum_of c.delete.new.all in
    let s = state_of c.args.run.now in
    put_within (target_of c.args.to.now) old new s (state_of c.lower.new.run) c.bound_at-bound.result 0 c.moved-less.result c.grown.result
    ((c.in_ok-lower.ensures {u = tt}).lowered s old (c.in_ok-all.ensures {u = tt}).lifted) c.bound_at-bound.ensures
    (λ known fits. drop_differs e old new c.bound_at-bound.result c.size_beside.result c.moved-less.result c.count-before.result
    (c.in_ok-delete.ensures {u = tt}).left c.size_beside.ensures.size c.count-before.ensures c.moved-less.ensures.stayed c.moved-less.ensures.most known) c.grown.ensures

pub returns-in_err-lower-clause-gives : goal.returns-in_err-lower-clause-gives
returns-in_err-lower-clause-gives c =
    let p = err_from_is_err_and c.from_residual-in_err-lower.result c.from_residual-in_err-lower.ensures.1 in
    let s = state_of c.args.run.now in
    rw (p.1, p.2) (fails_without c.in_err-lower.field-0.0 (rules.drop_element (target_of c.args.to.now) (datum_of c.args.element.now) s)
    ((c.in_err-lower.ensures {u = tt}).lowered s (datum_of c.in_ok-all.all) (c.in_ok-all.ensures {u = tt}).lifted))

pub returns-clause-gives : goal.returns-clause-gives
returns-clause-gives c =
    let to = target_of c.args.to.now in
    let e = datum_of c.args.element.now in
    let s = state_of c.args.run.now in
    subst (λ t. rules.drop_element to e s ≡ Goes tt t) (sym c.keep.ensures.same)
    (changes to (λ all. Ok (deleted e all)) (datum_of c.in_ok-all.all) (datum_of c.delete.new.all) s (state_of c.lower.new.run)
    ((c.in_ok-lower.ensures {u = tt}).lowered s (datum_of c.in_ok-all.all) (c.in_ok-all.ensures {u = tt}).lifted) (ap Ok (sym (c.in_ok-delete.ensures {u = tt}).left)))
