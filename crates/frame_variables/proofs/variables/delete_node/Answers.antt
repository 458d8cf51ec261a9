use Rattle.std.proofs.Common.{◌≡◌, ◌∙◌, ap, arith, pos, subst, sym, None}
use Rattle.std.specs.Int.{w64}
use Rattle.std.proofs.lemmas.Int.{to_z-of_z}
use Rattle.std.proofs.lemmas.Result.{err_from_is_err_and}
use Rattle.value_core.specs.Datum as datum
use Rattle.value_core.specs.View.{datum_of}
use Rattle.graph_values.specs.Graphs as graphs
use Rattle.meaning_rules.specs.Operators.{integer_in}
use Rattle.meaning_rules.specs.States.{Goes, after, gives}
use Rattle.meaning_rules.specs.Variables as rules
use Rattle.frame_variables.specs.Gives.{Fails, state_of, target_of}
use Rattle.frame_variables.proofs.Changing.{change_by_fails, changes}
use Rattle.frame_variables.proofs.Enlarging.{delete_differs}
use Rattle.frame_variables.proofs.Growing.{put_within}
use Rattle.frame_variables.proofs.Stopping.{fails_then, fails_without, gives_ok}
use Rattle.frame_variables.proofs.variables.delete_node.Goals as goal

pub returns-in_err-graph-clause-gives : goal.returns-in_err-graph-clause-gives
returns-in_err-graph-clause-gives c =
    let p = err_from_is_err_and c.from_residual-in_err-graph.result c.from_residual-in_err-graph.ensures.1 in
    let s = state_of c.args.run.now in
    let to = target_of c.args.to.now in
    let why = c.in_err-graph.field-0.0 in
    let name = integer_in (datum_of c.args.name.now) in
    let back = to_z-of_z w64 c.integer_in.result (record { sfits = c.integer_in.type_inv }) ∙ c.integer_in.ensures in
    let stops = subst (λ n. Fails why (gives (graphs.deleted n (datum_of c.in_ok-old.old)) s)) back ((c.in_err-graph.ensures {u = tt}).given s) in
    rw (p.1, p.2) (fails_then why (rules.change to (graphs.deleted name) s) (λ u s1. Goes None s1)
    (change_by_fails to (graphs.deleted name) (datum_of c.in_ok-old.old) (datum.int (pos 0)) s (state_of c.lift.new.run) why (c.in_ok-old.ensures {u = tt}).lifted stops))

pub returns-in_err-lower-clause-gives : goal.returns-in_err-lower-clause-gives
returns-in_err-lower-clause-gives c =
    let p = err_from_is_err_and c.from_residual-in_err-lower.result c.from_residual-in_err-lower.ensures.1 in
    let s = state_of c.args.run.now in
    rw (p.1, p.2) (fails_without c.in_err-lower.field-0.0 (rules.delete_node (target_of c.args.to.now) (datum_of c.args.name.now) s)
    ((c.in_err-lower.ensures {u = tt}).lowered s (datum_of c.in_ok-old.old) (c.in_ok-old.ensures {u = tt}).lifted))

pub keep-requires : goal.keep-requires
keep-requires c =
    let old = datum_of c.in_ok-old.old in
    let graph = datum_of c.in_ok-graph.graph in
    let s = state_of c.args.run.now in
    let name = integer_in (datum_of c.args.name.now) in
    let back = to_z-of_z w64 c.integer_in.result (record { sfits = c.integer_in.type_inv }) ∙ c.integer_in.ensures in
    let given = gives_ok (graphs.deleted name old) s graph (subst (λ n. gives (graphs.deleted n old) s ≡ Goes graph s) back ((c.in_ok-graph.ensures {u = tt}).given s)) in
    put_within (target_of c.args.to.now) old graph s (state_of c.lower.new.run) c.bound_at-bound.result 0 0 c.bound_at-bound.result
    ((c.in_ok-lower.ensures {u = tt}).lowered s old (c.in_ok-old.ensures {u = tt}).lifted) c.bound_at-bound.ensures
    (λ known fits. delete_differs name old graph given) (λ known. (known, omega arith, omega arith))

pub returns-clause-gives : goal.returns-clause-gives
returns-clause-gives c =
    let s = state_of c.args.run.now in
    let to = target_of c.args.to.now in
    let old = datum_of c.in_ok-old.old in
    let graph = datum_of c.in_ok-graph.graph in
    let name = integer_in (datum_of c.args.name.now) in
    let back = to_z-of_z w64 c.integer_in.result (record { sfits = c.integer_in.type_inv }) ∙ c.integer_in.ensures in
    let given = gives_ok (graphs.deleted name old) s graph (subst (λ n. gives (graphs.deleted n old) s ≡ Goes graph s) back ((c.in_ok-graph.ensures {u = tt}).given s)) in
    ap (λ o. after o (λ u s1. Goes None s1))
    (changes to (graphs.deleted name) old graph s (state_of c.lower.new.run) ((c.in_ok-lower.ensures {u = tt}).lowered s old (c.in_ok-old.ensures {u = tt}).lifted) given)
    ∙ ap (Goes None) (sym c.keep.ensures.same)
