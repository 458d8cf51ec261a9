use Rattle.value_core.specs.View.{datum_of}
use Rattle.frame_variables.specs.Gives.{state_of, target_of}
use Rattle.frame_variables.proofs.Growing.{put_within, take_differs}
use Rattle.frame_variables.proofs.variables.take.Goals as goal

pub keep-requires : goal.keep-requires
keep-requires c =
    let old = datum_of c.in_ok-all.all in
    let new = datum_of c.take_least.new.all in
    let s = state_of c.args.run.now in
    put_within (target_of c.args.to.now) old new s (state_of c.lower.new.run) c.bound_at-bound.result 0 c.size_beside.result c.grown.result
    ((c.in_ok-lower.ensures {u = tt}).lowered s old (c.in_ok-all.ensures {u = tt}).lifted) c.bound_at-bound.ensures
    (λ known fits. take_differs old new (datum_of c.in_ok-least.least) c.bound_at-bound.result c.size_beside.result
    (c.in_ok-least.ensures {u = tt}).rest (c.in_ok-least.ensures {u = tt}).taken c.size_beside.ensures.size known) c.grown.ensures
