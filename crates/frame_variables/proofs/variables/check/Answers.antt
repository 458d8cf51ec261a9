use Rattle.frame_variables.specs.Gives.{state_of}
use Rattle.frame_variables.proofs.Growing.{told_fits, told_large}
use Rattle.frame_variables.proofs.Staying.{some_whole}
use Rattle.std.proofs.lemmas.Result.{err_from_is_err_and}
use Rattle.std.specs.Prelude.{slice_get}
use Rattle.frame_variables.proofs.variables.check.Goals as goal

pub told_by-size-requires : goal.told_by-size-requires
told_by-size-requires c = c.requires

pub keep-requires : goal.keep-requires
keep-requires c = c.told_by-size.ensures.within

pub returns-clause-fits : goal.returns-clause-fits
returns-clause-fits c whole is =
    told_fits c.told_by-size.result whole (state_of c.args.run.now) c.in_ok-within.field-0
    (c.told_by-size.ensures.tells whole (some_whole (slice_get c.args.run.now.frame c.args.to.now.slot) whole is)) (c.in_ok-within.ensures {u = tt})

pub returns-in_err-within-clause-fits : goal.returns-in_err-within-clause-fits
returns-in_err-within-clause-fits c whole is =
    let p = err_from_is_err_and c.from_residual.result c.from_residual.ensures.1 in
    rw (p.1, p.2) (told_large c.told_by-size.result whole (state_of c.args.run.now) c.in_err-within.field-0.0
    (c.told_by-size.ensures.tells whole (some_whole (slice_get c.args.run.now.frame c.args.to.now.slot) whole is)) (c.in_err-within.ensures {u = tt}))
