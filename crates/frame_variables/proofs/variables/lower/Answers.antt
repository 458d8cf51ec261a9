use Rattle.std.proofs.Common.{pos}
use Rattle.std.proofs.lemmas.Result.{err_from_is_err_and}
use Rattle.value_core.specs.Datum as datum
use Rattle.value_core.specs.View.{datum_of}
use Rattle.frame_variables.specs.Gives.{state_of, target_of}
use Rattle.frame_variables.proofs.Changing.{lacks_only, put_again}
use Rattle.frame_variables.proofs.variables.lower.Goals as goal

pub returns-clause-lowered : goal.returns-clause-lowered
returns-clause-lowered c s old p =
    put_again (record { stands = c.paths_law.ensures.stands; again = c.paths_law.ensures.again }) (target_of c.args.to.now) old (datum_of c.in_ok-exchange.field-0) (datum.int (pos 0)) (datum_of c.args.value)
    s (state_of c.args.run.now) (state_of c.exchange.new.run) p (c.in_ok-exchange.ensures {u = tt}).put

pub returns-in_err-exchange-clause-lowered : goal.returns-in_err-exchange-clause-lowered
returns-in_err-exchange-clause-lowered c s old p =
    let e = err_from_is_err_and c.from_residual.result c.from_residual.ensures.1 in
    rw (e.1, e.2) (lacks_only (record { stands = c.paths_law.ensures.stands; again = c.paths_law.ensures.again }) (target_of c.args.to.now) old (datum.int (pos 0)) s (state_of c.args.run.now) c.in_err-exchange.field-0.0 p
    (c.in_err-exchange.ensures {u = tt}).put)
