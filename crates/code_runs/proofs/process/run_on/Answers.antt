use Rattle.std.proofs.Common.{◌≡◌, ◌+◌, ◌<◌, ◌^◌, arith}
use Rattle.std.proofs.lemmas.Result.{IfOk-weaker}
use Rattle.emitted_code.specs.Views.{program_seen}
use Rattle.code_steps.specs.Bodies.{config_of, effect_in}
use Rattle.code_runs.specs.Processes.{process_of}
use Rattle.code_runs.proofs.Ending.{goes_come}
use Rattle.code_runs.proofs.Halting.{no_more, some_left}
use Rattle.code_runs.proofs.process.run_on.Goals as goal

pub returns-clause-came : goal.returns-clause-came
returns-clause-came c = λ room some fits.
    let code = program_seen c.args.code.now in
    let old = config_of c.args.config in
    let left = c.run.new.left in
    let e = effect_in c.in_ok-effect.effect (config_of c.run.new.config) in
    let halted = c.in_ok-effect.ensures room in
    let most = no_more code old c.args.budget left e halted in
    let least = some_left code old c.args.budget left e halted some in
    let turns = c.saturating_add.result in
    let taken : turns + left ≡ c.args.turns + c.args.budget = omega (arith, most, least, fits, c.saturating_sub-taken.ensures, c.saturating_add.ensures) in
    let low : turns + 1 < 2 ^ 64 = omega (arith, least, fits, taken) in
    IfOk-weaker c.halted.result _ _ (λ r came. goes_come code old c.args.turns c.args.budget left e turns (process_of r.0, r.1) halted taken came) (c.halted.ensures.came low)
