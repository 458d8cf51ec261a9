use Rattle.std.proofs.Common.{◌+◌, ◌<◌, ◌^◌, sym, subst}
use Rattle.emitted_code.specs.Views.{program_seen}
use Rattle.code_rules.specs.Machine.{ProcessState}
use Rattle.code_rules.specs.Resuming.{go}
use Rattle.code_runs.specs.Processes.{process_of}
use Rattle.code_runs.specs.Runs.{Gives}
use Rattle.code_machine.proofs.state.CodeState.go.Goals as goal

pub returns-clause-came : goal.returns-clause-came
returns-clause-came c = λ room some few.
    let code = program_seen c.args.code.now in
    let budget = c.args.budget in
    let halt = c.in_ok-process.halt in
    let left = process_of c.in_ok-process.process in
    let given = (c.in_ok-process.ensures {u = tt}).came room some (subst (λ (s : ProcessState). s.turns + budget < 2 ^ 64) (sym c.self.view_is) few) in
    let there = subst (λ (s : ProcessState). Gives (go code s budget) (left, halt)) c.self.view_is given in
    subst (λ (s : ProcessState). Gives (go code c.args.self budget) (s, halt)) (sym (c.in_ok-state.ensures {u = tt})) there
