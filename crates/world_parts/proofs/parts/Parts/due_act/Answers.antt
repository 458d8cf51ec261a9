use Rattle.std.proofs.Common.{◌+◌, ◌∙◌, ℕ, sym, refl, arith}
use Rattle.world_rules.specs.Standings.{process_count}
use Rattle.world_rules.specs.Steps.{may_act}
use Rattle.world_parts.specs.Choosing.{process}
use Rattle.world_parts.proofs.Lowest.{lowest_found, lowest_none, lowest_on}
use Rattle.world_parts.proofs.parts.Parts.due_act.Goals as goal

pub processes-init : goal.processes-init
processes-init g c w is = refl

pub processes-preserved : goal.processes-preserved
processes-preserved g c w is =
    lowest_on (λ (i : ℕ). may_act g.P.OneRun.run.frame w (process i)) c.processes.process (c.processes.process + 1) (omega arith) (c.processes.invariant w is) (sym (c.may_act.ensures w is) ∙ c.if-may_act.false)

pub returns-then-may_act : goal.returns-then-may_act
returns-then-may_act g c w is =
    lowest_found (λ (i : ℕ). may_act g.P.OneRun.run.frame w (process i)) c.processes.process (process_count g.P.OneRun.run.frame w) (omega (arith, c.processes-test.true, c.process_count-process-end.ensures w is)) (c.processes.invariant w is) (sym (c.may_act.ensures w is) ∙ c.if-may_act.true)

pub returns : goal.returns
returns g c w is =
    lowest_none (λ (i : ℕ). may_act g.P.OneRun.run.frame w (process i)) c.processes.process (process_count g.P.OneRun.run.frame w) (omega (arith, c.processes.auto.process-end, c.process_count-process-end.ensures w is)) (omega (arith, c.processes-test.false, c.process_count-process-end.ensures w is)) (c.processes.invariant w is)
