use Rattle.std.proofs.Common.{◌+◌, ◌∙◌, ◌&&◌, ℕ, sym, refl, arith}
use Rattle.world_rules.specs.Standings.{lives_at_home, process_count, waits_for_group}
use Rattle.world_rules.specs.Worlds.{played_in}
use Rattle.world_parts.proofs.Below.{any_found, any_none, any_on}
use Rattle.world_parts.proofs.parts.Parts.some_wait.Goals as goal

pub processes-init : goal.processes-init
processes-init g c w is = refl

pub processes-preserved : goal.processes-preserved
processes-preserved g c w is =
    any_on (λ (i : ℕ). lives_at_home g.P.OneRun.run.frame w i && waits_for_group g.P.OneRun.run.frame w i (played_in g.P.OneRun.run.frame w i)) c.processes.process (c.processes.process + 1) (omega arith) (c.processes.invariant w is) (sym (c.waits_living.ensures w is) ∙ c.if-waits_living.false)

pub returns-then-waits_living : goal.returns-then-waits_living
returns-then-waits_living g c w is =
    any_found (λ (i : ℕ). lives_at_home g.P.OneRun.run.frame w i && waits_for_group g.P.OneRun.run.frame w i (played_in g.P.OneRun.run.frame w i)) c.processes.process (process_count g.P.OneRun.run.frame w) (omega (arith, c.processes-test.true, c.process_count-process-end.ensures w is)) (sym (c.waits_living.ensures w is) ∙ c.if-waits_living.true)

pub returns : goal.returns
returns g c w is =
    any_none (λ (i : ℕ). lives_at_home g.P.OneRun.run.frame w i && waits_for_group g.P.OneRun.run.frame w i (played_in g.P.OneRun.run.frame w i)) c.processes.process (process_count g.P.OneRun.run.frame w) (omega (arith, c.processes.auto.process-end, c.process_count-process-end.ensures w is)) (omega (arith, c.processes-test.false, c.process_count-process-end.ensures w is)) (c.processes.invariant w is)
