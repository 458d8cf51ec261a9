use Rattle.std.proofs.Common.{◌+◌, ◌∙◌, ◌||◌, not, ℕ, sym, refl, arith}
use Rattle.world_rules.specs.Played.{is_over}
use Rattle.world_rules.specs.Standings.{lives_at_home, process_count, stands}
use Rattle.world_rules.specs.Worlds.{played_in}
use Rattle.world_parts.proofs.Below.{all_done, all_failed, all_on}
use Rattle.world_parts.proofs.parts.Parts.all_ended.Goals as goal

pub processes-init : goal.processes-init
processes-init g c w is = refl

pub processes-preserved : goal.processes-preserved
processes-preserved g c w is =
    all_on (λ (i : ℕ). not (lives_at_home g.P.OneRun.run.frame w i) || stands is_over (played_in g.P.OneRun.run.frame w i)) c.processes.process (c.processes.process + 1) (omega arith) (c.processes.invariant w is) (sym (c.has_ended.ensures w is) ∙ c.if-not-has_ended.false)

pub returns-then-not-has_ended : goal.returns-then-not-has_ended
returns-then-not-has_ended g c w is =
    all_failed (λ (i : ℕ). not (lives_at_home g.P.OneRun.run.frame w i) || stands is_over (played_in g.P.OneRun.run.frame w i)) c.processes.process (process_count g.P.OneRun.run.frame w) (omega (arith, c.processes-test.true, c.process_count-process-end.ensures w is)) (sym (c.has_ended.ensures w is) ∙ c.if-not-has_ended.true)

pub returns : goal.returns
returns g c w is =
    all_done (λ (i : ℕ). not (lives_at_home g.P.OneRun.run.frame w i) || stands is_over (played_in g.P.OneRun.run.frame w i)) c.processes.process (process_count g.P.OneRun.run.frame w) (omega (arith, c.processes.auto.process-end, c.process_count-process-end.ensures w is)) (omega (arith, c.processes-test.false, c.process_count-process-end.ensures w is)) (c.processes.invariant w is)
