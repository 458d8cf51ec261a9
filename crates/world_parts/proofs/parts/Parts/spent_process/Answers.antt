use Rattle.std.proofs.Common.{◌+◌, ◌∙◌, ℕ, sym, refl, arith}
use Rattle.world_rules.specs.Standings.{has_no_turns, process_count}
use Rattle.world_rules.specs.Worlds.{played_in}
use Rattle.world_parts.proofs.Lowest.{lowest_found, lowest_none, lowest_on}
use Rattle.world_parts.proofs.parts.Parts.spent_process.Goals as goal

pub processes-init : goal.processes-init
processes-init g c w is = refl

pub processes-preserved : goal.processes-preserved
processes-preserved g c w is =
    lowest_on (λ (i : ℕ). has_no_turns g.P.OneRun.run.frame (played_in g.P.OneRun.run.frame w i)) c.processes.process (c.processes.process + 1) (omega arith) (c.processes.invariant w is) (sym (c.has_no_turns.ensures w is) ∙ c.if-has_no_turns.false)

pub returns-then-has_no_turns : goal.returns-then-has_no_turns
returns-then-has_no_turns g c w is =
    lowest_found (λ (i : ℕ). has_no_turns g.P.OneRun.run.frame (played_in g.P.OneRun.run.frame w i)) c.processes.process (process_count g.P.OneRun.run.frame w) (omega (arith, c.processes-test.true, c.process_count-process-end.ensures w is)) (c.processes.invariant w is) (sym (c.has_no_turns.ensures w is) ∙ c.if-has_no_turns.true)

pub returns : goal.returns
returns g c w is =
    lowest_none (λ (i : ℕ). has_no_turns g.P.OneRun.run.frame (played_in g.P.OneRun.run.frame w i)) c.processes.process (process_count g.P.OneRun.run.frame w) (omega (arith, c.processes.auto.process-end, c.process_count-process-end.ensures w is)) (omega (arith, c.processes-test.false, c.process_count-process-end.ensures w is)) (c.processes.invariant w is)
