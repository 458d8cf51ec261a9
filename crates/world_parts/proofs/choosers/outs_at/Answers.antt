use Rattle.std.proofs.Common.{◌+◌, ◌∙◌, ap, refl, arith}
use Rattle.object_manager.specs.After.{Copied}
use Rattle.node_parts.specs.declared.resident.Resident.{Resident}
use Rattle.std.proofs.Common.{Option, cond}
use Rattle.world_parts.proofs.Outs.{counted_all, counted_first, counted_next}
use Rattle.world_parts.specs.Standing.{has_out}
use Rattle.world_parts.proofs.choosers.outs_at.Goals as goal

pub processes-init : goal.processes-init
processes-init g c = counted_first c.args.node.now

pub processes-preserved : goal.processes-preserved
processes-preserved g c =
    counted_next c.args.node.now c.processes.process (c.processes.process + 1) c.processes.tasks c.out_of-tasks.result _ (omega arith) c.processes.invariant
    (c.out_of-tasks.ensures ∙ ap (λ (o : Option (Resident g.row.P-State.Denot)). cond (has_out o) 1 0) c.resident.ensures) refl

pub returns-clause-outs : goal.returns-clause-outs
returns-clause-outs g c =
    counted_all c.args.node.now c.processes.process c.args.node.now.copies.processes c.processes.tasks
    (omega (arith, c.processes.auto.process-end, c.processes-test.false, c.processes-process-end.ensures, ap (λ (d : Copied). d.processes) c.copies.ensures)) c.processes.invariant c.requires

pub returns-clause-few : goal.returns-clause-few
returns-clause-few g c = omega (arith, c.processes.auto.process-end, c.processes.invariant.few, c.processes-process-end.ensures.few)
