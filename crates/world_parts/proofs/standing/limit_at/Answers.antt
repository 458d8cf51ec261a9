use Rattle.std.proofs.Common.{◌+◌, ◌∙◌, ap, arith}
use Rattle.group_member.specs.declared.member.Member.{Member}
use Rattle.history_buffer.specs.Slots.{slot_at}
use Rattle.history_buffer.specs.declared.history.Slot.TheVariants.{NotYet, Purged}
use Rattle.object_manager.specs.After.{Copied}
use Rattle.value_core.specs.declared.action.Reply.{Reply}
use Rattle.value_core.specs.declared.message.Message.{Message}
use Rattle.run_law.specs.Limits.{limit_of}
use Rattle.world_parts.proofs.Ruling.{limit_found, limit_lost, limit_none}
use Rattle.world_parts.proofs.standing.limit_at.Goals as goal

pub returns-then-applied-accepted : goal.returns-then-applied-accepted
returns-then-applied-accepted g c f m v stands stops =
    limit_none g.P.OneRun.stood g.P.OneRun.left f m c.args.node.now v stands stops
    (omega (arith, c.if-applied-accepted.true, c.applied-applied.ensures, ap (λ (d : Copied). d.applied) c.copies.ensures, c.accepted.ensures, ap (λ (d : Member Message Reply). d.accepted) c.member.ensures))

pub returns-in-Found : goal.returns-in-Found
returns-in-Found g c f m v stands stops =
    limit_found g.P.OneRun.stood g.P.OneRun.left f m c.args.node.now v (c.applied-applied.result + 1) c.in-Found.item.now _ c.standing_law.ensures.entry stands stops
    (omega (arith, c.if-applied-accepted.false, c.applied-applied.ensures, ap (λ (d : Copied). d.applied) c.copies.ensures, c.accepted.ensures, ap (λ (d : Member Message Reply). d.accepted) c.member.ensures))
    (omega (arith, c.applied-applied.ensures, ap (λ (d : Copied). d.applied) c.copies.ensures))
    ((c.in-Found.ensures {u = tt}) ∙ ap (λ (d : Member Message Reply). slot_at d.window (c.applied-applied.result + 1)) c.member-2.ensures)
    (c.limit_of.ensures ∙ ap (λ (x : Message). limit_of x.action) c.message.ensures)

pub returns-in-Purged : goal.returns-in-Purged
returns-in-Purged g c f m v stands stops =
    absurd (limit_lost g.P.OneRun.stood g.P.OneRun.left f m c.args.node.now v (c.applied-applied.result + 1) Purged c.standing_law.ensures.entry stands stops
    (omega (arith, c.if-applied-accepted.false, c.applied-applied.ensures, ap (λ (d : Copied). d.applied) c.copies.ensures, c.accepted.ensures, ap (λ (d : Member Message Reply). d.accepted) c.member.ensures))
    (omega (arith, c.applied-applied.ensures, ap (λ (d : Copied). d.applied) c.copies.ensures))
    ((c.in-Purged.ensures {u = tt}) ∙ ap (λ (d : Member Message Reply). slot_at d.window (c.applied-applied.result + 1)) c.member-2.ensures) (λ x is. cc))

pub returns-in-NotYet : goal.returns-in-NotYet
returns-in-NotYet g c f m v stands stops =
    absurd (limit_lost g.P.OneRun.stood g.P.OneRun.left f m c.args.node.now v (c.applied-applied.result + 1) NotYet c.standing_law.ensures.entry stands stops
    (omega (arith, c.if-applied-accepted.false, c.applied-applied.ensures, ap (λ (d : Copied). d.applied) c.copies.ensures, c.accepted.ensures, ap (λ (d : Member Message Reply). d.accepted) c.member.ensures))
    (omega (arith, c.applied-applied.ensures, ap (λ (d : Copied). d.applied) c.copies.ensures))
    ((c.in-NotYet.ensures {u = tt}) ∙ ap (λ (d : Member Message Reply). slot_at d.window (c.applied-applied.result + 1)) c.member-2.ensures) (λ x is. cc))
