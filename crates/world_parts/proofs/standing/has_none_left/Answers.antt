use Rattle.std.proofs.Common.{not, ap}
use Rattle.world_parts.proofs.Quiet.{nothing_left, something_left}
use Rattle.world_parts.proofs.standing.has_none_left.Goals as goal

pub returns-then-not-has_pending : goal.returns-then-not-has_pending
returns-then-not-has_pending g c f m v stands =
    nothing_left g.P.OneRun.stood g.P.OneRun.left f m c.args.node.now v c.member-member.result.now c.has_pending.result c.has_waiting.result c.member-member.ensures
    (λ f m v there. c.has_pending.ensures f.settings.nodes f.settings.resilience m v there) (λ f m v there. c.has_waiting.ensures f.settings.nodes f.settings.resilience m v there) (ap not c.if-not-has_pending.true) stands

pub returns-else-not-has_pending : goal.returns-else-not-has_pending
returns-else-not-has_pending g c f m v stands =
    something_left g.P.OneRun.stood g.P.OneRun.left f m c.args.node.now v c.member-member.result.now c.has_pending.result c.member-member.ensures
    (λ f m v there. c.has_pending.ensures f.settings.nodes f.settings.resilience m v there) (ap not c.if-not-has_pending.false) stands
