use Rattle.std.proofs.Common.{◌∙◌, refl, sym}
use Rattle.follower_run.proofs.Going.{may_next, runs_first, runs_left, runs_next, runs_out}
use Rattle.follower_run.proofs.Results.{none_left, on_err}
use Rattle.follower_run.proofs.rounds.FollowerRounds.run_out.Goals as goal

pub packets-init : goal.packets-init
packets-init g c = (runs_first g.P.OneRun.run.frame c.args.world.now.steps (g.W.Wire.told c.args.wire.now) c.args.self.now, c.requires.may, refl, refl)

pub packets-preserved : goal.packets-preserved
packets-preserved g c =
    let f = g.P.OneRun.run.frame in
    let steps = c.args.world.now.steps in
    let old = g.W.Wire.told c.args.wire.now in
    let mid = g.W.Wire.told c.packets.wire in
    let new = g.W.Wire.told c.next.new.wire in (
      runs_next f steps old mid new c.args.self.now c.packets.self c.next.new.self c.packets.invariant.0 c.in_ok-next.ensures.next,
      may_next f steps c.rounds_law.ensures.goes mid new c.packets.self c.next.new.self c.packets.invariant.1 c.in_ok-next.ensures.next,
      c.next.ensures.script ∙ c.packets.invariant.2,
      c.next.ensures.since ∙ c.packets.invariant.3,
    )

pub returns-in_err-next-clause-left : goal.returns-in_err-next-clause-left
returns-in_err-next-clause-left g c =
    on_err c.from_residual.result _
    (runs_left g.P.OneRun.run.frame c.args.world.now.steps (g.W.Wire.told c.args.wire.now) (g.W.Wire.told c.packets.wire) (g.W.Wire.told c.next.new.wire) c.args.self.now c.packets.self c.next.new.self c.packets.invariant.0 c.in_err-next.ensures.left)

pub returns-clause-out : goal.returns-clause-out
returns-clause-out g c =
    let none = none_left c.packets.self.coming.len c.packets.self.coming.items c.packets.self.coming.ok.0 (sym c.is_empty.ensures ∙ c.packets-test.false) in
    runs_out g.P.OneRun.run.frame c.args.world.now.steps (g.W.Wire.told c.args.wire.now) (g.W.Wire.told c.packets.wire) c.args.self.now c.packets.self c.packets.invariant.0 none

pub returns-clause-empty : goal.returns-clause-empty
returns-clause-empty g c = none_left c.packets.self.coming.len c.packets.self.coming.items c.packets.self.coming.ok.0 (sym c.is_empty.ensures ∙ c.packets-test.false)
