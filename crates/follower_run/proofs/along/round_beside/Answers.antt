use Rattle.std.proofs.Common.{ap, arith, length}
use Rattle.follower_run.proofs.Results.{err_as, ok_as}
use Rattle.follower_run.proofs.Travelling.{did_round, in_round, may_go, no_round, none_there, turn_of}
use Rattle.follower_run.proofs.along.round_beside.Goals as goal

pub next_member-member-requires : goal.next_member-member-requires
next_member-member-requires g c =
    let b = c.requires.after.1 in
    let some = c.requires.settings.some in
    omega (arith, some, b.stands.at.number)

pub round-requires-clause-may : goal.round-requires-clause-may
round-requires-clause-may g c =
    let b = c.requires.after.1 in
    may_go g.P.OneRun.run.frame c.requires.after.0 (g.W.Wire.told c.args.own.now) c.args.world.now.steps c.args.rounds.now b.world b.rounding b.stands

pub round-requires-clause-between : goal.round-requires-clause-between
round-requires-clause-between g c =
    let b = c.requires.after.1 in
    none_there g.P.OneRun.run.frame c.requires.after.0 (g.W.Wire.told c.args.own.now) c.args.world.now.steps c.args.rounds.now b.world b.rounding b.stands

pub returns-then-number-start-clause-beside : goal.returns-then-number-start-clause-beside
returns-then-number-start-clause-beside g c = λ base b.
    no_round g.P.OneRun.run.frame c.args.start base (g.W.Wire.told c.args.own.now) c.args.world.now.steps c.args.rounds.now c.rounds_law.ensures.steps b
    (omega (arith, c.if-number-start.true, ap length c.steps.ensures.steps))

pub returns-clause-beside : goal.returns-clause-beside
returns-clause-beside g c = λ base b.
    let f = g.P.OneRun.run.frame in
    ok_as c.round.result
    (did_round f c.args.start base (g.W.Wire.told c.args.own.now) (g.W.Wire.told c.round.new.wire) c.args.world.now.steps c.args.rounds.now c.round.new.self c.next_member-member.result
    c.rounds_law.ensures.steps c.rounds_law.ensures.goes b (omega (arith, c.if-number-start.false, ap length c.steps.ensures.steps))
    (turn_of f base (g.W.Wire.told c.args.own.now) c.args.world.now.steps c.args.rounds.now b.world b.rounding b.stands c.next_member-member.result c.next_member-member.ensures))
    c.round.ensures.round

pub returns-clause-left : goal.returns-clause-left
returns-clause-left g c = λ base b.
    let f = g.P.OneRun.run.frame in
    err_as c.round.result
    (in_round f c.args.start base (g.W.Wire.told c.args.own.now) (g.W.Wire.told c.round.new.wire) c.args.world.now.steps c.args.rounds.now c.round.new.self c.next_member-member.result
    b (omega (arith, c.if-number-start.false, ap length c.steps.ensures.steps))
    (turn_of f base (g.W.Wire.told c.args.own.now) c.args.world.now.steps c.args.rounds.now b.world b.rounding b.stands c.next_member-member.result c.next_member-member.ensures))
    c.round.ensures.left
