use Rattle.std.proofs.Common.{◌≡◌, ◌∙◌, ℕ, inl, List, None, Some, ap, arith, suc, sym}
use Rattle.world_rules.specs.declared.event.Step.{Step}
use Rattle.world_rules.specs.Worlds.{World}
use Rattle.join_law.specs.Rounds.{ahead}
use Rattle.follower_run.specs.Going.{DoesRound, GoesOn, IsInRound, LeavesOff, MayGoOn}
use Rattle.follower_run.proofs.Results.{on_err}
use Rattle.follower_run.proofs.Travelling.{arrives, at_other, at_same, behind_left, ends_so, first_behind, is_behind, may_go, nobody_ahead, none_there, of_same, one_behind, opens}
use Rattle.follower_run.proofs.along.travel.Goals as goal

pub go_beside-requires-clause-beside : goal.go_beside-requires-clause-beside
go_beside-requires-clause-beside g c = (g.W.Wire.told c.args.own.now, opens g.P.OneRun.run.frame c.args.start (g.W.Wire.told c.args.own.now) c.args.stepper.now.world.steps c.args.rounds.now c.rounds_law.ensures.goes c.requires.none c.requires.fresh)

pub returns-in_err-go_beside-clause-stopped : goal.returns-in_err-go_beside-clause-stopped
returns-in_err-go_beside-clause-stopped g c =
    on_err c.from_residual.result _ (c.in_err-go_beside.ensures.left (g.W.Wire.told c.args.own.now) (opens g.P.OneRun.run.frame c.args.start (g.W.Wire.told c.args.own.now) c.args.stepper.now.world.steps c.args.rounds.now c.rounds_law.ensures.goes c.requires.none c.requires.fresh))

pub returns-in_default-clause-come : goal.returns-in_default-clause-come
returns-in_default-clause-come g c = inl c.in_ok-go_beside.ensures.driven

pub returns-in_default-clause-arrived : goal.returns-in_default-clause-arrived
returns-in_default-clause-arrived g c =
    let f = g.P.OneRun.run.frame in
    let b = c.in_ok-go_beside.ensures.beside (g.W.Wire.told c.args.own.now) (opens g.P.OneRun.run.frame c.args.start (g.W.Wire.told c.args.own.now) c.args.stepper.now.world.steps c.args.rounds.now c.rounds_law.ensures.goes c.requires.none c.requires.fresh) in
    let found = of_same f (λ (w : World). c.ahead.result ≡ ahead f w c.args.rounds.now.number) c.world.result.now c.go_beside.new.stepper.world c.world.ensures c.ahead.ensures.ahead b.world b.stands.replays in
    let nobody : ahead f b.world f.settings.nodes ≡ None = ap (λ (n : ℕ). ahead f b.world n) (sym c.requires.fresh.number) ∙ sym found ∙ c.in_default.is in
    nobody_ahead f c.args.start (g.W.Wire.told c.args.own.now) (g.W.Wire.told c.go_beside.new.own) c.go_beside.new.stepper.world.steps c.go_beside.new.rounds c.rounds_law.ensures.behind_ends b nobody (c.in_ok-go_beside.ensures.over b.world b.stands.replays)

pub behind-init : goal.behind-init
behind-init g c =
    let f = g.P.OneRun.run.frame in
    let b = c.in_ok-go_beside.ensures.beside (g.W.Wire.told c.args.own.now) (opens g.P.OneRun.run.frame c.args.start (g.W.Wire.told c.args.own.now) c.args.stepper.now.world.steps c.args.rounds.now c.rounds_law.ensures.goes c.requires.none c.requires.fresh) in
    let one = of_same f (λ (w : World). c.ahead.result ≡ ahead f w c.args.rounds.now.number) c.world.result.now c.go_beside.new.stepper.world c.world.ensures c.ahead.ensures.ahead b.world b.stands.replays in
    let found : ahead f b.world f.settings.nodes ≡ Some c.in-Some.member = ap (λ (n : ℕ). ahead f b.world n) (sym c.requires.fresh.number) ∙ sym one ∙ c.in-Some.is in
    ((0, omega arith, first_behind f c.args.start (g.W.Wire.told c.args.own.now) (g.W.Wire.told c.go_beside.new.own) c.go_beside.new.stepper.world.steps c.go_beside.new.rounds c.in-Some.member b found), c.go_beside.ensures.script, c.go_beside.ensures.since)

pub round-requires-clause-may : goal.round-requires-clause-may
round-requires-clause-may g c =
    let f = g.P.OneRun.run.frame in
    let b = c.behind.invariant.0.2 in
    let told = g.W.Wire.told c.behind.own in
    at_same (λ (l : List Step). MayGoOn f l told c.behind.rounds) c.world-in-behind.result.now c.go_beside.new.stepper.world c.world-in-behind.ensures
    (may_go f (g.W.Wire.told c.args.own.now) told c.go_beside.new.stepper.world.steps c.behind.rounds b.world b.rounding b.stands)

pub round-requires-clause-between : goal.round-requires-clause-between
round-requires-clause-between g c =
    let b = c.behind.invariant.0.2 in
    none_there g.P.OneRun.run.frame (g.W.Wire.told c.args.own.now) (g.W.Wire.told c.behind.own) c.go_beside.new.stepper.world.steps c.behind.rounds b.world b.rounding b.stands

pub behind-preserved : goal.behind-preserved
behind-preserved g c =
    let f = g.P.OneRun.run.frame in
    let inv = c.behind.invariant.0 in
    let b = inv.2 in
    let m = c.in-Some.member in
    let more = c.goes_on.ensures.more c.behind-test.true in
    let base = g.W.Wire.told c.args.own.now in
    let told = g.W.Wire.told c.behind.own in
    let told' = g.W.Wire.told c.round.new.wire in
    let steps = c.go_beside.new.stepper.world.steps in
    let is = of_same f (λ (w : World). c.applied_by-last.result ≡ (w.nodes m).member.applied) c.world-2.result.now c.go_beside.new.stepper.world c.world-2.ensures c.applied_by-last.ensures.applied b.world b.stands.replays in
    let lags = is_behind f c.args.start base told steps c.behind.rounds m inv.0 c.applied_by-last.result b is more.1 in
    let goes = at_other (λ (l : List Step). GoesOn f l told c.behind.rounds told' c.round.new.self (DoesRound f m)) c.world-in-behind.result.now c.go_beside.new.stepper.world c.world-in-behind.ensures c.in_ok-round.ensures.round in
    let some = more.0 in
    let all = inv.1 in (
      (suc inv.0, omega (arith, some, all), one_behind f c.args.start base told told' steps c.behind.rounds c.round.new.self m inv.0 c.rounds_law.ensures.goes b lags goes),
      c.round.ensures.script ∙ c.behind.invariant.1,
      c.round.ensures.since ∙ c.behind.invariant.2,
    )

pub returns-in_err-round-clause-come : goal.returns-in_err-round-clause-come
returns-in_err-round-clause-come g c = inl c.in_ok-go_beside.ensures.driven

pub returns-in_err-round-clause-stopped : goal.returns-in_err-round-clause-stopped
returns-in_err-round-clause-stopped g c =
    let f = g.P.OneRun.run.frame in
    let inv = c.behind.invariant.0 in
    let b = inv.2 in
    let m = c.in-Some.member in
    let more = c.goes_on.ensures.more c.behind-test.true in
    let base = g.W.Wire.told c.args.own.now in
    let told = g.W.Wire.told c.behind.own in
    let told' = g.W.Wire.told c.round.new.wire in
    let steps = c.go_beside.new.stepper.world.steps in
    let is = of_same f (λ (w : World). c.applied_by-last.result ≡ (w.nodes m).member.applied) c.world-2.result.now c.go_beside.new.stepper.world c.world-2.ensures c.applied_by-last.ensures.applied b.world b.stands.replays in
    let leaves = at_other (λ (l : List Step). LeavesOff f l told c.behind.rounds told' c.round.new.self (IsInRound f m)) c.world-in-behind.result.now c.go_beside.new.stepper.world c.world-in-behind.ensures c.in_err-round.ensures.left in
    let some = more.0 in
    let all = inv.1 in
    on_err c.from_residual-in_err-round.result _
    (behind_left f c.args.start base told told' steps c.behind.rounds c.round.new.self m inv.0 b
    (is_behind f c.args.start base told steps c.behind.rounds m inv.0 c.applied_by-last.result b is more.1)
    (omega (arith, is, some, all)) leaves)

pub returns-clause-come : goal.returns-clause-come
returns-clause-come g c = inl c.in_ok-go_beside.ensures.driven

pub returns-clause-arrived : goal.returns-clause-arrived
returns-clause-arrived g c =
    let f = g.P.OneRun.run.frame in
    let inv = c.behind.invariant.0 in
    let b = inv.2 in
    let m = c.in-Some.member in
    let base = g.W.Wire.told c.args.own.now in
    let told = g.W.Wire.told c.behind.own in
    let steps = c.go_beside.new.stepper.world.steps in
    let is = of_same f (λ (w : World). c.applied_by-last.result ≡ (w.nodes m).member.applied) c.world-2.result.now c.go_beside.new.stepper.world c.world-2.ensures c.applied_by-last.ensures.applied b.world b.stands.replays in
    let all = inv.1 in
    arrives f c.args.start base told steps c.behind.rounds m inv.0 c.rounds_law.ensures.behind_ends b (omega (arith, is, all))
    (ends_so f c.args.start base told steps c.behind.rounds m inv.0 c.behind.left c.applied_by-last.result b is all (c.goes_on.ensures.done c.behind-test.false))
    (c.in_ok-go_beside.ensures.over b.world b.stands.replays)
