use Rattle.std.proofs.Common.{◌≡◌, ◌+◌, suc, arith, refl, rules}
use Rattle.follower_run.specs.Going.{RunsOut, RunsTo}
use Rattle.follower_run.proofs.Going.{may_run, on_as}
use Rattle.follower_run.proofs.Results.{on_err}
use Rattle.follower_run.proofs.Rounding.{ask_left, asks, before_left, done, first_left, may_ask, may_open, opens, released, second_left}
use Rattle.follower_run.proofs.rounds.FollowerRounds.round.Goals as goal

pub returns-in_default-clause-left : goal.returns-in_default-clause-left
returns-in_default-clause-left g c =
    before_left g.P.OneRun.run.frame c.args.world.now.steps c.rounds_law.ensures.ends c.args.member (g.W.Wire.told c.args.wire.now) c.args.self.now c.args.self.now refl refl

pub returns-in_err-release-clause-left : goal.returns-in_err-release-clause-left
returns-in_err-release-clause-left g c =
    on_err c.from_residual.result _
    (before_left g.P.OneRun.run.frame c.args.world.now.steps c.rounds_law.ensures.ends c.args.member (g.W.Wire.told c.args.wire.now) c.args.self.now _ refl refl)

pub run_out-requires-clause-may : goal.run_out-requires-clause-may
run_out-requires-clause-may g c =
    let f = g.P.OneRun.run.frame in
    let steps = c.args.world.now.steps in
    let ends = c.rounds_law.ensures.ends in
    let told = g.W.Wire.told c.args.wire.now in
    let s = c.args.self.now in
    let t = record s { held = c.release.new.held; coming = c.release.new.coming } in
    may_open f steps ends c.rounds_law.ensures.goes told s t c.requires.between c.requires.may
    (opens f steps ends told s t c.requires.between refl refl refl refl refl c.in_ok-release.ensures.held c.in_ok-release.ensures.coming)

pub returns-in_err-run_out-clause-left : goal.returns-in_err-run_out-clause-left
returns-in_err-run_out-clause-left g c =
    let f = g.P.OneRun.run.frame in
    let steps = c.args.world.now.steps in
    let ends = c.rounds_law.ensures.ends in
    let told = g.W.Wire.told c.args.wire.now in
    let s = c.args.self.now in
    let t = record s { held = c.release.new.held; coming = c.release.new.coming } in
    on_err c.from_residual-in_err-run_out.result _
    (first_left f steps ends c.args.member told (g.W.Wire.told c.run_out.new.wire) s t c.run_out.new.self
    (opens f steps ends told s t c.requires.between refl refl refl refl refl c.in_ok-release.ensures.held c.in_ok-release.ensures.coming)
    c.in_err-run_out.ensures.left)

pub returns-in_err-ask-clause-left : goal.returns-in_err-ask-clause-left
returns-in_err-ask-clause-left g c =
    let f = g.P.OneRun.run.frame in
    let steps = c.args.world.now.steps in
    let ends = c.rounds_law.ensures.ends in
    let told = g.W.Wire.told c.args.wire.now in
    let s = c.args.self.now in
    let t = record s { held = c.release.new.held; coming = c.release.new.coming } in
    let opened = opens f steps ends told s t c.requires.between refl refl refl refl refl c.in_ok-release.ensures.held c.in_ok-release.ensures.coming in
    on_err c.from_residual-in_err-ask.result _
    (ask_left f steps ends c.args.member told (g.W.Wire.told c.run_out.new.wire) (g.W.Wire.told c.ask.new.wire) s c.run_out.new.self c.ask.new.self
    (released f steps ends told (g.W.Wire.told c.run_out.new.wire) s t c.run_out.new.self opened c.in_ok-run_out.ensures.out)
    c.in_ok-run_out.ensures.empty c.in_err-ask.ensures.left)

pub run_out-requires-2-clause-may : goal.run_out-requires-2-clause-may
run_out-requires-2-clause-may g c =
    let f = g.P.OneRun.run.frame in
    let steps = c.args.world.now.steps in
    let ends = c.rounds_law.ensures.ends in
    let law = c.rounds_law.ensures.goes in
    let told = g.W.Wire.told c.args.wire.now in
    let mid = g.W.Wire.told c.run_out.new.wire in
    let s = c.args.self.now in
    let t = record s { held = c.release.new.held; coming = c.release.new.coming } in
    let opened = opens f steps ends told s t c.requires.between refl refl refl refl refl c.in_ok-release.ensures.held c.in_ok-release.ensures.coming in
    let may = may_open f steps ends law told s t c.requires.between c.requires.may opened in
    let there = may_run f steps law told mid t c.run_out.new.self may (on_as f steps told mid t c.run_out.new.self (RunsOut f) (RunsTo f) (λ w fates v x so. so.1) c.in_ok-run_out.ensures.out) in
    may_ask f steps ends law c.args.member mid (g.W.Wire.told c.ask.new.wire) c.run_out.new.self c.ask.new.self c.in_ok-run_out.ensures.empty there c.in_ok-ask.ensures.asked

pub returns-in_err-run_out-2-clause-left : goal.returns-in_err-run_out-2-clause-left
returns-in_err-run_out-2-clause-left g c =
    let f = g.P.OneRun.run.frame in
    let steps = c.args.world.now.steps in
    let ends = c.rounds_law.ensures.ends in
    let told = g.W.Wire.told c.args.wire.now in
    let mid = g.W.Wire.told c.run_out.new.wire in
    let later = g.W.Wire.told c.ask.new.wire in
    let s = c.args.self.now in
    let t = record s { held = c.release.new.held; coming = c.release.new.coming } in
    let opened = opens f steps ends told s t c.requires.between refl refl refl refl refl c.in_ok-release.ensures.held c.in_ok-release.ensures.coming in
    let rel = released f steps ends told mid s t c.run_out.new.self opened c.in_ok-run_out.ensures.out in
    let asked = asks f steps ends c.args.member told mid later s c.run_out.new.self c.ask.new.self rel c.in_ok-run_out.ensures.empty c.in_ok-ask.ensures.asked in
    on_err c.from_residual-in_err-run_out-2.result _
    (second_left f steps ends c.args.member told later (g.W.Wire.told c.run_out-2.new.wire) s c.ask.new.self c.run_out-2.new.self asked c.in_err-run_out-2.ensures.left)

pub returns-clause-round : goal.returns-clause-round
returns-clause-round g c =
    let f = g.P.OneRun.run.frame in
    let steps = c.args.world.now.steps in
    let ends = c.rounds_law.ensures.ends in
    let told = g.W.Wire.told c.args.wire.now in
    let mid = g.W.Wire.told c.run_out.new.wire in
    let later = g.W.Wire.told c.ask.new.wire in
    let s = c.args.self.now in
    let t = record s { held = c.release.new.held; coming = c.release.new.coming } in
    let opened = opens f steps ends told s t c.requires.between refl refl refl refl refl c.in_ok-release.ensures.held c.in_ok-release.ensures.coming in
    let rel = released f steps ends told mid s t c.run_out.new.self opened c.in_ok-run_out.ensures.out in
    let asked = asks f steps ends c.args.member told mid later s c.run_out.new.self c.ask.new.self rel c.in_ok-run_out.ensures.empty c.in_ok-ask.ensures.asked in
    let next : c.in-Some.rounds ≡ s.rounds + 1 = search rules in
    let count : c.in-Some.rounds ≡ suc s.rounds = omega (arith, next) in
    done f steps ends c.args.member told later (g.W.Wire.told c.run_out-2.new.wire) s c.ask.new.self c.run_out-2.new.self _ asked c.in_ok-run_out-2.ensures.out c.in_ok-run_out-2.ensures.empty count refl refl refl refl refl refl
