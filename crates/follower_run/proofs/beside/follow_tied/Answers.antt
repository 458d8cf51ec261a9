use Rattle.std.proofs.Common.{◌≡◌, ◌∙◌, IfSome, List, ap, length, map, refl, subst, sym}
use Rattle.std.proofs.lemmas.List.{length-map}
use Rattle.net_rules.specs.declared.asked.Asked.{Asked}
use Rattle.run_loop.specs.Asked.{HaveToldOn, WereAskedIn}
use Rattle.run_loop.specs.Driven.{IsDriven}
use Rattle.run_loop.specs.Left.{HasRun}
use Rattle.world_rules.specs.Frame.{AreSettings}
use Rattle.world_rules.specs.declared.settings.Settings.{Settings}
use Rattle.world_rules.specs.Worlds.{World}
use Rattle.join_law.specs.Rounds.{ahead, last_number}
use Rattle.follower_run.proofs.Joining.{followed}
use Rattle.follower_run.proofs.Travelling.{of_same}
use Rattle.follower_run.proofs.beside.follow_tied.Goals as goal

pub begin-requires-clause-wires : goal.begin-requires-clause-wires
begin-requires-clause-wires g c = c.requires.wires ∙ sym (length-map c.args.wires.now g.W.Wire.told) ∙ ap length c.requires.told

pub travel-went-requires-clause-settings : goal.travel-went-requires-clause-settings
travel-went-requires-clause-settings g c = subst AreSettings c.requires.settings c.requires.ranges

pub travel-went-requires-clause-driven : goal.travel-went-requires-clause-driven
travel-went-requires-clause-driven g c =
    subst (IsDriven g.P.OneRun.run.frame c.in-Ok.stepper.world c.in-Ok.stepper.in_use g.P.OneRun.run.told) (sym c.requires.told) c.in-Ok.ensures.driven

pub travel-went-requires-clause-fresh : goal.travel-went-requires-clause-fresh
travel-went-requires-clause-fresh g c =
    let e = c.in-Ok-new.ensures in
    record {
      number = e.number ∙ ap (λ (x : Settings). x.nodes) c.requires.settings;
      follower = e.follower;
      held = e.held;
      coming = e.coming;
      counts = e.counts;
    }

pub last_number-last-requires : goal.last_number-last-requires
last_number-last-requires g c = ap (λ (x : Settings). x.nodes) c.requires.settings

pub returns-clause-run : goal.returns-clause-run
returns-clause-run g c =
    let f = g.P.OneRun.run.frame in
    let now = map g.W.Wire.told c.travel-went.new.wires in
    subst (λ (l : List (List Asked)). IfSome c.into_ran.result.end (HasRun f c.into_ran.result.standing l now)) (sym c.requires.told)
    (c.into_ran.ensures.run now c.travel-went.ensures.come)

pub returns-clause-asked : goal.returns-clause-asked
returns-clause-asked g c =
    let f = g.P.OneRun.run.frame in
    let now = map g.W.Wire.told c.travel-went.new.wires in
    subst (λ (l : List (List Asked)). WereAskedIn f l now) (sym c.requires.told) (c.into_ran.ensures.asked now c.travel-went.ensures.come)

pub returns-clause-told : goal.returns-clause-told
returns-clause-told g c =
    let now = map g.W.Wire.told c.travel-went.new.wires in
    subst (λ (l : List (List Asked)). HaveToldOn l now) (sym c.requires.told) (c.into_ran.ensures.told now c.travel-went.ensures.come)

pub returns-clause-joined : goal.returns-clause-joined
returns-clause-joined g c =
    let f = g.P.OneRun.run.frame in
    let m = c.args.machine.now in
    let steps = c.travel-went.new.stepper.world.steps in (
      steps,
      c.into_ran.ensures.steps,
      followed f (g.P.Performer.performs m) (g.P.Processor.computes m) (sym (g.met.P.OneRun.performs_run m)) (sym (g.met.P.OneRun.computes_run m))
          (subst AreSettings c.requires.settings c.requires.ranges) c.requires.replicated c.followers_law.ensures.moments c.followers_law.ensures.catches
          c.args.start (g.W.Wire.told c.args.own.now) (g.W.Wire.told c.travel-went.new.own) steps c.travel-went.new.rounds c.travel-went.result c.travel-went.ensures.arrived c.travel-went.ensures.stopped
          _ refl refl
          (of_same f (λ (w : World). c.last_number-last.result ≡ last_number f w (ahead f w f.settings.nodes)) c.world.result.now c.travel-went.new.stepper.world c.world.ensures c.last_number-last.ensures) c.is_ok.ensures.value,
    )
