use Rattle.std.proofs.Common.{◌≡◌, refl, arith}
use Rattle.std.specs.Prelude.{List, length}
use Rattle.world_rules.specs.declared.event.Step.{Step}
use Rattle.world_rules.specs.Frame.{AreSettings, Frame}
use Rattle.world_rules.specs.Standings.{standing}
use Rattle.world_rules.specs.Steps.{Replays}
use Rattle.world_rules.specs.Worlds.{World, opening_world}
use Rattle.world_enough.proofs.Ending.{ends, is_bounded, steps_are}
use Rattle.world_enough.proofs.Paying.{Facts, Lore, leads_of}
use Rattle.world_enough.proofs.faultless_runs_go_well.Goals as goal

pub returns : goal.returns
returns g c =
    let m = c.args.machine.now in
    let lore : (f : Frame) → AreSettings f.settings → Lore f = λ f settings. record {
      lists = c.group_steps.ensures.lists f settings.resilience;
      homes = λ w i. c.processes_stand.ensures.homes f w i settings.some;
      home = c.processes_are_home.ensures f settings.resilience;
      begins = c.processes_stand.ensures.begins;
      reads = λ w. c.standings_mean.ensures f w;
    } in
    let facts : (f : Frame) → f.performs ≡ g.P.Performer.performs m → f.computes ≡ g.P.Processor.computes m → AreSettings f.settings → (steps : List Step) (w : World) → Replays f steps w → Facts f w =
    λ f same_p same_q settings steps w replays. record {
      holds = c.legal_book.ensures.holds f same_p same_q settings steps w replays;
      stands = c.processes_stand.ensures.stands f steps w replays;
    } in
    λ f same_p same_q settings steps w run each cost.
    let known = facts f same_p same_q settings steps w (leads_of f steps (opening_world f) w run) in
    let few = c.faultless_runs_need_no_more.ensures f same_p same_q settings steps w run each cost in
    let went = c.faultless_runs_need_no_tick.ensures f same_p same_q settings steps w run in
    let group = c.faultless_runs_have_group.ensures f same_p same_q settings steps w run in
    record {
      ticks = went.0;
      lives = went.1.tied.lives;
      bounded = is_bounded f w (length steps) each (lore f settings) known settings.some cost few;
      ends = λ less.
          let e = steps_are f (opening_world f) w steps run in
          ends f w (length steps) each (lore f settings) known settings.some cost group (omega (arith, e)) few less (standing f w) refl;
      group = group;
      quiet = went.2;
    }
