use Rattle.world_rules.specs.Worlds.{opening_world}
use Rattle.world_enough.proofs.Paying.{Facts, Lore, leads_of}
use Rattle.world_enough.proofs.Bounding.{played_well, works_most}
use Rattle.world_enough.specs.Faultless.{worked}
use Rattle.world_enough.proofs.faultless_runs_work.Goals as goal

pub returns : goal.returns
returns g c = λ f same_p same_q settings steps w run.
    let lore : Lore f = record {
      lists = c.group_steps.ensures.lists f settings.resilience;
      homes = λ w i. c.processes_stand.ensures.homes f w i settings.some;
      home = c.processes_are_home.ensures f settings.resilience;
      begins = c.processes_stand.ensures.begins;
      reads = λ w. c.standings_mean.ensures f w;
    } in
    let replays = leads_of f steps (opening_world f) w run in
    let facts : Facts f w = record {
      holds = c.legal_book.ensures.holds f same_p same_q settings steps w replays;
      stands = c.processes_stand.ensures.stands f steps w replays;
    } in
    works_most f w (worked steps) (played_well f w lore facts (c.replies_stand.ensures.books f same_p same_q settings steps w replays))
    (c.faultless_runs_pay.ensures f same_p same_q settings steps w run)
