use Rattle.std.proofs.Common.{refl}
use Rattle.std.specs.Prelude.{length}
use Rattle.world_rules.specs.Frame.{group}
use Rattle.world_rules.specs.Worlds.{opening_world, singles_in}
use Rattle.world_enough.specs.Faultless.{delivered}
use Rattle.world_enough.specs.Tie.{HasDelivered}
use Rattle.world_enough.proofs.Bounding.{played_well}
use Rattle.world_enough.proofs.Delivering.{all_packets, delivers, short_logs}
use Rattle.world_enough.proofs.Flowing.{FlowLaw, flow_law}
use Rattle.world_enough.proofs.Paying.{Facts, Lore, leads_of}
use Rattle.world_enough.proofs.Submitted.{submitted_few}
use Rattle.world_enough.proofs.Summing.{calls_most}
use Rattle.world_enough.proofs.faultless_runs_deliver.Goals as goal

pub returns : goal.returns
returns g c = λ f same_p same_q settings steps w run each cost.
    let enough : FlowLaw (group f) = flow_law (group f) settings.resilience c.enough_events.ensures.smooth c.enough_events.ensures.quiet c.enough_events.ensures.enough in
    let went : HasDelivered f w (delivered steps) = (c.faultless_runs_need_no_tick.ensures f same_p same_q settings steps w run).1 in
    let replays = leads_of f steps (opening_world f) w run in
    let lore : Lore f = record {
      lists = c.group_steps.ensures.lists f settings.resilience;
      homes = λ w i. c.processes_stand.ensures.homes f w i settings.some;
      home = c.processes_are_home.ensures f settings.resilience;
      begins = c.processes_stand.ensures.begins;
      reads = λ w. c.standings_mean.ensures f w;
    } in
    let facts : Facts f w = record {
      holds = c.legal_book.ensures.holds f same_p same_q settings steps w replays;
      stands = c.processes_stand.ensures.stands f steps w replays;
    } in
    all_packets f w (delivered steps) each went
    (delivers f w went.letters enough went.tied
    (submitted_few f w c.agreement_law.ensures.messages settings.resilience c.processes_stand.ensures.begins facts.holds.grouped
    ((c.group_steps.ensures.lists f settings.resilience).one w facts.holds.grouped)
    (c.legal_book.ensures.follows f same_p same_q settings steps w replays (singles_in f w) (λ o low. refl))
    (c.legal_book.ensures.kept f same_p same_q settings steps w replays)
    (length (w.nodes 0).member.log) (short_logs f w went.letters enough went.tied)))
    (calls_most f w (played_well f w lore facts (c.replies_stand.ensures.books f same_p same_q settings steps w replays))) cost
