use Rattle.std.proofs.Common.{◌≡◌}
use Rattle.book_law.proofs.Fits.{Laws as ProgramLaws}
use Rattle.world_rules.specs.declared.standing.Standing.TheVariants.{Going}
use Rattle.world_rules.specs.Frame.{AreSettings, Frame}
use Rattle.world_law.proofs.Grouping.{Laws as GroupSteps}
use Rattle.world_course.proofs.Program.{program_of}
use Rattle.node_rules.specs.Conditions.{Fitness}
use Rattle.run_law.proofs.Bursts.{bursts_earlier}
use Rattle.run_law.proofs.Earlier.{apply_again, begins_list, list_small, steps_few}
use Rattle.run_law.proofs.Events.{Laws, event_grows, fits}
use Rattle.run_law.proofs.Spent.{spent_busy}
use Rattle.run_law.proofs.run_law.Goals as goal

pub returns : goal.returns
returns g c =
    let m = c.args.machine.now in
    let fitness : Fitness = record {
      state = g.P.Performer.fits_state m;
      args = g.P.Performer.fits_args m;
      text = g.P.Performer.fits_text m;
      reply = g.P.Performer.fits_reply m;
    } in
    let program : ProgramLaws (g.P.Performer.performs m) (g.P.Processor.computes m) (g.P.Performer.fits_state m) (g.P.Performer.fits_args m) (g.P.Performer.fits_text m) (g.P.Performer.fits_reply m) = record {
      output_fits = g.met.P.Performer.output_fits m;
      main_fits = g.met.P.Processor.main_fits m;
      made_fits = g.met.P.Performer.made_fits m;
      keeps_fit = g.met.P.Performer.keeps_fit m;
      replies_fit = g.met.P.Performer.replies_fit m;
      reads_keep = g.met.P.Performer.reads_keep m;
      state_stays_fit = g.met.P.Performer.state_stays_fit m;
      text_stays_fit = g.met.P.Performer.text_stays_fit m;
      lawful = g.met.P.Processor.lawful m;
    } in
    let steps : GroupSteps = record {
      steps = c.agreement_law.ensures.steps;
      forward = c.agreement_law.ensures.forward;
      worlds = c.agreement_law.ensures.worlds;
      calls = c.agreement_law.ensures.calls;
      sends = c.agreement_law.ensures.sends;
      others = c.agreement_law.ensures.others;
      numbered = c.wire_law.ensures.numbered;
      packets = c.wire_law.ensures.packets;
    } in
    let laws : (f : Frame) → f.performs ≡ g.P.Performer.performs m → f.computes ≡ g.P.Processor.computes m → AreSettings f.settings → Laws f fitness =
    λ f same_p same_q settings. record {
      small = settings.resilience;
      program = program_of f (g.P.Performer.performs m) (g.P.Processor.computes m) fitness.state fitness.args fitness.text fitness.reply program (g.met.P.Processor.settled m) same_p same_q settings;
      worlds = c.agreement_law.ensures.worlds;
      sends = record { sends = c.agreement_law.ensures.sends; calls = c.agreement_law.ensures.calls; packets = c.wire_law.ensures.packets };
      group = record {
        more = record { laws = steps; messages = c.agreement_law.ensures.messages; lasting = c.agreement_law.ensures.lasting };
        routes = c.agreement_law.ensures.routes;
      };
      moments = c.group_steps.ensures.moments;
      lists = c.group_steps.ensures.lists;
      runs = record {
        kept = λ steps v on. c.legal_book.ensures.kept f same_p same_q settings steps v on;
        follows = λ steps v on single agrees. c.legal_book.ensures.follows f same_p same_q settings steps v on single agrees;
        holds = λ steps v on. c.legal_book.ensures.holds f same_p same_q settings steps v on;
        may = λ steps v on i. c.legal_book.ensures.may f same_p same_q settings steps v on i;
      };
    } in
    record {
      grow = λ f same_p same_q settings steps w replays going event given possible.
          event_grows f fitness (laws f same_p same_q settings) steps w event given replays going possible;
      again = λ f same_p same_q settings steps w replays going n low entries first.
          let l = laws f same_p same_q settings in
          let holds = l.runs.holds steps w replays in
          let kept = l.runs.kept steps w replays in
          let one = (l.lists f l.small).one w holds.grouped in
          let row = (c.standings_mean.ensures f w).says Going going in
          let counts = c.numbers_stay_small.ensures.steps f l.small in
          let small = counts.small w w.steps settings.few (steps_few settings.events row.0.events) holds.counted in
          apply_again f fitness l steps w replays (list_small f w one small) n
          (begins_list f w one (fits f fitness l w holds.grouped) (λ r is. (kept.beside r is).0) n low) entries first;
      earlier = λ f same_p same_q settings steps w replays going.
          let row = (c.standings_mean.ensures f w).says Going going in
          bursts_earlier f fitness (laws f same_p same_q settings) steps w replays row.0.turns;
      spent = λ f same_p same_q settings steps w replays.
          spent_busy f fitness (laws f same_p same_q settings) steps w settings.a_turn replays;
    }
