use Rattle.std.proofs.Common.{◌≡◌, sym, subst}
use Rattle.value_core.specs.Meaning.{Computes, Performs}
use Rattle.book_law.specs.Machines.{RunsFit}
use Rattle.book_law.proofs.Fits.{Laws as ProgramLaws}
use Rattle.world_rules.specs.Frame.{AreSettings, Frame}
use Rattle.world_rules.specs.Worlds.{home_of, singles_in}
use Rattle.world_law.proofs.Grouping.{Laws as GroupSteps}
use Rattle.world_course.proofs.Program.{program_of}
use Rattle.world_book.proofs.Kept.{course_of, replayed, stands_for}
use Rattle.node_rules.specs.Conditions.{Fitness}
use Rattle.world_calls.proofs.Bursting.{burst_fits}
use Rattle.world_calls.proofs.Beginning.{GroupLaws}
use Rattle.world_calls.proofs.Parts.{Laws, has_turns, parts_fit}
use Rattle.world_calls.proofs.calls_fit.Goals as goal

pub returns : goal.returns
returns g c =
    let m = c.args.machine.now in
    let fitness : Fitness = record {
      state = g.P.Performer.fits_state m;
      args = g.P.Performer.fits_args m;
      text = g.P.Performer.fits_text m;
      reply = g.P.Performer.fits_reply m;
    } in
    let program : ProgramLaws (g.P.Performer.performs m) (g.P.Processor.computes m) (g.P.Performer.fits_state m) (g.P.Performer.fits_args m) (g.P.Performer.fits_text m) (g.P.Performer.fits_reply m) = record {
      output_fits = g.met.P.Performer.output_fits m;
      main_fits = g.met.P.Processor.main_fits m;
      made_fits = g.met.P.Performer.made_fits m;
      keeps_fit = g.met.P.Performer.keeps_fit m;
      replies_fit = g.met.P.Performer.replies_fit m;
      reads_keep = g.met.P.Performer.reads_keep m;
      state_stays_fit = g.met.P.Performer.state_stays_fit m;
      text_stays_fit = g.met.P.Performer.text_stays_fit m;
      lawful = g.met.P.Processor.lawful m;
    } in
    let steps : GroupSteps = record {
      steps = c.agreement_law.ensures.steps;
      forward = c.agreement_law.ensures.forward;
      worlds = c.agreement_law.ensures.worlds;
      calls = c.agreement_law.ensures.calls;
      sends = c.agreement_law.ensures.sends;
      others = c.agreement_law.ensures.others;
      numbered = c.wire_law.ensures.numbered;
      packets = c.wire_law.ensures.packets;
    } in
    let group : GroupLaws = record {
      more = record { laws = steps; messages = c.agreement_law.ensures.messages; lasting = c.agreement_law.ensures.lasting };
      routes = c.agreement_law.ensures.routes;
    } in
    let laws : (f : Frame) → f.performs ≡ g.P.Performer.performs m → f.computes ≡ g.P.Processor.computes m → AreSettings f.settings → Laws f fitness =
    λ f same_p same_q settings.
    let fit : RunsFit f.performs f.computes (g.P.Performer.fits_args m) (g.P.Performer.fits_text m) (g.P.Performer.fits_reply m) =
    subst (λ (p : Performs). RunsFit p f.computes (g.P.Performer.fits_args m) (g.P.Performer.fits_text m) (g.P.Performer.fits_reply m)) (sym same_p)
    (subst (λ (q : Computes). RunsFit (g.P.Performer.performs m) q (g.P.Performer.fits_args m) (g.P.Performer.fits_text m) (g.P.Performer.fits_reply m)) (sym same_q)
    c.every_call_fits.ensures.machines) in
    record {
      book = record {
        small = settings.resilience;
        messages = c.agreement_law.ensures.messages;
        holds = c.runs_hold.ensures;
        gives = c.group_steps.ensures.gives;
        lists = c.group_steps.ensures.lists;
        courses = c.worlds_are_courses.ensures.courses f same_p same_q settings;
        fits_args = g.P.Performer.fits_args m;
        fits_text = g.P.Performer.fits_text m;
        fits_reply = g.P.Performer.fits_reply m;
        fit = fit;
      };
      program = program_of f (g.P.Performer.performs m) (g.P.Processor.computes m) fitness.state fitness.args fitness.text fitness.reply program (g.met.P.Processor.settled m) same_p same_q settings;
      group = group;
      moments = c.group_steps.ensures.moments;
      counts = c.numbers_stay_small.ensures.steps;
      counting = c.numbers_stay_small.ensures.moments;
    } in
    record {
      parts = λ f same_p same_q settings trail w replays going e given possible.
          parts_fit f fitness trail w e given (laws f same_p same_q settings) replays going possible;
      bursts = λ f same_p same_q settings trail w replays going i r here computes.
          let l = laws f same_p same_q settings in
          let k = replayed f trail w l.book replays in
          let h = course_of f w k in
          burst_fits f fitness (singles_in f w) w h.course (home_of f w i.0) i r l.program (stands_for f (singles_in f w) w h) here computes (has_turns f w l.book k going i.0 r here computes);
    }
