use Rattle.std.proofs.Common.{◌≡◌, sym, subst}
use Rattle.value_core.specs.Meaning.{Computes, Performs}
use Rattle.book_law.specs.Fitness.{EndsStuck}
use Rattle.book_law.specs.Machines.{RunsFit, RunsSound}
use Rattle.world_rules.specs.Frame.{AreSettings, Frame}
use Rattle.world_book.proofs.Kept.{Laws, kept_may, replayed}
use Rattle.world_book.proofs.Over.{living_stuck}
use Rattle.world_book.proofs.Sounding.{is_sound}
use Rattle.world_book.proofs.Stuck.{single_stuck, stuck_at}
use Rattle.world_book.proofs.Told.{is_kept}
use Rattle.world_book.proofs.Viewing.{views_stay}
use Rattle.world_book.proofs.legal_book.Goals as goal

pub returns : goal.returns
returns g c =
    let m = c.args.machine.now in
    let laws : (f : Frame) → f.performs ≡ g.P.Performer.performs m → f.computes ≡ g.P.Processor.computes m → AreSettings f.settings → Laws f =
    λ f same_p same_q settings.
    let fit : RunsFit f.performs f.computes (g.P.Performer.fits_args m) (g.P.Performer.fits_text m) (g.P.Performer.fits_reply m) =
    subst (λ (p : Performs). RunsFit p f.computes (g.P.Performer.fits_args m) (g.P.Performer.fits_text m) (g.P.Performer.fits_reply m)) (sym same_p)
    (subst (λ (q : Computes). RunsFit (g.P.Performer.performs m) q (g.P.Performer.fits_args m) (g.P.Performer.fits_text m) (g.P.Performer.fits_reply m)) (sym same_q)
    c.every_call_fits.ensures.machines) in
    record {
      small = settings.resilience;
      messages = c.agreement_law.ensures.messages;
      holds = c.runs_hold.ensures;
      gives = c.group_steps.ensures.gives;
      lists = c.group_steps.ensures.lists;
      courses = c.worlds_are_courses.ensures.courses f same_p same_q settings;
      fits_args = g.P.Performer.fits_args m;
      fits_text = g.P.Performer.fits_text m;
      fits_reply = g.P.Performer.fits_reply m;
      fit = fit;
    } in
    record {
      kept = λ f same_p same_q settings steps w replays.
          let l = laws f same_p same_q settings in is_kept f w l (replayed f steps w l replays);
      follows = λ f same_p same_q settings steps w replays single agrees.
          let l = laws f same_p same_q settings in
          let k = replayed f steps w l replays in
          k.courses single agrees;
      stuck = λ f same_p same_q settings steps w replays.
          let l = laws f same_p same_q settings in
          let ends : EndsStuck f.performs f.computes =
          subst (λ (p : Performs). EndsStuck p f.computes) (sym same_p)
          (subst (λ (q : Computes). EndsStuck (g.P.Performer.performs m) q) (sym same_q) c.stuck_law.ensures) in
          let k = replayed f steps w l replays in
          record { waiters = λ n all. stuck_at f w ends k n all; singles = single_stuck f w ends k; living = living_stuck f w settings.some ends k };
      may = λ f same_p same_q settings steps w replays i.
          let l = laws f same_p same_q settings in kept_may f w l (replayed f steps w l replays) i;
      holds = λ f same_p same_q settings steps w replays.
          let l = laws f same_p same_q settings in
          let k = replayed f steps w l replays in
          k.holds;
      goes = λ f same_p same_q settings steps w v step replays next.
          let l = laws f same_p same_q settings in
          let k = replayed f steps w l replays in
          let on = l.holds f l.small in
          record {
            later = on.later w v step next k.holds;
            rise = on.rise w v step next k.holds;
            views = λ m n le. views_stay f w v step l next k m n le;
          };
      sound = λ f same_p same_q settings steps w replays.
          let l = laws f same_p same_q settings in
          let courses : RunsSound f.performs f.computes =
          subst (λ (p : Performs). RunsSound p f.computes) (sym same_p)
          (subst (λ (q : Computes). RunsSound (g.P.Performer.performs m) q) (sym same_q) c.every_call_fits.ensures.sound) in
          is_sound f steps w l (record {
            few = settings.few;
            events = settings.events;
            courses = courses;
            letters = c.letters_are_sound.ensures;
            numbers = c.agreement_law.ensures.numbers;
            counts = c.numbers_stay_small.ensures.steps;
            processes = c.processes_stand.ensures.stands;
          }) replays;
      once = λ f same steps w v one two.
          let runs = c.replay_law.ensures.once f same in
          runs.replays steps w v one two;
    }
