use Rattle.book_law.proofs.Fits.{Laws}
use Rattle.book_law.proofs.every_call_fits.Goals as goal
use Rattle.book_law.proofs.Calls.{every_call}
use Rattle.book_law.proofs.Conditions.{members_meet}
use Rattle.book_law.proofs.Machines.{all_fit}
use Rattle.book_law.proofs.Soundness.{SoundLaws, all_sound}

pub returns : goal.returns
returns g c =
    let m = c.args.program.now in
    let laws : Laws (g.P.Performer.performs m) (g.P.Processor.computes m) (g.P.Performer.fits_state m) (g.P.Performer.fits_args m) (g.P.Performer.fits_text m) (g.P.Performer.fits_reply m) = record {
      output_fits = g.met.P.Performer.output_fits m;
      main_fits = g.met.P.Processor.main_fits m;
      made_fits = g.met.P.Performer.made_fits m;
      keeps_fit = g.met.P.Performer.keeps_fit m;
      replies_fit = g.met.P.Performer.replies_fit m;
      reads_keep = g.met.P.Performer.reads_keep m;
      state_stays_fit = g.met.P.Performer.state_stays_fit m;
      text_stays_fit = g.met.P.Performer.text_stays_fit m;
      lawful = g.met.P.Processor.lawful m;
    } in
    let sounds : SoundLaws (g.P.Performer.fits_args m) (g.P.Performer.fits_text m) (g.P.Performer.fits_reply m) = record {
      args_sound = g.met.P.Performer.args_sound m;
      text_sound = g.met.P.Performer.text_sound m;
      reply_sound = g.met.P.Performer.reply_sound m;
    } in
    record {
      calls = λ single w came. every_call single (g.P.Performer.performs m) (g.P.Processor.computes m) (g.P.Performer.fits_state m) (g.P.Performer.fits_args m) (g.P.Performer.fits_text m) (g.P.Performer.fits_reply m) w laws came;
      machines = λ single w came. all_fit single (g.P.Performer.performs m) (g.P.Processor.computes m) (g.P.Performer.fits_state m) (g.P.Performer.fits_args m) (g.P.Performer.fits_text m) (g.P.Performer.fits_reply m) w laws came;
      sound = λ single w came numbered. all_sound single (g.P.Performer.performs m) (g.P.Processor.computes m) (g.P.Performer.fits_state m) (g.P.Performer.fits_args m) (g.P.Performer.fits_text m) (g.P.Performer.fits_reply m) w laws sounds came numbered;
      members = λ single w came n. members_meet single (g.P.Performer.performs m) (g.P.Processor.computes m) (g.P.Performer.fits_state m) (g.P.Performer.fits_args m) (g.P.Performer.fits_text m) (g.P.Performer.fits_reply m) w laws came n;
    }
