use Rattle.book_law.proofs.Fits.{Laws}
use Rattle.history_law.proofs.histories_carry.Goals as goal
use Rattle.history_law.proofs.Carrying.{histories_carry}

pub returns : goal.returns
returns g c =
    let m = c.args.program.now in
    let laws : Laws (g.P.Performer.performs m) (g.P.Processor.computes m) (g.P.Performer.fits_state m) (g.P.Performer.fits_args m) (g.P.Performer.fits_text m) (g.P.Performer.fits_reply m) = record {
      output_fits = g.met.P.Performer.output_fits m;
      main_fits = g.met.P.Processor.main_fits m;
      made_fits = g.met.P.Performer.made_fits m;
      keeps_fit = g.met.P.Performer.keeps_fit m;
      replies_fit = g.met.P.Performer.replies_fit m;
      reads_keep = g.met.P.Performer.reads_keep m;
      state_stays_fit = g.met.P.Performer.state_stays_fit m;
      text_stays_fit = g.met.P.Performer.text_stays_fit m;
      lawful = g.met.P.Processor.lawful m;
    } in
    histories_carry (g.P.Performer.performs m) (g.P.Processor.computes m) (g.P.Performer.fits_state m) (g.P.Performer.fits_args m) (g.P.Performer.fits_text m) (g.P.Performer.fits_reply m) laws
