use Rattle.follower_run.proofs.Sounding.{members_answer}
use Rattle.follower_run.proofs.members.members_answer.Goals as goal

pub returns : goal.returns
returns g c =
    let m = c.args.machine.now in
    members_answer (g.P.Performer.performs m) (g.P.Processor.computes m) (g.P.Performer.fits_state m) (g.P.Performer.fits_args m) (record {
      messages = c.agreement_law.ensures.messages;
      kept = c.legal_book.ensures.kept;
      holds = c.legal_book.ensures.holds;
      sound = c.legal_book.ensures.sound;
      opening = c.copies_law.ensures.opening;
      quiet = c.copies_law.ensures.quiet;
      entry = c.copies_law.ensures.entry;
      states = g.met.P.Performer.state_sound m;
      args = g.met.P.Performer.args_sound m;
    })
