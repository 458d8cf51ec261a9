use Rattle.guard_queue.proofs.Steps.{can_try}
use Rattle.guard_queue.proofs.settling.Rounds.try_at.Goals as goal

pub try_call-requires : goal.try_call-requires
try_call-requires g c =
    let m = c.args.performer.now in
    let call = c.get-call.result.now in
    let fit = c.requires.fits.1 in
    can_try (g.P.Performer.fits_state m) (g.P.Performer.fits_args m) c.requires.fits.0 c.args.self.now.objects c.args.self.now.queue call fit (fit.calls c.args.at call c.get-call.ensures)
