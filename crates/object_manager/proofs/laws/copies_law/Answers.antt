use Rattle.std.proofs.Common.{[], arith}
use Rattle.guard_queue.proofs.Blocked.{settled_blocked}
use Rattle.object_manager.specs.After.{acted}
use Rattle.object_manager.proofs.Apart.{after_apart}
use Rattle.object_manager.proofs.Lasting.{after_extends, after_fits, after_rises, opening_fits}
use Rattle.object_manager.proofs.Sending.{none_kept, states_tell}
use Rattle.object_manager.proofs.Singles.{after_passed_goes, after_single_goes, is_plain}
use Rattle.object_manager.proofs.laws.copies_law.Goals as goal

pub returns : goal.returns
returns g c =
    let m = c.args.performer.now in
    let p = g.P.Performer.performs m in
    let state = g.P.Performer.fits_state m in
    let args = g.P.Performer.fits_args m in
    let laws = g.met.P.Performer in
    record {
      opening = opening_fits state args (laws.output_fits m);
      quiet = record { shared = λ k d lt. absurd (omega arith); own = λ k d lt. absurd (omega arith) };
      blocked = λ copies message. settled_blocked p (record { objects = (acted p copies message).objects; queue = (acted p copies message).queue; lines = [] });
      fits = λ copies message fit applies. after_fits state args p (laws.made_fits m) (laws.keeps_fit m) (laws.state_stays_fit m) (laws.args_stay_fit m) copies message fit applies;
      types = λ copies message applies. after_extends args p copies message applies;
      ids = λ copies message rises. after_rises p copies message rises;
      apart = after_apart p;
      entry = λ copies message fit blocked counted applies. record {
        fits = after_fits state args p (laws.made_fits m) (laws.keeps_fit m) (laws.state_stays_fit m) (laws.args_stay_fit m) copies message fit applies;
        blocked = record {
          shared = settled_blocked p (record { objects = (acted p copies message).objects; queue = (acted p copies message).queue; lines = [] });
          own = blocked.own;
        };
        counted = counted;
        types = after_extends args p copies message applies;
      };
      passed = λ keeps copies message fit blocked counted applies. after_passed_goes state args p (laws.made_fits m) (laws.state_stays_fit m) (laws.args_stay_fit m) keeps copies message fit blocked counted applies;
      single = λ copies message fit blocked counted applies. after_single_goes state args p (laws.keeps_fit m) copies message fit blocked counted applies;
      plain = λ copies message none. is_plain p copies message none;
      none = none_kept state args;
      states = states_tell;
    }
