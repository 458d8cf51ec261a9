use Rattle.std.proofs.Common.{◌≡◌, ◌+◌, Some, length, sym, ◌∙◌, ap, arith, subst}
use Rattle.std.specs.Prelude.{option_map}
use Rattle.guard_queue.specs.Rounds.{OthersBlocked, settling_of}
use Rattle.guard_queue.specs.Settles.{Settling, next_ready, stepped}
use Rattle.guard_queue.proofs.Blocked.{others_stepped, step_length}
use Rattle.guard_queue.proofs.Rounds.{all_blocked, no_round, round}
use Rattle.guard_queue.proofs.Steps.{fit_stepped, settle_step}
use Rattle.guard_queue.proofs.settling.Rounds.settle.Goals as goal

pub find_ready-requires-in-Some-clause-fits : goal.find_ready-requires-in-Some-clause-fits
find_ready-requires-in-Some-clause-fits g c =
    let m = c.args.performer.now in
    let p = g.P.Performer.performs m in
    let s : Settling = settling_of c.rounds.self in
    let t : Settling = settling_of c.round.new.self in
    let invariant = c.rounds.invariant in
    let next : t ≡ stepped p s (next_ready p s.objects s.queue) = round p s t c.rounds.ready c.in-Some.at c.in-Some.tried c.in-Some.is invariant.place invariant.found (c.in_ok-round.ensures {u = tt}) in
    let kinds = c.requires.fits.0 in
    (kinds, fit_stepped (g.P.Performer.fits_state m) (g.P.Performer.fits_args m) kinds p (g.met.P.Performer.keeps_fit m kinds) s t (next_ready p s.objects s.queue) next (invariant.fits kinds c.requires.fits.1))

pub find_ready-requires-in-Some-clause-others : goal.find_ready-requires-in-Some-clause-others
find_ready-requires-in-Some-clause-others g c =
    let m = c.args.performer.now in
    let p = g.P.Performer.performs m in
    let s : Settling = settling_of c.rounds.self in
    let t : Settling = settling_of c.round.new.self in
    let invariant = c.rounds.invariant in
    let next : t ≡ stepped p s (next_ready p s.objects s.queue) = round p s t c.rounds.ready c.in-Some.at c.in-Some.tried c.in-Some.is invariant.place invariant.found (c.in_ok-round.ensures {u = tt}) in
    let at : next_ready p s.objects s.queue ≡ Some c.in-Some.at = invariant.place ∙ ap (option_map (λ x. x.0)) c.in-Some.is in
    let one : t ≡ stepped p s (Some c.in-Some.at) = next ∙ ap (stepped p s) at in
    subst (λ (u : Settling). OthersBlocked p u.objects u.queue c.args.on) (sym one) (others_stepped p s c.args.on c.in-Some.at at invariant.others)

pub rounds-smaller : goal.rounds-smaller
rounds-smaller g c =
    let m = c.args.performer.now in
    let p = g.P.Performer.performs m in
    let s : Settling = settling_of c.rounds.self in
    let t : Settling = settling_of c.round.new.self in
    let invariant = c.rounds.invariant in
    let next : t ≡ stepped p s (next_ready p s.objects s.queue) = round p s t c.rounds.ready c.in-Some.at c.in-Some.tried c.in-Some.is invariant.place invariant.found (c.in_ok-round.ensures {u = tt}) in
    let at : next_ready p s.objects s.queue ≡ Some c.in-Some.at = invariant.place ∙ ap (option_map (λ x. x.0)) c.in-Some.is in
    let one : t ≡ stepped p s (Some c.in-Some.at) = next ∙ ap (stepped p s) at in
    let fewer = step_length p s c.in-Some.at at in
    let same = ap (λ (u : Settling). length u.queue) one in
    omega (arith, fewer, same)

pub rounds-preserved : goal.rounds-preserved
rounds-preserved g c =
    let m = c.args.performer.now in
    let p = g.P.Performer.performs m in
    let s : Settling = settling_of c.rounds.self in
    let t : Settling = settling_of c.round.new.self in
    let invariant = c.rounds.invariant in
    let next : t ≡ stepped p s (next_ready p s.objects s.queue) = round p s t c.rounds.ready c.in-Some.at c.in-Some.tried c.in-Some.is invariant.place invariant.found (c.in_ok-round.ensures {u = tt}) in
    let at : next_ready p s.objects s.queue ≡ Some c.in-Some.at = invariant.place ∙ ap (option_map (λ x. x.0)) c.in-Some.is in
    let one : t ≡ stepped p s (Some c.in-Some.at) = next ∙ ap (stepped p s) at in
    let fewer = step_length p s c.in-Some.at at in
    let same = ap (λ (u : Settling). length u.queue) one in
    let less : length t.queue + 1 ≡ length s.queue = omega (arith, fewer, same) in
    let ready = c.in_ok-ready-2.ensures {u = tt} in
    record {
      place = ready.place;
      found = ready.tried;
      fits = λ kinds fit. fit_stepped (g.P.Performer.fits_state m) (g.P.Performer.fits_args m) kinds p (g.met.P.Performer.keeps_fit m kinds) s t (next_ready p s.objects s.queue) next (invariant.fits kinds fit);
      same = sym (settle_step p (length t.queue) (length s.queue) s t less next) ∙ invariant.same;
      others = subst (λ (u : Settling). OthersBlocked p u.objects u.queue c.args.on) (sym one) (others_stepped p s c.args.on c.in-Some.at at invariant.others);
    }

pub returns-clause-ok : goal.returns-clause-ok
returns-clause-ok g c = no_round (g.P.Performer.performs c.args.performer.now) (settling_of c.rounds.self) _ c.rounds.ready c.in_default.is c.rounds.invariant.place c.rounds.invariant.same

pub returns-clause-blocked : goal.returns-clause-blocked
returns-clause-blocked g c = all_blocked (g.P.Performer.performs c.args.performer.now) c.rounds.self.objects c.rounds.self.queue c.rounds.ready c.in_default.is c.rounds.invariant.place
