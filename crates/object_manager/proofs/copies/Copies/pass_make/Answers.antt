use Rattle.std.proofs.Common.{◌+◌, ◌∙◌, ap, subst, sym}
use Rattle.object_manager.specs.After.{Copied}
use Rattle.object_manager.specs.Applies.{CopiesBlocked, CopiesFit}
use Rattle.object_manager.specs.Singles.{AreCounted}
use Rattle.object_manager.specs.Whole.{IsWhole}
use Rattle.object_manager.proofs.Settled.{passed_is}
use Rattle.object_manager.proofs.Singles.{after_passed_goes}
use Rattle.object_manager.proofs.copies.Copies.pass_make.Goals as goal

pub returns-clause-blocked : goal.returns-clause-blocked
returns-clause-blocked g c =
    let m = c.args.performer.now in
    let p = g.P.Performer.performs m in
    let now = c.args.self.now in
    let message = c.args.message.now in
    let keeps = c.args.keeps in
    let state = g.P.Performer.fits_state m in
    let args = g.P.Performer.fits_args m in
    let laws = g.met.P.Performer in
    let counted : AreCounted now.own now.singles = (subst IsWhole c.self.view_is c.self.invariant).counted in
    let goes = after_passed_goes state args p (laws.made_fits m) (laws.state_stays_fit m) (laws.args_stay_fit m) keeps now message c.requires.fits c.requires.blocked counted c.requires.applies in
    let same = passed_is p keeps _ now message c.in-Make.kind c.in-Make.object c.in_ok-making.making (c.self.inside.applied + 1) c.in-Make.is (c.in_ok-making.ensures {u = tt}).making
    (c.self-2.view_is ∙ (c.in_ok-count.ensures {u = tt}).ok) (ap (λ (x : Copied). x.applied + 1) c.self.view_is) in
    subst (CopiesBlocked p) (sym same) goes.blocked

pub returns-clause-fits : goal.returns-clause-fits
returns-clause-fits g c =
    let m = c.args.performer.now in
    let p = g.P.Performer.performs m in
    let now = c.args.self.now in
    let message = c.args.message.now in
    let keeps = c.args.keeps in
    let state = g.P.Performer.fits_state m in
    let args = g.P.Performer.fits_args m in
    let laws = g.met.P.Performer in
    let counted : AreCounted now.own now.singles = (subst IsWhole c.self.view_is c.self.invariant).counted in
    let goes = after_passed_goes state args p (laws.made_fits m) (laws.state_stays_fit m) (laws.args_stay_fit m) keeps now message c.requires.fits c.requires.blocked counted c.requires.applies in
    let same = passed_is p keeps _ now message c.in-Make.kind c.in-Make.object c.in_ok-making.making (c.self.inside.applied + 1) c.in-Make.is (c.in_ok-making.ensures {u = tt}).making
    (c.self-2.view_is ∙ (c.in_ok-count.ensures {u = tt}).ok) (ap (λ (x : Copied). x.applied + 1) c.self.view_is) in
    subst (CopiesFit state args) (sym same) goes.fits
