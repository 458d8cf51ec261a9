use Rattle.std.proofs.Common.{◌≡◌, ◌∙◌, ap, subst, sym}
use Rattle.guard_queue.specs.Changes.{objects_changed, queue_changed}
use Rattle.guard_queue.specs.Fitting.{Fitting}
use Rattle.guard_queue.specs.Settles.{Settling}
use Rattle.object_manager.specs.Acts.{acts}
use Rattle.object_manager.specs.After.{Copied, acted, after}
use Rattle.object_manager.specs.Applies.{CopiesFit}
use Rattle.object_manager.specs.Singles.{kinds_at}
use Rattle.object_manager.specs.Whole.{IsWhole}
use Rattle.object_manager.proofs.Lasting.{acted_fits, after_fits}
use Rattle.object_manager.proofs.Settled.{applied_is, left_is}
use Rattle.object_manager.proofs.Whole.{after_whole}
use Rattle.object_manager.proofs.copies.Copies.apply.Goals as goal

pub settle_after-requires-clause-fits : goal.settle_after-requires-clause-fits
settle_after-requires-clause-fits g c =
    let m = c.args.performer.now in
    let p = g.P.Performer.performs m in
    let now = c.args.self.now in
    let message = c.args.message.now in
    let state = g.P.Performer.fits_state m in
    let args = g.P.Performer.fits_args m in
    let kinds = kinds_at now in
    let change = c.in_ok-acted.acted.change in
    let does = (c.in_ok-acted.ensures {u = tt}).acted in
    let fit = acted_fits state args p (g.met.P.Performer.made_fits m) (g.met.P.Performer.keeps_fit m) now message message.action c.requires.fits c.requires.applies in
    let P : Settling → Type 0 = λ s. Fitting state args kinds s.objects s.queue in
    let after : Fitting state args kinds (objects_changed now.objects change) (queue_changed now.queue change) = subst P (sym does) fit in
    let Q : Copied → Type 0 = λ x. Fitting state args kinds x.objects x.queue × Fitting state args kinds (objects_changed x.objects change) (queue_changed x.queue change) in
    (kinds, subst Q (sym c.self.view_is) (c.requires.fits.shared, after))

pub invariant_of-self-2 : goal.invariant_of-self-2
invariant_of-self-2 g c =
    let m = c.args.performer.now in
    let p = g.P.Performer.performs m in
    let now = c.args.self.now in
    let message = c.args.message.now in
    let inside = c.self.inside in
    let change = c.in_ok-acted.acted.change in
    let lines = c.in_ok-acted.acted.lines in
    let acts_so = c.in_ok-acted.ensures {u = tt} in
    let does = ap (λ (x : Copied). acts x.objects x.queue change lines) c.self.view_is ∙ acts_so.acted in
    let left = left_is p inside.objects inside.queue change lines c.in_ok-lines.lines c.settle_after.new.objects c.settle_after.new.queue (acted p now message) does (c.in_ok-lines.ensures {u = tt}).ok in
    let objects : c.settle_after.new.objects ≡ (after p now message).objects = left.0 in
    let queue : c.settle_after.new.queue ≡ (after p now message).queue = left.1 in
    let whole = after_whole (g.P.Performer.fits_args m) p now message (subst IsWhole c.self.view_is c.self.invariant) c.requires.applies acts_so.within in
    subst IsWhole (sym (applied_is p _ now message c.settle_after.new.objects c.settle_after.new.queue c.in_ok-acted.acted.forks c.self.view_is objects queue acts_so.forks)) whole

pub returns-clause-fits : goal.returns-clause-fits
returns-clause-fits g c =
    let m = c.args.performer.now in
    let p = g.P.Performer.performs m in
    let now = c.args.self.now in
    let message = c.args.message.now in
    let inside = c.self.inside in
    let state = g.P.Performer.fits_state m in
    let args = g.P.Performer.fits_args m in
    let laws = g.met.P.Performer in
    let change = c.in_ok-acted.acted.change in
    let lines = c.in_ok-acted.acted.lines in
    let acts_so = c.in_ok-acted.ensures {u = tt} in
    let does = ap (λ (x : Copied). acts x.objects x.queue change lines) c.self.view_is ∙ acts_so.acted in
    let left = left_is p inside.objects inside.queue change lines c.in_ok-lines.lines c.settle_after.new.objects c.settle_after.new.queue (acted p now message) does (c.in_ok-lines.ensures {u = tt}).ok in
    let objects : c.settle_after.new.objects ≡ (after p now message).objects = left.0 in
    let queue : c.settle_after.new.queue ≡ (after p now message).queue = left.1 in
    let fit = after_fits state args p (laws.made_fits m) (laws.keeps_fit m) (laws.state_stays_fit m) (laws.args_stay_fit m) now message c.requires.fits c.requires.applies in
    subst (CopiesFit state args) (sym (applied_is p _ now message c.settle_after.new.objects c.settle_after.new.queue c.in_ok-acted.acted.forks c.self.view_is objects queue acts_so.forks)) fit
