use Rattle.std.proofs.Common.{◌≡◌, ◌∙◌, ap, subst, sym}
use Rattle.guard_queue.specs.Changes.{objects_changed, queue_changed}
use Rattle.guard_queue.specs.Fitting.{Fitting}
use Rattle.guard_queue.specs.Settles.{Settling}
use Rattle.object_manager.specs.Acts.{acts}
use Rattle.object_manager.specs.After.{Copied, acted}
use Rattle.object_manager.specs.Applies.{CopiesFit}
use Rattle.object_manager.specs.Singles.{AreCounted, after_single, kinds_at, side}
use Rattle.object_manager.specs.Whole.{IsWhole}
use Rattle.object_manager.proofs.Settled.{left_is, single_is}
use Rattle.object_manager.proofs.Singles.{acted_single, after_single_goes}
use Rattle.object_manager.proofs.Whole.{single_whole}
use Rattle.object_manager.proofs.copies.Copies.call_single.Goals as goal

pub settle_after-requires-clause-fits : goal.settle_after-requires-clause-fits
settle_after-requires-clause-fits g c =
    let m = c.args.performer.now in
    let p = g.P.Performer.performs m in
    let now = c.args.self.now in
    let message = c.args.message.now in
    let state = g.P.Performer.fits_state m in
    let args = g.P.Performer.fits_args m in
    let kinds = kinds_at now in
    let change = c.in_ok-acted.acted.change in
    let does = (c.in_ok-acted.ensures {u = tt}).acted in
    let fit = acted_single state args p (g.met.P.Performer.keeps_fit m) now message message.action c.requires.fits c.requires.call in
    let P : Settling → Type 0 = λ s. Fitting state args kinds s.objects s.queue in
    let after : Fitting state args kinds (objects_changed now.own change) (queue_changed now.waits change) = subst P (sym does) fit in
    let Q : Copied → Type 0 = λ x. Fitting state args kinds x.own x.waits × Fitting state args kinds (objects_changed x.own change) (queue_changed x.waits change) in
    (kinds, subst Q (sym c.self.view_is) (c.requires.fits.own, after))

pub invariant_of-self-2 : goal.invariant_of-self-2
invariant_of-self-2 g c =
    let m = c.args.performer.now in
    let p = g.P.Performer.performs m in
    let now = c.args.self.now in
    let message = c.args.message.now in
    let inside = c.self.inside in
    let change = c.in_ok-acted.acted.change in
    let lines = c.in_ok-acted.acted.lines in
    let does = ap (λ (x : Copied). acts x.own x.waits change lines) c.self.view_is ∙ (c.in_ok-acted.ensures {u = tt}).acted in
    let left = left_is p inside.own inside.waits change lines c.in_ok-settle_after.field-0 c.settle_after.new.objects c.settle_after.new.queue (acted p (side now) message) does (c.in_ok-settle_after.ensures {u = tt}).ok in
    let objects : c.settle_after.new.objects ≡ (after_single p now message).own = left.0 in
    let queue : c.settle_after.new.queue ≡ (after_single p now message).waits = left.1 in
    let whole = single_whole (g.P.Performer.fits_args m) p now message (subst IsWhole c.self.view_is c.self.invariant) c.requires.call in
    subst IsWhole (sym (single_is p _ now message c.settle_after.new.objects c.settle_after.new.queue c.self.view_is objects queue)) whole

pub returns-clause-fits : goal.returns-clause-fits
returns-clause-fits g c =
    let m = c.args.performer.now in
    let p = g.P.Performer.performs m in
    let now = c.args.self.now in
    let message = c.args.message.now in
    let inside = c.self.inside in
    let state = g.P.Performer.fits_state m in
    let args = g.P.Performer.fits_args m in
    let change = c.in_ok-acted.acted.change in
    let lines = c.in_ok-acted.acted.lines in
    let does = ap (λ (x : Copied). acts x.own x.waits change lines) c.self.view_is ∙ (c.in_ok-acted.ensures {u = tt}).acted in
    let left = left_is p inside.own inside.waits change lines c.in_ok-settle_after.field-0 c.settle_after.new.objects c.settle_after.new.queue (acted p (side now) message) does (c.in_ok-settle_after.ensures {u = tt}).ok in
    let objects : c.settle_after.new.objects ≡ (after_single p now message).own = left.0 in
    let queue : c.settle_after.new.queue ≡ (after_single p now message).waits = left.1 in
    let counted : AreCounted now.own now.singles = (subst IsWhole c.self.view_is c.self.invariant).counted in
    let goes = after_single_goes state args p (g.met.P.Performer.keeps_fit m) now message c.requires.fits c.requires.blocked counted c.requires.call in
    subst (CopiesFit state args) (sym (single_is p _ now message c.settle_after.new.objects c.settle_after.new.queue c.self.view_is objects queue)) goes.fits
