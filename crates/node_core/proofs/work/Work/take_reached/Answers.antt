use Rattle.std.proofs.Common.{◌∙◌, ap, refl, arith}
use Rattle.std.specs.Vec.Iter.{into_iter_items}
use Rattle.node_core.specs.Stands.{fitness_of}
use Rattle.node_core.proofs.Reaching.{empty_left, none_left, reached_begin, reached_held, reached_next, reached_outside, reached_over, reached_taken, some_left}
use Rattle.node_core.proofs.Keeping.{keeps_none, keeps_on, keeps_still}
use Rattle.node_core.proofs.work.Work.take_reached.Goals as goal

pub returns-then-is_outside-clause-does : goal.returns-then-is_outside-clause-does
returns-then-is_outside-clause-does g c =
    let m = c.args.machine.now in
    reached_outside g.P.OneRun.stood g.P.OneRun.left g.P.OneRun.run.frame
    (fitness_of (g.P.Performer.fits_state m) (g.P.Performer.fits_args m) (g.P.Performer.fits_text m) (g.P.Performer.fits_reply m))
    c.is_outside.result c.args.self.now c.is_outside.ensures c.if-is_outside.true

pub errands-init : goal.errands-init
errands-init g c =
    let m = c.args.machine.now in (
      reached_begin g.P.OneRun.stood g.P.OneRun.left g.P.OneRun.run.frame
          (fitness_of (g.P.Performer.fits_state m) (g.P.Performer.fits_args m) (g.P.Performer.fits_text m) (g.P.Performer.fits_reply m))
          c.is_outside.result c.args.self.now _ _ c.is_outside.ensures c.if-is_outside.false
          (c.into_iter-errand-iterator.ensures.into_iter_gives.0 ∙ ap (λ v. v.items) c.replace-held.ensures.value) refl
          (ap (λ v. v.items) c.replace-held.ensures.after ∙ c.new.ensures.items),
      keeps_still _ _ _ refl refl,
    )

pub take-requires : goal.take-requires
take-requires g c =
    let m = c.args.machine.now in
    let tested = c.if-place-applied.true in
    let place = c.place.ensures in
    let applied = c.applied.ensures in
    reached_next g.P.OneRun.stood g.P.OneRun.left g.P.OneRun.run.frame
    (fitness_of (g.P.Performer.fits_state m) (g.P.Performer.fits_args m) (g.P.Performer.fits_text m) (g.P.Performer.fits_reply m))
    c.args.self.now c.errands.self _ _ c.in-Some.errand ((some_left c.next.result c.in-Some.errand _ _ c.in-Some.is c.next.ensures.steps).0)
    (omega (arith, tested, place, applied)) c.errands.invariant.0 c.requires

pub errands-preserved : goal.errands-preserved
errands-preserved g c =
    let m = c.args.machine.now in
    let tested = c.if-place-applied.false in
    let place = c.place.ensures in
    let applied = c.applied.ensures in (
      reached_held g.P.OneRun.stood g.P.OneRun.left g.P.OneRun.run.frame
          (fitness_of (g.P.Performer.fits_state m) (g.P.Performer.fits_args m) (g.P.Performer.fits_text m) (g.P.Performer.fits_reply m))
          c.args.self.now c.errands.self _ _ _ c.in-Some.errand ((some_left c.next.result c.in-Some.errand _ _ c.in-Some.is c.next.ensures.steps).0)
          (omega (arith, tested, place, applied)) refl ((c.in_ok-push.ensures {u = tt}).items) c.errands.invariant.0,
      keeps_on _ _ _ c.errands.invariant.1 (keeps_still _ _ _ refl refl),
    )

pub errands-preserved-in-Continue-1 : goal.errands-preserved-in-Continue-1
errands-preserved-in-Continue-1 g c =
    let m = c.args.machine.now in
    let tested = c.if-place-applied.true in
    let place = c.place.ensures in
    let applied = c.applied.ensures in (
      reached_taken g.P.OneRun.stood g.P.OneRun.left g.P.OneRun.run.frame
          (fitness_of (g.P.Performer.fits_state m) (g.P.Performer.fits_args m) (g.P.Performer.fits_text m) (g.P.Performer.fits_reply m))
          c.args.self.now c.errands.self c.take.new.self _ _ c.in-Some.errand ((some_left c.next.result c.in-Some.errand _ _ c.in-Some.is c.next.ensures.steps).0)
          (omega (arith, tested, place, applied)) (c.in_ok-take.ensures {u = tt}).does c.errands.invariant.0,
      keeps_on _ _ _ c.errands.invariant.1 (c.in_ok-take.ensures {u = tt}).tasks,
    )

pub returns-clause-does : goal.returns-clause-does
returns-clause-does g c =
    let m = c.args.machine.now in
    let over = (none_left c.next.result _ _ c.in-None.is c.next.ensures.steps).0 in
    let whole = c.errands.errand-iterator.rest.ok.0 in
    let none = empty_left (into_iter_items c.errands.errand-iterator) (omega (arith, over, whole)) in
    reached_over g.P.OneRun.stood g.P.OneRun.left g.P.OneRun.run.frame
    (fitness_of (g.P.Performer.fits_state m) (g.P.Performer.fits_args m) (g.P.Performer.fits_text m) (g.P.Performer.fits_reply m))
    c.args.self.now c.errands.self _ none c.errands.invariant.0

pub returns-then-is_outside-clause-tasks : goal.returns-then-is_outside-clause-tasks
returns-then-is_outside-clause-tasks g c = keeps_none _ _

pub returns-clause-tasks : goal.returns-clause-tasks
returns-clause-tasks g c = c.errands.invariant.1
