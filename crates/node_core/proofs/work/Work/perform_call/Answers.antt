use Rattle.std.proofs.Common.{◌≡◌, ◌∙◌, ap, refl, List, arith, rules}
use Rattle.std.specs.Vec.Iter.{into_iter_items}
use Rattle.guard_queue.specs.Settles.{lines_of}
use Rattle.guard_queue.specs.declared.settling.Answered.{Answered}
use Rattle.object_manager.specs.After.{Copied}
use Rattle.node_core.specs.Stands.{fitness_of}
use Rattle.node_core.proofs.Calling.{hands_begin, hands_more, hands_next, hands_over, may_call}
use Rattle.node_core.proofs.Reaching.{empty_left, none_left, some_left}
use Rattle.node_core.proofs.Keeping.{keeps_on, keeps_still}
use Rattle.node_core.proofs.work.Work.perform_call.Goals as goal

pub call_single-requires : goal.call_single-requires
call_single-requires g c =
    let m = c.args.machine.now in
    let may =
    may_call g.P.OneRun.stood g.P.OneRun.left g.P.OneRun.run.frame
    (fitness_of (g.P.Performer.fits_state m) (g.P.Performer.fits_args m) (g.P.Performer.fits_text m) (g.P.Performer.fits_reply m))
    (g.P.Performer.performs m) c.args.message.now c.args.self.now (g.met.P.OneRun.performs_run m) c.requires
    in record { fits = may.fits; blocked = may.blocked; call = may.call }

pub lines-init : goal.lines-init
lines-init g c =
    let m = c.args.machine.now in
    let does = c.in_ok-answered.ensures {u = tt} in
    let all : into_iter_items c.into_iter-one-iterator.result ≡ c.in_ok-answered.answered.items = search rules in (
      hands_begin g.P.OneRun.stood g.P.OneRun.left g.P.OneRun.run.frame
          (fitness_of (g.P.Performer.fits_state m) (g.P.Performer.fits_args m) (g.P.Performer.fits_text m) (g.P.Performer.fits_reply m))
          (g.P.Performer.performs m) c.args.message.now c.args.self.now _ _ (g.met.P.OneRun.performs_run m) refl does.after
          (ap (λ (l : List Answered). lines_of l) all ∙ does.lines) c.requires,
      keeps_still _ _ _ refl (ap (λ (d : Copied). d.processes) does.after),
    )

pub hand-requires : goal.hand-requires
hand-requires g c =
    hands_next g.P.OneRun.stood g.P.OneRun.left g.P.OneRun.run.frame (g.P.Performer.fits_reply c.args.machine.now) c.args.message.now c.args.self.now c.lines.self _ _ c.in-Some.one
    ((some_left c.next.result c.in-Some.one _ _ c.in-Some.is c.next.ensures.steps).0) c.lines.invariant.0

pub lines-preserved : goal.lines-preserved
lines-preserved g c = (
  hands_more g.P.OneRun.stood g.P.OneRun.left g.P.OneRun.run.frame (g.P.Performer.fits_reply c.args.machine.now) c.args.message.now c.args.self.now c.lines.self c.hand.new.self _ _ c.in-Some.one
      ((some_left c.next.result c.in-Some.one _ _ c.in-Some.is c.next.ensures.steps).0) (c.in_ok-hand.ensures {u = tt}).does c.lines.invariant.0,
  keeps_on _ _ _ c.lines.invariant.1 (c.in_ok-hand.ensures {u = tt}).tasks,
)

pub returns-clause-does : goal.returns-clause-does
returns-clause-does g c =
    let over = (none_left c.next.result _ _ c.in-None.is c.next.ensures.steps).0 in
    let whole = c.lines.one-iterator.rest.ok.0 in
    let none = empty_left (into_iter_items c.lines.one-iterator) (omega (arith, over, whole)) in
    hands_over g.P.OneRun.stood g.P.OneRun.left g.P.OneRun.run.frame (g.P.Performer.fits_reply c.args.machine.now) c.args.message.now c.args.self.now c.lines.self _ none c.lines.invariant.0

pub returns-clause-tasks : goal.returns-clause-tasks
returns-clause-tasks g c = c.lines.invariant.1
