use Rattle.std.proofs.Common.{◌+◌, ◌-◌, ◌++◌, ◌∷◌, [], ℕ, ap, subst, refl, arith}
use Rattle.node_core.specs.Stands.{fitness_of}
use Rattle.node_core.specs.Tasks.{IsCame}
use Rattle.node_core.specs.declared.task.Came.{Came}
use Rattle.node_core.proofs.Running.{burst_begins, burst_ends, comes_to, halted_by, halted_may, read_more, read_told, within}
use Rattle.node_core.proofs.task.compute.Goals as goal

-- the budget's last turn fits
pub overflow_add-last : goal.overflow_add-last
overflow_add-last g c =
    let m = c.args.machine.now in
    let r = c.requires.played in
    let state = g.met.P.OneRun.stood_stands m c.args.start.now r.text c.args.process r.args r.replies r.turns c.requires.is.state in
    let turns = c.turns.ensures r.text c.args.process r.args r.replies r.turns state in
    let until = c.requires.turns in
    let most = c.requires.fits.turns in
    omega (arith, turns, until, most)

pub burst-init : goal.burst-init
burst-init g c =
    let m = c.args.machine.now in
    burst_begins g.P.OneRun.stood g.P.OneRun.run.frame (fitness_of (g.P.Performer.fits_state m) (g.P.Performer.fits_args m) (g.P.Performer.fits_text m) (g.P.Performer.fits_reply m)) (record { process = c.args.process; start = c.args.start.now; calls = c.args.calls; view = c.args.view.now; budget = c.args.budget })
    (c.turns.result + c.args.budget) c.in_ok-state.state c.new-reads.result.items c.requires
    (λ r is. ap (λ (n : ℕ). n + c.args.budget)
    (c.turns.ensures r.text c.args.process r.args r.replies r.turns (g.met.P.OneRun.stood_stands m c.args.start.now r.text c.args.process r.args r.replies r.turns is.state)))
    (c.in_ok-state.ensures {u = tt}) c.new-reads.ensures.items

-- some turns are left, and no more than the budget
pub overflow_sub-left : goal.overflow_sub-left
overflow_sub-left g c =
    let m = c.args.machine.now in
    let left = within g.P.OneRun.stood g.P.OneRun.run.frame (fitness_of (g.P.Performer.fits_state m) (g.P.Performer.fits_args m) (g.P.Performer.fits_text m) (g.P.Performer.fits_reply m)) (record { process = c.args.process; start = c.args.start.now; calls = c.args.calls; view = c.args.view.now; budget = c.args.budget })
    (c.turns.result + c.args.budget) c.burst.call c.turns-in-burst.result c.burst.state c.burst.reads.items c.requires c.burst.invariant
    (λ text number args replies turns at. c.turns-in-burst.ensures text number args replies turns (g.met.P.OneRun.stood_stands m c.burst.state text number args replies turns at)) in
    let some = left.some in
    omega (arith, some)

pub overflow_cast-left : goal.overflow_cast-left
overflow_cast-left g c =
    let m = c.args.machine.now in
    let left = within g.P.OneRun.stood g.P.OneRun.run.frame (fitness_of (g.P.Performer.fits_state m) (g.P.Performer.fits_args m) (g.P.Performer.fits_text m) (g.P.Performer.fits_reply m)) (record { process = c.args.process; start = c.args.start.now; calls = c.args.calls; view = c.args.view.now; budget = c.args.budget })
    (c.turns.result + c.args.budget) c.burst.call c.turns-in-burst.result c.burst.state c.burst.reads.items c.requires c.burst.invariant
    (λ text number args replies turns at. c.turns-in-burst.ensures text number args replies turns (g.met.P.OneRun.stood_stands m c.burst.state text number args replies turns at)) in
    let enough = left.enough in
    let budget = c.ranges.budget.fits in
    omega (arith, enough, budget)

pub go-requires-clause-some : goal.go-requires-clause-some
go-requires-clause-some g c =
    let m = c.args.machine.now in
    let left = within g.P.OneRun.stood g.P.OneRun.run.frame (fitness_of (g.P.Performer.fits_state m) (g.P.Performer.fits_args m) (g.P.Performer.fits_text m) (g.P.Performer.fits_reply m)) (record { process = c.args.process; start = c.args.start.now; calls = c.args.calls; view = c.args.view.now; budget = c.args.budget })
    (c.turns.result + c.args.budget) c.burst.call c.turns-in-burst.result c.burst.state c.burst.reads.items c.requires c.burst.invariant
    (λ text number args replies turns at. c.turns-in-burst.ensures text number args replies turns (g.met.P.OneRun.stood_stands m c.burst.state text number args replies turns at)) in
    let some = left.some in
    omega (arith, some)

pub go-requires-clause-room : goal.go-requires-clause-room
go-requires-clause-room g c text number args replies turns at =
    let m = c.args.machine.now in
    let left = within g.P.OneRun.stood g.P.OneRun.run.frame (fitness_of (g.P.Performer.fits_state m) (g.P.Performer.fits_args m) (g.P.Performer.fits_text m) (g.P.Performer.fits_reply m)) (record { process = c.args.process; start = c.args.start.now; calls = c.args.calls; view = c.args.view.now; budget = c.args.budget })
    (c.turns.result + c.args.budget) c.burst.call c.turns-in-burst.result c.burst.state c.burst.reads.items c.requires c.burst.invariant
    (λ text number args replies turns at. c.turns-in-burst.ensures text number args replies turns (g.met.P.OneRun.stood_stands m c.burst.state text number args replies turns at)) in
    let some = left.some in
    let most = left.most in
    let now = c.turns-in-burst.ensures text number args replies turns at in
    omega (arith, some, most, now)

pub halted-requires : goal.halted-requires
halted-requires g c =
    let m = c.args.machine.now in
    halted_may g.P.OneRun.stood g.P.OneRun.run.frame (fitness_of (g.P.Performer.fits_state m) (g.P.Performer.fits_args m) (g.P.Performer.fits_text m) (g.P.Performer.fits_reply m)) (record { process = c.args.process; start = c.args.start.now; calls = c.args.calls; view = c.args.view.now; budget = c.args.budget })
    (c.turns.result + c.args.budget) c.burst.call c.burst.state c.in_ok-after.after c.burst.reads.items (g.P.Performer.performs m) c.in_ok-after.halt (g.met.P.OneRun.performs_run m) c.requires c.burst.invariant
    (comes_to g.P.OneRun.stood (g.P.Processor.stands m) (g.P.Processor.computes m) g.P.OneRun.run.frame c.args.process (c.turns.result + c.args.budget - c.turns-in-burst.result) (c.turns.result + c.args.budget) c.turns-in-burst.result c.burst.state c.in_ok-after.after c.in_ok-after.halt
    (g.met.P.OneRun.computes_run m) (g.met.P.OneRun.stands_stood m) (g.met.P.OneRun.stood_stands m) c.turns-in-burst.ensures refl (c.in_ok-after.ensures {u = tt}).goes)

-- the reply to a read fits
pub reply-state-requires-clause-stands : goal.reply-state-requires-clause-stands
reply-state-requires-clause-stands g c =
    let m = c.args.machine.now in
    (read_told g.P.OneRun.stood (g.P.Processor.stands m) (g.P.Processor.halted m) g.P.OneRun.run.frame (fitness_of (g.P.Performer.fits_state m) (g.P.Performer.fits_args m) (g.P.Performer.fits_text m) (g.P.Performer.fits_reply m)) (record { process = c.args.process; start = c.args.start.now; calls = c.args.calls; view = c.args.view.now; budget = c.args.budget })
    (c.turns.result + c.args.budget) c.burst.call c.burst.state c.in_ok-after.after c.burst.reads.items (g.P.Performer.performs m) c.in_ok-after.halt c.in-Read.line c.in_ok-copy-in-Read.field-0
    (g.met.P.Performer.replies_fit m) (g.met.P.OneRun.stood_stands m c.in_ok-after.after) (g.met.P.OneRun.performs_run m) c.requires c.burst.invariant
    (comes_to g.P.OneRun.stood (g.P.Processor.stands m) (g.P.Processor.computes m) g.P.OneRun.run.frame c.args.process (c.turns.result + c.args.budget - c.turns-in-burst.result) (c.turns.result + c.args.budget) c.turns-in-burst.result c.burst.state c.in_ok-after.after c.in_ok-after.halt
    (g.met.P.OneRun.computes_run m) (g.met.P.OneRun.stands_stood m) (g.met.P.OneRun.stood_stands m) c.turns-in-burst.ensures refl (c.in_ok-after.ensures {u = tt}).goes)
    (c.in_ok-after.ensures {u = tt}).left
    (subst (λ (x : Came). IsCame (record g.P.OneRun.run.frame { performs = g.P.Performer.performs m }) c.args.view.now.objects c.args.process (record { 0 = c.burst.call }) c.in_ok-after.halt x) c.in-Read.is
    (c.in_ok-stage.ensures {u = tt}))
    (c.in_ok-copy-in-Read.ensures {u = tt})).some

pub reply-state-requires-clause-fits : goal.reply-state-requires-clause-fits
reply-state-requires-clause-fits g c =
    let m = c.args.machine.now in
    (read_told g.P.OneRun.stood (g.P.Processor.stands m) (g.P.Processor.halted m) g.P.OneRun.run.frame (fitness_of (g.P.Performer.fits_state m) (g.P.Performer.fits_args m) (g.P.Performer.fits_text m) (g.P.Performer.fits_reply m)) (record { process = c.args.process; start = c.args.start.now; calls = c.args.calls; view = c.args.view.now; budget = c.args.budget })
    (c.turns.result + c.args.budget) c.burst.call c.burst.state c.in_ok-after.after c.burst.reads.items (g.P.Performer.performs m) c.in_ok-after.halt c.in-Read.line c.in_ok-copy-in-Read.field-0
    (g.met.P.Performer.replies_fit m) (g.met.P.OneRun.stood_stands m c.in_ok-after.after) (g.met.P.OneRun.performs_run m) c.requires c.burst.invariant
    (comes_to g.P.OneRun.stood (g.P.Processor.stands m) (g.P.Processor.computes m) g.P.OneRun.run.frame c.args.process (c.turns.result + c.args.budget - c.turns-in-burst.result) (c.turns.result + c.args.budget) c.turns-in-burst.result c.burst.state c.in_ok-after.after c.in_ok-after.halt
    (g.met.P.OneRun.computes_run m) (g.met.P.OneRun.stands_stood m) (g.met.P.OneRun.stood_stands m) c.turns-in-burst.ensures refl (c.in_ok-after.ensures {u = tt}).goes)
    (c.in_ok-after.ensures {u = tt}).left
    (subst (λ (x : Came). IsCame (record g.P.OneRun.run.frame { performs = g.P.Performer.performs m }) c.args.view.now.objects c.args.process (record { 0 = c.burst.call }) c.in_ok-after.halt x) c.in-Read.is
    (c.in_ok-stage.ensures {u = tt}))
    (c.in_ok-copy-in-Read.ensures {u = tt})).fits

pub burst-preserved : goal.burst-preserved
burst-preserved g c =
    let m = c.args.machine.now in
    read_more g.P.OneRun.stood g.P.OneRun.run.frame (record { process = c.args.process; start = c.args.start.now; calls = c.args.calls; view = c.args.view.now; budget = c.args.budget })
    (c.turns.result + c.args.budget) c.burst.call (c.burst.call + 1) c.burst.state c.in_ok-after.after c.reply-state.result c.burst.reads.items c.push.new.self.items
    (g.P.Performer.performs m) c.in_ok-after.halt c.in-Read.line c.in_ok-copy-in-Read.field-0 (g.met.P.OneRun.performs_run m) c.burst.invariant
    (comes_to g.P.OneRun.stood (g.P.Processor.stands m) (g.P.Processor.computes m) g.P.OneRun.run.frame c.args.process (c.turns.result + c.args.budget - c.turns-in-burst.result) (c.turns.result + c.args.budget) c.turns-in-burst.result c.burst.state c.in_ok-after.after c.in_ok-after.halt
    (g.met.P.OneRun.computes_run m) (g.met.P.OneRun.stands_stood m) (g.met.P.OneRun.stood_stands m) c.turns-in-burst.ensures refl (c.in_ok-after.ensures {u = tt}).goes)
    (subst (λ (x : Came). IsCame (record g.P.OneRun.run.frame { performs = g.P.Performer.performs m }) c.args.view.now.objects c.args.process (record { 0 = c.burst.call }) c.in_ok-after.halt x) c.in-Read.is
    (c.in_ok-stage.ensures {u = tt}))
    (λ text number args replies turns at. g.met.P.OneRun.stands_stood m c.reply-state.result text number args (replies ++ c.in_ok-copy-in-Read.field-0 ∷ []) turns
    (c.reply-state.ensures text number args replies turns (g.met.P.OneRun.stood_stands m c.in_ok-after.after text number args replies turns at)))
    (c.in_ok-copy-in-Read.ensures {u = tt}) (c.in_ok-push-in-Read.ensures {u = tt}).items refl

-- and where the burst ends, its process ran so
pub returns-in-End-clause-ran : goal.returns-in-End-clause-ran
returns-in-End-clause-ran g c =
    let m = c.args.machine.now in
    burst_ends g.P.OneRun.stood g.P.OneRun.left g.P.OneRun.run.frame (fitness_of (g.P.Performer.fits_state m) (g.P.Performer.fits_args m) (g.P.Performer.fits_text m) (g.P.Performer.fits_reply m)) (record { process = c.args.process; start = c.args.start.now; calls = c.args.calls; view = c.args.view.now; budget = c.args.budget })
    (record {
      process = c.args.process;
      start = c.args.start.now;
      calls = c.args.calls;
      view = c.args.view.now;
      turns = c.turns-in-End.result;
      end = c.in_ok-after.after;
      stage = c.in-End.stage;
      reads = c.burst.reads.items;
    })
    (c.turns.result + c.args.budget) c.burst.call c.burst.state (g.P.Performer.performs m) c.in_ok-after.halt c.in-End.stage (g.met.P.OneRun.performs_run m) c.requires c.burst.invariant
    (comes_to g.P.OneRun.stood (g.P.Processor.stands m) (g.P.Processor.computes m) g.P.OneRun.run.frame c.args.process (c.turns.result + c.args.budget - c.turns-in-burst.result) (c.turns.result + c.args.budget) c.turns-in-burst.result c.burst.state c.in_ok-after.after c.in_ok-after.halt
    (g.met.P.OneRun.computes_run m) (g.met.P.OneRun.stands_stood m) (g.met.P.OneRun.stood_stands m) c.turns-in-burst.ensures refl (c.in_ok-after.ensures {u = tt}).goes)
    (halted_by c.in_ok-after.halt (g.P.Processor.halted m c.in_ok-after.after) (g.P.OneRun.left c.in_ok-after.after) (g.met.P.OneRun.halted_left m c.in_ok-after.after) (c.in_ok-after.ensures {u = tt}).left)
    (subst (λ (x : Came). IsCame (record g.P.OneRun.run.frame { performs = g.P.Performer.performs m }) c.args.view.now.objects c.args.process (record { 0 = c.burst.call }) c.in_ok-after.halt x) c.in-End.is
    (c.in_ok-stage.ensures {u = tt}))
    (λ text number args replies turns at. c.turns-in-End.ensures text number args replies turns (g.met.P.OneRun.stood_stands m c.in_ok-after.after text number args replies turns at))
    refl refl refl refl refl
