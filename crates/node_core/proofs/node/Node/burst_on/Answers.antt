use Rattle.std.proofs.Common.{◌≡◌, length, sym, subst, refl, arith}
use Rattle.node_core.specs.Stands.{fitness_of}
use Rattle.node_core.specs.Tasks.{HasRun}
use Rattle.node_core.proofs.TakingIn.{at_once, out_here, out_runs, within_of}
use Rattle.node_core.proofs.node.Node.burst_on.Goals as goal

pub here-resident-requires : goal.here-resident-requires
here-resident-requires g c =
    let m = c.args.machine.now in
    out_here g.P.OneRun.stood g.P.OneRun.left g.P.OneRun.run.frame
    (fitness_of (g.P.Performer.fits_state m) (g.P.Performer.fits_args m) (g.P.Performer.fits_text m) (g.P.Performer.fits_reply m))
    c.args.process c.args.view.now c.args.budget c.args.self.now c.requires

pub compute-requires : goal.compute-requires
compute-requires g c =
    let m = c.args.machine.now in
    out_runs g.P.OneRun.stood g.P.OneRun.left g.P.OneRun.run.frame
    (fitness_of (g.P.Performer.fits_state m) (g.P.Performer.fits_args m) (g.P.Performer.fits_text m) (g.P.Performer.fits_reply m))
    c.args.process c.args.view.now c.args.budget c.args.self.now c.here-resident.result.now c.value-start.result.now c.requires c.here-resident.ensures c.value-start.ensures

pub after_burst-after-requires : goal.after_burst-after-requires
after_burst-after-requires g c =
    let small = (c.in_ok-burst.ensures {u = tt}).small in
    let len = c.len-reads.ensures in
    omega (arith, small, len)

pub change-requires : goal.change-requires
change-requires g c = within_of c.args.self.now.residents.items c.args.process.0 c.here-resident.result.now c.here-resident.ensures

pub returns-clause-does : goal.returns-clause-does
returns-clause-does g c =
    let s = c.here-resident.result.now in
    let burst = c.in_ok-burst.burst in
    let len = c.len-reads.ensures in
    let many : c.len-reads.result ≡ length burst.reads.items = omega (arith, len) in
    at_once g.P.OneRun.stood g.P.OneRun.left g.P.OneRun.run.frame
    (record { process = c.args.process; start = s.state; calls = s.calls; view = c.args.view.now; turns = burst.turns; end = c.in_ok-end.end; stage = burst.stage; reads = burst.reads.items })
    c.args.self.now c.change.new.self s c.after_burst-after.result (record { place = c.place-place.result; reads = burst.reads }) c.len-reads.result
    (subst (λ (x : g.row.P-State.Denot). HasRun g.P.OneRun.stood g.P.OneRun.left g.P.OneRun.run.frame
    (record { process = c.args.process; start = x; calls = s.calls; view = c.args.view.now; turns = burst.turns; end = c.in_ok-end.end; stage = burst.stage; reads = burst.reads.items })) c.value-start.ensures
    (subst (λ (x : g.row.P-State.Denot). HasRun g.P.OneRun.stood g.P.OneRun.left g.P.OneRun.run.frame
    (record { process = c.args.process; start = c.value-start.result.now; calls = s.calls; view = c.args.view.now; turns = burst.turns; end = x; stage = burst.stage; reads = burst.reads.items }))
    (sym (c.in_ok-end.ensures {u = tt})) (c.in_ok-burst.ensures {u = tt}).ran))
    c.here-resident.ensures refl refl c.after_burst-after.ensures c.place-place.ensures many refl c.change.ensures
