use Rattle.std.proofs.Common.{ap, sym, subst}
use Rattle.node_core.specs.Stands.{fitness_of}
use Rattle.node_core.specs.Tasks.{HasRun, MayRun, Tasked}
use Rattle.node_core.proofs.TakingIn.{runs_by}
use Rattle.node_core.proofs.task.Task.run.Goals as goal

pub compute-requires : goal.compute-requires
compute-requires g c =
    let m = c.self.invariant.0 in
    let n = c.args.machine.now in
    let t = c.self.inside in
    subst (λ (s : g.row.P-State.Denot). MayRun g.P.OneRun.stood g.P.OneRun.run.frame
    (fitness_of (g.P.Performer.fits_state n) (g.P.Performer.fits_args n) (g.P.Performer.fits_text n) (g.P.Performer.fits_reply n))
    (record { process = t.process; start = s; calls = t.calls; view = t.view; budget = t.budget })) (sym c.value.ensures)
    (runs_by g.P.OneRun.stood g.P.OneRun.run.frame
    (fitness_of (g.P.Performer.fits_state m) (g.P.Performer.fits_args m) (g.P.Performer.fits_text m) (g.P.Performer.fits_reply m))
    (fitness_of (g.P.Performer.fits_state n) (g.P.Performer.fits_args n) (g.P.Performer.fits_text n) (g.P.Performer.fits_reply n))
    (record { process = t.process; start = t.start; calls = t.calls; view = t.view; budget = t.budget })
    (λ kinds kind state. g.met.P.OneRun.states_alike m n kinds kind state) (λ kinds kind op args. g.met.P.OneRun.args_alike m n kinds kind op args) c.self.invariant.1)

pub invariant_of-result : goal.invariant_of-result
invariant_of-result g c =
    let t = c.self.inside in
    let burst = c.in_ok-burst.burst in (
      subst (λ (x : g.row.P-State.Denot). HasRun g.P.OneRun.stood g.P.OneRun.left g.P.OneRun.run.frame
          (record { process = t.process; start = x; calls = t.calls; view = t.view; turns = burst.turns; end = c.in_ok-new.field-0; stage = burst.stage; reads = burst.reads.items })) c.value.ensures
          (subst (λ (x : g.row.P-State.Denot). HasRun g.P.OneRun.stood g.P.OneRun.left g.P.OneRun.run.frame
          (record { process = t.process; start = c.value.result.now; calls = t.calls; view = t.view; turns = burst.turns; end = x; stage = burst.stage; reads = burst.reads.items }))
          (sym (c.in_ok-new.ensures {u = tt})) (c.in_ok-burst.ensures {u = tt}).ran),
      (c.in_ok-burst.ensures {u = tt}).small,
    )

pub returns : goal.returns
returns g c = record {
  process = ap (λ (t : Tasked g.row.P-State.Denot). t.process) c.self.view_is;
  start = ap (λ (t : Tasked g.row.P-State.Denot). t.start) c.self.view_is;
  calls = ap (λ (t : Tasked g.row.P-State.Denot). t.calls) c.self.view_is;
  view = ap (λ (t : Tasked g.row.P-State.Denot). t.view) c.self.view_is;
}
