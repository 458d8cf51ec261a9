use Rattle.std.proofs.Common.{◌≡◌, ◌∙◌, ◌+◌, Option, Some, arith, rules, subst, sym}
use Rattle.orca_base.specs.declared.ids.ProcessNo.{ProcessNo}
use Rattle.room_state.proofs.Choosing.{Found, found_not, found_ready}
use Rattle.room_state.proofs.order.chosen.Goals.{else-is_ready, then-is_ready}
use Rattle.room_state.proofs.order.chosen.Goals as goal

pub processes-preserved : goal.processes-preserved
processes-preserved g c =
    let f = g.P.OneRun.run.frame in
    let s = c.args.world.now in
    let tasks = c.args.tasks.now.counts.items in
    let n = c.processes.number in
    elim c.if-is_ready.branch [
      | then-is_ready w ↦
          let is : c.if-is_ready.found ≡ Some w.first_of.result = search rules in
          subst (λ (o : Option ProcessNo). Found f s tasks c.args.home o (n + 1)) (sym is)
          (found_ready f s tasks c.args.home c.processes.found (n + 1) w.first_of.result (record { 0 = n }) (omega arith) c.processes.invariant (λ v led. sym (c.is_ready.ensures v led) ∙ w.if-is_ready.true)
          w.first_of.ensures.none w.first_of.ensures.some)
      | else-is_ready w ↦
          let is : c.if-is_ready.found ≡ c.processes.found = search rules in
          subst (λ (o : Option ProcessNo). Found f s tasks c.args.home o (n + 1)) (sym is)
          (found_not f s tasks c.args.home c.processes.found n (n + 1) (omega arith) c.processes.invariant (λ v led. sym (c.is_ready.ensures v led) ∙ w.if-is_ready.false))
    ]
