use Rattle.std.proofs.Common.{◌≡◌, ◌∙◌, map, rules, sym}
use Rattle.world_rules.specs.declared.standing.Standing.TheVariants.{Going}
use Rattle.room_state.proofs.Holding.{stops_any}
use Rattle.room_state.proofs.state.RoomState.stop.Goals as goal

pub invariant_of-self : goal.invariant_of-self
invariant_of-self g c =
    let r = c.self.inside in
    let is : c.standing.result ≡ Going = search rules in (
      stops_any g.P.OneRun.run (record { seen = r.driver.world; in_use = r.driver.in_use; phase = r.phase; told = map g.W.Wire.told r.wires.items; tasks = r.driver.tasks.counts.items })
          c.self.invariant.0 (λ w led. sym (c.standing.ensures.standing w led) ∙ is),
      c.self.invariant.1,
      c.self.invariant.2,
    )
