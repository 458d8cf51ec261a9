use Rattle.std.proofs.Common.{map}
use Rattle.room_state.proofs.Holding.{puts}
use Rattle.room_state.proofs.state.RoomState.put.Goals as goal

pub invariant_of-self-2 : goal.invariant_of-self-2
invariant_of-self-2 g c =
    let r = c.self.inside in (
      puts g.P.OneRun.run (record { seen = r.driver.world; in_use = r.driver.in_use; phase = r.phase; told = map g.W.Wire.told r.wires.items; tasks = r.driver.tasks.counts.items })
          c.self.invariant.0 c.in_default.not-Stopped c.worlds_count.ensures.counted c.check_in.new.self c.args.done c.in_ok-check_in.ensures.done,
      c.self.invariant.1,
      c.self.invariant.2,
    )
