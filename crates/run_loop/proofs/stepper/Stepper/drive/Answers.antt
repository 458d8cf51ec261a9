use Rattle.std.proofs.Common.{map}
use Rattle.run_loop.proofs.Telling.{tells_further}
use Rattle.run_loop.proofs.stepper.Stepper.drive.Goals as goal

pub returns-in_err-next_event-clause-told : goal.returns-in_err-next_event-clause-told
returns-in_err-next_event-clause-told g c =
    tells_further (map g.W.Wire.told c.args.wires.now) (map g.W.Wire.told c.events.wires) (map g.W.Wire.told c.next_event.new.wires) c.events.invariant.1 c.next_event.ensures.told
