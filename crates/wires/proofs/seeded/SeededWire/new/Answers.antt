use Rattle.std.proofs.Common.{ap}
use Rattle.wires.proofs.Seeds.{starts}
use Rattle.wires.proofs.seeded.SeededWire.new.Goals as goal

pub invariant_of-result : goal.invariant_of-result
invariant_of-result c = starts c.args.seed c.new-2.result.percent c.new.result.told c.new-2.result.source (ap (λ k. k.told) c.new.ensures) c.new-2.ensures.source
