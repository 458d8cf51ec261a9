use Rattle.wires.proofs.Seeds.{goes_on}
use Rattle.wires.proofs.seeded.SeededWireWire.fate.Goals as goal

pub invariant_of-self : goal.invariant_of-self
invariant_of-self c =
    rw c.next-fate.ensures.percent (goes_on c.self.inside.seed c.self.inside.chance.percent c.self.inside.kept.told c.note.new.self.told _ c.next-fate.result c.self.inside.chance.source c.next-fate.new.self.source
    c.note.ensures.told c.next-fate.ensures.fate c.next-fate.ensures.source c.self.invariant)
