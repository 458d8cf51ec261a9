use Rattle.std.proofs.Common.{List, map, take}
use Rattle.link_rules.specs.Units.{Source}
use Rattle.type_forms.specs.Forms.{AreTyped}
use Rattle.type_forms.specs.Seen.{top}
use Rattle.program_bodies.specs.Blocks.{IsBlockCode, process_of}
use Rattle.program_bodies.specs.Matching.{Both, Match}
use Rattle.program_bodies.proofs.blocks.processes_of.Given as goal

abbrev pub invariant-processes : goal.invariant-processes
invariant-processes l = (us : List Source) → AreTyped us l.forms →
    Match (λ p t. Both IsBlockCode p (process_of us t)) l.all.items (map top (take l.item-index l.processes))
