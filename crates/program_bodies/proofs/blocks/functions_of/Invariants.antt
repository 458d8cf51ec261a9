use Rattle.std.proofs.Common.{List, map, take}
use Rattle.link_rules.specs.Units.{Source}
use Rattle.type_forms.specs.Forms.{AreTyped}
use Rattle.type_forms.specs.Seen.{top}
use Rattle.program_bodies.specs.Blocks.{IsBlockCode, function_of}
use Rattle.program_bodies.specs.Matching.{Both, Match}
use Rattle.program_bodies.proofs.blocks.functions_of.Given as goal

abbrev pub invariant-tops : goal.invariant-tops
invariant-tops l = (us : List Source) → AreTyped us l.forms →
    Match (λ f t. Both IsBlockCode f (function_of us t)) l.all.items (map top (take l.item-index l.tops))
