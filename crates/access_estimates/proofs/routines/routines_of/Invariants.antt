use Rattle.std.proofs.Common.{List, map, take}
use Rattle.link_rules.specs.Units.{Source}
use Rattle.type_forms.specs.Forms.{AreTyped}
use Rattle.type_forms.specs.Seen.{top}
use Rattle.estimate_rules.specs.Routines.{routine_of}
use Rattle.access_estimates.specs.Resolved.{IsRoutine}
use Rattle.program_bodies.specs.Matching.{Both, Match}
use Rattle.access_estimates.specs.Lookups.{AreLookups}
use Rattle.access_estimates.proofs.routines.routines_of.Given as goal

abbrev pub invariant-tops : goal.invariant-tops
invariant-tops l = (us : List Source) → AreTyped us l.forms → AreLookups us l.lookups →
    Match (λ o t. Both (IsRoutine us) o (routine_of us t)) l.all.items (map top (take l.item-index l.tops))
