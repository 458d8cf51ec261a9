use Rattle.std.proofs.Common.{◌≡◌, ℕ, List, drop}
use Rattle.link_rules.specs.Units.{Source}
use Rattle.type_rules.specs.Order.{least, lesser}
use Rattle.type_rules.specs.Declarations as rules
use Rattle.type_forms.specs.Indexed.{Indexes}
use Rattle.type_forms.specs.Seen.{lent}
use Rattle.type_decls.specs.Bodies.{AreNames}
use Rattle.type_decls.proofs.names.are_free.Given as goal

abbrev pub invariant-names : goal.invariant-names
invariant-names l = (us : List Source) → Indexes l.index us → (fs : List (List ℕ)) → AreNames l.fields fs →
    lesser l.first (least (rules.are_free us l.home fs (lent (drop l.name-index l.names)))) ≡ least (rules.are_free us l.home fs (lent l.names))
