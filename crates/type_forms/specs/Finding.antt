-- What the code finds of a phrase: what it is, and the first of its breaches in text order.
use Rattle.std.specs.Prelude.{◌≡◌, List, Option}
use Rattle.type_rules.specs.declared.breach.Breach.{Breach}
use Rattle.type_rules.specs.Rules as rules
use Rattle.type_rules.specs.Order.{least}
use Rattle.type_forms.specs.declared.found.Found.{Found}

-- this is the first of some breaches, in text order
abbrev pub FirstOf : Option Breach → List Breach → Type 0
FirstOf first bs = first ≡ least bs

pub record Finds {X : Type 0} (f : Found X) (g : rules.Found X) : Type 0 where
  pub is : f.is ≡ g.is
  pub first : FirstOf f.first g.breaches
