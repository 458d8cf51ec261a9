-- Where a phrase stands, and what its names stand for there.
use Rattle.std.specs.Prelude.{◌≡◌, ℕ, List}
use Rattle.link_rules.specs.Units.{Source}
use Rattle.type_rules.specs.Rules.{is_among}
use Rattle.type_rules.specs.Constants as rules
use Rattle.type_forms.specs.declared.bounds.View.{View}
use Rattle.type_forms.specs.declared.bounds.Sense.{Sense}
use Rattle.type_forms.specs.declared.bounds.Sense.TheVariants as seen
use Rattle.type_forms.specs.Seen.{has}
use Rattle.type_forms.specs.Indexed.{IsInside, standing}

-- a view by reference is one of a program
pub record IsView (us : List Source) (v : View) (w : rules.View) : Type 0 where
  pub program : w.program ≡ us
  pub home : w.home ≡ v.home.now
  pub names : (n : List ℕ) → has v.names.now n ≡ is_among w.names n

abbrev pub sensed : Sense → rules.Sense
sensed seen.OfBody = rules.OfBody
sensed (seen.OfAll s) = rules.OfAll (standing s)

-- a name of the top level is that of its number
abbrev pub IsSenseInside : List Source → Sense → Type 0
IsSenseInside us seen.OfBody = Unit {0}
IsSenseInside us (seen.OfAll s) = IsInside us s
