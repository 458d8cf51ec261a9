-- The first of two and of three lists of breaches, as code finds it; and what was found with another name of its type.
use Rattle.std.proofs.Common.{◌≡◌, ℕ, Bool, List, ◌++◌, Option, subst, ap, ◌∙◌}
use Rattle.orca_base.specs.declared.place.Place.{Place}
use Rattle.type_rules.specs.declared.breach.Breach.{Breach}
use Rattle.type_rules.specs.declared.types.DataType.{DataType}
use Rattle.type_rules.specs.Order.{least, lesser}
use Rattle.type_rules.specs.Rules.{asks, unless}
use Rattle.type_forms.specs.declared.found.Found.{Found}
use Rattle.type_forms.specs.Finding.{FirstOf, Finds}
use Rattle.type_forms.proofs.FirstOfBoth.{first_of_both}

pub first_of_two : (x y q : Option Breach) (ks bs : List Breach) → q ≡ lesser x y → FirstOf x ks → FirstOf y bs → FirstOf q (ks ++ bs)
first_of_two x y q ks bs is e f = is ∙ first_of_both x y ks bs e f

pub first_of_three : (x y z p q : Option Breach) (ks bs cs : List Breach) → p ≡ lesser y z → q ≡ lesser x p → FirstOf x ks → FirstOf y bs →
    FirstOf z cs → FirstOf q (ks ++ (bs ++ cs))
first_of_three x y z p q ks bs cs inner outer e f g = first_of_two x p q ks (bs ++ cs) outer e (first_of_two y z p bs cs inner f g)

-- what a rule asks for, in other words
pub asked : (rule : ℕ) (at : Place) (x : Option Breach) (b c : Bool) → x ≡ least (asks rule at b) → b ≡ c → FirstOf x (asks rule at c)
asked rule at x b c is e = is ∙ ap (λ (h : Bool). least (asks rule at h)) e

pub found_as : (r : Found DataType) (bs : List Breach) (o p : Option DataType) → Finds r (unless bs o) → o ≡ p → Finds r (unless bs p)
found_as r bs o p h e = subst (λ (t : Option DataType). Finds r (unless bs t)) e h
