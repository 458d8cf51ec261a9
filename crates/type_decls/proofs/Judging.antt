-- The first unit that has a breach.
use Rattle.std.proofs.Common.{◌≡◌, List, [], ◌∷◌, ◌++◌, map, Some, None, refl, sym, ap, ◌∙◌}
use Rattle.std.specs.Prelude.{option_map}
use Rattle.link_rules.specs.Units.{Source}
use Rattle.link_rules.specs.Rules.{first}
use Rattle.type_rules.specs.declared.breach.Breach.{Breach}
use Rattle.type_rules.specs.declared.type_error.TypeError.{TypeError}
use Rattle.type_rules.specs.Order.{in_text_order}
use Rattle.type_rules.specs.Breaches.{type_error}
use Rattle.type_rules.proofs.Least.{first_is_least}
use Rattle.type_forms.specs.Finding.{FirstOf}

none_first : {A : Type 0} (xs : List A) → first xs ≡ None → xs ≡ []
none_first {A} [] e = refl
none_first {A} (x ∷ xs) e = absurd (cc e)

first_mapped : {A B : Type 0} (f : A → B) (xs : List A) (x : A) → first xs ≡ Some x → first (map f xs) ≡ Some (f x)
first_mapped {A} {B} f [] x e = absurd (cc e)
first_mapped {A} {B} f (y ∷ xs) x e = ap (option_map f) e

-- a unit without breaches, and one with a first
pub unit_whole : (u : Source) (bs : List Breach) → FirstOf None bs → map (type_error u) (in_text_order bs) ≡ []
unit_whole u bs none = ap (map (type_error u)) (none_first (in_text_order bs) (first_is_least bs ∙ sym none))

pub unit_broken : (u : Source) (bs : List Breach) (b : Breach) → FirstOf (Some b) bs → first (map (type_error u) (in_text_order bs)) ≡ Some (type_error u b)
unit_broken u bs b is = first_mapped (type_error u) (in_text_order bs) b (first_is_least bs ∙ sym is)

pub first_behind : (es rest : List TypeError) (e : TypeError) → first es ≡ Some e → first (es ++ rest) ≡ Some e
first_behind [] rest e h = absurd (cc h)
first_behind (x ∷ es) rest e h = h
