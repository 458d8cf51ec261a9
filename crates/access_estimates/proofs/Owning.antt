-- A name with its object type, and the scope's word for it.
use Rattle.std.proofs.Common.{◌≡◌, ℕ, List, find, Option, Some, None, refl, ap, ◌∙◌}
use Rattle.std.specs.Prelude.{bytes_eq, option_map}
use Rattle.std.specs.Option.{option_map_or}
use Rattle.orca_tree.specs.declared.tree.Name.{Name}
use Rattle.type_rules.specs.Scopes.{Local}
use Rattle.type_exprs.specs.declared.scope.Local as tree
use Rattle.type_exprs.specs.Scoped.{local_as}
use Rattle.access_estimates.specs.Locals.{PlainLocal}
use Rattle.access_estimates.specs.Collected.{named_in, object_by, object_kind}

pub local_is : (ls : List Local) (n : Name) (text : List ℕ) (o : Option tree.Local) (object : Option ℕ) → text ≡ n.text →
    option_map (local_as n.text) o ≡ find (λ l. bytes_eq l.name n.text) ls → object ≡ object_by o →
    record { name = text; object = object } ≡ named_in ls n
local_is ls n text o object e f is =
    ap (λ (t : List ℕ). named_as t object) e
    ∙ ap (named_as n.text) (is ∙ same_kind o ∙ ap (λ (l : Option Local). object_kind (option_map_or (λ l. l.type) l None)) f)
  where
    named_as : List ℕ → Option ℕ → PlainLocal
    named_as t k = record { name = t; object = k }

    same_kind : (o : Option tree.Local) → object_by o ≡ object_kind (option_map_or (λ l. l.type) (option_map (local_as n.text) o) None)
    same_kind None = refl
    same_kind (Some l) = refl
