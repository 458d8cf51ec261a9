-- The imports of a unit are all of its module.
use Rattle.std.proofs.Common.{◌≡◌, ℕ, List, [], ◌∷◌, Bool, true, false, ◌||◌, ◌&&◌, map, refl, ap, ◌∙◌}
use Rattle.std.specs.Prelude.{bytes_eq}
use Rattle.std.specs.List.{list_any}
use Rattle.orca_tree.specs.declared.tree.Name.{Name}
use Rattle.link_rules.specs.Units.{Source, imported, module_name}
use Rattle.type_forms.specs.Seen.{is_imported}

pub or_false : (b : Bool) → b ≡ (b || false)
or_false true = refl
or_false false = refl

pub of_unit : (u : Source) (m n : List ℕ) (b : Bool) (names : List Name) → bytes_eq (module_name u) m ≡ b →
    list_any (is_imported m n) (map (imported u) names) ≡ (b && list_any (λ i. bytes_eq i.text n) names)
of_unit u m n true [] is = refl
of_unit u m n false [] is = refl
of_unit u m n true (x ∷ xs) is =
    ap (λ (t : Bool). (t && bytes_eq x.text n) || list_any (is_imported m n) (map (imported u) xs)) is
    ∙ ap (λ (t : Bool). bytes_eq x.text n || t) (of_unit u m n true xs is)
of_unit u m n false (x ∷ xs) is =
    ap (λ (t : Bool). (t && bytes_eq x.text n) || list_any (is_imported m n) (map (imported u) xs)) is
    ∙ of_unit u m n false xs is
