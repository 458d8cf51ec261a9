use Rattle.std.proofs.Common.{ℕ, List, true, false, sym, ap, ◌∙◌}
use Rattle.std.specs.Prelude.{bytes_eq}
use Rattle.std.specs.List.{list_any}
use Rattle.orca_tree.specs.declared.tree.Name.{Name}
use Rattle.link_rules.specs.Units.{source}
use Rattle.type_forms.proofs.Imports.{of_unit}
use Rattle.type_forms.proofs.index.unit_imports.Goals as goal

pub returns-then-eq : goal.returns-then-eq
returns-then-eq c =
    c.is_among.ensures
    ∙ ap (λ (l : List Name). list_any (λ n. bytes_eq n.text c.args.by.now) l) c.deref.ensures.value
    ∙ sym (of_unit (source c.args.unit.now) c.args.home.now c.args.by.now true c.args.unit.now.unit.imports.items
    (ap (λ (v : List ℕ). bytes_eq v c.args.home.now) (sym c.module_of.ensures) ∙ sym c.eq.ensures ∙ c.if-eq.true))

pub returns-else-eq : goal.returns-else-eq
returns-else-eq c =
    c.if-eq.false ∙ sym (of_unit (source c.args.unit.now) c.args.home.now c.args.by.now false c.args.unit.now.unit.imports.items
    (ap (λ (v : List ℕ). bytes_eq v c.args.home.now) (sym c.module_of.ensures) ∙ sym c.eq.ensures ∙ c.if-eq.false))
