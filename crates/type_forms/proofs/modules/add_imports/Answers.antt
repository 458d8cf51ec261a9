use Rattle.std.proofs.Common.{ℕ, List, Bool, true, false, ◌||◌, sym, ap, ◌∙◌}
use Rattle.std.specs.Prelude.{bytes_eq}
use Rattle.std.specs.List.{list_any}
use Rattle.orca_tree.specs.declared.tree.Name.{Name}
use Rattle.link_rules.specs.Units.{source}
use Rattle.type_forms.specs.Seen.{has}
use Rattle.type_forms.proofs.Imports.{of_unit, or_false}
use Rattle.type_forms.proofs.modules.add_imports.Goals as goal

pub returns-in_ok-add_all : goal.returns-in_ok-add_all
returns-in_ok-add_all c = λ n.
    (c.in_ok-add_all.ensures {u = tt}) n
    ∙ ap (λ (l : List Name). has c.args.names.now n || list_any (λ i. bytes_eq i.text n) l) c.deref.ensures.value
    ∙ ap (λ (t : Bool). has c.args.names.now n || t)
    (sym (of_unit (source c.args.unit.now) c.args.by.now n true c.args.unit.now.unit.imports.items
    (ap (λ (v : List ℕ). bytes_eq v c.args.by.now) (sym c.module_of.ensures) ∙ sym c.eq.ensures ∙ c.if-eq.true)))

pub returns-else-eq : goal.returns-else-eq
returns-else-eq c = λ n.
    or_false (has c.args.names.now n)
    ∙ ap (λ (t : Bool). has c.args.names.now n || t)
    (sym (of_unit (source c.args.unit.now) c.args.by.now n false c.args.unit.now.unit.imports.items
    (ap (λ (v : List ℕ). bytes_eq v c.args.by.now) (sym c.module_of.ensures) ∙ sym c.eq.ensures ∙ c.if-eq.false)))
