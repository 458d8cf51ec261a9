use Rattle.std.proofs.Common.{List, ◌++◌, map, refl, ap, ◌∙◌}
use Rattle.std.specs.Borrow.{Bor}
use Rattle.orca_tree.specs.declared.tree.Name.{Name}
use Rattle.orca_syntax.specs.Shown.{variables}
use Rattle.type_rules.specs.Rules.{is_among}
use Rattle.type_rules.specs.Scopes.{texts, variable_names}
use Rattle.type_rules.specs.Declarations.{fields_view}
use Rattle.type_forms.specs.Seen.{lent}
use Rattle.program_bodies.proofs.operations.add_fields.Goals as goal

pub returns : goal.returns
returns c = λ us t.
    let fs = map variables c.args.fields.now in
    let seen = ap lent c.deref.ensures.value ∙ c.in_ok-add_variables.ensures {u = tt} ∙ ap (λ (l : List (Bor Name)). lent l ++ variable_names fs) c.new-own.ensures.items in
    c.add_variables-2.ensures us t (fields_view us c.args.home.now fs)
    (record { program = refl; home = refl; names = λ n. (c.in_ok-set.ensures {u = tt}) n ∙ ap (λ (l : List Name). is_among (texts l) n) seen })
