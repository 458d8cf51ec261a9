use Rattle.std.proofs.Common.{◌≡◌, ℕ, List, [], map, refl, ap, ◌∙◌}
use Rattle.std.specs.Prelude.{flat_map}
use Rattle.orca_tree.specs.declared.tree.Name.{Name}
use Rattle.orca_tree.specs.declared.tree.Variables as tree_variables
use Rattle.orca_syntax.specs.Shown.{operation, variables}
use Rattle.type_rules.specs.declared.names.LocalRole.TheVariants.{Variable}
use Rattle.type_rules.specs.Rules.{is_among}
use Rattle.type_rules.specs.Scopes.{Local, locals_of, texts}
use Rattle.type_rules.specs.TypePhrases.{data_found}
use Rattle.type_rules.specs.Declarations.{operation_view}
use Rattle.type_forms.specs.Seen.{has, lent}
use Rattle.program_bodies.proofs.operations.variable_types.Goals as goal

pub returns : goal.returns
returns c = λ us t.
    let w = operation_view us c.args.home.now (map variables c.args.fields.now) (operation c.args.operation.now) in
    let seen = ap lent c.deref.ensures.value ∙ c.in_ok-seen.ensures {u = tt} in
    let among : (n : List ℕ) → has c.in_ok-set.set n ≡ is_among w.names n =
    λ n. (c.in_ok-set.ensures {u = tt}) n ∙ ap (λ (l : List Name). is_among (texts l) n) seen in
    ((c.in_ok-add_variables.ensures {u = tt}) us t w (record { program = refl; home = refl; names = among }) [] c.new-own.ensures).types
    ∙ ap (λ (l : List tree_variables.Variables). map (λ (x : Local). x.type) (flat_map (locals_of Variable (data_found w)) (map variables l))) c.deref-2.ensures.value
