use Rattle.std.proofs.Common.{◌≡◌, ℕ, List, [], ◌++◌, map, refl, subst, ap, ◌∙◌, append_assoc}
use Rattle.std.specs.Prelude.{flat_map}
use Rattle.orca_tree.specs.declared.tree.Name.{Name}
use Rattle.orca_tree.specs.declared.tree.TypedName as tree_typed_name
use Rattle.orca_tree.specs.declared.tree.Variables as tree_variables
use Rattle.orca_syntax.specs.Shown.{operation, typed_name, variables}
use Rattle.type_rules.specs.declared.names.LocalRole.TheVariants.{Variable}
use Rattle.type_rules.specs.Rules.{is_among}
use Rattle.type_rules.specs.Scopes.{Local, locals_of, texts, value_local}
use Rattle.type_rules.specs.TypePhrases.{data_found}
use Rattle.type_rules.specs.Declarations.{field_locals, operation_view}
use Rattle.type_forms.specs.Seen.{has, lent}
use Rattle.program_bodies.specs.Bodies.{HasLocals}
use Rattle.program_bodies.proofs.operations.operation_names.Goals as goal

pub returns : goal.returns
returns c = λ us t.
    let m = c.args.home.now in
    let fs = map variables c.args.fields.now in
    let o = operation c.args.operation.now in
    let w = operation_view us m fs o in
    let seen = ap lent c.deref.ensures.value ∙ c.in_ok-seen.ensures {u = tt} in
    let among : (n : List ℕ) → has c.in_ok-set.set n ≡ is_among w.names n =
    λ n. (c.in_ok-set.ensures {u = tt}) n ∙ ap (λ (l : List Name). is_among (texts l) n) seen in
    let given = map (value_local w) o.head.parameters in
    let vars = flat_map (locals_of Variable (data_found w)) o.variables in
    let first : HasLocals c.add_values.new.names given =
    subst (λ (l : List tree_typed_name.TypedName). HasLocals c.add_values.new.names (map (value_local w) (map typed_name l))) c.deref-2.ensures.value
    ((c.in_ok-add_values.ensures {u = tt}) us t w (record { program = refl; home = refl; names = among }) [] c.new-names.ensures) in
    let second : HasLocals c.add_variables.new.names (given ++ vars) =
    subst (λ (l : List tree_variables.Variables). HasLocals c.add_variables.new.names (given ++ flat_map (locals_of Variable (data_found w)) (map variables l)))
    c.deref-3.ensures.value ((c.in_ok-add_variables.ensures {u = tt}) us t w (record { program = refl; home = refl; names = among }) given first) in
    subst (λ (l : List Local). HasLocals c.add_fields.new.names l) (append_assoc given vars (field_locals us m fs))
    ((c.in_ok-add_fields.ensures {u = tt}) us t (given ++ vars) second)
