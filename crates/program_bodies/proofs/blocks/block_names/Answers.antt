use Rattle.std.proofs.Common.{List, [], ◌++◌, map, subst}
use Rattle.std.specs.Prelude.{flat_map}
use Rattle.orca_tree.specs.declared.tree.Variables as tree
use Rattle.orca_syntax.specs.Shown.{parameter, variables}
use Rattle.type_rules.specs.declared.names.LocalRole.TheVariants.{Variable}
use Rattle.type_rules.specs.Scopes.{locals_of, parameter_local}
use Rattle.type_decls.specs.Bodies.{variable_found}
use Rattle.program_bodies.specs.Bodies.{HasLocals}
use Rattle.program_bodies.proofs.blocks.block_names.Goals as goal

pub returns : goal.returns
returns c = λ us t w v.
    let given = map (parameter_local w) (map parameter c.args.parameters.now) in
    subst (λ (l : List tree.Variables). HasLocals c.add_variables.new.names (given ++ flat_map (locals_of Variable (variable_found c.args.objects w)) (map variables l)))
    c.deref.ensures.value
    ((c.in_ok-add_variables.ensures {u = tt}) us t w v given ((c.in_ok-add_parameters.ensures {u = tt}) us t w v [] c.new-names.ensures))
