use Rattle.std.proofs.Common.{List, [], ◌++◌, map, subst, ap, ◌∙◌}
use Rattle.std.specs.Prelude.{flat_map}
use Rattle.std.proofs.lemmas.List.{append-nil}
use Rattle.orca_tree.specs.declared.tree.Variables as tree
use Rattle.orca_syntax.specs.Shown.{parameter, variables}
use Rattle.type_rules.specs.declared.names.LocalRole.TheVariants.{Variable}
use Rattle.type_rules.specs.Scopes.{Local, locals_of, parameter_local}
use Rattle.type_decls.specs.Bodies.{AreLocals, variable_found}
use Rattle.access_estimates.proofs.routines.locals_of.Goals as goal

pub returns : goal.returns
returns c = λ us typed w view.
    let f = locals_of Variable (variable_found c.args.objects w) in
    let first = (c.in_ok-declare_variables.ensures {u = tt}).locals us typed w view [] c.no_locals-locals.ensures in
    let vs = flat_map f (map variables c.deref.result.now) in
    let second = (c.in_ok-declare_parameters.ensures {u = tt}).locals us typed w view (vs ++ []) first in
    subst (λ (l : List Local). AreLocals c.declare_parameters.new.locals l)
    (ap (λ (l : List Local). map (parameter_local w) (map parameter c.args.parameters.now) ++ l)
    (append-nil vs ∙ ap (λ (gs : List tree.Variables). flat_map f (map variables gs)) c.deref.ensures.value))
    second
