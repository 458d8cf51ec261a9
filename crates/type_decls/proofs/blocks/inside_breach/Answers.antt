use Rattle.std.proofs.Common.{◌≡◌, true, false, List, [], ◌++◌, Option, map, find, refl, sym, ap, subst, ◌∙◌, rules}
use Rattle.std.specs.Prelude.{bytes_eq, flat_map, option_map}
use Rattle.std.proofs.lemmas.List.{append-nil}
use Rattle.orca_tree.specs.declared.tree.Statement.{Statement}
use Rattle.orca_tree.specs.declared.tree.Variables as tree
use Rattle.orca_syntax.specs.Shown.{block, kind, parameter, stmts, variables}
use Rattle.type_rules.specs.declared.types.DataType.{DataType}
use Rattle.type_rules.specs.declared.names.LocalRole.TheVariants.{Variable}
use Rattle.type_rules.specs.Order.{least}
use Rattle.type_rules.specs.Scopes.{Local, Scope, locals_of, parameter_local}
use Rattle.type_rules.specs.Statements.{stmts_breaches}
use Rattle.type_rules.specs.Declarations.{block_scope, parameters_breaches, result_breaches, variables_breaches}
use Rattle.type_forms.specs.Finding.{FirstOf}
use Rattle.type_stmts.specs.Bodies.{fields_last}
use Rattle.type_decls.specs.Bodies.{variable_found}
use Rattle.type_decls.proofs.FieldsLast.{parameters_first, variables_first}
use Rattle.type_decls.proofs.FirstOnes.{first_of_two}
use Rattle.type_decls.proofs.Scoped.{body_scope}
use Rattle.type_decls.proofs.blocks.inside_breach.Goals as goal

pub returns : goal.returns
returns c = λ us ctx w v.
    let t = ctx.tables.typed in
    let ps = map parameter c.args.parameters.now in
    let r = option_map kind c.args.gives.now in
    let b = block c.args.body.now in
    let find_kind = variable_found c.args.objects w in
    let own = flat_map (locals_of Variable find_kind) b.variables in
    let ls = map (parameter_local w) ps ++ own in
    let at : Option (Option DataType) → Scope = λ k. body_scope us c.args.view.home.now ls c.args.owner k false in
    let groups = ap (λ (l : List tree.Variables). map variables l) c.deref.ensures.value in
    let last : fields_last ls ≡ true =
    parameters_first w ps own (ap fields_last (sym (append-nil own)) ∙ variables_first find_kind b.variables [] refl) in
    let known = (c.in_ok-given.ensures {u = tt}).locals us t w v (flat_map (locals_of Variable find_kind) (map variables c.deref.result.now) ++ [])
    ((c.in_ok-own.ensures {u = tt}).locals us t w v [] (λ m. search rules)) in
    let is_body = c.body-scope.ensures.plain us ctx ls
    (λ n. known n ∙ ap (λ (l : List Local). find (λ l. bytes_eq l.name n) (map (parameter_local w) ps ++ l))
    (append-nil (flat_map (locals_of Variable find_kind) (map variables c.deref.result.now)) ∙ ap (flat_map (locals_of Variable find_kind)) groups)) last in
    let code : FirstOf c.in_ok-code.code (stmts_breaches (block_scope us c.args.view.home.now c.args.owner find_kind w ps r b) b.statements) =
    subst (λ (k : Option (Option DataType)). FirstOf c.in_ok-code.code (stmts_breaches (at k) b.statements)) ((c.in_ok-kind.ensures {u = tt}) us t w v)
    ((c.in_ok-code.ensures {u = tt}) (at c.in_ok-kind.kind) is_body ∙ ap (λ (l : List Statement). least (stmts_breaches (at c.in_ok-kind.kind) (stmts l))) c.deref-2.ensures.value) in
    let types = (c.in_ok-own.ensures {u = tt}).breaches us t w v ∙ ap (λ l. least (variables_breaches find_kind l)) groups in
    let codes = stmts_breaches (block_scope us c.args.view.home.now c.args.owner find_kind w ps r b) b.statements in
    let vars = variables_breaches find_kind b.variables in
    first_of_two c.in_ok-given.given c.lesser-2.result c.lesser-3.result (parameters_breaches w ps) (result_breaches w r ++ (vars ++ codes)) c.lesser-3.ensures
    ((c.in_ok-given.ensures {u = tt}).breaches us t w v)
    (first_of_two c.in_ok-back.back c.lesser.result c.lesser-2.result (result_breaches w r) (vars ++ codes) c.lesser-2.ensures ((c.in_ok-back.ensures {u = tt}) us t w v)
    (first_of_two c.in_ok-own.own c.in_ok-code.code c.lesser.result vars codes c.lesser.ensures types code))
