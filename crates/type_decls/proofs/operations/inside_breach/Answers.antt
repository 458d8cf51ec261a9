use Rattle.std.proofs.Common.{◌≡◌, true, List, ◌++◌, Option, map, find, refl, ap, subst, ◌∙◌}
use Rattle.std.specs.Prelude.{bytes_eq, flat_map}
use Rattle.orca_tree.specs.declared.tree.TypedName as tree_typed_name
use Rattle.orca_tree.specs.declared.tree.Variables as tree
use Rattle.orca_syntax.specs.Shown.{operation, typed_name, variables}
use Rattle.type_rules.specs.declared.types.DataType.{DataType}
use Rattle.type_rules.specs.declared.names.LocalRole.TheVariants.{Variable}
use Rattle.type_rules.specs.Order.{least}
use Rattle.type_rules.specs.TypePhrases.{data_found}
use Rattle.type_rules.specs.Scopes.{locals_of, value_local}
use Rattle.type_rules.specs.Declarations.{body_breaches, field_locals, fields_view, implementation_scope, operation_locals, operation_view, result_breaches, result_of, values_breaches, variables_breaches}
use Rattle.type_forms.specs.Finding.{FirstOf}
use Rattle.type_forms.specs.Views.{IsView}
use Rattle.type_stmts.specs.Bodies.{fields_last}
use Rattle.type_decls.proofs.FieldsLast.{only_fields, values_first, variables_first}
use Rattle.type_decls.proofs.FirstOnes.{first_of_two}
use Rattle.type_decls.proofs.operations.inside_breach.Goals as goal

pub returns-clause-breaches : goal.returns-clause-breaches
returns-clause-breaches c = λ us ctx fs names al.
    let t = ctx.tables.typed in
    let o = operation c.args.operation.now in
    let m = c.args.home.now in
    let w = operation_view us m fs o in
    let f = locals_of Variable (data_found w) in
    let fls = field_locals us m fs in
    let ls = operation_locals us m fs o in
    let view : IsView us (record { home = c.args.home; names = c.args.names }) w = record { program = refl; home = refl; names = names } in
    let groups = ap (λ (l : List tree.Variables). map variables l) c.deref.ensures.value in
    let values = ap (λ (l : List tree_typed_name.TypedName). map typed_name l) c.deref-2.ensures.value in
    let last : fields_last ls ≡ true =
    values_first w o.head.parameters (flat_map f o.variables ++ fls)
    (variables_first (data_found w) o.variables fls (only_fields (data_found (fields_view us m fs)) fs)) in
    let known = (c.in_ok-given.ensures {u = tt}).locals us t w view (flat_map f (map variables c.deref.result.now) ++ fls) ((c.in_ok-own.ensures {u = tt}).locals us t w view fls al) in
    let code : FirstOf c.in_ok-code.code (body_breaches (implementation_scope us m ls (result_of w o.head.result)) o.body) = subst (λ (k : Option (Option DataType)). FirstOf c.in_ok-code.code (body_breaches (implementation_scope us m ls k) o.body))
    ((c.in_ok-kind.ensures {u = tt}) us t w view)
    ((c.in_ok-code.ensures {u = tt}) (implementation_scope us m ls c.in_ok-kind.kind) (c.body-scope.ensures.guarded us ctx ls
    (λ n. known n
    ∙ ap (λ l. find (λ l. bytes_eq l.name n) (map (value_local w) l ++ (flat_map f (map variables c.deref.result.now) ++ fls))) values
    ∙ ap (λ l. find (λ l. bytes_eq l.name n) (map (value_local w) o.head.parameters ++ (flat_map f l ++ fls))) groups)
    last)) in
    let types = (c.in_ok-own.ensures {u = tt}).breaches us t w view ∙ ap (λ l. least (variables_breaches (data_found w) l)) groups in
    let given = (c.in_ok-given.ensures {u = tt}).breaches us t w view ∙ ap (λ l. least (values_breaches w l)) values in
    let codes = body_breaches (implementation_scope us m ls (result_of w o.head.result)) o.body in
    let vars = variables_breaches (data_found w) o.variables in
    let back = result_breaches w o.head.result in
    first_of_two c.in_ok-given.given c.lesser-2.result c.lesser-3.result (values_breaches w o.head.parameters) (back ++ (vars ++ codes)) c.lesser-3.ensures given
    (first_of_two c.in_ok-back.back c.lesser.result c.lesser-2.result back (vars ++ codes) c.lesser-2.ensures ((c.in_ok-back.ensures {u = tt}) us t w view)
    (first_of_two c.in_ok-own.own c.in_ok-code.code c.lesser.result vars codes c.lesser.ensures types code))

pub returns-clause-locals : goal.returns-clause-locals
returns-clause-locals c = λ us ctx fs names al.
    let t = ctx.tables.typed in
    let o = operation c.args.operation.now in
    let m = c.args.home.now in
    let w = operation_view us m fs o in
    let f = locals_of Variable (data_found w) in
    let fls = field_locals us m fs in
    let view : IsView us (record { home = c.args.home; names = c.args.names }) w = record { program = refl; home = refl; names = names } in
    let groups = ap (λ (l : List tree.Variables). map variables l) c.deref.ensures.value in
    let values = ap (λ (l : List tree_typed_name.TypedName). map typed_name l) c.deref-2.ensures.value in
    let known = (c.in_ok-given.ensures {u = tt}).locals us t w view (flat_map f (map variables c.deref.result.now) ++ fls) ((c.in_ok-own.ensures {u = tt}).locals us t w view fls al) in
    λ n. known n
    ∙ ap (λ l. find (λ l. bytes_eq l.name n) (map (value_local w) l ++ (flat_map f (map variables c.deref.result.now) ++ fls))) values
    ∙ ap (λ l. find (λ l. bytes_eq l.name n) (map (value_local w) o.head.parameters ++ (flat_map f l ++ fls))) groups
