use Rattle.std.proofs.Common.{Bool, List, [], ◌++◌, Option, map, None, false, ap, subst, ◌∙◌}
use Rattle.std.specs.Prelude.{flat_map, option_map}
use Rattle.orca_tree.specs.declared.tree.Name.{Name}
use Rattle.orca_syntax.specs.Shown.{operation, stmts, variables}
use Rattle.type_rules.specs.declared.breach.Breach.{Breach}
use Rattle.type_rules.specs.Order.{least}
use Rattle.type_rules.specs.Rules.{are_new, asks}
use Rattle.type_rules.specs.TypePhrases.{data_found}
use Rattle.type_rules.specs.Scopes.{Heads, specification}
use Rattle.type_rules.specs.Declarations.{are_free, field_locals, field_names, fields_view, heads_match, heads_of, implementation_scope, is_specified_in, opening_breaches, operation_breaches, variables_breaches}
use Rattle.type_forms.specs.Finding.{FirstOf}
use Rattle.type_forms.specs.Seen.{lent}
use Rattle.type_decls.proofs.FirstOnes.{first_of_two}
use Rattle.type_decls.proofs.implementations.implementation_breach.Goals as goal

pub returns : goal.returns
returns c = λ us ctx.
    let ix = ctx.tables.typed.forms.names in
    let m = c.args.home.now in
    let n = c.args.name.now in
    let fs = map variables c.args.groups.now in
    let os = map operation c.args.operations.now in
    let spec = c.specification-specified.ensures us ix ∙ ap (specification us) c.as_str.ensures in
    let first = ap lent c.deref.ensures.value ∙ c.in_ok-names.ensures {u = tt} in
    let second = ap lent c.deref-2.ensures.value ∙ c.in_ok-names.ensures {u = tt} in
    let types = variables_breaches (data_found (fields_view us m fs)) fs in
    let others = flat_map (operation_breaches us m fs) os
    ++ opening_breaches (implementation_scope us m (field_locals us m fs) None false) (option_map (λ ss. stmts ss.items) c.args.opening.now) in
    let heads : Option Heads → List Breach = λ h. heads_of h os (heads_match us m fs) in
    let known = asks 11 n.at (is_specified_in m (specification us n.text)) in
    let news = are_new (field_names fs ++ map (λ o. o.head.name) os) in
    let frees = are_free us m [] (field_names fs) in
    let rest = types ++ (heads (specification us n.text) ++ others) in
    let inside = subst (λ (h : Option Heads). FirstOf c.in_ok-inside.inside (types ++ (heads h ++ others))) spec ((c.in_ok-inside.ensures {u = tt}) us ctx second) in
    first_of_two c.asks-known.result c.lesser-2.result c.lesser-3.result known (news ++ (frees ++ rest)) c.lesser-3.ensures
    (c.asks-known.ensures ∙ ap (λ (b : Bool). least (asks 11 n.at b)) (c.is_specified_in.ensures ∙ ap (is_specified_in m) spec))
    (first_of_two c.in_ok-again.again c.lesser.result c.lesser-2.result news (frees ++ rest) c.lesser-2.ensures (c.in_ok-again.ensures {u = tt})
    (first_of_two c.are_free-free.result c.in_ok-inside.inside c.lesser.result frees rest c.lesser.ensures
    (c.are_free-free.ensures us ix [] ctx.none ∙ ap (λ (ns : List Name). least (are_free us m [] ns)) first) inside))
