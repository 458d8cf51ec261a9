use Rattle.std.proofs.Common.{List, [], ◌++◌, map, refl, sym, ap, subst, ◌∙◌}
use Rattle.std.specs.Prelude.{option_map}
use Rattle.orca_tree.specs.declared.tree.Name.{Name}
use Rattle.orca_syntax.specs.Shown.{block, kind, parameter}
use Rattle.type_rules.specs.Order.{least}
use Rattle.type_rules.specs.Rules.{are_new, is_among}
use Rattle.type_rules.specs.Constants.{View}
use Rattle.type_rules.specs.Scopes.{own_names, texts, view_of}
use Rattle.type_rules.specs.Statements.{stmts_breaches}
use Rattle.type_rules.specs.Declarations.{are_free, block_breaches, block_scope, parameters_breaches, result_breaches, variables_breaches}
use Rattle.type_forms.specs.Finding.{FirstOf}
use Rattle.type_forms.specs.Seen.{lent}
use Rattle.type_decls.specs.Bodies.{variable_found}
use Rattle.type_decls.proofs.FirstOnes.{first_of_pair}
use Rattle.type_decls.proofs.blocks.block_breach.Goals as goal

pub returns : goal.returns
returns c = λ us ctx w is.
    let m = c.args.home.now in
    let ps = map parameter c.args.parameters.now in
    let r = option_map kind c.args.gives.now in
    let b = block c.args.body.now in
    let all = own_names ps b in
    let first = ap lent c.deref.ensures.value ∙ c.in_ok-names.ensures {u = tt} in
    let second = ap lent c.deref-2.ensures.value ∙ c.in_ok-names.ensures {u = tt} in
    let named = (c.in_ok-named.ensures {u = tt}) us ctx.tables.typed.forms.names [] ctx.none ∙ ap (λ (ns : List Name). least (are_new ns ++ are_free us m [] ns)) second in
    let inside = (c.in_ok-inside.ensures {u = tt}) us ctx (view_of us m all)
    (record { program = refl; home = refl; names = λ n. (c.in_ok-set.ensures {u = tt}) n ∙ ap (λ (l : List Name). is_among (texts l) n) first }) in
    let v = view_of us m all in
    let find_kind = variable_found c.args.objects v in
    let rest = parameters_breaches v ps ++ (result_breaches v r
    ++ (variables_breaches find_kind b.variables ++ stmts_breaches (block_scope us m c.args.owner find_kind v ps r b) b.statements)) in
    subst (λ (v : View). FirstOf c.lesser.result (block_breaches us m c.args.owner (variable_found c.args.objects v) v ps r b)) (sym is)
    (first_of_pair c.in_ok-named.named c.in_ok-inside.inside c.lesser.result (are_new all) (are_free us m [] all) rest c.lesser.ensures named inside)
