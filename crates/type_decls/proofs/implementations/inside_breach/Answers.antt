use Rattle.std.proofs.Common.{◌++◌, None, false, map}
use Rattle.std.specs.Prelude.{flat_map, option_map}
use Rattle.orca_syntax.specs.Shown.{operation, stmts, variables}
use Rattle.type_rules.specs.TypePhrases.{data_found}
use Rattle.type_rules.specs.Declarations.{field_locals, fields_view, heads_match, heads_of, implementation_scope, opening_breaches, operation_breaches, variables_breaches}
use Rattle.type_decls.specs.Specifications.{heads_as}
use Rattle.type_decls.proofs.FirstOnes.{first_of_two}
use Rattle.type_decls.proofs.implementations.inside_breach.Goals as goal

pub returns : goal.returns
returns c = λ us ctx is.
    let t = ctx.tables.typed in
    let m = c.args.home.now in
    let fs = map variables c.args.groups.now in
    let os = map operation c.args.operations.now in
    let f = (c.in_ok-fields.ensures {u = tt}).fields us t is in
    let g = (c.in_ok-seen.ensures {u = tt}).fields us t is in
    let heads = (c.in_ok-heads.ensures {u = tt}).breaches us t fs f.names g.names in
    let inside = (c.in_ok-inside.ensures {u = tt}) us ctx fs f (record { names = (c.in_ok-heads.ensures {u = tt}).names fs f.names g.names; locals = g.locals }) in
    let types = variables_breaches (data_found (fields_view us m fs)) fs in
    let matched = heads_of (option_map heads_as c.args.specified) os (heads_match us m fs) in
    let ops = flat_map (operation_breaches us m fs) os in
    let opening = opening_breaches (implementation_scope us m (field_locals us m fs) None false) (option_map (λ ss. stmts ss.items) c.args.opening.now) in
    first_of_two c.in_ok-fields.types c.lesser-2.result c.lesser-3.result types (matched ++ (ops ++ opening)) c.lesser-3.ensures ((c.in_ok-fields.ensures {u = tt}).breaches us t is)
    (first_of_two c.in_ok-heads.heads c.lesser.result c.lesser-2.result matched (ops ++ opening) c.lesser-2.ensures heads
    (first_of_two c.in_ok-inside.inside c.in_ok-opened.opened c.lesser.result ops opening c.lesser.ensures inside ((c.in_ok-opened.ensures {u = tt}) us ctx fs f.locals)))
