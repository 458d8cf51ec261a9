use Rattle.std.proofs.Common.{false, map, refl, subst}
use Rattle.std.specs.Prelude.{IfOk, option_map}
use Rattle.orca_syntax.specs.Shown.{block, kind, parameter}
use Rattle.type_rules.specs.declared.names.Owner.{Owner}
use Rattle.type_rules.specs.Scopes.{own_names, view_of}
use Rattle.type_rules.specs.Declarations.{block_breaches}
use Rattle.type_forms.specs.Finding.{FirstOf}
use Rattle.type_decls.specs.Bodies.{variable_found}
use Rattle.type_decls.proofs.blocks.function_breach.Goals as goal

pub returns : goal.returns
returns c = λ us ctx.
    let m = c.args.home.now in
    let ps = map parameter c.args.parameters.now in
    let r = option_map kind c.args.gives.now in
    let b = block c.args.body.now in
    let w = view_of us m (own_names ps b) in
    subst (λ (k : Owner). IfOk c.block_breach.result (λ o. FirstOf o (block_breaches us m k (variable_found false w) w ps r b))) c.owner_of-owner.ensures
    (c.block_breach.ensures us ctx w refl)
