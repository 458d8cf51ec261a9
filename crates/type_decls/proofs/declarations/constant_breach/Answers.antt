use Rattle.std.proofs.Common.{[], refl}
use Rattle.type_rules.specs.Constants.{bound}
use Rattle.type_rules.specs.Scopes.{view_of}
use Rattle.type_rules.specs.Declarations.{no_main}
use Rattle.type_decls.proofs.FirstOnes.{first_of_two}
use Rattle.type_decls.proofs.declarations.constant_breach.Goals as goal

pub returns : goal.returns
returns c = λ us ctx.
    let forms = ctx.tables.typed.forms in
    let w = view_of us c.args.home.now [] in
    first_of_two c.no_main.result c.bound-found.result.first c.lesser.result (no_main c.args.name.now) (bound w c.args.value.now).breaches c.lesser.ensures c.no_main.ensures
    (c.bound-found.ensures us forms.names forms.constants w (record { program = refl; home = refl; names = ctx.none })).first
