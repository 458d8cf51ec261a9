use Rattle.std.proofs.Common.{map, refl}
use Rattle.orca_syntax.specs.Shown.{block, parameter}
use Rattle.type_rules.specs.Declarations.{process_breaches, process_form}
use Rattle.type_decls.proofs.FirstOnes.{first_of_two}
use Rattle.type_decls.proofs.blocks.process_breach.Goals as goal

pub returns : goal.returns
returns c = λ us ctx.
    let ps = map parameter c.args.parameters.now in
    first_of_two c.process_form.result c.in_ok-inside.inside c.lesser.result (process_form c.args.name.now ps)
    (process_breaches us c.args.home.now ps (block c.args.body.now)) c.lesser.ensures c.process_form.ensures
    ((c.in_ok-inside.ensures {u = tt}) us ctx _ refl)
