use Rattle.std.proofs.Math.ListN.{drop_of_length-le}
use Rattle.type_rules.specs.Declarations.{no_main}
use Rattle.type_decls.proofs.FirstOnes.{next_further, next_end}
use Rattle.type_decls.proofs.names.none_main.Goals as goal

pub names-preserved : goal.names-preserved
names-preserved c =
    next_further no_main c.args.names.now c.names.name-index c.name-item.result c.names.first c.no_main.result c.lesser-first.result _ c.names-test.true
    c.name-item.is c.lesser-first.ensures c.no_main.ensures c.names.invariant

pub returns : goal.returns
returns c =
    next_end no_main c.args.names.now c.names.name-index c.names.first _ (drop_of_length-le c.args.names.now c.names-test.false) c.names.invariant
