use Rattle.std.proofs.Math.ListN.{drop_of_length-le}
use Rattle.orca_syntax.specs.Shown.{operation}
use Rattle.type_rules.specs.Declarations.{operation_breaches}
use Rattle.type_decls.proofs.FirstOnes.{shown_further, shown_end}
use Rattle.type_decls.proofs.operations.operations_breach.Goals as goal

pub operations-preserved : goal.operations-preserved
operations-preserved c = λ us ctx fs f g. (
  shown_further operation (operation_breaches us c.args.home.now fs) c.args.operations.now c.operations.operation-index c.operation-item.result
      c.operations.first c.in_ok-own.own c.lesser-first.result _ c.operations-test.true c.operation-item.is c.lesser-first.ensures
      ((c.in_ok-own.ensures {u = tt}).breaches us ctx fs f (c.operations.invariant us ctx fs f g).1) (c.operations.invariant us ctx fs f g).0,
  (c.in_ok-own.ensures {u = tt}).fields us ctx fs f (c.operations.invariant us ctx fs f g).1,
)

pub returns : goal.returns
returns c = λ us ctx fs f g.
    shown_end operation (operation_breaches us c.args.home.now fs) c.args.operations.now c.operations.operation-index c.operations.first _
    (drop_of_length-le c.args.operations.now c.operations-test.false) (c.operations.invariant us ctx fs f g).0
