use Rattle.type_stmts.proofs.OneMore.{guard_more}
use Rattle.type_stmts.proofs.guards.guards_breach.Goals as goal

pub guards-preserved : goal.guards-preserved
guards-preserved c = λ w s.
    guard_more w c.args.guards.now c.guards.guard-index c.guard-item.result c.guards.first c.in_ok-own.own c.lesser-first.result _
    c.guards-test.true c.guard-item.is ((c.in_ok-own.ensures {u = tt}) w s) c.lesser-first.ensures (c.guards.invariant w s)
