use Rattle.type_stmts.proofs.OneMore.{printed_more}
use Rattle.type_stmts.proofs.wanted.printed.Goals as goal

pub given-preserved : goal.given-preserved
given-preserved c = λ w s.
    printed_more w c.args.given.now c.given.e-index c.e-item.result c.given.first c.in_ok-own.own c.lesser-first.result _
    c.given-test.true c.e-item.is ((c.in_ok-own.ensures {u = tt}) w s) c.lesser-first.ensures (c.given.invariant w s)
