use Rattle.std.proofs.Common.{[], ap, refl, arith}
use Rattle.node_core.proofs.Beginning.{started}
use Rattle.node_core.proofs.Working.{ok_map}
use Rattle.node_core.proofs.Keeping.{keeps_put}
use Rattle.node_core.proofs.work.Work.start.Goals as goal

pub returns-clause-does : goal.returns-clause-does
returns-clause-does g c =
    let m = c.args.machine.now in
    let is = c.in_ok-newborn.ensures {u = tt} in
    ok_map c.put.result _ _
    (λ put f k v work.
    started g.P.OneRun.stood g.P.OneRun.left f k c.args.number c.applied-place.result c.args.text c.args.args.now c.in_ok-state.state c.in_ok-newborn.newborn c.args.self.now _ v
    (g.met.P.OneRun.stands_stood m c.in_ok-state.state c.args.text (record { 0 = c.args.number }) c.args.args.now [] 0 (c.in_ok-state.ensures {u = tt}))
    is c.applied-place.ensures put refl work)
    c.put.ensures

pub returns-clause-tasks : goal.returns-clause-tasks
returns-clause-tasks g c =
    ok_map c.put.result _ _
    (λ put. keeps_put c.args.number c.args.number c.in_ok-newborn.newborn c.args.self.now.node _ put (ap (λ r. r.out) (c.in_ok-newborn.ensures {u = tt})) (λ s below is computing. absurd (omega (arith, below))))
    c.put.ensures
