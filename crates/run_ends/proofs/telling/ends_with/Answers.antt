use Rattle.std.proofs.Common.{◌≡◌, ◌+◌, List, length, map, ap, sym, subst, rules, arith}
use Rattle.std.specs.Vec.Iter.{into_iter_items}
use Rattle.node_core.proofs.Reaching.{some_left}
use Rattle.run_ends.specs.declared.ends.ProcessEnd.{ProcessEnd}
use Rattle.run_ends.proofs.Books.{EndedTo, processes_first, processes_next, replies_there}
use Rattle.run_ends.proofs.telling.ends_with.Goals as goal

pub processes-init : goal.processes-init
processes-init g c =
    let all : into_iter_items c.into_iter-one-iterator.result ≡ c.args.replies.items = search rules in
    subst (λ (l : List ProcessEnd). EndedTo g.P.OneRun.stood g.P.OneRun.left g.P.OneRun.run.frame c.args.parts.now 0 (length (map (λ v. v.items) c.args.replies.items)) l (map (λ v. v.items) (into_iter_items c.into_iter-one-iterator.result))) (sym c.new-ends.ensures.items)
    (processes_first g.P.OneRun.stood g.P.OneRun.left g.P.OneRun.run.frame c.args.parts.now (map (λ v. v.items) c.args.replies.items) (map (λ v. v.items) (into_iter_items c.into_iter-one-iterator.result)) c.requires.stands c.requires.heard (ap (map (λ v. v.items)) all))

pub end_with-requires-clause-heard : goal.end_with-requires-clause-heard
end_with-requires-clause-heard g c w is =
    let left = (some_left c.next.result c.in-Some.one _ _ c.in-Some.is c.next.ensures.steps).0 in
    replies_there g.P.OneRun.stood g.P.OneRun.left g.P.OneRun.run.frame c.args.parts.now w c.processes.process (length (map (λ v. v.items) c.args.replies.items)) c.processes.ends.items (map (λ v. v.items) (into_iter_items c.processes.one-iterator)) (map (λ v. v.items) (into_iter_items c.next.new.self)) c.in-Some.one.items is
    (ap (map (λ v. v.items)) left) c.processes.invariant

pub processes-preserved : goal.processes-preserved
processes-preserved g c =
    let left = (some_left c.next.result c.in-Some.one _ _ c.in-Some.is c.next.ensures.steps).0 in
    processes_next g.P.OneRun.stood g.P.OneRun.left g.P.OneRun.run.frame c.args.parts.now c.processes.process (c.processes.process + 1) (length (map (λ v. v.items) c.args.replies.items)) c.processes.ends.items c.push.new.self.items (map (λ v. v.items) (into_iter_items c.processes.one-iterator))
    (map (λ v. v.items) (into_iter_items c.next.new.self)) c.in-Some.one.items c.in_ok-end.end (omega arith) (ap (map (λ v. v.items)) left) (λ w is. (c.in_ok-end.ensures {u = tt}) w is) c.in_ok-push.ensures.items c.processes.invariant
