use Rattle.std.proofs.Common.{◌≡◌, ◌∙◌, List, Option, Some, ap, arith, subst, sym}
use Rattle.orca_base.specs.declared.ids.ObjectId.{ObjectId}
use Rattle.value_core.specs.History.{Objects, with_object}
use Rattle.guard_queue.specs.declared.queue.Suspended.{Suspended}
use Rattle.guard_queue.specs.Rounds.{OthersBlocked}
use Rattle.guard_queue.specs.Settles.{AllBlocked, stands}
use Rattle.guard_queue.specs.Waits.{IsWaitingOn}
use Rattle.guard_queue.proofs.Blocked.{none_on, others_put, settled_stays}
use Rattle.guard_queue.proofs.settling.settle_with.Goals as goal

pub returns-then-not-has_on-clause-ok : goal.returns-then-not-has_on-clause-ok
returns-then-not-has_on-clause-ok g c =
    let p = g.P.Performer.performs c.args.by.now in
    let objects = c.args.objects.now in
    let queue = c.args.queue.now in
    let none : IsWaitingOn queue c.args.object → ⊥ = λ w. let there = c.has_on.ensures.1 w in let told = c.if-not-has_on.true in grind (arith, there, told) in
    let all = none_on p objects queue c.args.object c.args.kept c.requires.blocked none in
    let put : c.put.new.self ≡ with_object objects c.args.object c.args.kept = (c.in_ok-put.ensures {u = tt}).ok in
    ap (λ o. stands o queue c.args.lines) put ∙ sym (settled_stays p (stands (with_object objects c.args.object c.args.kept) queue c.args.lines) all)

pub returns-then-not-has_on-clause-blocked : goal.returns-then-not-has_on-clause-blocked
returns-then-not-has_on-clause-blocked g c =
    let p = g.P.Performer.performs c.args.by.now in
    let objects = c.args.objects.now in
    let queue = c.args.queue.now in
    let none : IsWaitingOn queue c.args.object → ⊥ = λ w. let there = c.has_on.ensures.1 w in let told = c.if-not-has_on.true in grind (arith, there, told) in
    let all = none_on p objects queue c.args.object c.args.kept c.requires.blocked none in
    let put : c.put.new.self ≡ with_object objects c.args.object c.args.kept = (c.in_ok-put.ensures {u = tt}).ok in
    subst (λ (o : Objects). AllBlocked p o queue) (sym put) all

pub settle-requires-clause-others : goal.settle-requires-clause-others
settle-requires-clause-others g c =
    let p = g.P.Performer.performs c.args.by.now in
    let objects = c.args.objects.now in
    let queue = c.args.queue.now in
    let same : c.in_ok-copy.field-0 ≡ objects = c.in_ok-copy.ensures {u = tt} ∙ c.gather.ensures in
    let put : c.put-2.new.self ≡ with_object objects c.args.object c.args.kept = (c.in_ok-put-2.ensures {u = tt}).ok ∙ ap (λ o. with_object o c.args.object c.args.kept) same in
    let waits : c.in_ok-copy-2.field-0 ≡ queue = c.in_ok-copy-2.ensures {u = tt} in
    let on : Option ObjectId = Some c.args.object in
    subst (λ (q : List Suspended). OthersBlocked p c.put-2.new.self q on) (sym waits)
    (subst (λ (o : Objects). OthersBlocked p o queue on) (sym put) (others_put p objects queue c.args.object c.args.kept c.requires.blocked))
