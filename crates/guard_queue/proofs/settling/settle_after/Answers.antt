use Rattle.std.proofs.Common.{◌≡◌, ◌∷◌, ◌++◌, ◌∙◌, [], List, ap, subst, sym}
use Rattle.std.proofs.lemmas.Result.{IfOk-weaker}
use Rattle.value_core.specs.declared.meaning.Tried.TheVariants as tried
use Rattle.guard_queue.specs.declared.queue.Suspended.{Suspended}
use Rattle.guard_queue.specs.declared.change.Change.{Change}
use Rattle.guard_queue.specs.Changes.{JoinsBlocked}
use Rattle.guard_queue.specs.Settles.{AllBlocked, stands, tried_in}
use Rattle.guard_queue.proofs.Blocked.{blocked_last}
use Rattle.guard_queue.proofs.Changed.{by_joining, by_nothing, by_putting}
use Rattle.guard_queue.proofs.settling.settle_after.Goals as goal

pub returns-in-Nothing-clause-ok : goal.returns-in-Nothing-clause-ok
returns-in-Nothing-clause-ok g c =
    by_nothing (g.P.Performer.performs c.args.performer.now) c.args.objects.now c.args.queue.now c.args.lines c.args.change c.in-Nothing.is c.requires.blocked

pub returns-in_ok-push-in-Joins-clause-ok : goal.returns-in_ok-push-in-Joins-clause-ok
returns-in_ok-push-in-Joins-clause-ok g c =
    let p = g.P.Performer.performs c.args.performer.now in
    let call = c.in-Joins.call in
    let pushed : c.push.new.self ≡ c.args.queue.now ++ call ∷ [] = (c.in_ok-push-in-Joins.ensures {u = tt}).ok in
    let blocked : tried_in p c.args.objects.now call ≡ tried.Blocked = subst (λ (d : Change). JoinsBlocked p c.args.objects.now d) c.in-Joins.is c.requires.joins in
    ap (λ (q : List Suspended). stands c.args.objects.now q c.args.lines) pushed ∙ by_joining p c.args.objects.now c.args.queue.now c.args.lines c.args.change call c.in-Joins.is c.requires.blocked blocked

pub returns-in_ok-push-in-Joins-clause-blocked : goal.returns-in_ok-push-in-Joins-clause-blocked
returns-in_ok-push-in-Joins-clause-blocked g c =
    let p = g.P.Performer.performs c.args.performer.now in
    let call = c.in-Joins.call in
    let pushed : c.push.new.self ≡ c.args.queue.now ++ call ∷ [] = (c.in_ok-push-in-Joins.ensures {u = tt}).ok in
    let blocked : tried_in p c.args.objects.now call ≡ tried.Blocked = subst (λ (d : Change). JoinsBlocked p c.args.objects.now d) c.in-Joins.is c.requires.joins in
    subst (λ (q : List Suspended). AllBlocked p c.args.objects.now q) (sym pushed) (blocked_last p c.args.objects.now c.args.queue.now call c.requires.blocked blocked)

pub returns-in-Puts-clause-ok : goal.returns-in-Puts-clause-ok
returns-in-Puts-clause-ok g c =
    let p = g.P.Performer.performs c.args.performer.now in
    IfOk-weaker c.settle_with.result _ _ (λ all put. by_putting p c.args.objects.now c.args.queue.now c.args.lines c.args.change c.in-Puts.object c.in-Puts.kept (stands c.settle_with.new.objects c.settle_with.new.queue all) c.in-Puts.is put) c.settle_with.ensures.ok
