use Rattle.std.proofs.Common.{◌≡◌, ◌∷◌, ◌++◌, ◌∙◌, [], List, ap, arith, subst}
use Rattle.std.specs.Prelude.{IsTrue}
use Rattle.value_core.specs.History.{Objects}
use Rattle.guard_queue.specs.declared.queue.Suspended.{Suspended}
use Rattle.bag_copies.specs.Fits.{HasObject}
use Rattle.bag_copies.proofs.One.{one_fits}
use Rattle.bag_copies.proofs.entries.settle_on.Goals as goal

pub settle-requires : goal.settle-requires
settle-requires c =
    let now = c.args.copies.now in
    let call = c.args.call in
    let same : c.in_ok-objects.objects ≡ now.objects = c.in_ok-objects.ensures {u = tt} ∙ c.objects-2.ensures.objects in
    let alone : c.push.new.self ≡ call ∷ [] = (c.in_ok-push.ensures {u = tt}).ok ∙ ap (λ (q : List Suspended). q ++ call ∷ []) c.new-queue.ensures in
    let is_there : IsTrue c.has.result = (let told = c.if-not-has.false in grind (arith, told)) in
    let fits : IsTrue c.fits.result = (let told = c.if-not-fits.false in grind (arith, told)) in
    let P : Objects → Type 0 = λ o. HasObject o call.kind call.object in
    one_fits now c.in_ok-objects.objects c.push.new.self call c.requires.0 same alone (subst P c.objects.ensures.objects (c.has.ensures.0 is_there)) (c.fits.ensures.0 fits)
