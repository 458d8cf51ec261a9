-- A call is its object's own: from the law of settling, by what the call's try gives.
use Rattle.std.proofs.Common.{◌≡◌, List, [], ◌∷◌, ◌++◌, ap, ◌∙◌, sym, refl, subst}
use Rattle.orca_base.specs.declared.ids.KindNo.{KindNo}
use Rattle.orca_base.specs.declared.ids.OpNo.{OpNo}
use Rattle.orca_base.specs.declared.ids.ObjectId.{ObjectId}
use Rattle.value_core.specs.Datum.{Data}
use Rattle.value_core.specs.declared.action.Action.TheVariants as action
use Rattle.value_core.specs.declared.action.Line.{Line}
use Rattle.value_core.specs.declared.message.Message.{Message}
use Rattle.value_core.specs.declared.meaning.Tried.{Tried}
use Rattle.value_core.specs.declared.meaning.Tried.TheVariants as tried
use Rattle.value_core.specs.Meaning.{Performs}
use Rattle.value_core.specs.History.{Objects, object_at}
use Rattle.guard_queue.specs.declared.queue.Suspended.{Suspended}
use Rattle.guard_queue.specs.Apart.{Apart, CallApart, calls_on}
use Rattle.guard_queue.specs.Settles.{Settling, answered, objects_with, settled, tried_in}
use Rattle.guard_queue.proofs.Apart.{calls_apart}
use Rattle.object_manager.specs.After.{Copied, acted, acted_by, as_call, called, settled_after}
use Rattle.object_manager.specs.Apart.{AfterApart}

-- what the call itself does on the copies and on its object alone, x and y, and then both settle
record Alike (p : Performs) (c : Copied) (object : ObjectId) (x y : Settling) : Type 0 where
  first : x.lines ≡ y.lines
  lines : (settled_after p x).lines ≡ (settled_after p y).lines
  kept : object_at (settled_after p x).objects object ≡ object_at (settled_after p y).objects object
  queue : calls_on object (settled_after p x).queue ≡ (settled_after p y).queue
  others : (id : ObjectId) → (id ≡ object → ⊥) → (object_at (settled_after p x).objects id ≡ object_at c.objects id) × (calls_on id (settled_after p x).queue ≡ calls_on id c.queue)

abbrev standing : Objects → List Suspended → List Line → Settling
standing objects queue lines = record { objects = objects; queue = queue; lines = lines }

alike : (p : Performs) (c : Copied) (object : ObjectId) (objects own : Objects) (queue waits : List Suspended) (lines : List Line) → Apart p objects queue object own → calls_on object queue ≡ waits
    → ((id : ObjectId) → (id ≡ object → ⊥) → (object_at objects id ≡ object_at c.objects id) × (calls_on id queue ≡ calls_on id c.queue))
    → Alike p c object (standing objects queue lines) (standing own waits lines)
alike p c object objects own queue waits lines apart same stay = record {
  first = refl;
  lines = apart.lines ∙ ap (λ w. (settled p own w).lines) same;
  kept = apart.kept ∙ ap (λ w. object_at (settled p own w).objects object) same;
  queue = apart.queue ∙ ap (λ w. (settled p own w).queue) same;
  others = λ id differ. (let a = apart.others id differ in let b = stay id differ in (a.0 ∙ b.0, a.1 ∙ b.1));
}

module _ (p : Performs) (c alone : Copied) (call : Suspended) (a : CallApart p c.objects c.queue call alone.objects) (waits : calls_on call.object c.queue ≡ alone.queue) where
  performed : (t : Tried) → tried_in p c.objects call ≡ t → tried_in p alone.objects call ≡ t
      → Alike p c call.object (standing (objects_with c.objects call t) c.queue (answered call t ∷ [])) (standing (objects_with alone.objects call t) alone.queue (answered call t ∷ []))
  performed t is is_alone =
      let one : Apart p (objects_with c.objects call t) c.queue call.object (objects_with alone.objects call (tried_in p alone.objects call)) =
      subst (λ u. Apart p (objects_with c.objects call u) c.queue call.object (objects_with alone.objects call (tried_in p alone.objects call))) is a.performed in
      let both : Apart p (objects_with c.objects call t) c.queue call.object (objects_with alone.objects call t) =
      subst (λ u. Apart p (objects_with c.objects call t) c.queue call.object (objects_with alone.objects call u)) is_alone one in
      alike p c call.object (objects_with c.objects call t) (objects_with alone.objects call t) c.queue alone.queue (answered call t ∷ []) both waits
      (λ id apart. (ap (λ u. object_at (objects_with c.objects call u) id) (sym is) ∙ (a.others id apart).0, refl))

  by_try : (t : Tried) → tried_in p c.objects call ≡ t → tried_in p alone.objects call ≡ t → Alike p c call.object (called c call t) (called alone call t)
  by_try tried.Blocked is is_alone =
      alike p c call.object c.objects alone.objects (c.queue ++ call ∷ []) (alone.queue ++ call ∷ []) [] (a.joined is) (a.newest ∙ ap (λ q. q ++ call ∷ []) waits)
      (λ id apart. (refl, (a.others id apart).1))
  by_try (tried.Did guard state reply) is is_alone = performed (tried.Did guard state reply) is is_alone
  by_try (tried.Broke guard fault) is is_alone = performed (tried.Broke guard fault) is is_alone

  tried_both : Alike p c call.object (called c call (tried_in p c.objects call)) (called alone call (tried_in p alone.objects call))
  tried_both =
      subst (λ u. Alike p c call.object (called c call (tried_in p c.objects call)) (called alone call u)) (sym a.tried_alike) (by_try (tried_in p c.objects call) refl a.tried_alike)

-- what a message does is what its action does
acts_as : (p : Performs) (c alone : Copied) (message : Message) (kind : KindNo) (op : OpNo) (object : ObjectId) (args : Data) → message.action ≡ action.Call kind op object args
    → Alike p c object (acted_by p c message (action.Call kind op object args)) (acted_by p alone message (action.Call kind op object args)) → Alike p c object (acted p c message) (acted p alone message)
acts_as p c alone message kind op object args is same = subst (λ act. Alike p c object (acted_by p c message act) (acted_by p alone message act)) (sym is) same

pub after_apart : (p : Performs) → AfterApart p
after_apart p c alone message kind op object args is all kept waits =
    let call = as_call message kind op object args in
    let a : CallApart p c.objects c.queue call alone.objects = calls_apart p c.objects c.queue call all alone.objects (sym kept) in
    let same : Alike p c object (acted p c message) (acted p alone message) = acts_as p c alone message kind op object args is (tried_both p c alone call a waits) in
    record {
      lines = (λ i. same.first i ++ same.lines i);
      kept = same.kept;
      queue = same.queue;
      others = same.others;
    }
