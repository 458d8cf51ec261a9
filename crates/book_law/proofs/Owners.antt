-- An owner does to its copies what a call does to the single copy by itself.
use Rattle.std.proofs.Common.{◌≡◌, Option, Some, [], refl, sym, ap, ◌∙◌, subst, length}
use Rattle.orca_base.specs.declared.ids.ObjectId.{ObjectId}
use Rattle.value_core.specs.declared.action.Instance.{Instance}
use Rattle.value_core.specs.declared.meaning.Tried.{Tried}
use Rattle.value_core.specs.declared.meaning.Tried.TheVariants as tried
use Rattle.value_core.specs.Meaning.{Performs}
use Rattle.value_core.specs.History.{object_at}
use Rattle.guard_queue.specs.Fitting.{kind_at, kind_in}
use Rattle.guard_queue.specs.Apart.{calls_on}
use Rattle.guard_queue.specs.Settles.{tried_in}
use Rattle.guard_queue.specs.declared.queue.Suspended.{Suspended}
use Rattle.guard_queue.proofs.KindsAt.{settled_keeps, with_keeps}
use Rattle.object_manager.specs.After.{Copied, called}
use Rattle.object_manager.specs.Apart.{AfterAlike}
use Rattle.object_manager.specs.Singles.{after_single, side}
use Rattle.object_manager.proofs.Apart.{after_apart}
use Rattle.book_law.specs.Owners.{OwnersDoAlike}
use Rattle.object_manager.specs.State.{message_of}
use Rattle.book_law.specs.Singles.{Single, after_on, alone, kept_or}
use Rattle.book_law.proofs.Fitting.{has_kind}
use Rattle.book_law.proofs.Typed.{at_itself}

called_kind : (c : Copied) (call : Suspended) (t : Tried) (q : ObjectId) → kind_at (called c call t).objects q ≡ kind_at c.objects q
called_kind c call tried.Blocked q = refl
called_kind c call (tried.Did guard state reply) q = with_keeps c.objects call (tried.Did guard state reply) q
called_kind c call (tried.Broke guard fault) q = with_keeps c.objects call (tried.Broke guard fault) q

-- the object is there after a call on it alone, by its type
kinds_after : (p : Performs) (x : Single) (call : Suspended) → kind_at (after_single p (alone x) (message_of call)).own x.object ≡ Some x.kept.kind
kinds_after p x call =
    let here = side (alone x) in
    let s = called here call (tried_in p here.objects call) in
    settled_keeps p (length s.queue) (record { objects = s.objects; queue = s.queue; lines = [] }) x.object ∙ called_kind here call (tried_in p here.objects call) x.object
    ∙ ap (λ (o : Option Instance). kind_in o) (at_itself [] x.object x.kept)

pub there_after : (p : Performs) (x : Single) (call : Suspended) → object_at (after_single p (alone x) (message_of call)).own x.object ≡ Some (after_on p x call).kept
there_after p x call =
    let there = has_kind (object_at (after_single p (alone x) (message_of call)).own x.object) x.kept.kind (kinds_after p x call) in
    let kept_is : there.0 ≡ (after_on p x call).kept = sym (ap (λ (o : Option Instance). kept_or o x.kept) there.1) in
    there.1 ∙ ap (λ (k : Instance). Some k) kept_is

pub kind_after : (p : Performs) (x : Single) (call : Suspended) → (after_on p x call).kept.kind ≡ x.kept.kind
kind_after p x call =
    let e : Some (after_on p x call).kept.kind ≡ Some x.kept.kind = ap kind_in (sym (there_after p x call)) ∙ kinds_after p x call in cc

pub owners_do_alike : OwnersDoAlike
owners_do_alike p c x call is blocked keeps =
    let m = message_of call in
    let same : object_at (side c).objects call.object ≡ object_at (side (alone x)).objects call.object =
    ap (object_at c.own) is ∙ keeps.state ∙ sym (at_itself [] x.object x.kept) ∙ ap (object_at (side (alone x)).objects) (sym is) in
    let queue : calls_on call.object (side c).queue ≡ x.queue = ap (λ (o : ObjectId). calls_on o c.waits) is ∙ keeps.queue in
    let a = after_apart p (side c) (side (alone x)) m call.kind call.op call.object call.args refl blocked same queue in
    let b : AfterAlike p (side c) (side (alone x)) m x.object = subst (λ (o : ObjectId). AfterAlike p (side c) (side (alone x)) m o) is a in
    record {
      lines = b.lines;
      keeps = record { state = b.kept ∙ there_after p x call; queue = b.queue };
      others = b.others;
    }
