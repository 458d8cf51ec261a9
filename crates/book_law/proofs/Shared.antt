-- The copies that entries make hold no single object.
use Rattle.std.proofs.Common.{◌≡◌, ℕ, zero, suc, ⊎_elim, Bool, true, false, Option, Some, None, List, [], ◌∷◌, length, take, refl, sym, ap, ◌∙◌, if◌then◌else◌}
use Rattle.std.specs.Prelude.{slice_get}
use Rattle.value_core.specs.Datum as datum
use Rattle.orca_base.specs.declared.ids.ObjectId.{ObjectId}
use Rattle.value_core.specs.declared.action.Instance.{Instance}
use Rattle.value_core.specs.declared.message.Message.{Message}
use Rattle.value_core.specs.declared.action.Action.{Action}
use Rattle.value_core.specs.declared.action.Action.TheVariants as action
use Rattle.value_core.specs.declared.meaning.Tried.{Tried}
use Rattle.value_core.specs.declared.meaning.Tried.TheVariants as tried
use Rattle.value_core.specs.Meaning.{Performs}
use Rattle.value_core.specs.History.{Objects, after_try, object_at, output_kind, output_object}
use Rattle.guard_queue.specs.declared.queue.Suspended.{Suspended}
use Rattle.guard_queue.specs.Settles.{Settling, next_ready, objects_if, performed, settle_up_to, stepped, tried_in}
use Rattle.object_manager.specs.After.{Copied, acted, acted_by, after as after_applied, as_call, called, opening_copies}
use Rattle.object_manager.specs.Singles.{after_passed}
use Rattle.book_law.specs.Passes.{Test, after, after_all, is_passed}
use Rattle.book_law.specs.Book.{copies_at}
use Rattle.book_law.proofs.Objects.{same_id, untouched_making, untouched_try}
use Rattle.book_law.proofs.Typed.{at_with}

abbrev pub AllShared : Test → Objects → Type 0
AllShared single objects = (o : ObjectId) → single o ≡ true → object_at objects o ≡ None

shared_try : (single : Test) (objects : Objects) (k : ObjectId) (kept : Instance) (t : Tried) → object_at objects k ≡ Some kept → AllShared single objects → AllShared single (after_try objects k kept t)
shared_try single objects k kept t is h o single_o = ⊎_elim
    (λ (e : o ≡ k). let f : None ≡ Some kept = sym (h o single_o) ∙ ap (object_at objects) e ∙ is in absurd (cc f))
    (λ apart. untouched_try objects k kept t o apart ∙ h o single_o) (same_id o k)

shared_if : (single : Test) (objects : Objects) (call : Suspended) (t : Tried) (o : Option Instance) → object_at objects call.object ≡ o → AllShared single objects → AllShared single (objects_if objects call t o)
shared_if single objects call t None is h = h
shared_if single objects call t (Some kept) is h = shared_try single objects call.object kept t is h

shared_performed : (single : Test) (p : Performs) (s : Settling) (at : ℕ) (o : Option Suspended) → AllShared single s.objects → AllShared single (performed p s at o).objects
shared_performed single p s at None h = h
shared_performed single p s at (Some call) h = shared_if single s.objects call (tried_in p s.objects call) (object_at s.objects call.object) refl h

shared_stepped : (single : Test) (p : Performs) (s : Settling) (o : Option ℕ) → AllShared single s.objects → AllShared single (stepped p s o).objects
shared_stepped single p s None h = h
shared_stepped single p s (Some at) h = shared_performed single p s at (slice_get s.queue at) h

shared_settled : (single : Test) (p : Performs) (n : ℕ) (s : Settling) → AllShared single s.objects → AllShared single (settle_up_to p n s).objects
shared_settled single p zero s h = h
shared_settled single p (suc n) s h = shared_settled single p n (stepped p s (next_ready p s.objects s.queue)) (shared_stepped single p s (next_ready p s.objects s.queue) h)

shared_called : (single : Test) (c : Copied) (call : Suspended) (t : Tried) → AllShared single c.objects → AllShared single (called c call t).objects
shared_called single c call tried.Blocked h = h
shared_called single c call (tried.Did guard state reply) h = shared_if single c.objects call (tried.Did guard state reply) (object_at c.objects call.object) refl h
shared_called single c call (tried.Broke guard fault) h = shared_if single c.objects call (tried.Broke guard fault) (object_at c.objects call.object) refl h

shared_acted : (single : Test) (p : Performs) (c : Copied) (x : Message) (a : Action) → is_passed single a ≡ false → AllShared single c.objects → AllShared single (acted_by p c x a).objects
shared_acted single p c x (action.Make kind object) is h = λ o single_o. untouched_making c.objects kind object (p.made kind) o (λ (e : o ≡ object). let f : true ≡ false = sym single_o ∙ ap single e ∙ is in absurd (cc f)) ∙ h o single_o
shared_acted single p c x (action.Call kind op object args) is h = shared_called single c (as_call x kind op object args) (tried_in p c.objects (as_call x kind op object args)) h
shared_acted single p c x (action.Fork text args place_on) is h = h
shared_acted single p c x action.Ended is h = h
shared_acted single p c x (action.Faulted fault) is h = h

shared_entry : (single : Test) (p : Performs) (c : Copied) (x : Message) → AllShared single c.objects → AllShared single (after single p c x).objects
shared_entry single p c x h = go (is_passed single x.action) refl
  where
    go : (b : Bool) → is_passed single x.action ≡ b → AllShared single (if b then after_passed p false c x else after_applied p c x).objects
    go true e = h
    go false e =
        let s = acted p c x in
        shared_settled single p (length s.queue) (record { objects = s.objects; queue = s.queue; lines = [] }) (shared_acted single p c x x.action e h)

shared_all : (single : Test) (p : Performs) (c : Copied) (xs : List Message) → AllShared single c.objects → AllShared single (after_all single p c xs).objects
shared_all single p c [] h = h
shared_all single p c (x ∷ xs) h = shared_all single p (after single p c x) xs (shared_entry single p c x h)

pub copies_shared : (single : Test) (p : Performs) (list : List Message) (n : ℕ) → single output_object ≡ false → AllShared single (copies_at single p list n).objects
copies_shared single p list n output = shared_all single p opening_copies (take n list) (λ o is. ⊎_elim
    (λ v. let e : true ≡ false = sym is ∙ ap single v.0 ∙ output in absurd (cc e)) (λ v. v)
    (at_with [] output_object (record { kind = output_kind; state = datum.none }) o))
