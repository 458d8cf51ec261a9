-- The objects stay in the order of their ids, so a read that leaves the state leaves the objects.
use Rattle.std.proofs.Common.{if◌then◌else◌, ◌≡◌, ℕ, zero, suc, Bool, true, false, cond, Option, Some, None, List, [], ◌∷◌, length, take, refl, sym, ap, ◌∙◌, subst}
use Rattle.std.specs.Prelude.{slice_get, T, ◌&&◌}
use Rattle.std.specs.declared.cmp.Ordering.{Ordering}
use Rattle.std.specs.declared.cmp.Ordering.TheVariants.{Less, Equal, Greater}
use Rattle.std.specs.Ordering.{is_eq, is_lt, match_ordering}
use Rattle.std.specs.FinMap.Entries.{below_all, is_sorted, is_sorted-put, put}
use Rattle.orca_base.specs.declared.ids.KindNo.{KindNo}
use Rattle.orca_base.specs.declared.ids.OpNo.{OpNo}
use Rattle.orca_base.specs.declared.ids.ObjectId.{ObjectId}
use Rattle.value_core.specs.Datum.{Data}
use Rattle.value_core.specs.Fits.{KeepsState}
use Rattle.value_core.specs.declared.action.Instance.{Instance}
use Rattle.value_core.specs.declared.action.Line.{Line}
use Rattle.value_core.specs.declared.message.Message.{Message}
use Rattle.value_core.specs.declared.action.Action.{Action}
use Rattle.value_core.specs.declared.action.Action.TheVariants as action
use Rattle.value_core.specs.declared.meaning.Making.{Making}
use Rattle.value_core.specs.declared.meaning.Making.TheVariants as making
use Rattle.value_core.specs.declared.meaning.Tried.{Tried}
use Rattle.value_core.specs.declared.meaning.Tried.TheVariants as tried
use Rattle.value_core.specs.Meaning.{Performs}
use Rattle.value_core.specs.History.{Answers, Objects, Performed, after_call, after_making, after_try, object_at, object_cmp, objects_after, with_object}
use Rattle.guard_queue.specs.declared.queue.Suspended.{Suspended}
use Rattle.guard_queue.specs.Settles.{Settling, next_ready, objects_if, performed, settle_up_to, stepped, tried_in}
use Rattle.guard_queue.proofs.Lookups.{object_total}
use Rattle.object_manager.specs.After.{Copied, acted, acted_by, after as after_applied, as_call, called, opening_copies}
use Rattle.object_manager.specs.Singles.{after_passed}
use Rattle.guard_queue.specs.Shown.{Rises}
use Rattle.book_law.specs.Passes.{Test, after, after_all, is_passed}
use Rattle.book_law.specs.Book.{copies_at}
use Rattle.book_law.specs.Events.{IsRead}

pub left : (a b : Bool) → T (a && b) → T a
left true b h = tt
left false b h = h

pub right : (a b : Bool) → T (a && b) → T b
right true b h = h
right false b h = absurd h

pub is_less : (o : Ordering) → T (is_lt o) → o ≡ Less
is_less Less h = refl
is_less Equal h = absurd h
is_less Greater h = absurd h

-- ---- the order stays

-- the map's insert is std's put
placed : (objects : Objects) (k : ObjectId) (v : Instance) → put object_cmp k v objects ≡ with_object objects k v
placed [] k v = refl
placed (e ∷ es) k v = elim (object_cmp k e.0) as (λ o. match_ordering o ((k, v) ∷ e ∷ es) ((e.0, v) ∷ es) (e ∷ put object_cmp k v es) ≡ match_ordering o ((k, v) ∷ e ∷ es) ((e.0, v) ∷ es) (e ∷ with_object es k v)) [
  | Less ↦ refl
  | Equal ↦ refl
  | Greater ↦ ap (λ (r : Objects). e ∷ r) (placed es k v)
]

pub ordered_with : (objects : Objects) (k : ObjectId) (v : Instance) → Rises objects → Rises (with_object objects k v)
ordered_with objects k v h = subst (λ (o : Objects). Rises o) (placed objects k v) (is_sorted-put object_cmp object_total k v objects h)

pub ordered_try : (objects : Objects) (k : ObjectId) (kept : Instance) (t : Tried) → Rises objects → Rises (after_try objects k kept t)
ordered_try objects k kept tried.Blocked h = h
ordered_try objects k kept (tried.Did guard state reply) h = ordered_with objects k (record { kind = kept.kind; state = state }) h
ordered_try objects k kept (tried.Broke guard fault) h = h

ordered_if : (objects : Objects) (call : Suspended) (t : Tried) (o : Option Instance) → Rises objects → Rises (objects_if objects call t o)
ordered_if objects call t None h = h
ordered_if objects call t (Some kept) h = ordered_try objects call.object kept t h

ordered_performed : (p : Performs) (s : Settling) (at : ℕ) (o : Option Suspended) → Rises s.objects → Rises (performed p s at o).objects
ordered_performed p s at None h = h
ordered_performed p s at (Some call) h = ordered_if s.objects call (tried_in p s.objects call) (object_at s.objects call.object) h

pub ordered_stepped : (p : Performs) (s : Settling) (o : Option ℕ) → Rises s.objects → Rises (stepped p s o).objects
ordered_stepped p s None h = h
ordered_stepped p s (Some at) h = ordered_performed p s at (slice_get s.queue at) h

pub ordered_settled : (p : Performs) (n : ℕ) (s : Settling) → Rises s.objects → Rises (settle_up_to p n s).objects
ordered_settled p zero s h = h
ordered_settled p (suc n) s h = ordered_settled p n (stepped p s (next_ready p s.objects s.queue)) (ordered_stepped p s (next_ready p s.objects s.queue) h)

pub ordered_making : (objects : Objects) (kind : KindNo) (object : ObjectId) (m : Making) → Rises objects → Rises (after_making objects kind object m)
ordered_making objects kind object (making.Made state) h = ordered_with objects object (record { kind = kind; state = state }) h
ordered_making objects kind object (making.Broke fault) h = h

pub ordered_called : (c : Copied) (call : Suspended) (t : Tried) → Rises c.objects → Rises (called c call t).objects
ordered_called c call tried.Blocked h = h
ordered_called c call (tried.Did guard state reply) h = ordered_if c.objects call (tried.Did guard state reply) (object_at c.objects call.object) h
ordered_called c call (tried.Broke guard fault) h = ordered_if c.objects call (tried.Broke guard fault) (object_at c.objects call.object) h

pub ordered_acted : (p : Performs) (c : Copied) (x : Message) (a : Action) → Rises c.objects → Rises (acted_by p c x a).objects
ordered_acted p c x (action.Make kind object) h = ordered_making c.objects kind object (p.made kind) h
ordered_acted p c x (action.Call kind op object args) h = ordered_called c (as_call x kind op object args) (tried_in p c.objects (as_call x kind op object args)) h
ordered_acted p c x (action.Fork text args place_on) h = h
ordered_acted p c x action.Ended h = h
ordered_acted p c x (action.Faulted fault) h = h

ordered_entry : (single : Test) (p : Performs) (c : Copied) (x : Message) → Rises c.objects → Rises (after single p c x).objects
ordered_entry single p c x h = go (is_passed single x.action)
  where
    go : (b : Bool) → Rises (if b then after_passed p false c x else after_applied p c x).objects
    go true = h
    go false =
        let s = acted p c x in
        ordered_settled p (length s.queue) (record { objects = s.objects; queue = s.queue; lines = [] }) (ordered_acted p c x x.action h)

ordered_all : (single : Test) (p : Performs) (c : Copied) (xs : List Message) → Rises c.objects → Rises (after_all single p c xs).objects
ordered_all single p c [] h = h
ordered_all single p c (x ∷ xs) h = ordered_all single p (after single p c x) xs (ordered_entry single p c x h)

pub copies_in_order : (single : Test) (p : Performs) (list : List Message) (n : ℕ) → Rises (copies_at single p list n).objects
copies_in_order single p list n = ordered_all single p opening_copies (take n list) tt

-- ---- the same state put in

-- what is below all isn't among them
pub absent : (k x : ObjectId) (es : Objects) → object_cmp k x ≡ Less → T (below_all object_cmp x es) → object_at es k ≡ None
absent k x [] lt h = refl
absent k x (e ∷ es) lt h =
    let o = object_total in
    let l : object_cmp k e.0 ≡ Less = o.trans k x e.0 lt (is_less (object_cmp x e.0) (left (is_lt (object_cmp x e.0)) (below_all object_cmp x es) h)) in
    ap (λ r. cond (is_eq r) (Some e.1) (object_at es k)) l ∙ absent k x es lt (right (is_lt (object_cmp x e.0)) (below_all object_cmp x es) h)

same_state : (objects : Objects) (k : ObjectId) (v : Instance) → Rises objects → object_at objects k ≡ Some v → with_object objects k v ≡ objects
same_state [] k v h is = absurd (cc is)
same_state (e ∷ es) k v h is =
    elim (object_cmp k e.0) as (λ r. object_cmp k e.0 ≡ r → cond (is_eq r) (Some e.1) (object_at es k) ≡ Some v → match_ordering r ((k, v) ∷ e ∷ es) ((e.0, v) ∷ es) (e ∷ with_object es k v) ≡ e ∷ es) [
      | Less ↦ λ lt found. let none : None ≡ Some v = sym (absent k e.0 es lt (left (below_all object_cmp e.0 es) (is_sorted object_cmp es) h)) ∙ found in absurd (cc none)
      | Equal ↦ λ eq found. let f : v ≡ e.1 = cc in ap (λ (w : Instance). (e.0, w) ∷ es) f
      | Greater ↦ λ gt found. ap (λ (r : Objects). e ∷ r) (same_state es k v (right (below_all object_cmp e.0 es) (is_sorted object_cmp es) h) found)
    ] refl is

-- a try that leaves the state leaves the objects
leaves : (objects : Objects) (k : ObjectId) (kept : Instance) (t : Tried) → Rises objects → object_at objects k ≡ Some kept → KeepsState t (λ state. state ≡ kept.state) → after_try objects k kept t ≡ objects
leaves objects k kept tried.Blocked h is same = refl
leaves objects k kept (tried.Did guard state reply) h is same =
    ap (λ (d : Data). with_object objects k (record { kind = kept.kind; state = d })) same ∙ same_state objects k kept h is
leaves objects k kept (tried.Broke guard fault) h is same = refl

-- a call that isn't blocked and leaves the object's state is a read
pub is_read : (single : Test) (p : Performs) (objects : Objects) (kind : KindNo) (op : OpNo) (object : ObjectId) (args : Data) (kept : Instance) (line : Line) → Rises objects → single object ≡ false → line.action ≡ action.Call kind op object args → object_at objects object ≡ Some kept
    → Answers (p.tries kind op kept.state args) line.guard line.reply → KeepsState (p.tries kind op kept.state args) (λ state. state ≡ kept.state) → IsRead single p objects line
is_read single p objects kind op object args kept line h shared is there answers same = record {
  kind = kind;
  op = op;
  object = object;
  args = args;
  is = is;
  performed = subst (λ (a : Action). Performed p objects a line.guard line.reply) (sym is) (kept, there, answers);
  shared = shared;
  keeps = ap (λ (o : Objects). object_at o object) (ap (objects_after p objects) is ∙ ap (λ (o : Option Instance). after_call p objects kind op object args o) there ∙ leaves objects object kept (p.tries kind op kept.state args) h there same);
}
