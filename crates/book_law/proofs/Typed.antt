-- Objects by their types, and what a process made.
use Rattle.std.proofs.Common.{◌≡◌, zero, suc, ◌⊎◌, inl, inr, Bool, true, false, cond, Some, List, [], ◌∷◌, ◌++◌, refl, sym, ap, ◌∙◌, arith, subst, append-nil, append_assoc}
use Rattle.std.specs.Prelude.{T}
use Rattle.std.specs.List.{Contains}
use Rattle.std.specs.declared.cmp.Ordering.{Ordering}
use Rattle.std.specs.declared.cmp.Ordering.TheVariants.{Less, Equal, Greater}
use Rattle.std.specs.Ordering.{is_eq, is_lt, ordering_reverse}
use Rattle.std.specs.Cmp.{tied_itself}
use Rattle.std.specs.BTreeMap.{is_at}
use Rattle.std.specs.FinMap.Entries.{below_all, is_sorted}
use Rattle.orca_base.specs.declared.ids.KindNo.{KindNo}
use Rattle.orca_base.specs.declared.ids.TextNo.{TextNo}
use Rattle.orca_base.specs.declared.ids.ProcessNo.{ProcessNo}
use Rattle.orca_base.specs.declared.ids.ObjectId.{ObjectId}
use Rattle.value_core.specs.Datum.{Data}
use Rattle.value_core.specs.Fits.{Kinds}
use Rattle.value_core.specs.Lawful.{made_by, next_of, own_from}
use Rattle.value_core.specs.declared.action.Instance.{Instance}
use Rattle.value_core.specs.declared.action.Reply.{Reply}
use Rattle.value_core.specs.Meaning.{Computes}
use Rattle.value_core.specs.History.{Objects, object_at, object_cmp, with_object}
use Rattle.guard_queue.specs.Fitting.{kind_at, kind_in, kinds_of}
use Rattle.guard_queue.proofs.KindsStay.{contains_here, contains_there}
use Rattle.guard_queue.proofs.Lookups.{exact_objects, object_at-with_object, object_total}
use Rattle.guard_queue.specs.Shown.{Rises}
use Rattle.book_law.proofs.Ordered.{is_less, left, right}

-- ---- what a process made, with one reply more

pub own-push : (q : Computes) (text : TextNo) (number : ProcessNo) (args : Data) (before replies : List Reply) (reply : Reply)
    → own_from q text number args before (replies ++ reply ∷ []) ≡ own_from q text number args before replies ++ made_by (next_of q text number args (before ++ replies)) reply
own-push q text number args before [] reply =
    append-nil (made_by (next_of q text number args before) reply) ∙ ap (λ (rs : List Reply). made_by (next_of q text number args rs) reply) (sym (append-nil before))
own-push q text number args before (r ∷ replies) reply =
    let here = made_by (next_of q text number args before) r in
    let rest = own_from q text number args (before ++ r ∷ []) replies in
    ap (λ (ks : Kinds). here ++ ks) (own-push q text number args (before ++ r ∷ []) replies reply ∙ ap (λ (rs : List Reply). rest ++ made_by (next_of q text number args rs) reply) (append_assoc before (r ∷ []) replies))
    ∙ sym (append_assoc here rest (made_by (next_of q text number args (before ++ r ∷ replies)) reply))

-- ---- types

below_in : (x k : ObjectId) (kind : KindNo) (es : Objects) → T (below_all object_cmp x es) → Contains (kinds_of es) (k, kind) → object_cmp x k ≡ Less
below_in x k kind [] h (at, lt, is) = absurd (omega arith)
below_in x k kind (e ∷ es) h (zero, lt, is) =
    let f : e.0 ≡ k = ap (λ (y : ObjectId × KindNo). y.0) is in
    ap (object_cmp x) (sym f) ∙ is_less (object_cmp x e.0) (left (is_lt (object_cmp x e.0)) (below_all object_cmp x es) h)
below_in x k kind (e ∷ es) h (suc at, lt, is) = below_in x k kind es (right (is_lt (object_cmp x e.0)) (below_all object_cmp x es) h) (at, omega arith, is)

-- among objects in order the type of an id is the one that stands with it
pub kind_found : (objects : Objects) (object : ObjectId) (kind : KindNo) → Rises objects → Contains (kinds_of objects) (object, kind) → kind_at objects object ≡ Some kind
kind_found [] object kind h (at, lt, is) = absurd (omega arith)
kind_found (e ∷ es) object kind h (zero, lt, is) =
    let f : e.0 ≡ object = ap (λ (y : ObjectId × KindNo). y.0) is in
    let g : e.1.kind ≡ kind = ap (λ (y : ObjectId × KindNo). y.1) is in
    ap (λ o. kind_in (cond (is_eq o) (Some e.1) (object_at es object))) (ap (object_cmp object) f ∙ tied_itself object_total object) ∙ ap (λ (k : KindNo). Some k) g
kind_found (e ∷ es) object kind h (suc at, lt, is) =
    let there : Contains (kinds_of es) (object, kind) = (at, omega arith, is) in
    let l = below_in e.0 object kind es (left (below_all object_cmp e.0 es) (is_sorted object_cmp es) h) there in
    let t = object_total in
    ap (λ o. kind_in (cond (is_eq o) (Some e.1) (object_at es object))) (t.antisymm object e.0 ∙ ap ordering_reverse l)
    ∙ kind_found es object kind (right (below_all object_cmp e.0 es) (is_sorted object_cmp es) h) there

pub is_equal : (o : Ordering) → is_eq o ≡ true → o ≡ Equal
is_equal Less h = absurd (cc h)
is_equal Equal h = refl
is_equal Greater h = absurd (cc h)

pub kind_contained : (objects : Objects) (object : ObjectId) (kind : KindNo) → kind_at objects object ≡ Some kind → Contains (kinds_of objects) (object, kind)
kind_contained [] object kind is = absurd (cc is)
kind_contained (e ∷ es) object kind is = go (is_eq (object_cmp object e.0)) refl is (kind_contained es object kind)
  where
    go : (b : Bool) → is_eq (object_cmp object e.0) ≡ b → kind_in (cond b (Some e.1) (object_at es object)) ≡ Some kind → (kind_at es object ≡ Some kind → Contains (kinds_of es) (object, kind)) → Contains (kinds_of (e ∷ es)) (object, kind)
    go true h f ih =
        let same : object ≡ e.0 = exact_objects object e.0 (is_equal (object_cmp object e.0) h) in
        let g : e.1.kind ≡ kind = cc in
        subst (λ (y : ObjectId × KindNo). Contains (kinds_of (e ∷ es)) y) (ap (λ (o : ObjectId). (o, e.1.kind)) (sym same) ∙ ap (λ (k : KindNo). (object, k)) g) (contains_here (e.0, e.1.kind) (kinds_of es))
    go false h f ih = contains_there (e.0, e.1.kind) (kinds_of es) (object, kind) (ih f)

-- what is found where an object was put in
pub at_with : (objects : Objects) (object : ObjectId) (v : Instance) (q : ObjectId)
    → ((q ≡ object) × (object_at (with_object objects object v) q ≡ Some v)) ⊎ (object_at (with_object objects object v) q ≡ object_at objects q)
at_with objects object v q = go (is_at (object_cmp q) object) refl
  where
    go : (b : Bool) → is_at (object_cmp q) object ≡ b → ((q ≡ object) × (object_at (with_object objects object v) q ≡ Some v)) ⊎ (object_at (with_object objects object v) q ≡ object_at objects q)
    go true h = inl (exact_objects q object (is_equal (object_cmp q object) h), object_at-with_object objects object v q ∙ ap (λ b. cond b (Some v) (object_at objects q)) h)
    go false h = inr (object_at-with_object objects object v q ∙ ap (λ b. cond b (Some v) (object_at objects q)) h)

pub at_itself : (objects : Objects) (object : ObjectId) (v : Instance) → object_at (with_object objects object v) object ≡ Some v
at_itself objects object v = object_at-with_object objects object v object ∙ ap (λ o. cond (is_eq o) (Some v) (object_at objects object)) (tied_itself object_total object)
