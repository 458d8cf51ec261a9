-- What is found where an object was put in.
use Rattle.std.proofs.Common.{◌≡◌, ℕ, true, cond, [], ◌∷◌, Some, ap, ◌∙◌, sym, refl}
use Rattle.std.specs.declared.cmp.Ordering.{Ordering}
use Rattle.std.specs.declared.cmp.Ordering.TheVariants.{Less, Equal, Greater}
use Rattle.std.specs.Cmp.{IsTotalOrder}
use Rattle.std.specs.Ordering.{is_eq, match_ordering, nat_cmp}
use Rattle.std.specs.BTreeMap.{is_at}
use Rattle.std.specs.FinMap.Entries.{find, put, find-put}
use Rattle.std.proofs.lemmas.Map.Lookups.{CmpEqualImpliesEq, exact_pairs, exact_unsigned}
use Rattle.std.proofs.lemmas.Cmp.{on_total, then_total, nat_cmp_total}
use Rattle.orca_base.specs.declared.ids.ObjectId.{ObjectId}
use Rattle.value_core.specs.declared.action.Instance.{Instance}
use Rattle.value_core.specs.History.{Objects, object_cmp, object_at, with_object}

pub object_total : IsTotalOrder object_cmp
object_total = then_total (on_total (λ (s : ObjectId). s.process) nat_cmp_total) (on_total (λ (s : ObjectId). s.number) nat_cmp_total)

pub found : (objects : Objects) (q : ObjectId) → find object_cmp q objects ≡ object_at objects q
found [] q = refl
found (e ∷ es) q = ap (cond (is_at (object_cmp q) e.0) (Some e.1)) (found es q)

pub placed : (objects : Objects) (k : ObjectId) (v : Instance) → put object_cmp k v objects ≡ with_object objects k v
placed [] k v = refl
placed (e ∷ es) k v = elim (object_cmp k e.0) as (λ o. match_ordering o ((k, v) ∷ e ∷ es) ((e.0, v) ∷ es) (e ∷ put object_cmp k v es) ≡ match_ordering o ((k, v) ∷ e ∷ es) ((e.0, v) ∷ es) (e ∷ with_object es k v)) [
  | Less ↦ refl
  | Equal ↦ refl
  | Greater ↦ ap (λ r. e ∷ r) (placed es k v)
]

-- what an object put in changes
pub object_at-with_object : (objects : Objects) (k : ObjectId) (v : Instance) (q : ObjectId) → object_at (with_object objects k v) q ≡ cond (is_at (object_cmp q) k) (Some v) (object_at objects q)
object_at-with_object objects k v q =
    sym (ap (λ es. object_at es q) (placed objects k v)) ∙ sym (found (put object_cmp k v objects) q) ∙ find-put object_cmp object_total q k v objects
    ∙ ap (cond (is_at (object_cmp q) k) (Some v)) (found objects q)

-- ids that compare alike are one
pub exact_objects : CmpEqualImpliesEq object_cmp
exact_objects a b h = ap (λ (p : ℕ × ℕ). record { process = p.0; number = p.1 }) (exact_pairs nat_cmp nat_cmp exact_unsigned exact_unsigned (a.process, a.number) (b.process, b.number) h)

is_equal : (o : Ordering) → is_eq o ≡ true → o ≡ Equal
is_equal Less h = cc
is_equal Equal h = refl
is_equal Greater h = cc

-- what is found at an id that ties
pub same_place : (objects : Objects) (q k : ObjectId) → is_at (object_cmp q) k ≡ true → object_at objects q ≡ object_at objects k
same_place objects q k h = ap (object_at objects) (exact_objects q k (is_equal (object_cmp q k) h))

-- ids that tie are one
pub same_id : (q k : ObjectId) → is_at (object_cmp q) k ≡ true → q ≡ k
same_id q k h = exact_objects q k (is_equal (object_cmp q k) h)
