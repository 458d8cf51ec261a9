-- The types of objects, where one is put in.
use Rattle.std.proofs.Common.{◌≡◌, ◌<◌, ℕ, cond, List, [], ◌∷◌, Some, sym, refl, subst, zero, suc, arith}
use Rattle.std.specs.declared.cmp.Ordering.TheVariants.{Less, Equal, Greater}
use Rattle.std.specs.Ordering.{is_eq, match_ordering}
use Rattle.std.specs.List.{Contains}
use Rattle.orca_base.specs.declared.ids.KindNo.{KindNo}
use Rattle.orca_base.specs.declared.ids.ObjectId.{ObjectId}
use Rattle.value_core.specs.declared.action.Instance.{Instance}
use Rattle.value_core.specs.Fits.{ExtendsKinds}
use Rattle.value_core.specs.History.{Objects, object_cmp, object_at, with_object}
use Rattle.guard_queue.specs.Fitting.{kinds_of}

pub contains_here : {X : Type 0} (x : X) (xs : List X) → Contains (x ∷ xs) x
contains_here x xs = (0, omega arith, refl)

pub contains_there : {X : Type 0} (x : X) (xs : List X) (q : X) → Contains xs q → Contains (x ∷ xs) q
contains_there x xs q (k, lt, is) = (suc k, omega arith, is)

contains_case : {X : Type 0} (x : X) (xs : List X) (q : X) (P : Type 0) → Contains (x ∷ xs) q → (x ≡ q → P) → (Contains xs q → P) → P
contains_case x xs q P (zero, lt, is) here there = here is
contains_case x xs q P (suc k, lt, is) here there = there (k, omega arith, is)

none_here : {P : Type 0} (k : ℕ) → k < 0 → P
none_here k lt = absurd (omega arith)

-- the types of the old ones stay, where an object that was there keeps its own
pub kinds_extend : (objects : Objects) (object : ObjectId) (kept : Instance) → ((old : Instance) → object_at objects object ≡ Some old → kept.kind ≡ old.kind) → ExtendsKinds (kinds_of objects) (kinds_of (with_object objects object kept))
kinds_extend [] object kept same = λ entry has. none_here has.0 has.1
kinds_extend (e ∷ es) object kept same =
    elim (object_cmp object e.0) as (λ o. ((old : Instance) → cond (is_eq o) (Some e.1) (object_at es object) ≡ Some old → kept.kind ≡ old.kind) → ExtendsKinds (kinds_of (e ∷ es)) (kinds_of (match_ordering o ((object, kept) ∷ e ∷ es) ((e.0, kept) ∷ es) (e ∷ with_object es object kept)))) [
      | Less ↦ λ is entry has. contains_there (object, kept.kind) (kinds_of (e ∷ es)) entry has
      | Equal ↦ λ is entry has. let P : KindNo → Type 0 = λ kind. Contains ((e.0, kind) ∷ kinds_of es) entry in subst P (sym (is e.1 refl)) has
      | Greater ↦ λ is entry has.
          contains_case (e.0, e.1.kind) (kinds_of es) entry (Contains ((e.0, e.1.kind) ∷ kinds_of (with_object es object kept)) entry) has
          (λ here. let P : (ObjectId × KindNo) → Type 0 = λ x. Contains ((e.0, e.1.kind) ∷ kinds_of (with_object es object kept)) x in subst P here (contains_here (e.0, e.1.kind) (kinds_of (with_object es object kept))))
          (λ there. contains_there (e.0, e.1.kind) (kinds_of (with_object es object kept)) entry (kinds_extend es object kept is entry there))
    ] same
