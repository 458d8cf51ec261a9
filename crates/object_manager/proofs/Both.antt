-- Replicated and single objects as one.
use Rattle.std.proofs.Common.{◌≡◌, Bool, true, false, T, ◌&&◌, cond, [], ◌∷◌, Option, Some, None, ap, ◌∙◌, sym, refl}
use Rattle.std.specs.BTreeMap.{is_at}
use Rattle.std.specs.Ordering.{is_eq, is_lt}
use Rattle.std.specs.declared.cmp.Ordering.{Ordering}
use Rattle.std.specs.declared.cmp.Ordering.TheVariants.{Less, Equal, Greater}
use Rattle.std.specs.FinMap.Entries.{below_all}
use Rattle.orca_base.specs.declared.ids.ObjectId.{ObjectId}
use Rattle.value_core.specs.declared.action.Instance.{Instance}
use Rattle.value_core.specs.History.{Objects, object_cmp, object_at}
use Rattle.guard_queue.specs.Shown.{Rises, or_else, with_all, written_at}
use Rattle.guard_queue.proofs.Lookups.{same_id}
use Rattle.guard_queue.proofs.Writes.{found_all}
use Rattle.object_manager.specs.After.{Copied}
use Rattle.object_manager.specs.Singles.{IsBoth}
use Rattle.object_manager.specs.Whole.{IsWhole}
use Rattle.object_manager.proofs.Singles.{is_counted}

pub first_of : (a b : Bool) → T (a && b) → T a
first_of true b p = tt
first_of false b p = p

pub second_of : (a b : Bool) → T (a && b) → T b
second_of true b p = p
second_of false b p = absurd p

not_equal : (o : Ordering) → T (is_lt o) → is_eq o ≡ false
not_equal Less p = refl
not_equal Equal p = absurd p
not_equal Greater p = absurd p

-- an id that is below all isn't there
absent_below : (x : ObjectId) (es : Objects) → T (below_all object_cmp x es) → object_at es x ≡ None
absent_below x [] below = refl
absent_below x (e ∷ es) below =
    ap (λ b. cond b (Some e.1) (object_at es x)) (not_equal (object_cmp x e.0) (first_of _ _ below)) ∙ absent_below x es (second_of _ _ below)

or_none : (o : Option Instance) → or_else o None ≡ o
or_none None = refl
or_none (Some kept) = refl

-- where ids rise the last write to an id is the only one
written_once : (es : Objects) (q : ObjectId) → Rises es → written_at es q ≡ object_at es q
written_once [] q rises = refl
written_once (e ∷ es) q rises =
    ap (λ o. or_else o (cond (is_at (object_cmp q) e.0) (Some e.1) None)) (written_once es q (second_of _ _ rises))
    ∙ elim (is_at (object_cmp q) e.0) as (λ b. is_at (object_cmp q) e.0 ≡ b → or_else (object_at es q) (cond b (Some e.1) None) ≡ cond b (Some e.1) (object_at es q)) [
      | true ↦ λ here. ap (λ o. or_else o (Some e.1)) (ap (object_at es) (same_id q e.0 here) ∙ absent_below e.0 es (first_of _ _ rises))
      | false ↦ λ away. or_none (object_at es q)
    ] refl

-- of two one of which is none
either : (one other : Option Instance) → ((kept : Instance) → one ≡ Some kept → other ≡ None) → or_else one other ≡ or_else other one
either None None apart = refl
either None (Some kept) apart = refl
either (Some kept) other apart = let none = apart kept refl in sym (ap (λ o. or_else o (Some kept)) none)

pub both_are : (c : Copied) → IsWhole c → Rises c.own → IsBoth (with_all c.objects c.own) c.objects c.own
both_are c whole rises q =
    found_all c.objects c.own q ∙ ap (λ o. or_else o (object_at c.objects q)) (written_once c.own q rises)
    ∙ either (object_at c.own q) (object_at c.objects q) (λ kept is. whole.apart q (is_counted c.singles q kept.kind (whole.counted q kept is)))

-- where none is kept here
pub objects_alone : (objects : Objects) → IsBoth objects objects []
objects_alone objects q = sym (or_none (object_at objects q))
