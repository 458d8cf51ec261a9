-- A place of a list by number takes a value.
use Rattle.std.proofs.Common.{◌≡◌, ◌==◌, ℕ, List, Option, None, ap, slice_index_or, if◌then◌else◌}
use Rattle.group_rules.specs.Sets.{with_at}

-- a value put in its place: the others are as they were
pub with_same : {A : Type 0} (xs ys : List (Option A)) (k : ℕ) (x : Option A) (i : ℕ) → slice_index_or xs i None ≡ slice_index_or ys i None
    → with_at (λ j. slice_index_or xs j None) k x i ≡ with_at (λ j. slice_index_or ys j None) k x i
with_same {A} xs ys k x i same = ap (λ (y : Option A). if i == k then x else y) same
