-- What one step of a loop over a window does.
use Rattle.std.proofs.Common.{ℕ, List, [], ◌∷◌, ◌++◌, ◌≡◌, ◌<◌, ◌≤◌, ◌+◌, ◌-◌, Some, None, max, length, take, drop, sym, ◌∙◌, ap, arith, get_or}
use Rattle.std.specs.List.{slice_get}
use Rattle.std.proofs.lemmas.List.{take_more, drop-drop}
use Rattle.std.proofs.lemmas.Option.{slice_get_within, get_or_from_slice_get}
use Rattle.std.proofs.lemmas.List.{length-take}
use Rattle.circular_buffer.specs.Buffer.{Buffer, buffer, keep_last}
use Rattle.circular_buffer.proofs.Places.{slice_get-some}

-- one entry more is copied
pub one_copied : {B : Type 0} (xs ys : List B) (i : ℕ) (x : B) → ys ≡ take i xs → slice_get xs i ≡ Some x → ys ++ x ∷ [] ≡ take (i + 1) xs
one_copied xs ys i x e h =
    let g : get_or xs i x ≡ x = get_or_from_slice_get xs i x x h in
    let m : take (i + 1) xs ≡ take i xs ++ get_or xs i x ∷ [] = take_more xs i x (slice_get_within xs i x h) in
    cc

kept_all : {B : Type 0} (l : List B) (n : ℕ) → length l ≤ n → keep_last n l ≡ l
kept_all l n h = let e : length l - n ≡ 0 = omega arith in ap (λ k. drop k l) e

pub one_appended : {B : Type 0} (old new : Buffer B) (xs : List B) (i : ℕ) (x y : B) → new ≡ buffer (keep_last old.capacity (old.items ++ y ∷ [])) old.capacity
    → i < old.capacity → old.items ≡ take i xs → Some x ≡ slice_get xs i → y ≡ x → new ≡ buffer (take (i + 1) xs) old.capacity
one_appended old new xs i x y e room begins at same =
    let l : old.items ++ y ∷ [] ≡ take (i + 1) xs = ap (λ z. old.items ++ z ∷ []) same ∙ one_copied xs old.items i x begins (sym at) in
    let n : length (take (i + 1) xs) ≤ i + 1 = rw length-take (omega arith) in
    e ∙ ap (λ items. buffer (keep_last old.capacity items) old.capacity) l ∙ ap (λ items. buffer items old.capacity) (kept_all _ _ (omega arith))

pub is_there : {B : Type 0} (xs : List B) (i : ℕ) → i < length xs → None ≡ slice_get xs i → ⊥
is_there xs i h e = let s = slice_get-some xs i h in cc (s.1)

one_dropped : {B : Type 0} (xs : List B) (from to : ℕ) → from ≤ to → drop 1 (drop (to - from) xs) ≡ drop (to + 1 - from) xs
one_dropped xs from to h =
    let n : (to - from) + 1 ≡ to + 1 - from = omega arith in
    drop-drop 1 (to - from) xs ∙ ap (λ k. drop k xs) n

-- one entry more is purged
pub one_purged : {B : Type 0} (old new : Buffer B) (xs : List B) (from to number capacity : ℕ) → new ≡ buffer (drop 1 old.items) old.capacity
    → from ≤ to → to < number → old.items ≡ drop (to - from) xs → old.capacity ≡ capacity
    → (from ≤ to + 1) × (to + 1 ≤ max from number) × (new.items ≡ drop (to + 1 - from) xs) × (new.capacity ≡ capacity)
one_purged old new xs from to number capacity e h l i c = (omega arith, omega arith, ap (λ b. b.items) e ∙ ap (drop 1) i ∙ one_dropped xs from to h, ap (λ b. b.capacity) e ∙ c)
