-- Pieces joined by a space, from an index on.
use Rattle.std.proofs.Common.{◌≡◌, ℕ, zero, suc, drop, List, [], ◌∷◌, ◌++◌, append-nil, refl, sym, ap, map}
use Rattle.std.specs.List.{flat_map, join_with_byte}

pub join-flat_map : {X : Type 0} (text : X → List ℕ) (x : X) (xs : List X) → join_with_byte 32 (map text (x ∷ xs)) ≡ text x ++ flat_map (λ y. 32 ∷ text y) xs
join-flat_map text x [] = sym (append-nil (text x))
join-flat_map text x (y ∷ ys) = ap (λ (bytes : List ℕ). text x ++ 32 ∷ bytes) (join-flat_map text y ys)

-- what is left to join, where so many pieces are written
abbrev pub joined_from : {X : Type 0} → (X → List ℕ) → ℕ → List X → List ℕ
joined_from text zero [] = []
joined_from text zero (x ∷ xs) = text x ++ flat_map (λ y. 32 ∷ text y) xs
joined_from text (suc i) xs = flat_map (λ y. 32 ∷ text y) (drop (suc i) xs)

pub joined_from-zero : {X : Type 0} (text : X → List ℕ) (xs : List X) → joined_from text 0 xs ≡ join_with_byte 32 (map text xs)
joined_from-zero text [] = refl
joined_from-zero text (x ∷ xs) = sym (join-flat_map text x xs)
