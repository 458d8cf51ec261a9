-- What stands in front of a part of a list.
use Rattle.std.specs.Prelude.{ℕ, zero, suc, List, [], ◌∷◌}

-- something that stands in front of each part but the first, at the part with this index
abbrev pub in_front : {X : Type 0} → ℕ → X → List X
in_front zero x = []
in_front (suc index) x = x ∷ []
