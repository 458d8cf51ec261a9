-- The parts of a list with a token in front of each but the first.
use Rattle.std.proofs.Common.{◌≡◌, ℕ, zero, suc, ◌<◌, drop, List, [], ◌∷◌, ◌++◌, refl, append-nil, arith}
use Rattle.std.specs.List.{flat_map}
use Rattle.orca_lexer.specs.declared.token.TokenKind.{TokenKind}
use Rattle.orca_grammar.specs.Forms.{Mark}
use Rattle.orca_tree.specs.Fronts.{in_front}
use Rattle.orca_tree.specs.Marks.{word}

-- what stands in front of a later part
pub in_front-later : {X : Type 0} (index : ℕ) (x : X) → 0 < index → in_front index x ≡ x ∷ []
in_front-later zero x later = absurd (omega arith)
in_front-later (suc index) x later = refl

pub ruleset fronts = (in_front-later, append-nil)

-- the parts from an index on
abbrev pub led_from : {X : Type 0} → (X → TokenKind) → (X → List Mark) → ℕ → List X → List Mark
led_from lead marks zero [] = []
led_from lead marks zero (x ∷ xs) = marks x ++ flat_map (λ y. word (lead y) ∷ marks y) xs
led_from lead marks (suc i) xs = flat_map (λ y. word (lead y) ∷ marks y) (drop (suc i) xs)
