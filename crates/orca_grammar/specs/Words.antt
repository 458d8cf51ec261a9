-- The tokens of marks.
use Rattle.std.specs.Prelude.{◌≡◌, List, [], ◌∷◌, Some, None}
use Rattle.orca_lexer.specs.declared.token.Token.{Token}
use Rattle.orca_grammar.specs.Forms.{Mark, Spelled, Begin, End}

-- marks, brackets aside, are these tokens: each has its token's kind, and its place where one is kept
abbrev pub AreTokensOf : List Mark → List Token → Type 0
AreTokensOf [] ts = ts ≡ []
AreTokensOf (Spelled at kind ∷ ms) [] = ⊥
AreTokensOf (Spelled None kind ∷ ms) (t ∷ ts) = (kind ≡ t.kind) × AreTokensOf ms ts
AreTokensOf (Spelled (Some at) kind ∷ ms) (t ∷ ts) = (kind ≡ t.kind) × (at ≡ t.at) × AreTokensOf ms ts
AreTokensOf (Begin b ∷ ms) ts = AreTokensOf ms ts
AreTokensOf (End b ∷ ms) ts = AreTokensOf ms ts
