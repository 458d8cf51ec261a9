-- What the definitions of typing say in plain words.
use Rattle.std.specs.Prelude.{◌≡◌, ◌↔◌, List, [], ◌∷◌, false, IsTrue}
use Rattle.type_rules.specs.Types.{DataType, same_type}
use Rattle.type_rules.specs.Rules.{Breach}
use Rattle.type_rules.specs.Order.{comes_before, in_text_order}

-- two types are one type exactly where they are the same: with the same bounds, layers and names
abbrev pub IsOneType : DataType → DataType → Type 0
IsOneType t u = IsTrue (same_type t u) ↔ (t ≡ u)

-- no breach comes before one that is listed in front of it
pub data Rises : List Breach → Type 0 where
  nothing : Rises []
  alone : (b : Breach) → Rises (b ∷ [])
  rises : (b c : Breach) (cs : List Breach) → comes_before c b ≡ false → Rises (c ∷ cs) → Rises (b ∷ c ∷ cs)

abbrev pub IsInTextOrder : List Breach → Type 0
IsInTextOrder bs = Rises (in_text_order bs)
