-- What the content of a char or a string stands for.
use Rattle.std.specs.Prelude.{◌≡◌, ℕ, ◌+◌, Bool, not, ◌||◌, ◌&&◌, ◌==◌, nat_le, List, [], ◌∷◌, Option, Some, None, if◌then◌else◌}
use Rattle.std.specs.Option.{option_map}

-- the character that a backslash and this one stand for: `\n`, `\t`, `\\`, `\'` and `\"`
abbrev pub escape_of : ℕ → Option ℕ
escape_of c = if c == 110 then Some 10 else (if c == 116 then Some 9 else (if c == 92 || (c == 39 || c == 34) then Some c else None))

-- a character that stands for itself: one of codes 32 to 126, other than the backslash and the own quote
abbrev pub is_plain : ℕ → ℕ → Bool
is_plain quote c = (nat_le 32 c && nat_le c 126) && not (c == 92 || c == quote)

-- the character that a backslash and what follows it stand for, and what is left behind
abbrev pub escaped_character : List ℕ → Option (ℕ × List ℕ)
escaped_character [] = None
escaped_character (c ∷ cs) = option_map (λ code. (code, cs)) (escape_of c)

-- the first character of a literal's content, and what is left behind it; None where a wrong one stands there
abbrev pub first_character : ℕ → List ℕ → Option (ℕ × List ℕ)
first_character quote [] = None
first_character quote (c ∷ cs) = if c == 92 then escaped_character cs else (if is_plain quote c then Some (c, cs) else None)

-- a content stands for these characters, one after the other
abbrev pub Spells : ℕ → List ℕ → List ℕ → Type 0
Spells quote content [] = content ≡ []
Spells quote content (code ∷ codes) = (rest : List ℕ) × (first_character quote content ≡ Some (code, rest)) × Spells quote rest codes

-- a byte that goes on with a character of several bytes in UTF-8
abbrev pub is_continuation : ℕ → Bool
is_continuation c = nat_le 128 c && nat_le c 191

-- how many characters a content has, right ones and wrong ones: a backslash and the character behind it are one.
-- `escaped`: right before these bytes stands such a backslash
abbrev pub character_count : Bool → List ℕ → ℕ
character_count escaped [] = 0
character_count escaped (c ∷ cs) = (if escaped || is_continuation c then 0 else 1) + character_count (c == 92 && not escaped) cs
