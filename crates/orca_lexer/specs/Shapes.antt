-- What may be one token, by its shape alone: a word, a numeral, a symbol, or a literal between quotes.
use Rattle.std.specs.Prelude.{ℕ, suc, ◌-◌, Bool, false, not, ◌||◌, ◌&&◌, ◌==◌, List, [], ◌∷◌, length, take, drop, Option, Some, None, is_some, if◌then◌else◌}
use Rattle.std.specs.Char.{is_ascii_alphabetic, is_ascii_alphanumeric, is_ascii_digit}
use Rattle.std.specs.List.{list_all}
use Rattle.std.specs.Option.{option_map}
use Rattle.orca_lexer.specs.Tables.{symbol_of}

-- a letter, a digit or `_`
abbrev pub is_name_byte : ℕ → Bool
is_name_byte c = is_ascii_alphanumeric c || c == 95

-- a letter, and then letters, digits and `_`
abbrev pub is_word : List ℕ → Bool
is_word [] = false
is_word (c ∷ cs) = is_ascii_alphabetic c && list_all is_name_byte cs

-- a digit, and then digits
abbrev pub is_numeral : List ℕ → Bool
is_numeral [] = false
is_numeral (c ∷ cs) = is_ascii_digit c && list_all is_ascii_digit cs

-- `'`, which opens and closes a char, and `"`, which opens and closes a string
abbrev pub is_quote : ℕ → Bool
is_quote c = c == 39 || c == 34

-- how many bytes stand before the closing quote, of what follows an opening one: it is the next one on the line, where a
-- backslash goes together with the character behind it, whatever that is. `escaped`: right before these bytes stands such a
-- backslash
abbrev pub content_len : Bool → ℕ → List ℕ → Option ℕ
content_len escaped quote [] = None
content_len escaped quote (c ∷ cs) =
    if c == 10 then None
    else (if c == quote && not escaped then Some 0 else option_map suc (content_len (c == 92 && not escaped) quote cs))

-- the byte behind so many is the last of so many
abbrev pub is_last : Option ℕ → ℕ → Bool
is_last None len = false
is_last (Some n) len = suc n == len

-- an opening quote, and then bytes the last of which closes it
abbrev pub is_literal : ℕ → List ℕ → Bool
is_literal quote [] = false
is_literal quote (c ∷ cs) = c == quote && is_last (content_len false quote cs) (length cs)

-- what stands between the quotes of a literal
abbrev pub content_of : List ℕ → List ℕ
content_of word = take (length word - 2) (drop 1 word)

-- the texts that may be one token
abbrev pub is_lexeme : List ℕ → Bool
is_lexeme word = is_word word || (is_numeral word || (is_some (symbol_of word) || (is_literal 39 word || is_literal 34 word)))
