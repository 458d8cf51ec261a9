-- How tokens are written, so that they are read back.
use Rattle.std.specs.Prelude.{◌≡◌, ℕ, ◌^◌, ◌<◌, Bool, true, ◌||◌, ◌&&◌, ◌==◌, nat_le, List, [], ◌∷◌, ◌++◌, None, if◌then◌else◌, map, pos, codes}
use Rattle.std.specs.Fmt.{signed_decimal}
use Rattle.std.specs.List.{flat_map, join_with_byte, list_all}
use Rattle.orca_lexer.specs.declared.token.Keyword.{Keyword}
use Rattle.orca_lexer.specs.declared.token.Keyword.TheVariants.{KeyAnd, KeyArray, KeyBag, KeyBegin, KeyBoolean, KeyChar, KeyConst, KeyDelete, KeyDo, KeyElse, KeyElsif, KeyEnd, KeyEnum, KeyFalse, KeyFi, KeyFor, KeyFork, KeyFrom, KeyFunction, KeyGuard, KeyIf, KeyImplementation, KeyImport, KeyIn, KeyInsert, KeyInteger, KeyModule, KeyNot, KeyObject, KeyOd, KeyOf, KeyOn, KeyOperation, KeyOr, KeyOrd, KeyOut, KeyProcess, KeyRecord, KeyRepeat, KeyReturn, KeySet, KeyShared, KeySize, KeySpecification, KeyString, KeyThen, KeyTrue, KeyType, KeyUntil, KeyWhile, KeyOutput, KeyWriteLine}
use Rattle.orca_lexer.specs.declared.token.Symbol.{Symbol}
use Rattle.orca_lexer.specs.declared.token.Symbol.TheVariants.{Becomes, Range, Differs, AtMost, AtLeast, Semicolon, Colon, Comma, Period, Equals, Less, Greater, Plus, Minus, Times, Over, Percent, Joins, Opens, Closes, OpensIndex, ClosesIndex, Dollar}
use Rattle.orca_lexer.specs.declared.token.Token.{Token}
use Rattle.orca_lexer.specs.declared.token.TokenKind.{TokenKind}
use Rattle.orca_lexer.specs.declared.token.TokenKind.TheVariants.{Name, Number, Char, Text, Key, Sign}
use Rattle.orca_lexer.specs.Tables.{keyword_of}
use Rattle.orca_lexer.specs.Shapes.{is_word}
use Rattle.orca_lexer.specs.Tokens.{Tokens}

-- a keyword's text
abbrev pub keyword_text : Keyword → List ℕ
keyword_text KeyAnd = codes "and"
keyword_text KeyArray = codes "array"
keyword_text KeyBag = codes "bag"
keyword_text KeyBegin = codes "begin"
keyword_text KeyBoolean = codes "boolean"
keyword_text KeyChar = codes "char"
keyword_text KeyConst = codes "const"
keyword_text KeyDelete = codes "delete"
keyword_text KeyDo = codes "do"
keyword_text KeyElse = codes "else"
keyword_text KeyElsif = codes "elsif"
keyword_text KeyEnd = codes "end"
keyword_text KeyEnum = codes "enum"
keyword_text KeyFalse = codes "false"
keyword_text KeyFi = codes "fi"
keyword_text KeyFor = codes "for"
keyword_text KeyFork = codes "fork"
keyword_text KeyFrom = codes "from"
keyword_text KeyFunction = codes "function"
keyword_text KeyGuard = codes "guard"
keyword_text KeyIf = codes "if"
keyword_text KeyImplementation = codes "implementation"
keyword_text KeyImport = codes "import"
keyword_text KeyIn = codes "in"
keyword_text KeyInsert = codes "insert"
keyword_text KeyInteger = codes "integer"
keyword_text KeyModule = codes "module"
keyword_text KeyNot = codes "not"
keyword_text KeyObject = codes "object"
keyword_text KeyOd = codes "od"
keyword_text KeyOf = codes "of"
keyword_text KeyOn = codes "on"
keyword_text KeyOperation = codes "operation"
keyword_text KeyOr = codes "or"
keyword_text KeyOrd = codes "ord"
keyword_text KeyOut = codes "out"
keyword_text KeyProcess = codes "process"
keyword_text KeyRecord = codes "record"
keyword_text KeyRepeat = codes "repeat"
keyword_text KeyReturn = codes "return"
keyword_text KeySet = codes "set"
keyword_text KeyShared = codes "shared"
keyword_text KeySize = codes "size"
keyword_text KeySpecification = codes "specification"
keyword_text KeyString = codes "string"
keyword_text KeyThen = codes "then"
keyword_text KeyTrue = codes "true"
keyword_text KeyType = codes "type"
keyword_text KeyUntil = codes "until"
keyword_text KeyWhile = codes "while"
keyword_text KeyOutput = codes "Output"
keyword_text KeyWriteLine = codes "WriteLine"

-- a symbol's text
abbrev pub symbol_text : Symbol → List ℕ
symbol_text Becomes = codes ":="
symbol_text Range = codes ".."
symbol_text Differs = codes "/="
symbol_text AtMost = codes "<="
symbol_text AtLeast = codes ">="
symbol_text Semicolon = codes ";"
symbol_text Colon = codes ":"
symbol_text Comma = codes ","
symbol_text Period = codes "."
symbol_text Equals = codes "="
symbol_text Less = codes "<"
symbol_text Greater = codes ">"
symbol_text Plus = codes "+"
symbol_text Minus = codes "-"
symbol_text Times = codes "*"
symbol_text Over = codes "/"
symbol_text Percent = codes "%"
symbol_text Joins = codes "&"
symbol_text Opens = codes "("
symbol_text Closes = codes ")"
symbol_text OpensIndex = codes "["
symbol_text ClosesIndex = codes "]"
symbol_text Dollar = codes "$"

-- a character between these quotes: only a line feed, a tab, the backslash and the own quote are escaped
abbrev pub character_text : ℕ → ℕ → List ℕ
character_text quote c =
    if c == 10 then 92 ∷ 110 ∷ []
    else (if c == 9 then 92 ∷ 116 ∷ [] else (if c == 92 || c == quote then 92 ∷ c ∷ [] else c ∷ []))

-- the text of a token of this kind: a number in decimal without leading zeros, a name and a keyword as they are
abbrev pub spelling_of : TokenKind → List ℕ
spelling_of (Name name) = name
spelling_of (Number value) = signed_decimal value
spelling_of (Char code) = 39 ∷ (character_text 39 code ++ 39 ∷ [])
spelling_of (Text text) = 34 ∷ (flat_map (character_text 34) text ++ 34 ∷ [])
spelling_of (Key keyword) = keyword_text keyword
spelling_of (Sign symbol) = symbol_text symbol

-- tokens one after the other, with one space between two, and a line feed at the end
abbrev pub written : List TokenKind → List ℕ
written kinds = join_with_byte 32 (map spelling_of kinds) ++ 10 ∷ []

-- a character that a char or a string may have: one of codes 32 to 126, a line feed or a tab
abbrev pub is_character : ℕ → Bool
is_character c = (nat_le 32 c && nat_le c 126) || (c == 10 || c == 9)

-- what a token of a text may be: a name is a word and no keyword, a number is below 2^63 and not negative
abbrev pub IsSound : TokenKind → Type 0
IsSound (Name name) = (is_word name ≡ true) × (keyword_of name ≡ None)
IsSound (Number value) = (n : ℕ) × (n < 2 ^ 63) × (value ≡ pos n)
IsSound (Char code) = is_character code ≡ true
IsSound (Text text) = list_all is_character text ≡ true
IsSound (Key _) = Unit {0}
IsSound (Sign _) = Unit {0}

-- the text of these kinds has tokens of exactly these kinds
pub record AreReadBack (kinds : List TokenKind) : Type 0 where
  pub tokens : List Token
  pub are : Tokens (written kinds) tokens
  pub kinds_are : map (λ token. token.kind) tokens ≡ kinds
