-- The keywords and the symbols, each with its text.
use Rattle.std.specs.Prelude.{ℕ, List, [], ◌∷◌, Option, Some, None, if◌then◌else◌, codes}
use Rattle.std.specs.Str.{bytes_eq}
use Rattle.orca_lexer.specs.declared.token.Keyword.{Keyword}
use Rattle.orca_lexer.specs.declared.token.Keyword.TheVariants.{KeyAnd, KeyArray, KeyBag, KeyBegin, KeyBoolean, KeyChar, KeyConst, KeyDelete, KeyDo, KeyElse, KeyElsif, KeyEnd, KeyEnum, KeyFalse, KeyFi, KeyFor, KeyFork, KeyFrom, KeyFunction, KeyGuard, KeyIf, KeyImplementation, KeyImport, KeyIn, KeyInsert, KeyInteger, KeyModule, KeyNot, KeyObject, KeyOd, KeyOf, KeyOn, KeyOperation, KeyOr, KeyOrd, KeyOut, KeyProcess, KeyRecord, KeyRepeat, KeyReturn, KeySet, KeyShared, KeySize, KeySpecification, KeyString, KeyThen, KeyTrue, KeyType, KeyUntil, KeyWhile, KeyOutput, KeyWriteLine}
use Rattle.orca_lexer.specs.declared.token.Symbol.{Symbol}
use Rattle.orca_lexer.specs.declared.token.Symbol.TheVariants.{Becomes, Range, Differs, AtMost, AtLeast, Semicolon, Colon, Comma, Period, Equals, Less, Greater, Plus, Minus, Times, Over, Percent, Joins, Opens, Closes, OpensIndex, ClosesIndex, Dollar}

-- the entry of this text in a table
abbrev pub entry_of : {X : Type 0} → List (List ℕ × X) → List ℕ → Option X
entry_of [] word = None
entry_of (e ∷ es) word = if bytes_eq e.0 word then Some e.1 else entry_of es word

-- the words that are no names
abbrev pub keywords : List (List ℕ × Keyword)
keywords =
    (codes "and", KeyAnd) ∷
    (codes "array", KeyArray) ∷
    (codes "bag", KeyBag) ∷
    (codes "begin", KeyBegin) ∷
    (codes "boolean", KeyBoolean) ∷
    (codes "char", KeyChar) ∷
    (codes "const", KeyConst) ∷
    (codes "delete", KeyDelete) ∷
    (codes "do", KeyDo) ∷
    (codes "else", KeyElse) ∷
    (codes "elsif", KeyElsif) ∷
    (codes "end", KeyEnd) ∷
    (codes "enum", KeyEnum) ∷
    (codes "false", KeyFalse) ∷
    (codes "fi", KeyFi) ∷
    (codes "for", KeyFor) ∷
    (codes "fork", KeyFork) ∷
    (codes "from", KeyFrom) ∷
    (codes "function", KeyFunction) ∷
    (codes "guard", KeyGuard) ∷
    (codes "if", KeyIf) ∷
    (codes "implementation", KeyImplementation) ∷
    (codes "import", KeyImport) ∷
    (codes "in", KeyIn) ∷
    (codes "insert", KeyInsert) ∷
    (codes "integer", KeyInteger) ∷
    (codes "module", KeyModule) ∷
    (codes "not", KeyNot) ∷
    (codes "object", KeyObject) ∷
    (codes "od", KeyOd) ∷
    (codes "of", KeyOf) ∷
    (codes "on", KeyOn) ∷
    (codes "operation", KeyOperation) ∷
    (codes "or", KeyOr) ∷
    (codes "ord", KeyOrd) ∷
    (codes "out", KeyOut) ∷
    (codes "process", KeyProcess) ∷
    (codes "record", KeyRecord) ∷
    (codes "repeat", KeyRepeat) ∷
    (codes "return", KeyReturn) ∷
    (codes "set", KeySet) ∷
    (codes "shared", KeyShared) ∷
    (codes "size", KeySize) ∷
    (codes "specification", KeySpecification) ∷
    (codes "string", KeyString) ∷
    (codes "then", KeyThen) ∷
    (codes "true", KeyTrue) ∷
    (codes "type", KeyType) ∷
    (codes "until", KeyUntil) ∷
    (codes "while", KeyWhile) ∷
    (codes "Output", KeyOutput) ∷
    (codes "WriteLine", KeyWriteLine) ∷ []

-- the symbols, those of two characters first
abbrev pub symbols : List (List ℕ × Symbol)
symbols =
    (codes ":=", Becomes) ∷
    (codes "..", Range) ∷
    (codes "/=", Differs) ∷
    (codes "<=", AtMost) ∷
    (codes ">=", AtLeast) ∷
    (codes ";", Semicolon) ∷
    (codes ":", Colon) ∷
    (codes ",", Comma) ∷
    (codes ".", Period) ∷
    (codes "=", Equals) ∷
    (codes "<", Less) ∷
    (codes ">", Greater) ∷
    (codes "+", Plus) ∷
    (codes "-", Minus) ∷
    (codes "*", Times) ∷
    (codes "/", Over) ∷
    (codes "%", Percent) ∷
    (codes "&", Joins) ∷
    (codes "(", Opens) ∷
    (codes ")", Closes) ∷
    (codes "[", OpensIndex) ∷
    (codes "]", ClosesIndex) ∷
    (codes "$", Dollar) ∷ []

-- the keyword that a word is
unfoldable pub keyword_of : List ℕ → Option Keyword
keyword_of word = entry_of keywords word

-- the symbol that a text is
unfoldable pub symbol_of : List ℕ → Option Symbol
symbol_of word = entry_of symbols word
