-- The texts of keywords and symbols are read back.
use Rattle.std.proofs.Common.{◌≡◌, true, Some, refl}
use Rattle.std.specs.Prelude.{nat_lt}
use Rattle.std.specs.List.{list_all}
use Rattle.orca_lexer.specs.declared.token.Keyword.{Keyword}
use Rattle.orca_lexer.specs.declared.token.Keyword.TheVariants.{KeyAnd, KeyArray, KeyBag, KeyBegin, KeyBoolean, KeyChar, KeyConst, KeyDelete, KeyDo, KeyElse, KeyElsif, KeyEnd, KeyEnum, KeyFalse, KeyFi, KeyFor, KeyFork, KeyFrom, KeyFunction, KeyGuard, KeyIf, KeyImplementation, KeyImport, KeyIn, KeyInsert, KeyInteger, KeyModule, KeyNot, KeyObject, KeyOd, KeyOf, KeyOn, KeyOperation, KeyOr, KeyOrd, KeyOut, KeyProcess, KeyRecord, KeyRepeat, KeyReturn, KeySet, KeyShared, KeySize, KeySpecification, KeyString, KeyThen, KeyTrue, KeyType, KeyUntil, KeyWhile, KeyOutput, KeyWriteLine}
use Rattle.orca_lexer.specs.declared.token.Symbol.{Symbol}
use Rattle.orca_lexer.specs.declared.token.Symbol.TheVariants.{Becomes, Range, Differs, AtMost, AtLeast, Semicolon, Colon, Comma, Period, Equals, Less, Greater, Plus, Minus, Times, Over, Percent, Joins, Opens, Closes, OpensIndex, ClosesIndex, Dollar}
use Rattle.orca_lexer.specs.Tables.{keyword_of, symbol_of}
use Rattle.orca_lexer.specs.Shapes.{is_word}
use Rattle.orca_lexer.specs.Spelling.{keyword_text, symbol_text}

pub keyword_back : (k : Keyword) → keyword_of (keyword_text k) ≡ Some k
unfolding keyword_of
keyword_back KeyAnd = refl
keyword_back KeyArray = refl
keyword_back KeyBag = refl
keyword_back KeyBegin = refl
keyword_back KeyBoolean = refl
keyword_back KeyChar = refl
keyword_back KeyConst = refl
keyword_back KeyDelete = refl
keyword_back KeyDo = refl
keyword_back KeyElse = refl
keyword_back KeyElsif = refl
keyword_back KeyEnd = refl
keyword_back KeyEnum = refl
keyword_back KeyFalse = refl
keyword_back KeyFi = refl
keyword_back KeyFor = refl
keyword_back KeyFork = refl
keyword_back KeyFrom = refl
keyword_back KeyFunction = refl
keyword_back KeyGuard = refl
keyword_back KeyIf = refl
keyword_back KeyImplementation = refl
keyword_back KeyImport = refl
keyword_back KeyIn = refl
keyword_back KeyInsert = refl
keyword_back KeyInteger = refl
keyword_back KeyModule = refl
keyword_back KeyNot = refl
keyword_back KeyObject = refl
keyword_back KeyOd = refl
keyword_back KeyOf = refl
keyword_back KeyOn = refl
keyword_back KeyOperation = refl
keyword_back KeyOr = refl
keyword_back KeyOrd = refl
keyword_back KeyOut = refl
keyword_back KeyProcess = refl
keyword_back KeyRecord = refl
keyword_back KeyRepeat = refl
keyword_back KeyReturn = refl
keyword_back KeySet = refl
keyword_back KeyShared = refl
keyword_back KeySize = refl
keyword_back KeySpecification = refl
keyword_back KeyString = refl
keyword_back KeyThen = refl
keyword_back KeyTrue = refl
keyword_back KeyType = refl
keyword_back KeyUntil = refl
keyword_back KeyWhile = refl
keyword_back KeyOutput = refl
keyword_back KeyWriteLine = refl

pub keyword_word : (k : Keyword) → is_word (keyword_text k) ≡ true
keyword_word KeyAnd = refl
keyword_word KeyArray = refl
keyword_word KeyBag = refl
keyword_word KeyBegin = refl
keyword_word KeyBoolean = refl
keyword_word KeyChar = refl
keyword_word KeyConst = refl
keyword_word KeyDelete = refl
keyword_word KeyDo = refl
keyword_word KeyElse = refl
keyword_word KeyElsif = refl
keyword_word KeyEnd = refl
keyword_word KeyEnum = refl
keyword_word KeyFalse = refl
keyword_word KeyFi = refl
keyword_word KeyFor = refl
keyword_word KeyFork = refl
keyword_word KeyFrom = refl
keyword_word KeyFunction = refl
keyword_word KeyGuard = refl
keyword_word KeyIf = refl
keyword_word KeyImplementation = refl
keyword_word KeyImport = refl
keyword_word KeyIn = refl
keyword_word KeyInsert = refl
keyword_word KeyInteger = refl
keyword_word KeyModule = refl
keyword_word KeyNot = refl
keyword_word KeyObject = refl
keyword_word KeyOd = refl
keyword_word KeyOf = refl
keyword_word KeyOn = refl
keyword_word KeyOperation = refl
keyword_word KeyOr = refl
keyword_word KeyOrd = refl
keyword_word KeyOut = refl
keyword_word KeyProcess = refl
keyword_word KeyRecord = refl
keyword_word KeyRepeat = refl
keyword_word KeyReturn = refl
keyword_word KeySet = refl
keyword_word KeyShared = refl
keyword_word KeySize = refl
keyword_word KeySpecification = refl
keyword_word KeyString = refl
keyword_word KeyThen = refl
keyword_word KeyTrue = refl
keyword_word KeyType = refl
keyword_word KeyUntil = refl
keyword_word KeyWhile = refl
keyword_word KeyOutput = refl
keyword_word KeyWriteLine = refl

pub symbol_back : (s : Symbol) → symbol_of (symbol_text s) ≡ Some s
unfolding symbol_of
symbol_back Becomes = refl
symbol_back Range = refl
symbol_back Differs = refl
symbol_back AtMost = refl
symbol_back AtLeast = refl
symbol_back Semicolon = refl
symbol_back Colon = refl
symbol_back Comma = refl
symbol_back Period = refl
symbol_back Equals = refl
symbol_back Less = refl
symbol_back Greater = refl
symbol_back Plus = refl
symbol_back Minus = refl
symbol_back Times = refl
symbol_back Over = refl
symbol_back Percent = refl
symbol_back Joins = refl
symbol_back Opens = refl
symbol_back Closes = refl
symbol_back OpensIndex = refl
symbol_back ClosesIndex = refl
symbol_back Dollar = refl

pub symbol_low : (s : Symbol) → list_all (λ c. nat_lt c 128) (symbol_text s) ≡ true
symbol_low Becomes = refl
symbol_low Range = refl
symbol_low Differs = refl
symbol_low AtMost = refl
symbol_low AtLeast = refl
symbol_low Semicolon = refl
symbol_low Colon = refl
symbol_low Comma = refl
symbol_low Period = refl
symbol_low Equals = refl
symbol_low Less = refl
symbol_low Greater = refl
symbol_low Plus = refl
symbol_low Minus = refl
symbol_low Times = refl
symbol_low Over = refl
symbol_low Percent = refl
symbol_low Joins = refl
symbol_low Opens = refl
symbol_low Closes = refl
symbol_low OpensIndex = refl
symbol_low ClosesIndex = refl
symbol_low Dollar = refl
