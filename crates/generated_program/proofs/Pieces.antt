-- The generated program as tokens, with the blanks in front of each.
use Rattle.std.specs.Prelude.{ℕ, pos, List, [], ◌∷◌, codes}
use Rattle.orca_lexer.specs.declared.token.Keyword.TheVariants.{KeyBag, KeyBegin, KeyDo, KeyEnd, KeyFor, KeyFork, KeyFrom, KeyGuard, KeyImplementation, KeyIn, KeyInsert, KeyInteger, KeyObject, KeyOd, KeyOf, KeyOn, KeyOperation, KeyProcess, KeyReturn, KeyShared, KeySize, KeySpecification, KeyWriteLine}
use Rattle.orca_lexer.specs.declared.token.Symbol.TheVariants.{Becomes, Range, Semicolon, Colon, Comma, Greater, Plus, Times, Opens, Closes, Dollar}
use Rattle.orca_lexer.specs.declared.token.TokenKind.TheVariants.{Name, Number, Key, Sign}
use Rattle.generated_program.proofs.LaidOut.{Piece}

-- what stands in front of a token: a blank, a line feed, or a line feed and two blanks
abbrev blank : List ℕ
blank = 32 ∷ []

abbrev feed : List ℕ
feed = 10 ∷ []

abbrev feed_in : List ℕ
feed_in = 10 ∷ 32 ∷ 32 ∷ []

-- of so many workers, each of so many rounds
abbrev pub layout : ℕ → ℕ → List Piece
layout rounds workers =
    ([], Key KeyObject) ∷ (blank, Key KeySpecification) ∷ (blank, Name (codes "Total")) ∷ ([], Sign Semicolon)
    ∷ (feed_in, Key KeyOperation) ∷ (blank, Name (codes "Add")) ∷ ([], Sign Opens) ∷ ([], Name (codes "v")) ∷ ([], Sign Colon) ∷ (blank, Key KeyInteger) ∷ ([], Sign Closes) ∷ ([], Sign Semicolon)
    ∷ (feed_in, Key KeyOperation) ∷ (blank, Name (codes "Value")) ∷ ([], Sign Opens) ∷ ([], Sign Closes) ∷ ([], Sign Colon) ∷ (blank, Key KeyInteger) ∷ ([], Sign Semicolon)
    ∷ (feed, Key KeyEnd) ∷ ([], Sign Semicolon)
    ∷ (feed, Key KeyObject) ∷ (blank, Key KeyImplementation) ∷ (blank, Name (codes "Total")) ∷ ([], Sign Semicolon)
    ∷ (feed_in, Name (codes "x")) ∷ ([], Sign Colon) ∷ (blank, Key KeyInteger) ∷ ([], Sign Semicolon)
    ∷ (feed_in, Key KeyOperation) ∷ (blank, Name (codes "Add")) ∷ ([], Sign Opens) ∷ ([], Name (codes "v")) ∷ ([], Sign Colon) ∷ (blank, Key KeyInteger) ∷ ([], Sign Closes) ∷ ([], Sign Semicolon) ∷ (blank, Key KeyBegin) ∷ (blank, Name (codes "x")) ∷ (blank, Sign Becomes) ∷ (blank, Name (codes "x")) ∷ (blank, Sign Plus) ∷ (blank, Name (codes "v")) ∷ ([], Sign Semicolon) ∷ (blank, Key KeyEnd) ∷ ([], Sign Semicolon)
    ∷ (feed_in, Key KeyOperation) ∷ (blank, Name (codes "Value")) ∷ ([], Sign Opens) ∷ ([], Sign Closes) ∷ ([], Sign Colon) ∷ (blank, Key KeyInteger) ∷ ([], Sign Semicolon) ∷ (blank, Key KeyBegin) ∷ (blank, Key KeyReturn) ∷ (blank, Name (codes "x")) ∷ ([], Sign Semicolon) ∷ (blank, Key KeyEnd) ∷ ([], Sign Semicolon)
    ∷ (feed, Key KeyEnd) ∷ ([], Sign Semicolon)
    ∷ (feed, Key KeyObject) ∷ (blank, Key KeySpecification) ∷ (blank, Name (codes "Pool")) ∷ ([], Sign Semicolon)
    ∷ (feed_in, Key KeyOperation) ∷ (blank, Name (codes "Put")) ∷ ([], Sign Opens) ∷ ([], Name (codes "v")) ∷ ([], Sign Colon) ∷ (blank, Key KeyInteger) ∷ ([], Sign Closes) ∷ ([], Sign Semicolon)
    ∷ (feed_in, Key KeyOperation) ∷ (blank, Name (codes "Take")) ∷ ([], Sign Opens) ∷ ([], Sign Closes) ∷ ([], Sign Colon) ∷ (blank, Key KeyInteger) ∷ ([], Sign Semicolon)
    ∷ (feed, Key KeyEnd) ∷ ([], Sign Semicolon)
    ∷ (feed, Key KeyObject) ∷ (blank, Key KeyImplementation) ∷ (blank, Name (codes "Pool")) ∷ ([], Sign Semicolon)
    ∷ (feed_in, Name (codes "items")) ∷ ([], Sign Colon) ∷ (blank, Key KeyBag) ∷ (blank, Key KeyOf) ∷ (blank, Key KeyInteger) ∷ ([], Sign Semicolon)
    ∷ (feed_in, Key KeyOperation) ∷ (blank, Name (codes "Put")) ∷ ([], Sign Opens) ∷ ([], Name (codes "v")) ∷ ([], Sign Colon) ∷ (blank, Key KeyInteger) ∷ ([], Sign Closes) ∷ ([], Sign Semicolon) ∷ (blank, Key KeyBegin) ∷ (blank, Key KeyInsert) ∷ ([], Sign Opens) ∷ ([], Name (codes "v")) ∷ ([], Sign Comma) ∷ (blank, Name (codes "items")) ∷ ([], Sign Closes) ∷ ([], Sign Semicolon) ∷ (blank, Key KeyEnd) ∷ ([], Sign Semicolon)
    ∷ (feed_in, Key KeyOperation) ∷ (blank, Name (codes "Take")) ∷ ([], Sign Opens) ∷ ([], Sign Closes) ∷ ([], Sign Colon) ∷ (blank, Key KeyInteger) ∷ ([], Sign Semicolon)
    ∷ (feed_in, Key KeyBegin) ∷ (blank, Key KeyGuard) ∷ (blank, Key KeySize) ∷ ([], Sign Opens) ∷ ([], Name (codes "items")) ∷ ([], Sign Closes) ∷ (blank, Sign Greater) ∷ (blank, Number (pos 0)) ∷ (blank, Key KeyDo) ∷ (blank, Key KeyReturn) ∷ (blank, Key KeyFrom) ∷ ([], Sign Opens) ∷ ([], Name (codes "items")) ∷ ([], Sign Closes) ∷ ([], Sign Semicolon) ∷ (blank, Key KeyOd) ∷ ([], Sign Semicolon) ∷ (blank, Key KeyEnd) ∷ ([], Sign Semicolon)
    ∷ (feed, Key KeyEnd) ∷ ([], Sign Semicolon)
    ∷ (feed, Key KeyProcess) ∷ (blank, Name (codes "Worker")) ∷ ([], Sign Opens) ∷ ([], Name (codes "t")) ∷ ([], Sign Colon) ∷ (blank, Key KeyShared) ∷ (blank, Name (codes "Total")) ∷ ([], Sign Semicolon) ∷ (blank, Name (codes "p")) ∷ ([], Sign Colon) ∷ (blank, Key KeyShared) ∷ (blank, Name (codes "Pool")) ∷ ([], Sign Semicolon) ∷ (blank, Name (codes "j")) ∷ ([], Sign Colon) ∷ (blank, Key KeyInteger) ∷ ([], Sign Closes) ∷ ([], Sign Semicolon)
    ∷ (feed_in, Name (codes "s")) ∷ ([], Sign Colon) ∷ (blank, Key KeyInteger) ∷ ([], Sign Semicolon)
    ∷ (feed, Key KeyBegin)
    ∷ (feed_in, Key KeyFor) ∷ (blank, Name (codes "i")) ∷ (blank, Key KeyIn) ∷ (blank, Number (pos 1)) ∷ ([], Sign Range) ∷ ([], Number (pos rounds)) ∷ (blank, Key KeyDo) ∷ (blank, Name (codes "t")) ∷ ([], Sign Dollar) ∷ ([], Name (codes "Add")) ∷ ([], Sign Opens) ∷ ([], Name (codes "j")) ∷ (blank, Sign Times) ∷ (blank, Name (codes "i")) ∷ ([], Sign Closes) ∷ ([], Sign Semicolon) ∷ (blank, Name (codes "s")) ∷ (blank, Sign Becomes) ∷ (blank, Name (codes "t")) ∷ ([], Sign Dollar) ∷ ([], Name (codes "Value")) ∷ ([], Sign Opens) ∷ ([], Sign Closes) ∷ ([], Sign Semicolon) ∷ (blank, Key KeyOd) ∷ ([], Sign Semicolon)
    ∷ (feed_in, Name (codes "p")) ∷ ([], Sign Dollar) ∷ ([], Name (codes "Put")) ∷ ([], Sign Opens) ∷ ([], Name (codes "j")) ∷ ([], Sign Closes) ∷ ([], Sign Semicolon)
    ∷ (feed, Key KeyEnd) ∷ ([], Sign Semicolon)
    ∷ (feed, Key KeyProcess) ∷ (blank, Name (codes "OrcaMain")) ∷ ([], Sign Opens) ∷ ([], Sign Closes) ∷ ([], Sign Semicolon)
    ∷ (feed_in, Name (codes "T")) ∷ ([], Sign Colon) ∷ (blank, Name (codes "Total")) ∷ ([], Sign Semicolon) ∷ (blank, Name (codes "P")) ∷ ([], Sign Colon) ∷ (blank, Name (codes "Pool")) ∷ ([], Sign Semicolon) ∷ (blank, Name (codes "s")) ∷ ([], Sign Colon) ∷ (blank, Key KeyInteger) ∷ ([], Sign Semicolon)
    ∷ (feed, Key KeyBegin)
    ∷ (feed_in, Key KeyFor) ∷ (blank, Name (codes "j")) ∷ (blank, Key KeyIn) ∷ (blank, Number (pos 1)) ∷ ([], Sign Range) ∷ ([], Number (pos workers)) ∷ (blank, Key KeyDo) ∷ (blank, Key KeyFork) ∷ (blank, Name (codes "Worker")) ∷ ([], Sign Opens) ∷ ([], Name (codes "T")) ∷ ([], Sign Comma) ∷ (blank, Name (codes "P")) ∷ ([], Sign Comma) ∷ (blank, Name (codes "j")) ∷ ([], Sign Closes) ∷ (blank, Key KeyOn) ∷ (blank, Name (codes "j")) ∷ ([], Sign Semicolon) ∷ (blank, Key KeyOd) ∷ ([], Sign Semicolon)
    ∷ (feed_in, Key KeyFor) ∷ (blank, Name (codes "j")) ∷ (blank, Key KeyIn) ∷ (blank, Number (pos 1)) ∷ ([], Sign Range) ∷ ([], Number (pos workers)) ∷ (blank, Key KeyDo) ∷ (blank, Name (codes "s")) ∷ (blank, Sign Becomes) ∷ (blank, Name (codes "P")) ∷ ([], Sign Dollar) ∷ ([], Name (codes "Take")) ∷ ([], Sign Opens) ∷ ([], Sign Closes) ∷ ([], Sign Semicolon) ∷ (blank, Key KeyOd) ∷ ([], Sign Semicolon)
    ∷ (feed_in, Key KeyWriteLine) ∷ ([], Sign Opens) ∷ ([], Name (codes "T")) ∷ ([], Sign Dollar) ∷ ([], Name (codes "Value")) ∷ ([], Sign Opens) ∷ ([], Sign Closes) ∷ ([], Sign Closes) ∷ ([], Sign Semicolon)
    ∷ (feed, Key KeyEnd) ∷ ([], Sign Semicolon)
    ∷ []
