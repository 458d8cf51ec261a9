-- The tokens that each nested phrase begins with, and those that may go on behind one.
use Rattle.std.specs.Prelude.{List, [], ◌∷◌, ◌++◌}
use Rattle.orca_lexer.specs.declared.token.Keyword.TheVariants.{KeyAnd, KeyArray, KeyBag, KeyBoolean, KeyChar, KeyDelete, KeyFalse, KeyFor, KeyFork, KeyFrom, KeyIf, KeyIn, KeyInsert, KeyInteger, KeyNot, KeyOn, KeyOr, KeyOrd, KeyRepeat, KeyReturn, KeySet, KeySize, KeyString, KeyTrue, KeyWhile, KeyWriteLine}
use Rattle.orca_lexer.specs.declared.token.Symbol.TheVariants.{Differs, AtMost, AtLeast, Period, Equals, Less, Greater, Plus, Minus, Times, Over, Percent, Joins, Opens, OpensIndex, Dollar}
use Rattle.orca_grammar.specs.Forms.{Terminal, KeyOf, SignOf, AnyName, AnyNumber, AnyChar, AnyText, Nest, Statement, Expression, Factor, TypePhrase}
use Rattle.orca_grammar.specs.Reading.{Sets}

-- what a factor, and so an expression, begins with
unfoldable pub factor_firsts : List Terminal
factor_firsts =
    AnyNumber ∷ AnyChar ∷ AnyText ∷ KeyOf KeyTrue ∷ KeyOf KeyFalse ∷ KeyOf KeyNot ∷ SignOf Minus ∷ SignOf Opens ∷ KeyOf KeyFrom
    ∷ KeyOf KeySize ∷ KeyOf KeyOrd ∷ AnyName ∷ []

-- what may go on behind a factor, and behind an expression
unfoldable pub factor_nexts : List Terminal
factor_nexts = SignOf Opens ∷ SignOf Dollar ∷ SignOf Period ∷ SignOf OpensIndex ∷ []

unfoldable pub expression_nexts : List Terminal
expression_nexts =
    SignOf Opens ∷ SignOf Dollar ∷ SignOf Period ∷ SignOf OpensIndex ∷ SignOf Times ∷ SignOf Over ∷ SignOf Percent ∷ SignOf Plus
    ∷ SignOf Minus ∷ SignOf Joins ∷ SignOf Equals ∷ SignOf Differs ∷ SignOf Less ∷ SignOf AtMost ∷ SignOf Greater ∷ SignOf AtLeast
    ∷ KeyOf KeyIn ∷ KeyOf KeyAnd ∷ KeyOf KeyOr ∷ []

unfoldable pub statement_firsts : List Terminal
statement_firsts =
    KeyOf KeyReturn ∷ KeyOf KeyIf ∷ KeyOf KeyWhile ∷ KeyOf KeyFor ∷ KeyOf KeyRepeat ∷ KeyOf KeyFork ∷ KeyOf KeyWriteLine
    ∷ KeyOf KeyInsert ∷ KeyOf KeyDelete ∷ AnyName ∷ []

unfoldable pub statement_nexts : List Terminal
statement_nexts = KeyOf KeyOn ∷ (factor_firsts ++ expression_nexts)

unfoldable pub type_firsts : List Terminal
type_firsts =
    KeyOf KeyInteger ∷ KeyOf KeyBoolean ∷ KeyOf KeyChar ∷ KeyOf KeyString ∷ AnyName ∷ KeyOf KeyArray ∷ KeyOf KeySet ∷ KeyOf KeyBag ∷ []

abbrev pub firsts_of : Nest → List Terminal
firsts_of Statement = statement_firsts
firsts_of Expression = factor_firsts
firsts_of Factor = factor_firsts
firsts_of TypePhrase = type_firsts

abbrev pub nexts_of : Nest → List Terminal
nexts_of Statement = statement_nexts
nexts_of Expression = expression_nexts
nexts_of Factor = factor_nexts
nexts_of TypePhrase = []

abbrev pub sets : Sets
sets = record { firsts = firsts_of; nexts = nexts_of }
