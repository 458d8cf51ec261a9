-- Forms of phrases, and the derivations of a form (the grammars of docs/LANGUAGE.md, Grammar, are such forms). A form is a
-- regular expression over tokens and nested phrases. A derivation is kept as marks: the tokens one after the other, with
-- brackets round each nested phrase, and round the links of a chain of operators.
use Rattle.std.specs.Prelude.{◌≡◌, ℕ, zero, suc, ◌+◌, Bool, true, false, List, [], ◌∷◌, ◌++◌, Option, Some, None, if◌then◌else◌}
use Rattle.orca_base.specs.declared.place.Place.{Place}
use Rattle.orca_lexer.specs.declared.token.Keyword.{Keyword}
use Rattle.orca_lexer.specs.declared.token.Symbol.{Symbol}
use Rattle.orca_lexer.specs.declared.token.TokenKind.{TokenKind}
use Rattle.orca_lexer.specs.declared.token.TokenKind.TheVariants.{Name, Number, Char, Text, Key, Sign}
use Rattle.orca_lexer.specs.declared.token.Token.{Token}
use Rattle.orca_lexer.specs.contracts.token.Keyword as keyword
use Rattle.orca_lexer.specs.contracts.token.Symbol as symbol
use denote.Enum.Bare.{sameb}

-- a token that the grammar asks for: a keyword, a symbol, or any name, number, character or string
pub data Terminal : Type 0 where
  KeyOf : Keyword → Terminal
  SignOf : Symbol → Terminal
  AnyName : Terminal
  AnyNumber : Terminal
  AnyChar : Terminal
  AnyText : Terminal

-- whether a token is such a one
abbrev pub is : Terminal → TokenKind → Bool
is (KeyOf w) (Key v) = sameb keyword.the_type v w
is (SignOf s) (Sign t) = sameb symbol.the_type t s
is AnyName (Name n) = true
is AnyNumber (Number v) = true
is AnyChar (Char c) = true
is AnyText (Text t) = true
is _ _ = false

-- the phrases that stand in one another, and are counted as nesting
pub data Nest : Type 0 where
  Statement Expression Factor TypePhrase : Nest

-- the links of a chain of operators
pub data Links : Type 0 where
  Disjunction Conjunction Relation Sum Term : Links

-- A form: nothing; a token, whose place is kept or not; one form and then another; one or else another; any number of one;
-- links in brackets; a nested phrase, by its name.
pub data Form : Type 0 where
  Nothing : Form
  Word : Bool → Terminal → Form
  ◌⨾◌ : Form → Form → Form
  ◌∣◌ : Form → Form → Form
  Many : Form → Form
  Chained : Links → Form → Form
  Nested : Nest → Form

infixr 30 ◌⨾◌
infixr 20 ◌∣◌
-- a bracket's name
pub data Bracket : Type 0 where
  Phrase : Nest → Bracket
  Chain : Links → Bracket

-- a token, with its place where that is kept; or a bracket
pub data Mark : Type 0 where
  Spelled : Option Place → TokenKind → Mark
  Begin : Bracket → Mark
  End : Bracket → Mark

-- a token's mark
abbrev pub mark_of : Bool → Token → Mark
mark_of keeps t = Spelled (if keeps then Some t.at else None) t.kind

-- marks in brackets
abbrev pub bracketed : Bracket → List Mark → List Mark
bracketed b ms = Begin b ∷ (ms ++ End b ∷ [])

-- The front of the tokens is derived from a form, with these marks, and these tokens are left. `rule` has the form of each
-- nested phrase.
pub data Derives (rule : Nest → Form) : Form → List Mark → List Token → List Token → Type 0 where
  nothing : {ts : List Token} → Derives rule Nothing [] ts ts
  word : {keeps : Bool} {w : Terminal} {t : Token} {ts : List Token} → is w t.kind ≡ true →
      Derives rule (Word keeps w) (mark_of keeps t ∷ []) (t ∷ ts) ts
  both : {f g : Form} {a b : List Mark} {ts mid rest : List Token} → Derives rule f a ts mid → Derives rule g b mid rest →
      Derives rule (f ⨾ g) (a ++ b) ts rest
  one : {f g : Form} {a : List Mark} {ts rest : List Token} → Derives rule f a ts rest → Derives rule (f ∣ g) a ts rest
  other : {f g : Form} {a : List Mark} {ts rest : List Token} → Derives rule g a ts rest → Derives rule (f ∣ g) a ts rest
  none : {f : Form} {ts : List Token} → Derives rule (Many f) [] ts ts
  more : {f : Form} {a b : List Mark} {ts mid rest : List Token} → Derives rule f a ts mid → Derives rule (Many f) b mid rest →
      Derives rule (Many f) (a ++ b) ts rest
  links : {l : Links} {f : Form} {a : List Mark} {ts rest : List Token} → Derives rule f a ts rest →
      Derives rule (Chained l f) (bracketed (Chain l) a) ts rest
  nested : {n : Nest} {a : List Mark} {ts rest : List Token} → Derives rule (rule n) a ts rest →
      Derives rule (Nested n) (bracketed (Phrase n) a) ts rest

abbrev pub one_later : Option ℕ → Option ℕ
one_later None = None
one_later (Some n) = Some (n + 1)

-- the number of tokens before the first that stands in more than so many nested phrases
abbrev pub first_deep : List Mark → ℕ → Option ℕ
first_deep [] d = None
first_deep (Spelled at kind ∷ ms) d = one_later (first_deep ms d)
first_deep (Begin (Phrase n) ∷ ms) zero = Some 0
first_deep (Begin (Phrase n) ∷ ms) (suc d) = first_deep ms d
first_deep (Begin (Chain l) ∷ ms) d = first_deep ms d
first_deep (End (Phrase n) ∷ ms) d = first_deep ms (suc d)
first_deep (End (Chain l) ∷ ms) d = first_deep ms d

-- the marks without places
abbrev pub unplaced : List Mark → List Mark
unplaced [] = []
unplaced (Spelled at kind ∷ ms) = Spelled None kind ∷ unplaced ms
unplaced (Begin b ∷ ms) = Begin b ∷ unplaced ms
unplaced (End b ∷ ms) = End b ∷ unplaced ms

-- the tokens alone
abbrev pub spelled : List Mark → List TokenKind
spelled [] = []
spelled (Spelled at kind ∷ ms) = kind ∷ spelled ms
spelled (Begin b ∷ ms) = spelled ms
spelled (End b ∷ ms) = spelled ms
