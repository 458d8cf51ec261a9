-- Reading by one token, on lists: the tokens that may come first and those that may go on, the tests under which one token
-- decides each choice (Krishnaswami and Yallop, A typed, algebraic approach to parsing, 2019), and the reader of a form.
use Rattle.std.specs.Prelude.{ℕ, zero, suc, Bool, true, false, not, ◌||◌, ◌&&◌, List, [], ◌∷◌, ◌++◌, length, Result, Ok, Err, if◌then◌else◌}
use Rattle.std.specs.List.{list_all}
use Rattle.orca_lexer.specs.declared.token.TokenKind.{TokenKind}
use Rattle.orca_lexer.specs.declared.token.Token.{Token}
use Rattle.orca_lexer.specs.contracts.token.Keyword as keyword
use Rattle.orca_lexer.specs.contracts.token.Symbol as symbol
use denote.Enum.Bare.{sameb}
use Rattle.orca_grammar.specs.Forms.{Terminal, KeyOf, SignOf, AnyName, AnyNumber, AnyChar, AnyText, is, Nest, Form, Nothing, Word, ◌⨾◌, ◌∣◌, Many, Chained, Nested, Bracket, Phrase, Chain, Mark, mark_of, bracketed}

-- ---- the tokens that a form may begin with, and those that may go on behind it

-- whether two are one
abbrev pub same : Terminal → Terminal → Bool
same (KeyOf w) (KeyOf v) = sameb keyword.the_type w v
same (SignOf s) (SignOf t) = sameb symbol.the_type s t
same AnyName AnyName = true
same AnyNumber AnyNumber = true
same AnyChar AnyChar = true
same AnyText AnyText = true
same _ _ = false

-- a token is one of these
abbrev pub is_any : List Terminal → TokenKind → Bool
is_any [] kind = false
is_any (w ∷ ws) kind = is w kind || is_any ws kind

-- one of these comes next
abbrev pub comes : List Terminal → List Token → Bool
comes ws [] = false
comes ws (t ∷ ts) = is_any ws t.kind

abbrev pub has : List Terminal → Terminal → Bool
has [] w = false
has (v ∷ ws) w = same v w || has ws w

-- no token is of both kinds; each of these is among those
abbrev pub apart : List Terminal → List Terminal → Bool
apart ws vs = list_all (λ w. not (has vs w)) ws

abbrev pub within : List Terminal → List Terminal → Bool
within ws vs = list_all (has vs) ws

-- the tokens that nested phrases begin with, and those that may go on behind one
pub record Sets : Type 0 where
  pub firsts : Nest → List Terminal
  pub nexts : Nest → List Terminal

-- a form may be empty
abbrev pub nullable : Form → Bool
nullable Nothing = true
nullable (Word keeps w) = false
nullable (f ⨾ g) = nullable f && nullable g
nullable (f ∣ g) = nullable f || nullable g
nullable (Many f) = true
nullable (Chained l f) = nullable f
nullable (Nested n) = false

abbrev pub first : Sets → Form → List Terminal
first sets Nothing = []
first sets (Word keeps w) = w ∷ []
first sets (f ⨾ g) = first sets f ++ (if nullable f then first sets g else [])
first sets (f ∣ g) = first sets f ++ first sets g
first sets (Many f) = first sets f
first sets (Chained l f) = first sets f
first sets (Nested n) = sets.firsts n

-- the tokens that would go on behind what is already one of a form
abbrev pub next : Sets → Form → List Terminal
next sets Nothing = []
next sets (Word keeps w) = []
next sets (f ⨾ g) = next sets g ++ (if nullable g then first sets g ++ next sets f else [])
next sets (f ∣ g) = next sets f ++ (next sets g ++ (if nullable g then first sets f else []))
next sets (Many f) = first sets f ++ next sets f
next sets (Chained l f) = next sets f
next sets (Nested n) = sets.nexts n

-- one token decides: which of two comes, whether one more comes, and where one form ends and the other begins
abbrev pub decided : Sets → Form → Bool
decided sets Nothing = true
decided sets (Word keeps w) = true
decided sets (f ⨾ g) = decided sets f && (decided sets g && apart (next sets f) (first sets g))
decided sets (f ∣ g) = decided sets f && (decided sets g && (not (nullable f) && apart (first sets f) (first sets g)))
decided sets (Many f) = decided sets f && (not (nullable f) && apart (next sets f) (first sets f))
decided sets (Chained l f) = decided sets f
decided sets (Nested n) = true

-- ---- reading

-- why nothing is read: a token with which nothing goes on, or a phrase that would be nested too deep; and the tokens from there on
pub data Why : Type 0 where
  Unexpected TooDeep : Why

pub record Bad : Type 0 where
  pub why : Why
  pub rest : List Token

abbrev pub bad : {A : Type 0} → Why → List Token → Result A Bad
bad why rest = Err (record { why = why; rest = rest })

-- the marks of what is read, and the tokens behind it
abbrev pub Read : Type 0
Read = Result (List Mark × List Token) Bad

abbrev pub Reader : Type 0
Reader = List Token → Read

infixl 10 ◌>>=◌
abbrev pub ◌>>=◌ : {A B : Type 0} → Result A Bad → (A → Result B Bad) → Result B Bad
(Ok x) >>= f = f x
(Err e) >>= f = Err e

-- what is read, with marks in front of it
abbrev pub behind : List Mark → Read → Read
behind a r = r >>= (λ x. Ok (a ++ x.0, x.1))

abbrev pub in_brackets : Bracket → Read → Read
in_brackets b r = r >>= (λ x. Ok (bracketed b x.0, x.1))

-- one after the other, as long as one comes; `k` is a bound on how many
abbrev pub repeated : List Terminal → Reader → ℕ → Reader
repeated firsts reader zero ts = Ok ([], ts)
repeated firsts reader (suc k) ts =
    if comes firsts ts then (reader ts >>= (λ x. behind x.0 (repeated firsts reader k x.1))) else Ok ([], ts)

abbrev pub word_at : Bool → Terminal → Reader
word_at keeps w [] = bad Unexpected []
word_at keeps w (t ∷ ts) = if is w t.kind then Ok (mark_of keeps t ∷ [], ts) else bad Unexpected (t ∷ ts)

-- the reader of a form, over readers of the nested phrases
abbrev pub read_over : Sets → (Nest → Reader) → Form → Reader
read_over sets sub Nothing ts = Ok ([], ts)
read_over sets sub (Word keeps w) ts = word_at keeps w ts
read_over sets sub (f ⨾ g) ts = read_over sets sub f ts >>= (λ x. behind x.0 (read_over sets sub g x.1))
read_over sets sub (f ∣ g) ts = if comes (first sets f) ts then read_over sets sub f ts else read_over sets sub g ts
read_over sets sub (Many f) ts = repeated (first sets f) (read_over sets sub f) (length ts) ts
read_over sets sub (Chained l f) ts = in_brackets (Chain l) (read_over sets sub f ts)
read_over sets sub (Nested n) ts = sub n ts

-- the reader of a nested phrase, where so many levels are left
unfoldable pub nest_over : Sets → (Nest → Form) → ℕ → Nest → Reader
nest_over sets rule zero n ts = if comes (sets.firsts n) ts then bad TooDeep ts else bad Unexpected ts
nest_over sets rule (suc d) n ts = in_brackets (Phrase n) (read_over sets (nest_over sets rule d) (rule n) ts)
