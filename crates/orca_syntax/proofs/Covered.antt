-- What is derived from a form is what some parts have, which are put in front of what comes behind: for each way to make a form.
use Rattle.std.proofs.Common.{◌≡◌, ℕ, ℤ, suc, ◌<◌, true, false, List, [], ◌∷◌, ◌++◌, length, Option, Some, None, refl, ap, ◌∙◌, arith, length-append}
use Rattle.std.specs.Prelude.{map}
use Rattle.orca_base.specs.declared.place.Place.{Place}
use Rattle.orca_lexer.specs.declared.token.Keyword.{Keyword}
use Rattle.orca_lexer.specs.declared.token.Symbol.{Symbol}
use Rattle.orca_lexer.specs.declared.token.Token.{Token}
use Rattle.orca_lexer.specs.declared.token.TokenKind.{TokenKind}
use Rattle.orca_lexer.specs.declared.token.TokenKind.TheVariants as kind
use Rattle.orca_lexer.specs.declared.token.TokenKind.TheVariants.{Key, Sign}
use Rattle.orca_lexer.specs.contracts.token.Keyword as keyword
use Rattle.orca_lexer.specs.contracts.token.Symbol as symbol
use denote.Enum.Bare.{same_true}
use Rattle.orca_grammar.specs.Forms.{KeyOf, SignOf, AnyName, AnyNumber, AnyChar, AnyText, is, Nest, Links, Form, Nothing, Word, ◌⨾◌, ◌∣◌, Many, Chained, Nested, Phrase, Chain, Mark, Spelled, Begin, End, Derives, nothing, word, both, one, other, none as no_more, more, links, nested}
use Rattle.orca_grammar.specs.Rules.{rule, optional, listed, key, key_at, sign, sign_at, name}
use Rattle.orca_syntax.specs.Forest.{Forest, none, group, flat}
use Rattle.orca_syntax.specs.Derivation as der
use Rattle.orca_syntax.proofs.MarksShown.{in_group, alone, in_turn}
use Rattle.orca_syntax.proofs.ReadBack.{text_of}
use Rattle.orca_syntax.proofs.ReadStatements.{value_of}

-- the marks are those of such a part
pub record Covered {X : Type 0} (put : X → Forest → Forest) (ms : List Mark) : Type 0 where
  pub part : X
  pub same : (g : Forest) → ms ++ flat g ≡ flat (put part g)

-- so it is for what is derived from the form with fewer marks than so many
abbrev pub Covers : {X : Type 0} → ℕ → Form → (X → Forest → Forest) → Type 0
Covers k f put = (ms : List Mark) (ts rest : List Token) → length ms < k → Derives rule f ms ts rest → Covered put ms

-- ---- the parts in other words

pub as_part : {X Y : Type 0} {k : ℕ} {f : Form} {put : X → Forest → Forest} {put' : Y → Forest → Forest} → Covers k f put → (view : X → Y) → ((x : X) (g : Forest) → put x g ≡ put' (view x) g) → Covers k f put'
as_part covers view same ms ts rest less d =
    let x = covers ms ts rest less d in
    record { part = view x.part; same = λ g. x.same g ∙ ap flat (same x.part g) }

-- ---- tokens

key_is : (w : Keyword) (k : TokenKind) → is (KeyOf w) k ≡ true → k ≡ Key w
key_is w (Key v) e = ap (λ x. Key x) (same_true keyword.the_type tt v w e)
key_is w (kind.Name x) e = absurd cc
key_is w (kind.Number x) e = absurd cc
key_is w (kind.Char x) e = absurd cc
key_is w (kind.Text x) e = absurd cc
key_is w (Sign x) e = absurd cc

sign_is : (s : Symbol) (k : TokenKind) → is (SignOf s) k ≡ true → k ≡ Sign s
sign_is s (Sign v) e = ap (λ x. Sign x) (same_true symbol.the_type tt v s e)
sign_is s (kind.Name x) e = absurd cc
sign_is s (kind.Number x) e = absurd cc
sign_is s (kind.Char x) e = absurd cc
sign_is s (kind.Text x) e = absurd cc
sign_is s (Key x) e = absurd cc

abbrev pub code_of : TokenKind → ℕ
code_of (kind.Char c) = c
code_of _ = 0

abbrev pub string_of : TokenKind → List ℕ
string_of (kind.Text t) = t
string_of _ = []

name_is : (k : TokenKind) → is AnyName k ≡ true → k ≡ kind.Name (text_of k)
name_is (kind.Name x) e = refl
name_is (kind.Number x) e = absurd cc
name_is (kind.Char x) e = absurd cc
name_is (kind.Text x) e = absurd cc
name_is (Key x) e = absurd cc
name_is (Sign x) e = absurd cc

number_is : (k : TokenKind) → is AnyNumber k ≡ true → k ≡ kind.Number (value_of k)
number_is (kind.Number x) e = refl
number_is (kind.Name x) e = absurd cc
number_is (kind.Char x) e = absurd cc
number_is (kind.Text x) e = absurd cc
number_is (Key x) e = absurd cc
number_is (Sign x) e = absurd cc

char_is : (k : TokenKind) → is AnyChar k ≡ true → k ≡ kind.Char (code_of k)
char_is (kind.Char x) e = refl
char_is (kind.Number x) e = absurd cc
char_is (kind.Name x) e = absurd cc
char_is (kind.Text x) e = absurd cc
char_is (Key x) e = absurd cc
char_is (Sign x) e = absurd cc

text_is : (k : TokenKind) → is AnyText k ≡ true → k ≡ kind.Text (string_of k)
text_is (kind.Text x) e = refl
text_is (kind.Number x) e = absurd cc
text_is (kind.Char x) e = absurd cc
text_is (kind.Name x) e = absurd cc
text_is (Key x) e = absurd cc
text_is (Sign x) e = absurd cc

pub a_key : (k : ℕ) (w : Keyword) → Covers k (key w) (λ (u : Unit {0}) g. der.word (Key w) g)
a_key k w ms ts rest less (word {t = t} e) = record { part = tt; same = λ g. ap (λ (x : TokenKind). Spelled None x ∷ flat g) (key_is w t.kind e) }

pub a_key_at : (k : ℕ) (w : Keyword) → Covers k (key_at w) (λ (at : Place) g. der.word_at at (Key w) g)
a_key_at k w ms ts rest less (word {t = t} e) = record { part = t.at; same = λ g. ap (λ (x : TokenKind). Spelled (Some t.at) x ∷ flat g) (key_is w t.kind e) }

pub a_sign : (k : ℕ) (s : Symbol) → Covers k (sign s) (λ (u : Unit {0}) g. der.word (Sign s) g)
a_sign k s ms ts rest less (word {t = t} e) = record { part = tt; same = λ g. ap (λ (x : TokenKind). Spelled None x ∷ flat g) (sign_is s t.kind e) }

pub a_sign_at : (k : ℕ) (s : Symbol) → Covers k (sign_at s) (λ (at : Place) g. der.word_at at (Sign s) g)
a_sign_at k s ms ts rest less (word {t = t} e) = record { part = t.at; same = λ g. ap (λ (x : TokenKind). Spelled (Some t.at) x ∷ flat g) (sign_is s t.kind e) }

pub a_name : (k : ℕ) → Covers k name der.name
a_name k ms ts rest less (word {t = t} e) =
    record { part = record { at = t.at; text = text_of t.kind }; same = λ g. ap (λ (x : TokenKind). Spelled (Some t.at) x ∷ flat g) (name_is t.kind e) }

-- a token with a content, and its place
pub a_number : (k : ℕ) → Covers k (Word true AnyNumber) (λ (x : Place × ℤ) g. der.word_at x.0 (kind.Number x.1) g)
a_number k ms ts rest less (word {t = t} e) = record { part = (t.at, value_of t.kind); same = λ g. ap (λ (x : TokenKind). Spelled (Some t.at) x ∷ flat g) (number_is t.kind e) }

pub a_value : (k : ℕ) → Covers k (Word false AnyNumber) (λ (x : ℤ) g. der.word (kind.Number x) g)
a_value k ms ts rest less (word {t = t} e) = record { part = value_of t.kind; same = λ g. ap (λ (x : TokenKind). Spelled None x ∷ flat g) (number_is t.kind e) }

pub a_char : (k : ℕ) → Covers k (Word true AnyChar) (λ (x : Place × ℕ) g. der.word_at x.0 (kind.Char x.1) g)
a_char k ms ts rest less (word {t = t} e) = record { part = (t.at, code_of t.kind); same = λ g. ap (λ (x : TokenKind). Spelled (Some t.at) x ∷ flat g) (char_is t.kind e) }

pub a_text : (k : ℕ) → Covers k (Word true AnyText) (λ (x : Place × List ℕ) g. der.word_at x.0 (kind.Text x.1) g)
a_text k ms ts rest less (word {t = t} e) = record { part = (t.at, string_of t.kind); same = λ g. ap (λ (x : TokenKind). Spelled (Some t.at) x ∷ flat g) (text_is t.kind e) }

-- ---- forms made of forms

shorter_front : (k : ℕ) (a b : List Mark) → length (a ++ b) < k → length a < k
shorter_front k a b less = omega (arith, less, length-append a b)

shorter_back : (k : ℕ) (a b : List Mark) → length (a ++ b) < k → length b < k
shorter_back k a b less = omega (arith, less, length-append a b)

pub seq : {X Y : Type 0} {k : ℕ} {f g : Form} {p : X → Forest → Forest} {q : Y → Forest → Forest} → Covers k f p → Covers k g q → Covers k (f ⨾ g) (λ (x : X × Y) h. p x.0 (q x.1 h))
seq {k = k} {q = q} first second ms ts rest less (both {a = a} {b = b} {mid = mid} d e) =
    let x = first a ts mid (shorter_front k a b less) d in
    let y = second b mid rest (shorter_back k a b less) e in
    record { part = (x.part, y.part); same = λ h. in_turn a b (flat h) (y.same h) (x.same (q y.part h)) }

pub alt : {X : Type 0} {k : ℕ} {f g : Form} {p : X → Forest → Forest} → Covers k f p → Covers k g p → Covers k (f ∣ g) p
alt first second ms ts rest less (one d) = first ms ts rest less d
alt first second ms ts rest less (other d) = second ms ts rest less d

pub maybe : {X : Type 0} {k : ℕ} {f : Form} {p : X → Forest → Forest} → Covers k f p → Covers k (optional f) (λ (o : Option X) g. der.if_any p o g)
maybe covers ms ts rest less (one d) = let x = covers ms ts rest less d in record { part = Some x.part; same = x.same }
maybe covers ms ts rest less (other nothing) = record { part = None; same = λ g. refl }

pub many : {X : Type 0} {k : ℕ} {f : Form} {p : X → Forest → Forest} → Covers k f p → Covers k (Many f) (λ (xs : List X) g. der.each p xs g)
many covers ms ts rest less no_more = record { part = []; same = λ g. refl }
many {k = k} {p = p} covers ms ts rest less (more {a = a} {b = b} {mid = mid} d e) =
    let x = covers a ts mid (shorter_front k a b less) d in
    let xs = many covers b mid rest (shorter_back k a b less) e in
    record { part = x.part ∷ xs.part; same = λ g. in_turn a b (flat g) (xs.same g) (x.same (der.each p xs.part g)) }

pub nothing_there : (k : ℕ) → Covers k Nothing (λ (u : Unit {0}) g. g)
nothing_there k ms ts rest less nothing = record { part = tt; same = λ g. refl }

-- some parts with a separator between two, and any number of these
pub each_map : {X Y : Type 0} (put : Y → Forest → Forest) (view : X → Y) (xs : List X) (g : Forest) → der.each (λ x h. put (view x) h) xs g ≡ der.each put (map view xs) g
each_map put view [] g = refl
each_map put view (x ∷ xs) g = ap (put (view x)) (each_map put view xs g)

pub some_listed : {X : Type 0} {k : ℕ} {f : Form} {p : X → Forest → Forest} (s : Symbol) → Covers k f p → Covers k (listed (sign s) f) (λ (xs : List X) g. der.separated (Sign s) p xs g)
some_listed {k = k} {p = p} s covers =
    as_part (seq covers (many (seq (a_sign k s) covers))) (λ x. x.0 ∷ map (λ y. y.1) x.1) (λ x g. ap (p x.0) (each_map (λ y h. der.word (Sign s) (p y h)) (λ y. y.1) x.1 g))

or_none : {X : Type 0} → Option (List X) → List X
or_none None = []
or_none (Some xs) = xs

or_none_same : {X : Type 0} (p : X → Forest → Forest) (s : Symbol) (o : Option (List X)) (g : Forest) → der.if_any (λ xs h. der.separated (Sign s) p xs h) o g ≡ der.separated (Sign s) p (or_none o) g
unfolding or_none
or_none_same p s None g = refl
or_none_same p s (Some xs) g = refl

pub any_listed : {X : Type 0} {k : ℕ} {f : Form} {p : X → Forest → Forest} (s : Symbol) → Covers k f p → Covers k (optional (listed (sign s) f)) (λ (xs : List X) g. der.separated (Sign s) p xs g)
any_listed {p = p} s covers = as_part (maybe (some_listed s covers)) or_none (or_none_same p s)

-- a bracketed phrase has fewer marks inside
shorter_inside : (k : ℕ) (b : Mark) (a : List Mark) (e : Mark) → length (b ∷ (a ++ e ∷ [])) < suc k → length a < k
shorter_inside k b a e less = omega (arith, less, length-append a (e ∷ []))

pub in_phrase : {X : Type 0} {k : ℕ} (n : Nest) {p : X → Forest → Forest} → Covers k (rule n) p → Covers (suc k) (Nested n) (λ (x : X) g. group (Phrase n) (p x none) g)
in_phrase {k = k} n {p = p} covers ms ts rest less (nested {a = a} d) =
    let x = covers a ts rest (shorter_inside k (Begin (Phrase n)) a (End (Phrase n)) less) d in
    record { part = x.part; same = λ g. in_group (Phrase n) a (p x.part none) g (alone a _ (x.same none)) }

pub in_chain : {X : Type 0} {k : ℕ} {l : Links} {f : Form} {p : X → Forest → Forest} → Covers k f p → Covers k (Chained l f) (λ (x : X) g. group (Chain l) (p x none) g)
in_chain {k = k} {l = l} {p = p} covers ms ts rest less (links {a = a} d) =
    let x = covers a ts rest (omega (arith, less, length-append a (End (Chain l) ∷ []))) d in
    record { part = x.part; same = λ g. in_group (Chain l) a (p x.part none) g (alone a _ (x.same none)) }
