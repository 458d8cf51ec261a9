-- The tests of one token: what is of one kind and of another.
use Rattle.std.proofs.Common.{◌≡◌, Bool, true, false, not, ◌||◌, ◌&&◌, List, [], ◌∷◌, ◌++◌, Option, Some, None, refl, sym, ap, ◌∙◌, subst, inl, inr}
use Rattle.std.proofs.lemmas.Bool.{or_cases, true≢false}
use denote.Enum.Bare.{sameb, same_true, true_same}
use Rattle.orca_lexer.specs.declared.token.TokenKind.{TokenKind}
use Rattle.orca_lexer.specs.declared.token.TokenKind.TheVariants.{Name, Number, Char, Text, Key, Sign}
use Rattle.orca_lexer.specs.declared.token.Token.{Token}
use Rattle.orca_lexer.specs.declared.token.Keyword.{Keyword}
use Rattle.orca_lexer.specs.declared.token.Symbol.{Symbol}
use Rattle.orca_lexer.specs.contracts.token.Keyword as keyword
use Rattle.orca_lexer.specs.contracts.token.Symbol as symbol
use Rattle.orca_grammar.specs.Forms.{Terminal, KeyOf, SignOf, AnyName, AnyNumber, AnyChar, AnyText, is}
use Rattle.orca_grammar.specs.Reading.{same, is_any, comes, has, apart, within}

pub and_cases : (x y : Bool) → (x && y) ≡ true → (x ≡ true) × (y ≡ true)
and_cases true y h = (refl, h)
and_cases false y h = absurd cc

pub or_false : (x y : Bool) → (x || y) ≡ false → (x ≡ false) × (y ≡ false)
or_false true y h = absurd cc
or_false false y h = (refl, h)

pub not_false : (b : Bool) → (b ≡ true → ⊥) → b ≡ false
not_false true f = absurd (f refl)
not_false false f = refl

pub not_true : (b : Bool) → not b ≡ true → b ≡ false
not_true true h = absurd cc
not_true false h = refl

-- ---- terminals

keys_same : (x a b : Keyword) → sameb keyword.the_type x a ≡ true → sameb keyword.the_type x b ≡ true → sameb keyword.the_type a b ≡ true
keys_same x a b p q = true_same keyword.the_type a b (sym (same_true keyword.the_type tt x a p) ∙ same_true keyword.the_type tt x b q)

signs_same : (x a b : Symbol) → sameb symbol.the_type x a ≡ true → sameb symbol.the_type x b ≡ true → sameb symbol.the_type a b ≡ true
signs_same x a b p q = true_same symbol.the_type a b (sym (same_true symbol.the_type tt x a p) ∙ same_true symbol.the_type tt x b q)

-- two kinds of which one token is
pub are_same : (w v : Terminal) (k : TokenKind) → is w k ≡ true → is v k ≡ true → same w v ≡ true
are_same (KeyOf a) (KeyOf b) (Key x) p q = keys_same x a b p q
are_same (KeyOf a) v (Name x) p q = absurd cc
are_same (KeyOf a) v (Number x) p q = absurd cc
are_same (KeyOf a) v (Char x) p q = absurd cc
are_same (KeyOf a) v (Text x) p q = absurd cc
are_same (KeyOf a) v (Sign x) p q = absurd cc
are_same (KeyOf a) (SignOf b) (Key x) p q = absurd cc
are_same (KeyOf a) AnyName (Key x) p q = absurd cc
are_same (KeyOf a) AnyNumber (Key x) p q = absurd cc
are_same (KeyOf a) AnyChar (Key x) p q = absurd cc
are_same (KeyOf a) AnyText (Key x) p q = absurd cc
are_same (SignOf a) (SignOf b) (Sign x) p q = signs_same x a b p q
are_same (SignOf a) v (Name x) p q = absurd cc
are_same (SignOf a) v (Number x) p q = absurd cc
are_same (SignOf a) v (Char x) p q = absurd cc
are_same (SignOf a) v (Text x) p q = absurd cc
are_same (SignOf a) v (Key x) p q = absurd cc
are_same (SignOf a) (KeyOf b) (Sign x) p q = absurd cc
are_same (SignOf a) AnyName (Sign x) p q = absurd cc
are_same (SignOf a) AnyNumber (Sign x) p q = absurd cc
are_same (SignOf a) AnyChar (Sign x) p q = absurd cc
are_same (SignOf a) AnyText (Sign x) p q = absurd cc
are_same AnyName AnyName k p q = refl
are_same AnyName (KeyOf b) (Name x) p q = absurd cc
are_same AnyName (SignOf b) (Name x) p q = absurd cc
are_same AnyName AnyNumber (Name x) p q = absurd cc
are_same AnyName AnyChar (Name x) p q = absurd cc
are_same AnyName AnyText (Name x) p q = absurd cc
are_same AnyName v k p q = absurd cc
are_same AnyNumber AnyNumber k p q = refl
are_same AnyNumber (KeyOf b) (Number x) p q = absurd cc
are_same AnyNumber (SignOf b) (Number x) p q = absurd cc
are_same AnyNumber AnyName (Number x) p q = absurd cc
are_same AnyNumber AnyChar (Number x) p q = absurd cc
are_same AnyNumber AnyText (Number x) p q = absurd cc
are_same AnyNumber v k p q = absurd cc
are_same AnyChar AnyChar k p q = refl
are_same AnyChar (KeyOf b) (Char x) p q = absurd cc
are_same AnyChar (SignOf b) (Char x) p q = absurd cc
are_same AnyChar AnyName (Char x) p q = absurd cc
are_same AnyChar AnyNumber (Char x) p q = absurd cc
are_same AnyChar AnyText (Char x) p q = absurd cc
are_same AnyChar v k p q = absurd cc
are_same AnyText AnyText k p q = refl
are_same AnyText (KeyOf b) (Text x) p q = absurd cc
are_same AnyText (SignOf b) (Text x) p q = absurd cc
are_same AnyText AnyName (Text x) p q = absurd cc
are_same AnyText AnyNumber (Text x) p q = absurd cc
are_same AnyText AnyChar (Text x) p q = absurd cc
are_same AnyText v k p q = absurd cc

-- a token of a kind is of the same kind
pub by_same : (v w : Terminal) (k : TokenKind) → same v w ≡ true → is w k ≡ true → is v k ≡ true
by_same (KeyOf a) (KeyOf b) k s p = subst (λ x. is (KeyOf x) k ≡ true) (sym (same_true keyword.the_type tt a b s)) p
by_same (SignOf a) (SignOf b) k s p = subst (λ x. is (SignOf x) k ≡ true) (sym (same_true symbol.the_type tt a b s)) p
by_same AnyName AnyName k s p = p
by_same AnyNumber AnyNumber k s p = p
by_same AnyChar AnyChar k s p = p
by_same AnyText AnyText k s p = p
by_same _ _ k s p = absurd cc

-- ---- sets of terminals

has_of : (vs : List Terminal) (w : Terminal) (k : TokenKind) → is w k ≡ true → is_any vs k ≡ true → has vs w ≡ true
has_of [] w k p q = absurd cc
has_of (v ∷ vs) w k p q =
    elim (or_cases (is v k) (is_any vs k) q) [
      | inl here ↦ rw (are_same v w k here p) refl
      | inr there ↦ or_right (same v w) (has vs w) (has_of vs w k p there)
    ]
  where
    or_right : (x y : Bool) → y ≡ true → (x || y) ≡ true
    or_right true y h = refl
    or_right false y h = h

any_of : (vs : List Terminal) (w : Terminal) (k : TokenKind) → has vs w ≡ true → is w k ≡ true → is_any vs k ≡ true
any_of [] w k h p = absurd cc
any_of (v ∷ vs) w k h p =
    elim (or_cases (same v w) (has vs w) h) [
      | inl here ↦ rw (by_same v w k here p) refl
      | inr there ↦ or_right (is v k) (is_any vs k) (any_of vs w k there p)
    ]
  where
    or_right : (x y : Bool) → y ≡ true → (x || y) ≡ true
    or_right true y h = refl
    or_right false y h = h

apart_any : (ws vs : List Terminal) (k : TokenKind) → apart ws vs ≡ true → is_any ws k ≡ true → is_any vs k ≡ true → ⊥
apart_any [] vs k a p q = absurd cc
apart_any (w ∷ ws) vs k a p q =
    let parts = and_cases (not (has vs w)) (apart ws vs) a in
    elim (or_cases (is w k) (is_any ws k) p) [
      | inl here ↦ true≢false (sym (has_of vs w k here q) ∙ not_true (has vs w) parts.0)
      | inr there ↦ apart_any ws vs k parts.1 there q
    ]

pub apart_comes : (ws vs : List Terminal) (ts : List Token) → apart ws vs ≡ true → comes ws ts ≡ true → comes vs ts ≡ true → ⊥
apart_comes ws vs [] a p q = absurd cc
apart_comes ws vs (t ∷ ts) a p q = apart_any ws vs t.kind a p q

within_any : (ws vs : List Terminal) (k : TokenKind) → within ws vs ≡ true → is_any ws k ≡ true → is_any vs k ≡ true
within_any [] vs k a p = absurd cc
within_any (w ∷ ws) vs k a p =
    let parts = and_cases (has vs w) (within ws vs) a in
    elim (or_cases (is w k) (is_any ws k) p) [
      | inl here ↦ any_of vs w k parts.0 here
      | inr there ↦ within_any ws vs k parts.1 there
    ]

pub within_comes : (ws vs : List Terminal) (ts : List Token) → within ws vs ≡ true → comes vs ts ≡ false → comes ws ts ≡ false
within_comes ws vs [] a p = refl
within_comes ws vs (t ∷ ts) a p = not_false (is_any ws t.kind) (λ h. true≢false (sym (within_any ws vs t.kind a h) ∙ p))

any_append : (ws vs : List Terminal) (k : TokenKind) → is_any (ws ++ vs) k ≡ (is_any ws k || is_any vs k)
any_append [] vs k = refl
any_append (w ∷ ws) vs k = ap (λ b. is w k || b) (any_append ws vs k) ∙ or_assoc (is w k) (is_any ws k) (is_any vs k)
  where
    or_assoc : (x y z : Bool) → (x || (y || z)) ≡ ((x || y) || z)
    or_assoc true y z = refl
    or_assoc false y z = refl

pub comes_append : (ws vs : List Terminal) (ts : List Token) → comes (ws ++ vs) ts ≡ (comes ws ts || comes vs ts)
comes_append ws vs [] = refl
comes_append ws vs (t ∷ ts) = any_append ws vs t.kind

pub comes_none : (ts : List Token) → comes [] ts ≡ false
comes_none [] = refl
comes_none (t ∷ ts) = refl

-- what comes next is told by the first token
abbrev pub head : List Token → Option Token
head [] = None
head (t ∷ ts) = Some t

pub comes_head : (ws : List Terminal) (ts us : List Token) → head ts ≡ head us → comes ws ts ≡ comes ws us
comes_head ws [] [] e = refl
comes_head ws [] (u ∷ us) e = absurd cc
comes_head ws (t ∷ ts) [] e = absurd cc
comes_head ws (t ∷ ts) (u ∷ us) e = let same : t ≡ u = cc in ap (λ (x : Token). is_any ws x.kind) same
