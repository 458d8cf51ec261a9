-- The tokens of a derivation are those of its marks.
use Rattle.std.proofs.Common.{◌≡◌, true, false, List, [], ◌∷◌, ◌++◌, Some, None, refl, sym, ap, ◌∙◌, subst, append_assoc}
use Rattle.std.proofs.lemmas.List.{append-nil}
use Rattle.orca_lexer.specs.declared.token.Token.{Token}
use Rattle.orca_grammar.specs.Forms.{Form, Bracket, Phrase, Chain, Mark, Spelled, Begin, End, bracketed, Derives, nothing, word, both, one, other, none, more, links, nested}
use Rattle.orca_grammar.specs.Rules.{rule}
use Rattle.orca_grammar.specs.Grammar.{IsText}
use Rattle.orca_grammar.specs.Words.{AreTokensOf}

words_append : (a b : List Mark) (x y : List Token) → AreTokensOf a x → AreTokensOf b y → AreTokensOf (a ++ b) (x ++ y)
words_append [] b x y e h = subst (λ (z : List Token). AreTokensOf b (z ++ y)) (sym e) h
words_append (Spelled at kind ∷ a) b [] y e h = absurd e
words_append (Spelled None kind ∷ a) b (t ∷ x) y e h = (e.0, words_append a b x y e.1 h)
words_append (Spelled (Some at) kind ∷ a) b (t ∷ x) y e h = (e.0, e.1, words_append a b x y e.2 h)
words_append (Begin s ∷ a) b x y e h = words_append a b x y e h
words_append (End s ∷ a) b x y e h = words_append a b x y e h

in_brackets : (b : Bracket) (a : List Mark) (x : List Token) → AreTokensOf a x → AreTokensOf (bracketed b a) x
in_brackets b a x h = subst (AreTokensOf (a ++ End b ∷ [])) (append-nil x) (words_append a (End b ∷ []) x [] h refl)

-- the tokens in front of those that are left
record Used (ms : List Mark) (ts rest : List Token) : Type 0 where
  used : List Token
  is : ts ≡ used ++ rest
  are : AreTokensOf ms used

in_turn : (a b : List Mark) (ts mid rest : List Token) → Used a ts mid → Used b mid rest → Used (a ++ b) ts rest
in_turn a b ts mid rest x y = record {
  used = x.used ++ y.used;
  is = x.is ∙ ap (λ (z : List Token). x.used ++ z) y.is ∙ sym (append_assoc x.used y.used rest);
  are = words_append a b x.used y.used x.are y.are;
}

bracketed_used : (b : Bracket) (a : List Mark) (ts rest : List Token) → Used a ts rest → Used (bracketed b a) ts rest
bracketed_used b a ts rest x = record { used = x.used; is = x.is; are = in_brackets b a x.used x.are }

words_of : {f : Form} {ms : List Mark} {ts rest : List Token} → Derives rule f ms ts rest → Used ms ts rest
words_of nothing = record { used = []; is = refl; are = refl }
words_of (word {keeps = true} {t = t} p) = record { used = t ∷ []; is = refl; are = (refl, refl, refl) }
words_of (word {keeps = false} {t = t} p) = record { used = t ∷ []; is = refl; are = (refl, refl) }
words_of (both {a = a} {b = b} {ts = ts} {mid = mid} {rest = rest} p q) = in_turn a b ts mid rest (words_of p) (words_of q)
words_of (one p) = words_of p
words_of (other p) = words_of p
words_of none = record { used = []; is = refl; are = refl }
words_of (more {a = a} {b = b} {ts = ts} {mid = mid} {rest = rest} p q) = in_turn a b ts mid rest (words_of p) (words_of q)
words_of (links {l = l} {a = a} {ts = ts} {rest = rest} p) = bracketed_used (Chain l) a ts rest (words_of p)
words_of (nested {n = n} {a = a} {ts = ts} {rest = rest} p) = bracketed_used (Phrase n) a ts rest (words_of p)

pub text_words : (ms : List Mark) (tokens : List Token) → IsText ms tokens → AreTokensOf ms tokens
text_words ms tokens text = let w = words_of text in subst (AreTokensOf ms) (sym (w.is ∙ append-nil w.used)) w.are
