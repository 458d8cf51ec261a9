-- Behind each `if` of a text stands an expression, so an `if` has a first arm with a test. The grammar is asked, form by form, whether
-- what is derived ends with an `if` that waits for its expression.
use Rattle.std.proofs.Common.{◌≡◌, Bool, true, false, cond, List, [], ◌∷◌, ◌++◌, Option, Some, None, refl, sym, ap, ◌∙◌, append_assoc, append-nil}
use Rattle.std.specs.Prelude.{not}
use Rattle.std.proofs.lemmas.Bool.{true≢false}
use Rattle.orca_lexer.specs.declared.token.Keyword.{Keyword}
use Rattle.orca_lexer.specs.declared.token.Keyword.TheVariants.{KeyIf}
use Rattle.orca_lexer.specs.declared.token.Token.{Token}
use Rattle.orca_lexer.specs.declared.token.TokenKind.{TokenKind}
use Rattle.orca_lexer.specs.declared.token.TokenKind.TheVariants as kind
use Rattle.orca_lexer.specs.declared.token.TokenKind.TheVariants.{Key}
use Rattle.orca_lexer.specs.contracts.token.Keyword as keyword
use denote.Enum.Bare.{same_true}
use Rattle.orca_grammar.specs.Forms.{Terminal, KeyOf, SignOf, AnyName, AnyNumber, AnyChar, AnyText, is, Nest, Statement, Expression, Factor, TypePhrase, Form, Nothing, Word, ◌⨾◌, ◌∣◌, Many, Chained, Nested, Bracket, Phrase, Chain, Mark, Spelled, Begin, End, Derives, nothing, word, both, one, other, none as no_more, more, links as linked, nested}
use Rattle.orca_grammar.specs.Rules.{rule, unit}
use Rattle.orca_grammar.specs.Grammar.{IsText}
use Rattle.orca_grammar.proofs.Opened.{every_form}
use Rattle.orca_syntax.specs.Syntax.{Syntax}
use Rattle.orca_syntax.specs.Forest.{Forest, none, token, group, flat}
use Rattle.orca_syntax.specs.Derivation as der

abbrev is_if_key : Keyword → Bool
is_if_key KeyIf = true
is_if_key _ = false

abbrev pub is_if : TokenKind → Bool
is_if (Key w) = is_if_key w
is_if _ = false

-- ---- marks: whether an `if` waits

-- a bracket may stand behind an `if` that waits
abbrev admits : Bool → Bracket → Bool
admits true (Phrase Expression) = true
admits true _ = false
admits false x = true

abbrev waits_well : List Mark → Bool → Bool
waits_well [] b = not b
waits_well (Spelled p k ∷ ms) true = false
waits_well (Spelled p k ∷ ms) false = waits_well ms (is_if k)
waits_well (Begin x ∷ ms) b = cond (admits b x) (waits_well ms false) false
waits_well (End x ∷ ms) true = false
waits_well (End x ∷ ms) false = waits_well ms false

-- ---- forms: what is derived ends with an `if` that waits, or not; nothing is said where it may go wrong

abbrev then_flow : Option Bool → (Bool → Option Bool) → Option Bool
then_flow None next = None
then_flow (Some b) next = next b

abbrev agreed : Option Bool → Option Bool → Option Bool
agreed (Some true) (Some true) = Some true
agreed (Some false) (Some false) = Some false
agreed _ _ = None

abbrev closed : Option Bool → Option Bool
closed (Some false) = Some false
closed _ = None

abbrev is_if_word : Terminal → Bool
is_if_word (KeyOf w) = is_if_key w
is_if_word _ = false

abbrev flow : Form → Bool → Option Bool
flow Nothing b = Some b
flow (Word keeps w) true = None
flow (Word keeps w) false = Some (is_if_word w)
flow (f ⨾ g) b = then_flow (flow f b) (λ c. flow g c)
flow (f ∣ g) b = agreed (flow f b) (flow g b)
flow (Many f) true = None
flow (Many f) false = closed (flow f false)
flow (Chained l f) true = None
flow (Chained l f) false = closed (flow f false)
flow (Nested n) b = cond (admits b (Phrase n)) (Some false) None

rule_flows : (n : Nest) → flow (rule n) false ≡ Some false
unfolding every_form
rule_flows Statement = refl
rule_flows Expression = refl
rule_flows Factor = refl
rule_flows TypePhrase = refl

unit_flows : flow unit false ≡ Some false
unfolding every_form
unit_flows = refl

-- ---- what is derived does so

abbrev out : Option Bool → Bool
out None = false
out (Some b) = b

word_waits : (w : Terminal) (k : TokenKind) → is w k ≡ true → is_if k ≡ is_if_word w
word_waits (KeyOf w) (Key v) e = ap is_if_key (same_true keyword.the_type tt v w e)
word_waits (KeyOf w) (kind.Name x) e = absurd cc
word_waits (KeyOf w) (kind.Number x) e = absurd cc
word_waits (KeyOf w) (kind.Char x) e = absurd cc
word_waits (KeyOf w) (kind.Text x) e = absurd cc
word_waits (KeyOf w) (kind.Sign x) e = absurd cc
word_waits (SignOf s) (Key v) e = absurd cc
word_waits (SignOf s) _ e = refl
word_waits AnyName (Key v) e = absurd cc
word_waits AnyName _ e = refl
word_waits AnyNumber (Key v) e = absurd cc
word_waits AnyNumber _ e = refl
word_waits AnyChar (Key v) e = absurd cc
word_waits AnyChar _ e = refl
word_waits AnyText (Key v) e = absurd cc
word_waits AnyText _ e = refl

agreed_left : (o q : Option Bool) (c : Bool) → agreed o q ≡ Some c → o ≡ Some c
agreed_left None q c e = absurd cc
agreed_left (Some true) None c e = absurd cc
agreed_left (Some true) (Some true) c e = e
agreed_left (Some true) (Some false) c e = absurd cc
agreed_left (Some false) None c e = absurd cc
agreed_left (Some false) (Some true) c e = absurd cc
agreed_left (Some false) (Some false) c e = e

agreed_right : (o q : Option Bool) (c : Bool) → agreed o q ≡ Some c → q ≡ Some c
agreed_right None q c e = absurd cc
agreed_right (Some true) None c e = absurd cc
agreed_right (Some true) (Some true) c e = e
agreed_right (Some true) (Some false) c e = absurd cc
agreed_right (Some false) None c e = absurd cc
agreed_right (Some false) (Some true) c e = absurd cc
agreed_right (Some false) (Some false) c e = e

closed_inside : (o : Option Bool) (c : Bool) → closed o ≡ Some c → o ≡ Some false
closed_inside None c e = absurd cc
closed_inside (Some true) c e = absurd cc
closed_inside (Some false) c e = refl

closed_false : (o : Option Bool) (c : Bool) → closed o ≡ Some c → false ≡ c
closed_false None c e = absurd cc
closed_false (Some true) c e = absurd cc
closed_false (Some false) c e = ap out e

in_both : (f g : Form) (o : Option Bool) (b c : Bool) (xs ys ms : List Mark) → ((d : Bool) → flow f b ≡ Some d → (zs : List Mark) → waits_well (xs ++ zs) b ≡ waits_well zs d)
    → ((d : Bool) → flow g d ≡ Some c → waits_well (ys ++ ms) d ≡ waits_well ms c) → flow f b ≡ o → then_flow o (λ d. flow g d) ≡ Some c → waits_well ((xs ++ ys) ++ ms) b ≡ waits_well ms c
in_both f g None b c xs ys ms first second known e = absurd cc
in_both f g (Some d) b c xs ys ms first second known e = ap (λ (zs : List Mark). waits_well zs b) (append_assoc xs ys ms) ∙ first d known (ys ++ ms) ∙ second d e

in_brackets : (x : Bracket) (xs ms : List Mark) → ((zs : List Mark) → waits_well (xs ++ zs) false ≡ waits_well zs false) → waits_well ((xs ++ End x ∷ []) ++ ms) false ≡ waits_well ms false
in_brackets x xs ms inside = ap (λ (zs : List Mark). waits_well zs false) (append_assoc xs (End x ∷ []) ms) ∙ inside (End x ∷ ms)

flows : {f : Form} {xs : List Mark} {ts rest : List Token} → Derives rule f xs ts rest → (b c : Bool) → flow f b ≡ Some c → (ms : List Mark) → waits_well (xs ++ ms) b ≡ waits_well ms c
flows nothing b c e ms = ap (λ o. waits_well ms (out o)) e
flows (word {keeps = keeps} {w = w} {t = t} p) true c e ms = absurd cc
flows (word {keeps = keeps} {w = w} {t = t} p) false c e ms = ap (λ x. waits_well ms x) (word_waits w t.kind p ∙ ap out e)
flows (both {f = f} {g = g} {a = xs} {b = ys} p q) b c e ms =
    in_both f g (flow f b) b c xs ys ms (λ d known zs. flows p b d known zs) (λ d known. flows q d c known ms) refl e
flows (one {f = f} {g = g} p) b c e ms = flows p b c (agreed_left (flow f b) (flow g b) c e) ms
flows (other {f = f} {g = g} p) b c e ms = flows p b c (agreed_right (flow f b) (flow g b) c e) ms
flows (no_more {f = f}) true c e ms = absurd cc
flows (no_more {f = f}) false c e ms = ap (λ x. waits_well ms x) (closed_false (flow f false) c e)
flows (more {f = f} {a = xs} {b = ys} p q) true c e ms = absurd cc
flows (more {f = f} {a = xs} {b = ys} p q) false c e ms =
    ap (λ (zs : List Mark). waits_well zs false) (append_assoc xs ys ms) ∙ flows p false false (closed_inside (flow f false) c e) (ys ++ ms) ∙ flows q false c e ms
flows (linked {l = l} {f = f} {a = xs} p) true c e ms = absurd cc
flows (linked {l = l} {f = f} {a = xs} p) false c e ms =
    in_brackets (Chain l) xs ms (λ zs. flows p false false (closed_inside (flow f false) c e) zs) ∙ ap (λ x. waits_well ms x) (closed_false (flow f false) c e)
flows (nested {n = n} {a = xs} p) false c e ms = in_brackets (Phrase n) xs ms (λ zs. flows p false false (rule_flows n) zs) ∙ ap (λ o. waits_well ms (out o)) e
flows (nested {n = Expression} {a = xs} p) true c e ms = in_brackets (Phrase Expression) xs ms (λ zs. flows p false false (rule_flows Expression) zs) ∙ ap (λ o. waits_well ms (out o)) e
flows (nested {n = Statement} {a = xs} p) true c e ms = absurd cc
flows (nested {n = Factor} {a = xs} p) true c e ms = absurd cc
flows (nested {n = TypePhrase} {a = xs} p) true c e ms = absurd cc

-- ---- forests: behind each `if` stands an expression

abbrev pub Starts : Bool → Forest → Type 0
Starts false f = Unit {0}
Starts true (group (Phrase Expression) g f) = Unit {0}
Starts true _ = ⊥

abbrev pub Full : Forest → Type 0
Full none = Unit {0}
Full (token p k f) = Starts (is_if k) f × Full f
Full (group b g f) = Full g × Full f

in_parts : (xs : List Mark) (x : Bracket) (ms : List Mark) (b : Bool) → waits_well (xs ++ End x ∷ ms) b ≡ true → (waits_well xs b ≡ true) × (waits_well ms false ≡ true)
in_parts [] x ms true h = absurd (true≢false (sym h))
in_parts [] x ms false h = (refl, h)
in_parts (Spelled p k ∷ xs) x ms true h = absurd (true≢false (sym h))
in_parts (Spelled p k ∷ xs) x ms false h = in_parts xs x ms (is_if k) h
in_parts (Begin y ∷ xs) x ms false h = in_parts xs x ms false h
in_parts (Begin (Phrase Expression) ∷ xs) x ms true h = in_parts xs x ms false h
in_parts (Begin _ ∷ xs) x ms true h = absurd (true≢false (sym h))
in_parts (End y ∷ xs) x ms true h = absurd (true≢false (sym h))
in_parts (End y ∷ xs) x ms false h = in_parts xs x ms false h

full_of : (f : Forest) (b : Bool) → waits_well (flat f) b ≡ true → Starts b f × Full f
full_of none true h = absurd (true≢false (sym h))
full_of none false h = (tt, tt)
full_of (token p k f) true h = absurd (true≢false (sym h))
full_of (token p k f) false h = (tt, full_of f (is_if k) h)
full_of (group x g f) false h = let s = in_parts (flat g) x (flat f) false h in (tt, ((full_of g false s.0).1, (full_of f false s.1).1))
full_of (group (Phrase Expression) g f) true h = let s = in_parts (flat g) (Phrase Expression) (flat f) false h in (tt, ((full_of g false s.0).1, (full_of f false s.1).1))
full_of (group _ g f) true h = absurd (true≢false (sym h))

-- so it is where the marks are a text
pub text_full : (s : Syntax) (tokens : List Token) → IsText (der.syntax_marks s) tokens → Full (der.unit s)
text_full s tokens text =
    (full_of (der.unit s) false (ap (λ (ms : List Mark). waits_well ms false) (sym (append-nil (der.syntax_marks s))) ∙ flows text false false unit_flows [])).1
