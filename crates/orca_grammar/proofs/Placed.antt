-- Places aside: tokens of the same kinds have the same derivation.
use Rattle.std.proofs.Common.{◌≡◌, ℕ, zero, suc, List, [], ◌∷◌, ◌++◌, None, Ok, refl, sym, ap, ◌∙◌, subst, append_assoc}
use Rattle.std.specs.Prelude.{map}
use Rattle.std.proofs.lemmas.List.{append-nil}
use Rattle.orca_lexer.specs.declared.token.TokenKind.{TokenKind}
use Rattle.orca_base.specs.declared.limits.TheConstants.{NESTING}
use Rattle.orca_lexer.specs.declared.token.Token.{Token}
use Rattle.orca_grammar.specs.Forms.{is, Form, ◌⨾◌, Many, Bracket, Phrase, Chain, Mark, Spelled, Begin, End, mark_of, bracketed, Derives, nothing, word, both, one, other, none, more, links, nested, first_deep, one_later, unplaced, spelled}
use Rattle.orca_grammar.specs.Rules.{rule, unit}
use Rattle.orca_grammar.specs.Grammar.{IsText, read}
use Rattle.orca_grammar.proofs.Again.{judged}
use Rattle.orca_grammar.proofs.Whole.{read_again}

abbrev pub kinds : List Token → List TokenKind
kinds ts = map (λ t. t.kind) ts

pub spelled_append : (a b : List Mark) → spelled (a ++ b) ≡ spelled a ++ spelled b
spelled_append [] b = refl
spelled_append (Spelled at kind ∷ a) b = ap (λ x. kind ∷ x) (spelled_append a b)
spelled_append (Begin x ∷ a) b = spelled_append a b
spelled_append (End x ∷ a) b = spelled_append a b

pub unplaced_append : (a b : List Mark) → unplaced (a ++ b) ≡ unplaced a ++ unplaced b
unplaced_append [] b = refl
unplaced_append (Spelled at kind ∷ a) b = ap (λ x. Spelled None kind ∷ x) (unplaced_append a b)
unplaced_append (Begin x ∷ a) b = ap (λ y. Begin x ∷ y) (unplaced_append a b)
unplaced_append (End x ∷ a) b = ap (λ y. End x ∷ y) (unplaced_append a b)

-- places aside, as many stand too deep
pub deep_unplaced : (ms : List Mark) (d : ℕ) → first_deep (unplaced ms) d ≡ first_deep ms d
deep_unplaced [] d = refl
deep_unplaced (Spelled at kind ∷ ms) d = ap one_later (deep_unplaced ms d)
deep_unplaced (Begin (Phrase n) ∷ ms) zero = refl
deep_unplaced (Begin (Phrase n) ∷ ms) (suc d) = deep_unplaced ms d
deep_unplaced (Begin (Chain l) ∷ ms) d = deep_unplaced ms d
deep_unplaced (End (Phrase n) ∷ ms) d = deep_unplaced ms (suc d)
deep_unplaced (End (Chain l) ∷ ms) d = deep_unplaced ms d

-- tokens in two parts
record Parts (us : List Token) (x y : List TokenKind) : Type 0 where
  front : List Token
  back : List Token
  is : us ≡ front ++ back
  one_is : kinds front ≡ x
  two_is : kinds back ≡ y

parts : (x y : List TokenKind) (us : List Token) → kinds us ≡ x ++ y → Parts us x y
parts [] y us e = record { front = []; back = us; is = refl; one_is = refl; two_is = e }
parts (k ∷ x) y [] e = absurd cc
parts (k ∷ x) y (u ∷ us) e =
    let h : u.kind ≡ k = cc in
    let t : kinds us ≡ x ++ y = cc in
    let p = parts x y us t in
    record { front = u ∷ p.front; back = p.back; is = ap (λ z. u ∷ z) p.is; one_is = λ i. h i ∷ p.one_is i; two_is = p.two_is }

-- the same derivation of other tokens
pub record Again (f : Form) (ms : List Mark) (us : List Token) : Type 0 where
  pub marks : List Mark
  pub derives : (y : List Token) → Derives rule f marks (us ++ y) y
  pub same : unplaced marks ≡ unplaced ms

again_both : (f g h : Form) (a b : List Mark) (us : List Token) → ((x y z : List Token) (m n : List Mark) → Derives rule f m x y → Derives rule g n y z → Derives rule h (m ++ n) x z) → (p : Parts us (spelled a) (spelled b)) → Again f a p.front → Again g b p.back → Again h (a ++ b) us
again_both f g h a b us join p q r = record {
  marks = q.marks ++ r.marks;
  derives = λ y. subst (λ x. Derives rule h (q.marks ++ r.marks) x y) (sym (ap (λ z. z ++ y) p.is ∙ append_assoc p.front p.back y)) (join _ _ y q.marks r.marks (q.derives (p.back ++ y)) (r.derives y));
  same = unplaced_append q.marks r.marks ∙ ap (λ z. z ++ unplaced r.marks) q.same ∙ ap (λ z. unplaced a ++ z) r.same ∙ sym (unplaced_append a b);
}

same_brackets : (b : Bracket) (m n : List Mark) → unplaced m ≡ unplaced n → unplaced (bracketed b m) ≡ unplaced (bracketed b n)
same_brackets b m n e = ap (λ z. Begin b ∷ z) (unplaced_append m (End b ∷ []) ∙ ap (λ z. z ++ End b ∷ []) e ∙ sym (unplaced_append n (End b ∷ [])))

in_brackets_spelled : (b : Bracket) (m : List Mark) → spelled (bracketed b m) ≡ spelled m
in_brackets_spelled b m = spelled_append m (End b ∷ []) ∙ append-nil (spelled m)

pub derived_again : {f : Form} {ms : List Mark} {ts rest : List Token} → Derives rule f ms ts rest → (us : List Token) → kinds us ≡ spelled ms → Again f ms us
derived_again nothing [] e = record { marks = []; derives = λ y. nothing; same = refl }
derived_again nothing (u ∷ us) e = absurd cc
derived_again (word {keeps = k} {w = w} {t = t} p) [] e = absurd cc
derived_again (word {keeps = k} {w = w} {t = t} p) (u ∷ v ∷ us) e = absurd cc
derived_again (word {keeps = k} {w = w} {t = t} p) (u ∷ []) e =
    let h : u.kind ≡ t.kind = cc in
    record { marks = mark_of k u ∷ []; derives = λ y. word (ap (λ x. is w x) h ∙ p); same = ap (λ x. Spelled None x ∷ []) h }
derived_again (both {f = f} {g = g} {a = a} {b = b} p q) us e =
    let s = parts (spelled a) (spelled b) us (e ∙ spelled_append a b) in
    again_both f g (f ⨾ g) a b us (λ x y z m n u v. both u v) s (derived_again p s.front s.one_is) (derived_again q s.back s.two_is)
derived_again (one p) us e = let r = derived_again p us e in record { marks = r.marks; derives = λ y. one (r.derives y); same = r.same }
derived_again (other p) us e = let r = derived_again p us e in record { marks = r.marks; derives = λ y. other (r.derives y); same = r.same }
derived_again none [] e = record { marks = []; derives = λ y. none; same = refl }
derived_again none (u ∷ us) e = absurd cc
derived_again (more {f = f} {a = a} {b = b} p q) us e =
    let s = parts (spelled a) (spelled b) us (e ∙ spelled_append a b) in
    again_both f (Many f) (Many f) a b us (λ x y z m n u v. more u v) s (derived_again p s.front s.one_is) (derived_again q s.back s.two_is)
derived_again (links {l = l} {a = a} p) us e =
    let r = derived_again p us (e ∙ in_brackets_spelled (Chain l) a) in
    record { marks = bracketed (Chain l) r.marks; derives = λ y. links (r.derives y); same = same_brackets (Chain l) r.marks a r.same }
derived_again (nested {n = n} {a = a} p) us e =
    let r = derived_again p us (e ∙ in_brackets_spelled (Phrase n) a) in
    record { marks = bracketed (Phrase n) r.marks; derives = λ y. nested (r.derives y); same = same_brackets (Phrase n) r.marks a r.same }

-- tokens of the kinds that a unit is spelled by are read as that unit, places aside
pub record ReadAgain (ms : List Mark) (us : List Token) : Type 0 where
  pub marks : List Mark
  pub reads : read NESTING unit us ≡ Ok (marks, [])
  pub same : unplaced marks ≡ unplaced ms

pub reads_again : (ms : List Mark) (tokens us : List Token) → IsText ms tokens → first_deep ms NESTING ≡ None → kinds us ≡ spelled ms → ReadAgain ms us
reads_again ms tokens us text fits e =
    let r = derived_again text us e in
    let whole : IsText r.marks us = subst (λ x. Derives rule unit r.marks x []) (append-nil us) (r.derives []) in
    let deep : first_deep r.marks NESTING ≡ None = sym (deep_unplaced r.marks NESTING) ∙ ap (λ x. first_deep x NESTING) r.same ∙ deep_unplaced ms NESTING ∙ fits in
    record { marks = r.marks; reads = read_again r.marks us whole ∙ ap (λ o. judged o r.marks us []) deep; same = r.same }

-- the tokens of a derivation are its words
spelled_kinds : {f : Form} {ms : List Mark} {ts rest : List Token} → Derives rule f ms ts rest → kinds ts ≡ spelled ms ++ kinds rest
spelled_kinds nothing = refl
spelled_kinds (word {t = t} p) = refl
spelled_kinds (both {a = a} {b = b} {rest = rest} p q) =
    spelled_kinds p ∙ ap (λ x. spelled a ++ x) (spelled_kinds q) ∙ sym (append_assoc (spelled a) (spelled b) (kinds rest)) ∙ ap (λ x. x ++ kinds rest) (sym (spelled_append a b))
spelled_kinds (one p) = spelled_kinds p
spelled_kinds (other p) = spelled_kinds p
spelled_kinds none = refl
spelled_kinds (more {a = a} {b = b} {rest = rest} p q) =
    spelled_kinds p ∙ ap (λ x. spelled a ++ x) (spelled_kinds q) ∙ sym (append_assoc (spelled a) (spelled b) (kinds rest)) ∙ ap (λ x. x ++ kinds rest) (sym (spelled_append a b))
spelled_kinds (links {l = l} {a = a} {rest = rest} p) = spelled_kinds p ∙ ap (λ x. x ++ kinds rest) (sym (in_brackets_spelled (Chain l) a))
spelled_kinds (nested {n = n} {a = a} {rest = rest} p) = spelled_kinds p ∙ ap (λ x. x ++ kinds rest) (sym (in_brackets_spelled (Phrase n) a))

pub text_kinds : (ms : List Mark) (tokens : List Token) → IsText ms tokens → kinds tokens ≡ spelled ms
text_kinds ms tokens text = spelled_kinds text ∙ append-nil (spelled ms)
