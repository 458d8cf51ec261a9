-- What holds of each derivation: it goes on whatever follows, it begins as its form does, and its brackets close.
use Rattle.std.proofs.Common.{◌≡◌, ℕ, zero, suc, ◌+◌, ◌<◌, Bool, true, false, ◌||◌, List, [], ◌∷◌, ◌++◌, length, Option, Some, None, refl, sym, ap, ◌∙◌, subst, inl, inr, ◌⊎◌, arith, append_assoc}
use Rattle.std.specs.Prelude.{if◌then◌else◌}
use Rattle.std.proofs.lemmas.Bool.{true≢false}
use Rattle.orca_lexer.specs.declared.token.Token.{Token}
use Rattle.orca_grammar.specs.Forms.{Terminal, Nest, Links, Form, ◌⨾◌, ◌∣◌, Many, Nested, Phrase, Chain, Mark, Spelled, Begin, End, mark_of, bracketed, Derives, nothing, word, both, one, other, none, more, links, nested, first_deep, one_later}
use Rattle.orca_grammar.specs.Reading.{Sets, comes, within, nullable, first, next, decided}
use Rattle.orca_grammar.proofs.Tests.{comes_append}

-- the tables agree with the rules
pub record Checked (sets : Sets) (rule : Nest → Form) : Type 0 where
  pub decides : (n : Nest) → decided sets (rule n) ≡ true
  pub firsts : (n : Nest) → first sets (rule n) ≡ sets.firsts n
  pub nexts : (n : Nest) → within (next sets (rule n)) (sets.nexts n) ≡ true
  pub some : (n : Nest) → nullable (rule n) ≡ false

-- ---- what follows

pub extended : {rule : Nest → Form} {f : Form} {ms : List Mark} {ts rest : List Token} (y : List Token) → Derives rule f ms ts rest → Derives rule f ms (ts ++ y) (rest ++ y)
extended y nothing = nothing
extended y (word e) = word e
extended y (both p q) = both (extended y p) (extended y q)
extended y (one p) = one (extended y p)
extended y (other p) = other (extended y p)
extended y none = none
extended y (more p q) = more (extended y p) (extended y q)
extended y (links p) = links (extended y p)
extended y (nested p) = nested (extended y p)

-- ---- brackets

-- how many tokens
abbrev pub count : List Mark → ℕ
count [] = 0
count (Spelled at kind ∷ ms) = count ms + 1
count (Begin b ∷ ms) = count ms
count (End b ∷ ms) = count ms

count_append : (a b : List Mark) → count (a ++ b) ≡ count a + count b
count_append [] b = omega arith
count_append (Spelled at kind ∷ a) b = let e = count_append a b in omega arith
count_append (Begin x ∷ a) b = count_append a b
count_append (End x ∷ a) b = count_append a b

-- the first that is too deep, in the first part or in what follows it
abbrev pub or_later : Option ℕ → ℕ → Option ℕ → Option ℕ
or_later None n None = None
or_later None n (Some k) = Some (n + k)
or_later (Some k) n o = Some k

later_one : (o : Option ℕ) (n : ℕ) (p : Option ℕ) → one_later (or_later o n p) ≡ or_later (one_later o) (n + 1) p
later_one None n None = refl
later_one None n (Some k) = ap Some (omega arith)
later_one (Some j) n p = refl

later_zero : (p : Option ℕ) → or_later None 0 p ≡ p
later_zero None = refl
later_zero (Some k) = ap Some (omega arith)

later_more : (o : Option ℕ) (m : ℕ) (p : Option ℕ) (n : ℕ) (q : Option ℕ) → or_later (or_later o m p) (m + n) q ≡ or_later o m (or_later p n q)
later_more None m None n None = refl
later_more None m None n (Some k) = ap Some (omega arith)
later_more None m (Some j) n q = refl
later_more (Some j) m p n q = refl

-- marks whose brackets close
pub Closes : List Mark → Type 0
Closes a = (d : ℕ) (b : List Mark) → first_deep (a ++ b) d ≡ or_later (first_deep a d) (count a) (first_deep b d)

closes_append : (a b : List Mark) → Closes a → Closes b → Closes (a ++ b)
unfolding Closes
closes_append a b p q d c =
    ap (λ x. first_deep x d) (append_assoc a b c)
    ∙ p d (b ++ c)
    ∙ ap (λ x. or_later (first_deep a d) (count a) x) (q d c)
    ∙ sym (later_more (first_deep a d) (count a) (first_deep b d) (count b) (first_deep c d))
    ∙ ap (λ x. or_later x (count a + count b) (first_deep c d)) (sym (p d b))
    ∙ ap (λ n. or_later (first_deep (a ++ b) d) n (first_deep c d)) (sym (count_append a b))

closes_chain : (l : Links) (a : List Mark) → Closes a → Closes (bracketed (Chain l) a)
unfolding Closes
closes_chain l a p d b =
    ap (λ x. first_deep x d) (append_assoc a (End (Chain l) ∷ []) b)
    ∙ p d (End (Chain l) ∷ b)
    ∙ ap (λ n. or_later (first_deep a d) n (first_deep b d)) (sym (count_of a))
    ∙ ap (λ x. or_later x (count (a ++ End (Chain l) ∷ [])) (first_deep b d)) (sym (alone (first_deep a d) (p d (End (Chain l) ∷ []))))
  where
    count_of : (x : List Mark) → count (x ++ End (Chain l) ∷ []) ≡ count x
    count_of x = let e = count_append x (End (Chain l) ∷ []) in omega arith

    alone : (o : Option ℕ) {x : Option ℕ} → x ≡ or_later o (count a) None → x ≡ o
    alone None e = e
    alone (Some k) e = e

-- what is in the brackets of a nested phrase
pub deep_inside : (n : Nest) (a : List Mark) (d : ℕ) → Closes a → first_deep (bracketed (Phrase n) a) (suc d) ≡ first_deep a d
unfolding Closes
deep_inside n a d p = alone (first_deep a d) (p d (End (Phrase n) ∷ []))
  where
    alone : (o : Option ℕ) {x : Option ℕ} → x ≡ or_later o (count a) None → x ≡ o
    alone None e = e
    alone (Some k) e = e

closes_phrase : (n : Nest) (a : List Mark) → Closes a → Closes (bracketed (Phrase n) a)
unfolding Closes
closes_phrase n a p zero b = refl
closes_phrase n a p (suc d) b =
    ap (λ x. first_deep x d) (append_assoc a (End (Phrase n) ∷ []) b)
    ∙ p d (End (Phrase n) ∷ b)
    ∙ ap (λ k. or_later (first_deep a d) k (first_deep b (suc d))) (sym (count_of a))
    ∙ ap (λ x. or_later x (count (a ++ End (Phrase n) ∷ [])) (first_deep b (suc d))) (sym (deep_inside n a d p))
  where
    count_of : (x : List Mark) → count (x ++ End (Phrase n) ∷ []) ≡ count x
    count_of x = let e = count_append x (End (Phrase n) ∷ []) in omega arith

closes_nothing : Closes []
unfolding Closes
closes_nothing d b = sym (later_zero (first_deep b d))

closes_word : (keeps : Bool) (t : Token) → Closes (mark_of keeps t ∷ [])
unfolding Closes
closes_word keeps t d b = by_next (first_deep b d)
  where
    by_next : (o : Option ℕ) → one_later o ≡ or_later None 1 o
    by_next None = refl
    by_next (Some k) = ap Some (omega arith)

pub closes : {rule : Nest → Form} {f : Form} {ms : List Mark} {ts rest : List Token} → Derives rule f ms ts rest → Closes ms
closes nothing = closes_nothing
closes (word {keeps = k} {t = t} e) = closes_word k t
closes (both {a = a} {b = b} p q) = closes_append a b (closes p) (closes q)
closes (one p) = closes p
closes (other p) = closes p
closes none = closes_nothing
closes (more {a = a} {b = b} p q) = closes_append a b (closes p) (closes q)
closes (links {l = l} {a = a} p) = closes_chain l a (closes p)
closes (nested {n = n} {a = a} p) = closes_phrase n a (closes p)

pub deep_append : (a b : List Mark) (d : ℕ) → Closes a → first_deep (a ++ b) d ≡ or_later (first_deep a d) (count a) (first_deep b d)
unfolding Closes
deep_append a b d p = p d b

-- ---- how a derivation begins

-- it takes nothing, or it begins as its form may begin, and takes some
abbrev pub Starts : Sets → Form → List Token → List Token → Type 0
Starts sets f ts rest = ((nullable f ≡ true) × (ts ≡ rest)) ⊎ ((comes (first sets f) ts ≡ true) × (length rest < length ts))

comes_left : (sets : Sets) (f g : Form) (ts : List Token) (ws : List Terminal) → comes (first sets f) ts ≡ true → comes (first sets f ++ ws) ts ≡ true
comes_left sets f g ts ws h = comes_append (first sets f) ws ts ∙ ap (λ b. b || comes ws ts) h

comes_right : (ws vs : List Terminal) (ts : List Token) → comes vs ts ≡ true → comes (ws ++ vs) ts ≡ true
comes_right ws vs ts h = comes_append ws vs ts ∙ ap (λ b. comes ws ts || b) h ∙ or_true (comes ws ts)
  where
    or_true : (b : Bool) → (b || true) ≡ true
    or_true true = refl
    or_true false = refl

module _ (sets : Sets) (rule : Nest → Form) (checked : Checked sets rule) where
  pub starts : {f : Form} {ms : List Mark} {ts rest : List Token} → Derives rule f ms ts rest → Starts sets f ts rest
  starts nothing = inl (refl, refl)
  starts (word {w = w} {t = t} {ts = ts} e) = inr (rw e refl, omega arith)
  starts (both {f = f} {g = g} {ts = ts} {mid = mid} {rest = rest} p q) = joined (starts p) (starts q)
    where
      joined : Starts sets f ts mid → Starts sets g mid rest → Starts sets (f ⨾ g) ts rest
      joined (inl a) (inl b) = inl (rw (a.0, b.0) refl, a.1 ∙ b.1)
      joined (inl a) (inr b) =
          inr (
            subst (λ x. comes (first sets f ++ (if x then first sets g else [])) ts ≡ true) (sym a.0) (comes_right (first sets f) (first sets g) ts (ap (comes (first sets g)) a.1 ∙ b.0)),
            subst (λ x. length rest < length x) (sym a.1) b.1,
          )
      joined (inr a) (inl b) = inr (comes_left sets f g ts _ a.0, subst (λ x. length x < length ts) b.1 a.1)
      joined (inr a) (inr b) = inr (comes_left sets f g ts _ a.0, omega arith)
  starts (one {f = f} {g = g} {ts = ts} {rest = rest} p) = left (starts p)
    where
      left : Starts sets f ts rest → Starts sets (f ∣ g) ts rest
      left (inl a) = inl (rw a.0 refl, a.1)
      left (inr a) = inr (comes_left sets f g ts _ a.0, a.1)
  starts (other {f = f} {g = g} {ts = ts} {rest = rest} p) = right (starts p)
    where
      or_true : (b : Bool) → (b || true) ≡ true
      or_true true = refl
      or_true false = refl

      right : Starts sets g ts rest → Starts sets (f ∣ g) ts rest
      right (inl a) = inl (rw a.0 (or_true (nullable f)), a.1)
      right (inr a) = inr (comes_right (first sets f) (first sets g) ts a.0, a.1)
  starts none = inl (refl, refl)
  starts (more {f = f} {ts = ts} {mid = mid} {rest = rest} p q) = joined (starts p) (starts q)
    where
      joined : Starts sets f ts mid → Starts sets (Many f) mid rest → Starts sets (Many f) ts rest
      joined (inl a) (inl b) = inl (refl, a.1 ∙ b.1)
      joined (inl a) (inr b) = inr (ap (comes (first sets f)) a.1 ∙ b.0, subst (λ x. length rest < length x) (sym a.1) b.1)
      joined (inr a) (inl b) = inr (a.0, subst (λ x. length x < length ts) b.1 a.1)
      joined (inr a) (inr b) = inr (a.0, omega arith)
  starts (links {f = f} {ts = ts} {rest = rest} p) = starts p
  starts (nested {n = n} {ts = ts} {rest = rest} p) = inside (starts p)
    where
      inside : Starts sets (rule n) ts rest → Starts sets (Nested n) ts rest
      inside (inl a) = absurd (true≢false (sym a.0 ∙ checked.some n))
      inside (inr a) = inr (ap (λ ws. comes ws ts) (sym (checked.firsts n)) ∙ a.0, a.1)
