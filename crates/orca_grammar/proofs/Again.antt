-- What is derived is read, up to the first token that is nested too deep.
use Rattle.std.proofs.Common.{◌≡◌, ℕ, zero, suc, ◌+◌, ◌<◌, true, false, not, List, [], ◌∷◌, ◌++◌, length, drop, Option, Some, None, Ok, refl, sym, ap, ◌∙◌, subst, inl, inr, arith}
use Rattle.std.specs.Prelude.{if◌then◌else◌}
use Rattle.std.proofs.lemmas.Bool.{true≢false}
use Rattle.orca_lexer.specs.declared.token.Token.{Token}
use Rattle.orca_grammar.specs.Forms.{Nest, Form, ◌⨾◌, Many, Phrase, Chain, Mark, mark_of, bracketed, Derives, nothing, word, both, one, other, none, more, links, nested, first_deep}
use Rattle.orca_grammar.specs.Reading.{Sets, comes, apart, nullable, first, next, decided, Unexpected, TooDeep, bad, Read, ◌>>=◌, behind, in_brackets, repeated, nest_over}
use Rattle.orca_grammar.proofs.Tests.{comes_append, apart_comes, within_comes, and_cases, or_false, not_false, not_true}
use Rattle.orca_grammar.proofs.Derivations.{Checked, closes, deep_append, deep_inside, or_later, count, starts, Starts}
use Rattle.orca_grammar.proofs.Takes.{reads, chosen, enough, stop_at}

-- what reading gives, where so many tokens stand before the first that is too deep
abbrev pub judged : Option ℕ → List Mark → List Token → List Token → Read
judged None ms ts rest = Ok (ms, rest)
judged (Some k) ms ts rest = bad TooDeep (drop k ts)

-- a derivation takes as many tokens as it has
drop_add : (m k : ℕ) (ts : List Token) → drop (m + k) ts ≡ drop k (drop m ts)
drop_add zero k ts = ap (λ n. drop n ts) (omega arith)
drop_add (suc m) k [] = drop_none (suc m + k) ∙ sym (drop_none k)
  where
    drop_none : (n : ℕ) → drop {A = Token} n [] ≡ []
    drop_none zero = refl
    drop_none (suc n) = refl
drop_add (suc m) k (t ∷ ts) =
    let e : suc m + k ≡ suc (m + k) = omega arith in
    ap (λ n. drop n (t ∷ ts)) e ∙ drop_add m k ts

count_more : (a b : List Mark) → count (a ++ b) ≡ count a + count b
count_more [] b = omega arith
count_more (Mark.Spelled at kind ∷ a) b = let e = count_more a b in omega arith
count_more (Mark.Begin x ∷ a) b = count_more a b
count_more (Mark.End x ∷ a) b = count_more a b

pub left_over : {rule : Nest → Form} {f : Form} {ms : List Mark} {ts rest : List Token} → Derives rule f ms ts rest → drop (count ms) ts ≡ rest
left_over nothing = refl
left_over (word {t = t} {ts = ts} e) = refl
left_over (both {a = a} {b = b} {ts = ts} p q) = ap (λ n. drop n ts) (count_more a b) ∙ drop_add (count a) (count b) ts ∙ ap (drop (count b)) (left_over p) ∙ left_over q
left_over (one p) = left_over p
left_over (other p) = left_over p
left_over none = refl
left_over (more {a = a} {b = b} {ts = ts} p q) = ap (λ n. drop n ts) (count_more a b) ∙ drop_add (count a) (count b) ts ∙ ap (drop (count b)) (left_over p) ∙ left_over q
left_over (links {l = l} {a = a} {ts = ts} p) = ap (λ n. drop n ts) (let e = count_more a (Mark.End (Chain l) ∷ []) in omega arith) ∙ left_over p
left_over (nested {n = n} {a = a} {ts = ts} p) = ap (λ n. drop n ts) (let e = count_more a (Mark.End (Phrase n) ∷ []) in omega arith) ∙ left_over p

-- two readings, one behind the other
judged_both : (o p : Option ℕ) (a b : List Mark) (ts mid rest : List Token) → drop (count a) ts ≡ mid →
    (judged o a ts mid >>= (λ x. behind x.0 (judged p b mid rest))) ≡ judged (or_later o (count a) p) (a ++ b) ts rest
judged_both None None a b ts mid rest e = refl
judged_both None (Some k) a b ts mid rest e = ap (λ (x : List Token). bad {A = List Mark × List Token} TooDeep x) (ap (drop k) (sym e) ∙ sym (drop_add (count a) k ts))
judged_both (Some k) p a b ts mid rest e = refl

module _ (sets : Sets) (rule : Nest → Form) (checked : Checked sets rule) where
  abbrev verdict : ℕ → List Mark → List Token → List Token → Read
  verdict d ms ts rest = judged (first_deep ms d) ms ts rest

  -- where a form ends, the next may begin
  ends_first : (f g : Form) (mid rest : List Token) → apart (next sets f) (first sets g) ≡ true → Starts sets g mid rest → comes (next sets g ++ (if nullable g then first sets g ++ next sets f else [])) rest ≡ false → comes (next sets f) mid ≡ false
  ends_first f g mid rest ap_ (inr s) stop = not_false (comes (next sets f) mid) (λ h. apart_comes (next sets f) (first sets g) mid ap_ h s.0)
  ends_first f g mid rest ap_ (inl s) stop =
      let split = or_false (comes (next sets g) rest) _ (sym (comes_append (next sets g) _ rest) ∙ stop) in
      let inner : comes (first sets g ++ next sets f) rest ≡ false = subst (λ b. comes (if b then first sets g ++ next sets f else []) rest ≡ false) s.0 split.1 in
      let last = or_false (comes (first sets g) rest) _ (sym (comes_append (first sets g) (next sets f) rest) ∙ inner) in
      ap (comes (next sets f)) s.1 ∙ last.1

  both_again : (d : ℕ) (f g : Form) (a b : List Mark) (ts mid rest : List Token) → Derives rule f a ts mid → reads sets rule d f ts ≡ verdict d a ts mid → reads sets rule d g mid ≡ verdict d b mid rest →
      reads sets rule d (f ⨾ g) ts ≡ verdict d (a ++ b) ts rest
  both_again d f g a b ts mid rest p e1 e2 =
      ap (λ r. r >>= (λ x. behind x.0 (reads sets rule d g x.1))) e1
      ∙ after (first_deep a d)
      ∙ judged_both (first_deep a d) (first_deep b d) a b ts mid rest (left_over p)
      ∙ ap (λ o. judged o (a ++ b) ts rest) (sym (deep_append a b d (closes p)))
    where
      after : (o : Option ℕ) → (judged o a ts mid >>= (λ x. behind x.0 (reads sets rule d g x.1))) ≡ (judged o a ts mid >>= (λ x. behind x.0 (judged (first_deep b d) b mid rest)))
      after None = ap (behind a) e2
      after (Some k) = refl

  more_again : (d : ℕ) (f : Form) (a b : List Mark) (ts mid rest : List Token) → decided sets (Many f) ≡ true → comes (first sets f) ts ≡ true → length mid < length ts → Derives rule f a ts mid →
      reads sets rule d f ts ≡ verdict d a ts mid → reads sets rule d (Many f) mid ≡ verdict d b mid rest → reads sets rule d (Many f) ts ≡ verdict d (a ++ b) ts rest
  more_again d f a b [] mid rest dec c less p e1 e2 = absurd (omega arith)
  more_again d f a b (t ∷ ts) mid rest dec c less p e1 e2 =
      ap (λ x. chosen x (reads sets rule d f (t ∷ ts) >>= (λ x. behind x.0 (repeated (first sets f) (reads sets rule d f) (length ts) x.1))) (Ok ([], t ∷ ts))) c
      ∙ ap (λ r. r >>= (λ x. behind x.0 (repeated (first sets f) (reads sets rule d f) (length ts) x.1))) e1
      ∙ after (first_deep a d)
      ∙ judged_both (first_deep a d) (first_deep b d) a b (t ∷ ts) mid rest (left_over p)
      ∙ ap (λ o. judged o (a ++ b) (t ∷ ts) rest) (sym (deep_append a b d (closes p)))
    where
      after : (o : Option ℕ) → (judged o a (t ∷ ts) mid >>= (λ x. behind x.0 (repeated (first sets f) (reads sets rule d f) (length ts) x.1))) ≡ (judged o a (t ∷ ts) mid >>= (λ x. behind x.0 (judged (first_deep b d) b mid rest)))
      after None = ap (behind a) (enough sets rule checked d f dec (length ts) mid (omega arith) ∙ e2)
      after (Some k) = refl

  nested_again : (d : ℕ) (n : Nest) (a : List Mark) (ts rest : List Token) → Derives rule (rule n) a ts rest → ((d : ℕ) → reads sets rule d (rule n) ts ≡ judged (first_deep a d) a ts rest) →
      nest_over sets rule d n ts ≡ judged (first_deep (bracketed (Phrase n) a) d) (bracketed (Phrase n) a) ts rest
  unfolding nest_over
  nested_again zero n a ts rest p ih = ap (λ b. chosen b (bad TooDeep ts) (bad Unexpected ts)) (begun (starts sets rule checked p))
    where
      begun : Starts sets (rule n) ts rest → comes (sets.firsts n) ts ≡ true
      begun (inl s) = absurd (true≢false (sym s.0 ∙ checked.some n))
      begun (inr s) = ap (λ ws. comes ws ts) (sym (checked.firsts n)) ∙ s.0
  nested_again (suc d) n a ts rest p ih =
      ap (in_brackets (Phrase n)) (ih d) ∙ inside (first_deep a d) ∙ ap (λ o. judged o (bracketed (Phrase n) a) ts rest) (sym (deep_inside n a d (closes p)))
    where
      inside : (o : Option ℕ) → in_brackets (Phrase n) (judged o a ts rest) ≡ judged o (bracketed (Phrase n) a) ts rest
      inside None = refl
      inside (Some k) = refl

  pub again : (d : ℕ) {f : Form} {ms : List Mark} {ts rest : List Token} → Derives rule f ms ts rest → decided sets f ≡ true → comes (next sets f) rest ≡ false → reads sets rule d f ts ≡ judged (first_deep ms d) ms ts rest
  again d nothing dec stop = refl
  again d (word {keeps = k} {t = t} {ts = ts} e) dec stop = ap (λ b. chosen b (Ok (mark_of k t ∷ [], ts)) (bad Unexpected (t ∷ ts))) e
  again d (both {f = f} {g = g} {a = a} {b = b} {ts = ts} {mid = mid} {rest = rest} p q) dec stop =
      let x = and_cases (decided sets f) _ dec in
      let y = and_cases (decided sets g) _ x.1 in
      let ends = or_false (comes (next sets g) rest) _ (sym (comes_append (next sets g) _ rest) ∙ stop) in
      both_again d f g a b ts mid rest p
      (again d p x.0 (ends_first f g mid rest y.1 (starts sets rule checked q) stop))
      (again d q y.0 ends.0)
  again d (one {f = f} {g = g} {ts = ts} {rest = rest} p) dec stop =
      let x = and_cases (decided sets f) _ dec in
      let y = and_cases (decided sets g) _ x.1 in
      let z = and_cases (not (nullable f)) _ y.1 in
      let ends = or_false (comes (next sets f) rest) _ (sym (comes_append (next sets f) _ rest) ∙ stop) in
      ap (λ b. chosen b (reads sets rule d f ts) (reads sets rule d g ts)) (begun (not_true _ z.0) (starts sets rule checked p)) ∙ again d p x.0 ends.0
    where
      begun : nullable f ≡ false → Starts sets f ts rest → comes (first sets f) ts ≡ true
      begun some (inl s) = absurd (true≢false (sym s.0 ∙ some))
      begun some (inr s) = s.0
  again d (other {f = f} {g = g} {ts = ts} {rest = rest} p) dec stop =
      let x = and_cases (decided sets f) _ dec in
      let y = and_cases (decided sets g) _ x.1 in
      let z = and_cases (not (nullable f)) _ y.1 in
      let ends = or_false (comes (next sets f) rest) _ (sym (comes_append (next sets f) _ rest) ∙ stop) in
      let more = or_false (comes (next sets g) rest) _ (sym (comes_append (next sets g) _ rest) ∙ ends.1) in
      ap (λ b. chosen b (reads sets rule d f ts) (reads sets rule d g ts)) (not_begun z.1 more.1 (starts sets rule checked p)) ∙ again d p y.0 more.0
    where
      not_begun : apart (first sets f) (first sets g) ≡ true → comes (if nullable g then first sets f else []) rest ≡ false → Starts sets g ts rest → comes (first sets f) ts ≡ false
      not_begun a m (inl s) = ap (comes (first sets f)) s.1 ∙ subst (λ b. comes (if b then first sets f else []) rest ≡ false) s.0 m
      not_begun a m (inr s) = not_false (comes (first sets f) ts) (λ h. apart_comes (first sets f) (first sets g) ts a h s.0)
  again d (none {f = f} {ts = ts}) dec stop =
      let ends = or_false (comes (first sets f) ts) _ (sym (comes_append (first sets f) _ ts) ∙ stop) in
      stop_at sets rule d f (length ts) ts ends.0
  again d (more {f = f} {a = a} {b = b} {ts = ts} {mid = mid} {rest = rest} p q) dec stop =
      let x = and_cases (decided sets f) _ dec in
      let y = and_cases (not (nullable f)) _ x.1 in
      let s = begun (not_true _ y.0) (starts sets rule checked p) in
      more_again d f a b ts mid rest dec s.0 s.1 p (again d p x.0 (ends y.1 (starts sets rule checked q))) (again d q dec stop)
    where
      begun : nullable f ≡ false → Starts sets f ts mid → (comes (first sets f) ts ≡ true) × (length mid < length ts)
      begun some (inl s) = absurd (true≢false (sym s.0 ∙ some))
      begun some (inr s) = s

      ends : apart (next sets f) (first sets f) ≡ true → Starts sets (Many f) mid rest → comes (next sets f) mid ≡ false
      ends a (inl s) = ap (comes (next sets f)) s.1 ∙ (or_false (comes (first sets f) rest) _ (sym (comes_append (first sets f) _ rest) ∙ stop)).1
      ends a (inr s) = not_false (comes (next sets f) mid) (λ h. apart_comes (next sets f) (first sets f) mid a h s.0)
  again d (links {l = l} {a = a} {ts = ts} {rest = rest} p) dec stop =
      ap (in_brackets (Chain l)) (again d p dec stop)
      ∙ inside (first_deep a d)
      ∙ ap (λ o. judged o (bracketed (Chain l) a) ts rest) (sym (deep_append a (Mark.End (Chain l) ∷ []) d (closes p) ∙ alone (first_deep a d)))
    where
      inside : (o : Option ℕ) → in_brackets (Chain l) (judged o a ts rest) ≡ judged o (bracketed (Chain l) a) ts rest
      inside None = refl
      inside (Some k) = refl

      alone : (o : Option ℕ) → or_later o (count a) None ≡ o
      alone None = refl
      alone (Some k) = refl
  again d (nested {n = n} {a = a} {ts = ts} {rest = rest} p) dec stop =
      nested_again d n a ts rest p (λ d. again d p (checked.decides n) (within_comes (next sets (rule n)) (sets.nexts n) rest (checked.nexts n) stop))
