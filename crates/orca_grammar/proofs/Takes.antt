-- What is read is derived, is nested no deeper than allowed, and depends on what follows by its first token alone.
use Rattle.std.proofs.Common.{◌≡◌, ℕ, zero, suc, ◌<◌, ◌≤◌, Bool, true, false, not, List, [], ◌∷◌, ◌++◌, length, None, Result, Ok, Err, refl, sym, ap, ◌∙◌, subst, inl, inr, ◌⊎◌, arith, append_assoc, length-append}
use Rattle.std.specs.Prelude.{if◌then◌else◌}
use Rattle.std.proofs.lemmas.Bool.{true≢false}
use Rattle.orca_lexer.specs.declared.token.Token.{Token}
use Rattle.orca_grammar.specs.Forms.{Terminal, is, Nest, Links, Form, Nothing, Word, ◌⨾◌, ◌∣◌, Many, Chained, Nested, Phrase, Chain, Mark, mark_of, bracketed, Derives, nothing, word, both, one, other, none, more, links, nested, first_deep}
use Rattle.orca_grammar.specs.Reading.{Sets, comes, nullable, first, decided, Why, Unexpected, TooDeep, Bad, bad, Read, Reader, ◌>>=◌, behind, in_brackets, repeated, read_over, nest_over}
use Rattle.orca_grammar.proofs.Tests.{head, comes_head, and_cases, not_true}
use Rattle.orca_grammar.proofs.Derivations.{Checked, closes, deep_append, deep_inside, or_later, count, starts, Starts}

pub bind_ok : {A B : Type 0} (r : Result A Bad) (f : A → Result B Bad) (y : B) → (r >>= f) ≡ Ok y → (x : A) × (r ≡ Ok x) × (f x ≡ Ok y)
bind_ok (Ok x) f y e = (x, refl, e)
bind_ok (Err b) f y e = cc

pub bind_err : {A B : Type 0} (r : Result A Bad) (f : A → Result B Bad) (b : Bad) → (r >>= f) ≡ Err b → (r ≡ Err b) ⊎ ((x : A) × (r ≡ Ok x) × (f x ≡ Err b))
bind_err (Ok x) f b e = inr (x, refl, e)
bind_err (Err c) f b e = inl cc

-- two refusals that are one have one cause and one place
pub bad_parts : (w v : Why) (x y : List Token) → (let r : Read = bad w x in r ≡ bad v y) → (w ≡ v) × (x ≡ y)
bad_parts w v x y h =
    let a : Bad = record { why = w; rest = x } in
    let b : Bad = record { why = v; rest = y } in
    let e : a ≡ b = cc in
    (ap (λ (z : Bad). z.why) e, ap (λ (z : Bad). z.rest) e)

pub ok_pair : (a b : List Mark) (x y : List Token) → (let p : Read = Ok (a, x) in p ≡ Ok (b, y)) → (a ≡ b) × (x ≡ y)
ok_pair a b x y h = let p : List Mark × List Token = (a, x) in let e : p ≡ (b, y) = cc in (ap (λ q. q.0) e, ap (λ q. q.1) e)

-- one of two readings
abbrev pub chosen : Bool → Read → Read → Read
chosen b x y = if b then x else y

pub head_front : (front x y : List Token) → head x ≡ head y → head (front ++ x) ≡ head (front ++ y)
head_front [] x y e = e
head_front (t ∷ front) x y e = refl

module _ (sets : Sets) (rule : Nest → Form) where
  -- the reader of a form, where so many levels are left
  abbrev pub reads : ℕ → Form → Reader
  reads d f ts = read_over sets (nest_over sets rule d) f ts

  pub record Took (d : ℕ) (f : Form) (ts : List Token) (ms : List Mark) (rest : List Token) : Type 0 where
    pub front : List Token
    pub splits : ts ≡ front ++ rest
    pub derives : (y : List Token) → Derives rule f ms (front ++ y) y
    pub fits : first_deep ms d ≡ None
    pub local : (y : List Token) → head rest ≡ head y → reads d f (front ++ y) ≡ Ok (ms, y)

  -- what was read is the same where the tokens and what was read are
  moved : (d : ℕ) (f : Form) (ts : List Token) (a b : List Mark) (x y : List Token) → (a ≡ b) × (x ≡ y) → Took d f ts a x → Took d f ts b y
  moved d f ts a b x y e t = subst (λ m. Took d f ts m y) e.0 (subst (λ r. Took d f ts a r) e.1 t)

  takes_nothing : (d : ℕ) (ts : List Token) → Took d Nothing ts [] ts
  takes_nothing d ts = record { front = []; splits = refl; derives = λ y. nothing; fits = refl; local = λ y e. refl }

  takes_word : (d : ℕ) (keeps : Bool) (w : Terminal) (t : Token) (ts : List Token) → is w t.kind ≡ true → Took d (Word keeps w) (t ∷ ts) (mark_of keeps t ∷ []) ts
  takes_word d keeps w t ts e = record { front = t ∷ []; splits = refl; derives = λ y. word e; fits = refl; local = λ y h. rw e refl }

  takes_both : (d : ℕ) (f g : Form) (ts mid rest : List Token) (a b : List Mark) → Took d f ts a mid → Took d g mid b rest → Took d (f ⨾ g) ts (a ++ b) rest
  takes_both d f g ts mid rest a b p q = record {
    front = p.front ++ q.front;
    splits = p.splits ∙ ap (λ x. p.front ++ x) q.splits ∙ sym (append_assoc p.front q.front rest);
    derives = λ y. subst (λ x. Derives rule (f ⨾ g) (a ++ b) x y) (sym (append_assoc p.front q.front y)) (both (p.derives (q.front ++ y)) (q.derives y));
    fits = deep_append a b d (closes (p.derives [])) ∙ ap (λ o. or_later o (count a) (first_deep b d)) p.fits ∙ ap (λ o. or_later None (count a) o) q.fits;
    local = λ y e.
        ap (reads d (f ⨾ g)) (append_assoc p.front q.front y)
        ∙ ap (λ r. r >>= (λ x. behind x.0 (reads d g x.1))) (p.local (q.front ++ y) (ap head q.splits ∙ head_front q.front rest y e))
        ∙ ap (behind a) (q.local y e);
  }

  takes_one : (d : ℕ) (f g : Form) (ts rest : List Token) (a : List Mark) → comes (first sets f) ts ≡ true → Took d f ts a rest → Took d (f ∣ g) ts a rest
  takes_one d f g ts rest a c p = record {
    front = p.front;
    splits = p.splits;
    derives = λ y. one (p.derives y);
    fits = p.fits;
    local = λ y e.
        ap (λ b. if b then reads d f (p.front ++ y) else reads d g (p.front ++ y)) (sym (comes_head (first sets f) ts (p.front ++ y) (ap head p.splits ∙ head_front p.front rest y e)) ∙ c)
        ∙ p.local y e;
  }

  takes_other : (d : ℕ) (f g : Form) (ts rest : List Token) (a : List Mark) → comes (first sets f) ts ≡ false → Took d g ts a rest → Took d (f ∣ g) ts a rest
  takes_other d f g ts rest a c p = record {
    front = p.front;
    splits = p.splits;
    derives = λ y. other (p.derives y);
    fits = p.fits;
    local = λ y e.
        ap (λ b. if b then reads d f (p.front ++ y) else reads d g (p.front ++ y)) (sym (comes_head (first sets f) ts (p.front ++ y) (ap head p.splits ∙ head_front p.front rest y e)) ∙ c)
        ∙ p.local y e;
  }

  takes_chain : (d : ℕ) (l : Links) (f : Form) (ts rest : List Token) (a : List Mark) → Took d f ts a rest → Took d (Chained l f) ts (bracketed (Chain l) a) rest
  takes_chain d l f ts rest a p =
      let inside : Took d f ts a rest = p in
      record {
        front = p.front;
        splits = p.splits;
        derives = λ y. links (p.derives y);
        fits = deep_append a _ d (closes (p.derives [])) ∙ ap (λ o. or_later o (count a) None) p.fits;
        local = λ y e. ap (in_brackets (Chain l)) (p.local y e);
      }

  takes_nested : (d : ℕ) (n : Nest) (ts rest : List Token) (a : List Mark) → Took d (rule n) ts a rest → Took (suc d) (Nested n) ts (bracketed (Phrase n) a) rest
  unfolding nest_over
  takes_nested d n ts rest a p = record {
    front = p.front;
    splits = p.splits;
    derives = λ y. nested (p.derives y);
    fits = deep_inside n a d (closes (p.derives [])) ∙ p.fits;
    local = λ y e. ap (in_brackets (Phrase n)) (p.local y e);
  }

  -- ---- one after the other

  module _ (d : ℕ) (f : Form) where
    abbrev several : ℕ → Reader
    several k ts = repeated (first sets f) (reads d f) k ts

    pub stop_at : (k : ℕ) (ts : List Token) → comes (first sets f) ts ≡ false → repeated (first sets f) (reads d f) k ts ≡ Ok ([], ts)
    stop_at zero ts c = refl
    stop_at (suc k) ts c = ap (λ b. if b then (reads d f ts >>= (λ x. behind x.0 (several k x.1))) else Ok ([], ts)) c

    pub step_at : (k : ℕ) (ts : List Token) (a : List Mark) (mid : List Token) → comes (first sets f) ts ≡ true → reads d f ts ≡ Ok (a, mid) → repeated (first sets f) (reads d f) (suc k) ts ≡ behind a (several k mid)
    step_at k ts a mid c e =
        ap (λ b. if b then (reads d f ts >>= (λ x. behind x.0 (several k x.1))) else Ok ([], ts)) c
        ∙ ap (λ r. r >>= (λ x. behind x.0 (several k x.1))) e

    pub fail_at : (k : ℕ) (ts : List Token) (b : Bad) → comes (first sets f) ts ≡ true → reads d f ts ≡ Err b → repeated (first sets f) (reads d f) (suc k) ts ≡ Err b
    fail_at k ts b c e =
        ap (λ b. if b then (reads d f ts >>= (λ x. behind x.0 (several k x.1))) else Ok ([], ts)) c
        ∙ ap (λ r. r >>= (λ x. behind x.0 (several k x.1))) e

    record Several (ts : List Token) (ms : List Mark) (rest : List Token) : Type 0 where
      front : List Token
      splits : ts ≡ front ++ rest
      derives : (y : List Token) → Derives rule (Many f) ms (front ++ y) y
      fits : first_deep ms d ≡ None
      local : (k : ℕ) (y : List Token) → head rest ≡ head y → length (front ++ y) ≤ k → several k (front ++ y) ≡ Ok (ms, y)

    several_moved : (ts : List Token) (a b : List Mark) (x y : List Token) → (a ≡ b) × (x ≡ y) → Several ts a x → Several ts b y
    several_moved ts a b x y e t = subst (λ m. Several ts m y) e.0 (subst (λ r. Several ts a r) e.1 t)

    several_none : (ts : List Token) → comes (first sets f) ts ≡ false → Several ts [] ts
    several_none ts c = record {
      front = [];
      splits = refl;
      derives = λ y. none;
      fits = refl;
      local = λ k y e le. stop_at k y (sym (comes_head (first sets f) ts y e) ∙ c);
    }

    several_more : (ts mid rest : List Token) (a b : List Mark) → comes (first sets f) ts ≡ true → length mid < length ts → Took d f ts a mid → Several mid b rest → Several ts (a ++ b) rest
    several_more ts mid rest a b c less p q = record {
      front = p.front ++ q.front;
      splits = p.splits ∙ ap (λ x. p.front ++ x) q.splits ∙ sym (append_assoc p.front q.front rest);
      derives = λ y. subst (λ x. Derives rule (Many f) (a ++ b) x y) (sym (append_assoc p.front q.front y)) (more (p.derives (q.front ++ y)) (q.derives y));
      fits = deep_append a b d (closes (p.derives [])) ∙ ap (λ o. or_later o (count a) (first_deep b d)) p.fits ∙ ap (λ o. or_later None (count a) o) q.fits;
      local = λ k y e le. ap (several k) (append_assoc p.front q.front y) ∙ at k (q.front ++ y) y e (subst (λ x. length x ≤ k) (append_assoc p.front q.front y) le) refl;
    }
      where
        some : 0 < length p.front
        some = omega (arith, ap length p.splits, length-append p.front mid)

        heads : (z y : List Token) → z ≡ q.front ++ y → head rest ≡ head y → head mid ≡ head z
        heads z y is e = ap head q.splits ∙ head_front q.front rest y e ∙ ap head (sym is)

        at : (k : ℕ) (z y : List Token) → head rest ≡ head y → length (p.front ++ z) ≤ k → z ≡ q.front ++ y → several k (p.front ++ z) ≡ Ok (a ++ b, y)
        at zero z y e le is = absurd (omega (arith, some, length-append p.front z))
        at (suc k) z y e le is =
            step_at k (p.front ++ z) a z (sym (comes_head (first sets f) ts (p.front ++ z) (ap head p.splits ∙ head_front p.front mid z (heads z y is e))) ∙ c) (p.local z (heads z y is e))
            ∙ ap (λ x. behind a (several k x)) is
            ∙ ap (behind a) (q.local k y e (subst (λ x. length x ≤ k) is (omega (arith, some, length-append p.front z))))

module _ (sets : Sets) (rule : Nest → Form) (checked : Checked sets rule) where
  pub shorter : (d : ℕ) (f : Form) (ts rest : List Token) (a : List Mark) → nullable f ≡ false → Took sets rule d f ts a rest → length rest < length ts
  shorter d f ts rest a some p = by_start (starts sets rule checked (p.derives rest))
    where
      by_start : Starts sets f (p.front ++ rest) rest → length rest < length ts
      by_start (inl e) = absurd (true≢false (sym e.0 ∙ some))
      by_start (inr e) = subst (λ x. length rest < length x) (sym p.splits) e.1

  abbrev Takes : ℕ → Form → Type 0
  Takes d f = (ts : List Token) (ms : List Mark) (rest : List Token) → reads sets rule d f ts ≡ Ok (ms, rest) → Took sets rule d f ts ms rest

  several_takes : (d : ℕ) (f : Form) → nullable f ≡ false → Takes d f → (k : ℕ) (ts : List Token) (ms : List Mark) (rest : List Token) → length ts ≤ k → several sets rule d f k ts ≡ Ok (ms, rest) → Several sets rule d f ts ms rest
  several_takes d f some takes zero [] ms rest le eq = several_moved sets rule d f [] [] ms [] rest (ok_pair [] ms [] rest eq) (several_none sets rule d f [] refl)
  several_takes d f some takes zero (t ∷ ts) ms rest le eq = absurd (omega arith)
  several_takes d f some takes (suc k) ts ms rest le eq = by_first (λ ts ms rest. several_takes d f some takes k ts ms rest) (comes (first sets f) ts) refl eq
    where
      by_first : ((ts : List Token) (ms : List Mark) (rest : List Token) → length ts ≤ k → several sets rule d f k ts ≡ Ok (ms, rest) → Several sets rule d f ts ms rest) → (b : Bool) → comes (first sets f) ts ≡ b → (if b then (reads sets rule d f ts >>= (λ x. behind x.0 (several sets rule d f k x.1))) else Ok ([], ts)) ≡ Ok (ms, rest) → Several sets rule d f ts ms rest
      by_first again false c eq = several_moved sets rule d f ts [] ms ts rest (ok_pair [] ms ts rest eq) (several_none sets rule d f ts c)
      by_first again true c eq =
          let b = bind_ok (reads sets rule d f ts) (λ x. behind x.0 (several sets rule d f k x.1)) (ms, rest) eq in
          let took = takes ts b.0.0 b.0.1 b.1 in
          let less = shorter d f ts b.0.1 b.0.0 some took in
          let g = bind_ok (several sets rule d f k b.0.1) (λ x. Ok (b.0.0 ++ x.0, x.1)) (ms, rest) b.2 in
          let more = again b.0.1 g.0.0 g.0.1 (omega arith) g.1 in
          several_moved sets rule d f ts (b.0.0 ++ g.0.0) ms g.0.1 rest (ok_pair _ ms _ rest g.2) (several_more sets rule d f ts b.0.1 g.0.1 b.0.0 g.0.0 c less took more)

  form_takes : (d : ℕ) → ((n : Nest) → Takes d (Nested n)) → (f : Form) → decided sets f ≡ true → Takes d f
  form_takes d sub Nothing dec ts ms rest eq = moved sets rule d Nothing ts [] ms ts rest (ok_pair [] ms ts rest eq) (takes_nothing sets rule d ts)
  form_takes d sub (Word keeps w) dec [] ms rest eq = absurd cc
  form_takes d sub (Word keeps w) dec (t ∷ ts) ms rest eq = by_test (is w t.kind) refl eq
    where
      by_test : (b : Bool) → is w t.kind ≡ b → chosen b (Ok (mark_of keeps t ∷ [], ts)) (bad Unexpected (t ∷ ts)) ≡ Ok (ms, rest) → Took sets rule d (Word keeps w) (t ∷ ts) ms rest
      by_test true e eq = moved sets rule d (Word keeps w) (t ∷ ts) (mark_of keeps t ∷ []) ms ts rest (ok_pair _ ms ts rest eq) (takes_word sets rule d keeps w t ts e)
      by_test false e eq = absurd cc
  form_takes d sub (f ⨾ g) dec ts ms rest eq =
      let p = and_cases (decided sets f) _ dec in
      let q = and_cases (decided sets g) _ p.1 in
      let b = bind_ok (reads sets rule d f ts) (λ x. behind x.0 (reads sets rule d g x.1)) (ms, rest) eq in
      let c = bind_ok (reads sets rule d g b.0.1) (λ x. Ok (b.0.0 ++ x.0, x.1)) (ms, rest) b.2 in
      moved sets rule d (f ⨾ g) ts (b.0.0 ++ c.0.0) ms c.0.1 rest (ok_pair _ ms _ rest c.2)
      (takes_both sets rule d f g ts b.0.1 c.0.1 b.0.0 c.0.0 (form_takes d sub f p.0 ts b.0.0 b.0.1 b.1) (form_takes d sub g q.0 b.0.1 c.0.0 c.0.1 c.1))
  form_takes d sub (f ∣ g) dec ts ms rest eq =
      let p = and_cases (decided sets f) _ dec in
      let q = and_cases (decided sets g) _ p.1 in
      by_first (form_takes d sub f p.0 ts ms rest) (form_takes d sub g q.0 ts ms rest) (comes (first sets f) ts) refl eq
    where
      by_first : (reads sets rule d f ts ≡ Ok (ms, rest) → Took sets rule d f ts ms rest) → (reads sets rule d g ts ≡ Ok (ms, rest) → Took sets rule d g ts ms rest) → (b : Bool) → comes (first sets f) ts ≡ b → (if b then reads sets rule d f ts else reads sets rule d g ts) ≡ Ok (ms, rest) → Took sets rule d (f ∣ g) ts ms rest
      by_first p q true c eq = takes_one sets rule d f g ts rest ms c (p eq)
      by_first p q false c eq = takes_other sets rule d f g ts rest ms c (q eq)
  form_takes d sub (Many f) dec ts ms rest eq =
      let p = and_cases (decided sets f) _ dec in
      let q = and_cases (not (nullable f)) _ p.1 in
      let s = several_takes d f (not_true _ q.0) (form_takes d sub f p.0) (length ts) ts ms rest (omega arith) eq in
      record { front = s.front; splits = s.splits; derives = s.derives; fits = s.fits; local = λ y e. s.local (length (s.front ++ y)) y e (omega arith) }
  form_takes d sub (Chained l f) dec ts ms rest eq =
      let b = bind_ok (reads sets rule d f ts) (λ x. Ok (bracketed (Chain l) x.0, x.1)) (ms, rest) eq in
      moved sets rule d (Chained l f) ts (bracketed (Chain l) b.0.0) ms b.0.1 rest (ok_pair _ ms _ rest b.2) (takes_chain sets rule d l f ts b.0.1 b.0.0 (form_takes d sub f dec ts b.0.0 b.0.1 b.1))
  form_takes d sub (Nested n) dec ts ms rest eq = sub n ts ms rest eq

  nest_takes : (d : ℕ) (n : Nest) → Takes d (Nested n)
  unfolding nest_over
  nest_takes zero n ts ms rest eq = by_first (comes (sets.firsts n) ts) eq
    where
      by_first : (b : Bool) → chosen b (bad TooDeep ts) (bad Unexpected ts) ≡ Ok (ms, rest) → Took sets rule zero (Nested n) ts ms rest
      by_first true eq = absurd cc
      by_first false eq = absurd cc
  nest_takes (suc d) n ts ms rest eq =
      let b = bind_ok (reads sets rule d (rule n) ts) (λ x. Ok (bracketed (Phrase n) x.0, x.1)) (ms, rest) eq in
      moved sets rule (suc d) (Nested n) ts (bracketed (Phrase n) b.0.0) ms b.0.1 rest (ok_pair _ ms _ rest b.2)
      (takes_nested sets rule d n ts b.0.1 b.0.0 (form_takes d (nest_takes d) (rule n) (checked.decides n) ts b.0.0 b.0.1 b.1))

  -- what is read
  pub takes : (d : ℕ) (f : Form) → decided sets f ≡ true → (ts : List Token) (ms : List Mark) (rest : List Token) → reads sets rule d f ts ≡ Ok (ms, rest) → Took sets rule d f ts ms rest
  takes d f dec = form_takes d (nest_takes d) f dec

  -- ---- many, once a bound is enough

  enough_from : (d : ℕ) (f : Form) → nullable f ≡ false → Takes d f → (k j : ℕ) (ts : List Token) → length ts ≤ k → length ts ≤ j → several sets rule d f k ts ≡ several sets rule d f j ts
  enough_from d f some takes zero zero ts lk lj = refl
  enough_from d f some takes zero (suc j) [] lk lj = refl
  enough_from d f some takes zero (suc j) (t ∷ ts) lk lj = absurd (omega arith)
  enough_from d f some takes (suc k) zero [] lk lj = refl
  enough_from d f some takes (suc k) zero (t ∷ ts) lk lj = absurd (omega arith)
  enough_from d f some takes (suc k) (suc j) ts lk lj = by_read (λ ts. enough_from d f some takes k j ts) (comes (first sets f) ts) (reads sets rule d f ts) refl
    where
      by_read : ((ts : List Token) → length ts ≤ k → length ts ≤ j → several sets rule d f k ts ≡ several sets rule d f j ts) → (b : Bool) (r : Read) → reads sets rule d f ts ≡ r →
          (if b then (r >>= (λ x. behind x.0 (several sets rule d f k x.1))) else Ok ([], ts)) ≡ (if b then (r >>= (λ x. behind x.0 (several sets rule d f j x.1))) else Ok ([], ts))
      by_read again false r e = refl
      by_read again true (Err b) e = refl
      by_read again true (Ok x) e =
          let less = shorter d f ts x.1 x.0 some (takes ts x.0 x.1 e) in
          ap (behind x.0) (again x.1 (omega arith) (omega arith))

  pub enough : (d : ℕ) (f : Form) → decided sets (Many f) ≡ true → (k : ℕ) (ts : List Token) → length ts ≤ k → repeated (first sets f) (reads sets rule d f) k ts ≡ reads sets rule d (Many f) ts
  enough d f dec k ts le =
      let p = and_cases (decided sets f) _ dec in
      let q = and_cases (not (nullable f)) _ p.1 in
      enough_from d f (not_true _ q.0) (takes d f p.0) k (length ts) ts le (omega arith)
