-- Where nothing is read: what was read so far begins something that is derived, and with the next token nothing is read,
-- whatever follows.
use Rattle.std.proofs.Common.{◌≡◌, ℕ, zero, suc, ◌<◌, ◌≤◌, Bool, true, false, not, ◌||◌, ◌&&◌, List, [], ◌∷◌, ◌++◌, length, Ok, Err, refl, sym, ap, ◌∙◌, subst, inl, inr, arith, append_assoc, length-append}
use Rattle.std.specs.Prelude.{if◌then◌else◌, codes, pos}
use Rattle.std.proofs.lemmas.Bool.{or_cases, true≢false}
use Rattle.orca_lexer.specs.declared.token.TokenKind.{TokenKind}
use Rattle.orca_lexer.specs.declared.token.TokenKind.TheVariants as kinds
use Rattle.orca_lexer.specs.declared.token.Token.{Token}
use Rattle.orca_lexer.specs.contracts.token.Keyword as keyword
use Rattle.orca_lexer.specs.contracts.token.Symbol as symbol
use denote.Enum.Bare.{true_same}
use Rattle.orca_grammar.specs.Forms.{Terminal, KeyOf, SignOf, AnyName, AnyNumber, AnyChar, AnyText, is, Nest, Links, Form, Nothing, Word, ◌⨾◌, ◌∣◌, Many, Chained, Nested, Phrase, Chain, Mark, mark_of, bracketed, Derives, nothing, word, both, one, other, none, more, links, nested}
use Rattle.orca_grammar.specs.Reading.{Sets, is_any, comes, nullable, first, decided, Unexpected, TooDeep, Bad, bad, Read, Reader, ◌>>=◌, behind, in_brackets, repeated, word_at, nest_over}
use Rattle.orca_grammar.proofs.Tests.{head, comes_head, comes_append, and_cases, not_false, not_true}
use Rattle.orca_grammar.proofs.Derivations.{Checked, extended}
use Rattle.orca_grammar.proofs.Takes.{bind_err, head_front, chosen, reads, takes, Took, shorter, step_at, fail_at}

-- a derivation that begins with these tokens
pub record Viable (rule : Nest → Form) (f : Form) (front : List Token) : Type 0 where
  pub marks : List Mark
  pub rest : List Token
  pub derives : Derives rule f marks (front ++ rest) []

-- ---- each form has a derivation

-- a token of each kind
abbrev sample_kind : Terminal → TokenKind
sample_kind (KeyOf w) = kinds.Key w
sample_kind (SignOf s) = kinds.Sign s
sample_kind AnyName = kinds.Name (codes "x")
sample_kind AnyNumber = kinds.Number (pos 0)
sample_kind AnyChar = kinds.Char 120
sample_kind AnyText = kinds.Text []

abbrev sample : Terminal → Token
sample w = record { kind = sample_kind w; start = 0; end = 0; at = record { line = 1; column = 1 } }

is_sample : (w : Terminal) → is w (sample w).kind ≡ true
is_sample (KeyOf w) = true_same keyword.the_type w w refl
is_sample (SignOf s) = true_same symbol.the_type s s refl
is_sample AnyName = refl
is_sample AnyNumber = refl
is_sample AnyChar = refl
is_sample AnyText = refl

-- the nested phrases at a form's front are known ones
abbrev pub fronts : (Nest → Bool) → Form → Bool
fronts known Nothing = true
fronts known (Word keeps w) = true
fronts known (f ⨾ g) = fronts known f && (if nullable f then fronts known g else true)
fronts known (f ∣ g) = fronts known f && fronts known g
fronts known (Many f) = fronts known f
fronts known (Chained l f) = fronts known f
fronts known (Nested n) = known n

is_one : (w : Terminal) (k : TokenKind) → is_any (w ∷ []) k ≡ true → is w k ≡ true
is_one w k e = elim (or_cases (is w k) false e) [ inl h ↦ h | inr h ↦ absurd cc ]

module _ (rule : Nest → Form) where
  pub some_word : (keeps : Bool) (w : Terminal) → Viable rule (Word keeps w) []
  some_word keeps w = record { marks = mark_of keeps (sample w) ∷ []; rest = sample w ∷ []; derives = word (is_sample w) }

  -- a derivation, and one behind it
  pub then_some : (f g : Form) (front : List Token) → Viable rule f front → Viable rule g [] → Viable rule (f ⨾ g) front
  then_some f g front p q = record {
    marks = p.marks ++ q.marks;
    rest = p.rest ++ q.rest;
    derives = subst (λ x. Derives rule (f ⨾ g) (p.marks ++ q.marks) x []) (append_assoc front p.rest q.rest) (both (extended q.rest p.derives) q.derives);
  }

  pub some_one : (f g : Form) (front : List Token) → Viable rule f front → Viable rule (f ∣ g) front
  some_one f g front p = record { marks = p.marks; rest = p.rest; derives = one p.derives }

  pub some_other : (f g : Form) (front : List Token) → Viable rule g front → Viable rule (f ∣ g) front
  some_other f g front p = record { marks = p.marks; rest = p.rest; derives = other p.derives }

  pub some_many : (f : Form) (front : List Token) → Viable rule f front → Viable rule (Many f) front
  some_many f front p = record {
    marks = p.marks ++ [];
    rest = p.rest ++ [];
    derives = subst (λ x. Derives rule (Many f) (p.marks ++ []) x []) (append_assoc front p.rest []) (more (extended [] p.derives) none);
  }

  pub some_links : (l : Links) (f : Form) (front : List Token) → Viable rule f front → Viable rule (Chained l f) front
  some_links l f front p = record { marks = bracketed (Chain l) p.marks; rest = p.rest; derives = links p.derives }

  pub some_nested : (n : Nest) (front : List Token) → Viable rule (rule n) front → Viable rule (Nested n) front
  some_nested n front p = record { marks = bracketed (Phrase n) p.marks; rest = p.rest; derives = nested p.derives }

  module _ (nests : (n : Nest) → Viable rule (Nested n) []) where
    pub some : (f : Form) → Viable rule f []
    some Nothing = record { marks = []; rest = []; derives = nothing }
    some (Word keeps w) = some_word keeps w
    some (f ⨾ g) = then_some f g [] (some f) (some g)
    some (f ∣ g) = some_one f g [] (some f)
    some (Many f) = record { marks = []; rest = []; derives = none }
    some (Chained l f) = some_links l f [] (some f)
    some (Nested n) = nests n

    -- ---- and one with each token that it may begin with

    -- a derivation from no token
    empty_of : (f : Form) → nullable f ≡ true → (ms : List Mark) × ((ts : List Token) → Derives rule f ms ts ts)
    empty_of Nothing e = ([], λ ts. nothing)
    empty_of (Word keeps w) e = absurd cc
    empty_of (f ⨾ g) e =
        let p = and_cases (nullable f) (nullable g) e in
        let a = empty_of f p.0 in
        let b = empty_of g p.1 in
        (a.0 ++ b.0, λ ts. both (a.1 ts) (b.1 ts))
    empty_of (f ∣ g) e =
        elim (or_cases (nullable f) (nullable g) e) [
          | inl h ↦ (let a = empty_of f h in (a.0, λ ts. one (a.1 ts)))
          | inr h ↦ (let a = empty_of g h in (a.0, λ ts. other (a.1 ts)))
        ]
    empty_of (Many f) e = ([], λ ts. none)
    empty_of (Chained l f) e = let a = empty_of f e in (bracketed (Chain l) a.0, λ ts. links (a.1 ts))
    empty_of (Nested n) e = absurd cc

    module _ (sets : Sets) (known : Nest → Bool) (begins : (n : Nest) (t : Token) → known n ≡ true → comes (sets.firsts n) (t ∷ []) ≡ true → Viable rule (Nested n) (t ∷ [])) where
      pub begun : (f : Form) (t : Token) → fronts known f ≡ true → comes (first sets f) (t ∷ []) ≡ true → Viable rule f (t ∷ [])
      begun Nothing t k c = absurd cc
      begun (Word keeps w) t k c = record { marks = mark_of keeps t ∷ []; rest = []; derives = word (is_one w t.kind c) }
      begun (f ⨾ g) t k c =
          let h = and_cases (fronts known f) _ k in
          elim (or_cases (comes (first sets f) (t ∷ [])) _ (sym (comes_append (first sets f) _ (t ∷ [])) ∙ c)) [
            | inl here ↦ then_some f g (t ∷ []) (begun f t h.0 here) (some g)
            | inr there ↦ behind_empty f g t (nullable f) refl h.1 there (begun g t)
          ]
        where
          behind_empty : (f g : Form) (t : Token) (b : Bool) → nullable f ≡ b → (if b then fronts known g else true) ≡ true → comes (if b then first sets g else []) (t ∷ []) ≡ true → (fronts known g ≡ true → comes (first sets g) (t ∷ []) ≡ true → Viable rule g (t ∷ [])) → Viable rule (f ⨾ g) (t ∷ [])
          behind_empty f g t false e k c ih = absurd cc
          behind_empty f g t true e k c ih =
              let a = empty_of f e in
              let b = ih k c in
              record { marks = a.0 ++ b.marks; rest = b.rest; derives = both (a.1 (t ∷ b.rest)) b.derives }
      begun (f ∣ g) t k c =
          let h = and_cases (fronts known f) _ k in
          elim (or_cases (comes (first sets f) (t ∷ [])) _ (sym (comes_append (first sets f) _ (t ∷ [])) ∙ c)) [
            | inl here ↦ some_one f g (t ∷ []) (begun f t h.0 here)
            | inr there ↦ some_other f g (t ∷ []) (begun g t h.1 there)
          ]
      begun (Many f) t k c = some_many f (t ∷ []) (begun f t k c)
      begun (Chained l f) t k c = some_links l f (t ∷ []) (begun f t k c)
      begun (Nested n) t k c = begins n t k c

-- ---- faults

-- What was read so far begins something that is derived, with the next token too where nesting is the cause; and with the next token
-- the same is answered, whatever follows.
pub record Fault (rule : Nest → Form) (f : Form) (reader : Reader) (ts : List Token) (b : Bad) : Type 0 where
  pub front : List Token
  pub splits : ts ≡ front ++ b.rest
  pub viable : Viable rule f front
  pub deeper : b.why ≡ TooDeep → (t : Token) × (r : List Token) × (b.rest ≡ t ∷ r) × Viable rule f (front ++ t ∷ [])
  pub same : (t : Token) (r left : List Token) → b.rest ≡ t ∷ r → reader (front ++ t ∷ left) ≡ bad b.why (t ∷ left)

head_same : (front rest r left : List Token) (t : Token) → rest ≡ t ∷ r → head (front ++ rest) ≡ head (front ++ t ∷ left)
head_same front rest r left t e = head_front front rest (t ∷ left) (ap head e)

module _ (sets : Sets) (rule : Nest → Form) (checked : Checked sets rule) (nests : (n : Nest) → Viable rule (Nested n) []) (begins : (n : Nest) (t : Token) → comes (sets.firsts n) (t ∷ []) ≡ true → Viable rule (Nested n) (t ∷ [])) where
  abbrev FaultOf : ℕ → Form → List Token → Bad → Type 0
  FaultOf d f ts b = Fault rule f (reads sets rule d f) ts b

  fault_word : (d : ℕ) (keeps : Bool) (w : Terminal) (ts : List Token) → comes (w ∷ []) ts ≡ false → FaultOf d (Word keeps w) ts (record { why = Unexpected; rest = ts })
  fault_word d keeps w ts c = record {
    front = [];
    splits = refl;
    viable = some_word rule keeps w;
    deeper = λ e. absurd cc;
    same = λ t r left e. at t r left e c;
  }
    where
      at : (t : Token) (r left : List Token) → ts ≡ t ∷ r → comes (w ∷ []) ts ≡ false → word_at keeps w (t ∷ left) ≡ bad Unexpected (t ∷ left)
      at t r left e c = ap (λ b. chosen b (Ok (mark_of keeps t ∷ [], left)) (bad Unexpected (t ∷ left))) (not_false (is w t.kind) (λ h. true≢false (sym (ap (λ b. b || false) h) ∙ sym (ap (comes (w ∷ [])) e) ∙ c)))

  fault_front : (d : ℕ) (f g : Form) (ts : List Token) (b : Bad) → FaultOf d f ts b → FaultOf d (f ⨾ g) ts b
  fault_front d f g ts b p = record {
    front = p.front;
    splits = p.splits;
    viable = then_some rule f g p.front p.viable (some rule nests g);
    deeper = λ e. let x = p.deeper e in (x.0, x.1, x.2, then_some rule f g (p.front ++ x.0 ∷ []) x.3 (some rule nests g));
    same = λ t r left e. ap (λ r. r >>= (λ x. behind x.0 (reads sets rule d g x.1))) (p.same t r left e);
  }

  -- a derivation, and what begins one behind it
  behind_front : (d : ℕ) (f g : Form) (ts mid : List Token) (a : List Mark) (front : List Token) → (p : Took sets rule d f ts a mid) → Viable rule g front → Viable rule (f ⨾ g) (p.front ++ front)
  behind_front d f g ts mid a front p v = record {
    marks = a ++ v.marks;
    rest = v.rest;
    derives = subst (λ x. Derives rule (f ⨾ g) (a ++ v.marks) x []) (sym (append_assoc p.front front v.rest)) (both (p.derives (front ++ v.rest)) v.derives);
  }

  fault_behind : (d : ℕ) (f g : Form) (ts mid : List Token) (a : List Mark) (b : Bad) → Took sets rule d f ts a mid → FaultOf d g mid b → FaultOf d (f ⨾ g) ts b
  fault_behind d f g ts mid a b p q = record {
    front = p.front ++ q.front;
    splits = p.splits ∙ ap (λ x. p.front ++ x) q.splits ∙ sym (append_assoc p.front q.front b.rest);
    viable = behind_front d f g ts mid a q.front p q.viable;
    deeper = λ e. let x = q.deeper e in (x.0, x.1, x.2, subst (Viable rule (f ⨾ g)) (sym (append_assoc p.front q.front (x.0 ∷ []))) (behind_front d f g ts mid a (q.front ++ x.0 ∷ []) p x.3));
    same = λ t r left e.
        ap (reads sets rule d (f ⨾ g)) (append_assoc p.front q.front (t ∷ left))
        ∙ ap (λ r. r >>= (λ x. behind x.0 (reads sets rule d g x.1))) (p.local (q.front ++ t ∷ left) (ap head q.splits ∙ head_same q.front b.rest r left t e))
        ∙ ap (behind a) (q.same t r left e);
  }

  fault_one : (d : ℕ) (f g : Form) (ts : List Token) (b : Bad) → comes (first sets f) ts ≡ true → FaultOf d f ts b → FaultOf d (f ∣ g) ts b
  fault_one d f g ts b c p = record {
    front = p.front;
    splits = p.splits;
    viable = some_one rule f g p.front p.viable;
    deeper = λ e. let x = p.deeper e in (x.0, x.1, x.2, some_one rule f g (p.front ++ x.0 ∷ []) x.3);
    same = λ t r left e.
        ap (λ b. chosen b (reads sets rule d f (p.front ++ t ∷ left)) (reads sets rule d g (p.front ++ t ∷ left)))
        (sym (comes_head (first sets f) ts (p.front ++ t ∷ left) (ap head p.splits ∙ head_same p.front b.rest r left t e)) ∙ c)
        ∙ p.same t r left e;
  }

  fault_other : (d : ℕ) (f g : Form) (ts : List Token) (b : Bad) → comes (first sets f) ts ≡ false → FaultOf d g ts b → FaultOf d (f ∣ g) ts b
  fault_other d f g ts b c p = record {
    front = p.front;
    splits = p.splits;
    viable = some_other rule f g p.front p.viable;
    deeper = λ e. let x = p.deeper e in (x.0, x.1, x.2, some_other rule f g (p.front ++ x.0 ∷ []) x.3);
    same = λ t r left e.
        ap (λ b. chosen b (reads sets rule d f (p.front ++ t ∷ left)) (reads sets rule d g (p.front ++ t ∷ left)))
        (sym (comes_head (first sets f) ts (p.front ++ t ∷ left) (ap head p.splits ∙ head_same p.front b.rest r left t e)) ∙ c)
        ∙ p.same t r left e;
  }

  fault_chain : (d : ℕ) (l : Links) (f : Form) (ts : List Token) (b : Bad) → FaultOf d f ts b → FaultOf d (Chained l f) ts b
  fault_chain d l f ts b p = record {
    front = p.front;
    splits = p.splits;
    viable = some_links rule l f p.front p.viable;
    deeper = λ e. let x = p.deeper e in (x.0, x.1, x.2, some_links rule l f (p.front ++ x.0 ∷ []) x.3);
    same = λ t r left e. ap (in_brackets (Chain l)) (p.same t r left e);
  }

  fault_nested : (d : ℕ) (n : Nest) (ts : List Token) (b : Bad) → FaultOf d (rule n) ts b → FaultOf (suc d) (Nested n) ts b
  unfolding nest_over
  fault_nested d n ts b p = record {
    front = p.front;
    splits = p.splits;
    viable = some_nested rule n p.front p.viable;
    deeper = λ e. let x = p.deeper e in (x.0, x.1, x.2, some_nested rule n (p.front ++ x.0 ∷ []) x.3);
    same = λ t r left e. ap (in_brackets (Phrase n)) (p.same t r left e);
  }

  fault_deep : (n : Nest) (ts : List Token) → comes (sets.firsts n) ts ≡ true → FaultOf zero (Nested n) ts (record { why = TooDeep; rest = ts })
  unfolding nest_over
  fault_deep n [] c = absurd cc
  fault_deep n (t ∷ ts) c = record {
    front = [];
    splits = refl;
    viable = nests n;
    deeper = λ e. (t, ts, refl, begins n t c);
    same = λ u r left e. ap (λ b. chosen b (bad TooDeep (u ∷ left)) (bad Unexpected (u ∷ left))) (sym (comes_head (sets.firsts n) (t ∷ ts) (u ∷ left) (ap head e)) ∙ c);
  }

  fault_not_deep : (n : Nest) (ts : List Token) → comes (sets.firsts n) ts ≡ false → FaultOf zero (Nested n) ts (record { why = Unexpected; rest = ts })
  unfolding nest_over
  fault_not_deep n ts c = record {
    front = [];
    splits = refl;
    viable = nests n;
    deeper = λ e. absurd cc;
    same = λ u r left e. ap (λ b. chosen b (bad TooDeep (u ∷ left)) (bad Unexpected (u ∷ left))) (sym (comes_head (sets.firsts n) ts (u ∷ left) (ap head e)) ∙ c);
  }

  -- ---- one after the other

  module _ (d : ℕ) (f : Form) (dec : decided sets (Many f) ≡ true) where
    several : ℕ → Reader
    unfolding nest_over
    several k ts = repeated (first sets f) (reads sets rule d f) k ts

    -- a fault, whatever bound there is
    record Faulty (ts : List Token) (b : Bad) : Type 0 where
      front : List Token
      splits : ts ≡ front ++ b.rest
      viable : Viable rule (Many f) front
      deeper : b.why ≡ TooDeep → (t : Token) × (r : List Token) × (b.rest ≡ t ∷ r) × Viable rule (Many f) (front ++ t ∷ [])
      same : (k : ℕ) (t : Token) (r left : List Token) → b.rest ≡ t ∷ r → length (front ++ t ∷ left) ≤ k → repeated (first sets f) (reads sets rule d f) k (front ++ t ∷ left) ≡ bad b.why (t ∷ left)

    faulty_here : (ts : List Token) (b : Bad) → comes (first sets f) ts ≡ true → FaultOf d f ts b → Faulty ts b
    faulty_here ts b c p = record {
      front = p.front;
      splits = p.splits;
      viable = some_many rule f p.front p.viable;
      deeper = λ e. let x = p.deeper e in (x.0, x.1, x.2, some_many rule f (p.front ++ x.0 ∷ []) x.3);
      same = at;
    }
      where
        at : (k : ℕ) (t : Token) (r left : List Token) → b.rest ≡ t ∷ r → length (p.front ++ t ∷ left) ≤ k → repeated (first sets f) (reads sets rule d f) k (p.front ++ t ∷ left) ≡ bad b.why (t ∷ left)
        at zero t r left e le = absurd (omega (arith, length-append p.front (t ∷ left)))
        at (suc k) t r left e le =
            fail_at sets rule d f k (p.front ++ t ∷ left) (record { why = b.why; rest = t ∷ left })
            (sym (comes_head (first sets f) ts (p.front ++ t ∷ left) (ap head p.splits ∙ head_same p.front b.rest r left t e)) ∙ c)
            (p.same t r left e)

    -- a derivation of one, and what begins more of them
    more_front : (ts mid : List Token) (a : List Mark) (front : List Token) → (p : Took sets rule d f ts a mid) → Viable rule (Many f) front → Viable rule (Many f) (p.front ++ front)
    more_front ts mid a front p v = record {
      marks = a ++ v.marks;
      rest = v.rest;
      derives = subst (λ x. Derives rule (Many f) (a ++ v.marks) x []) (sym (append_assoc p.front front v.rest)) (more (p.derives (front ++ v.rest)) v.derives);
    }

    faulty_later : (ts mid : List Token) (a : List Mark) (b : Bad) → comes (first sets f) ts ≡ true → length mid < length ts → Took sets rule d f ts a mid → Faulty mid b → Faulty ts b
    faulty_later ts mid a b c less p q = record {
      front = p.front ++ q.front;
      splits = p.splits ∙ ap (λ x. p.front ++ x) q.splits ∙ sym (append_assoc p.front q.front b.rest);
      viable = more_front ts mid a q.front p q.viable;
      deeper = λ e. let x = q.deeper e in (x.0, x.1, x.2, subst (Viable rule (Many f)) (sym (append_assoc p.front q.front (x.0 ∷ []))) (more_front ts mid a (q.front ++ x.0 ∷ []) p x.3));
      same = λ k t r left e le.
          ap (repeated (first sets f) (reads sets rule d f) k) (append_assoc p.front q.front (t ∷ left))
          ∙ at k t r left e (subst (λ x. length x ≤ k) (append_assoc p.front q.front (t ∷ left)) le);
    }
      where
        longer : 0 < length p.front
        longer = omega (arith, ap length p.splits, length-append p.front mid)

        heads : (t : Token) (r left : List Token) → b.rest ≡ t ∷ r → head mid ≡ head (q.front ++ t ∷ left)
        heads t r left e = ap head q.splits ∙ head_same q.front b.rest r left t e

        at : (k : ℕ) (t : Token) (r left : List Token) → b.rest ≡ t ∷ r → length (p.front ++ (q.front ++ t ∷ left)) ≤ k → repeated (first sets f) (reads sets rule d f) k (p.front ++ (q.front ++ t ∷ left)) ≡ bad b.why (t ∷ left)
        at zero t r left e le = absurd (omega (arith, longer, length-append p.front (q.front ++ t ∷ left)))
        at (suc k) t r left e le =
            step_at sets rule d f k (p.front ++ (q.front ++ t ∷ left)) a (q.front ++ t ∷ left)
            (sym (comes_head (first sets f) ts (p.front ++ (q.front ++ t ∷ left)) (ap head p.splits ∙ head_front p.front mid (q.front ++ t ∷ left) (heads t r left e))) ∙ c)
            (p.local (q.front ++ t ∷ left) (heads t r left e))
            ∙ ap (behind a) (q.same k t r left e (omega (arith, longer, length-append p.front (q.front ++ t ∷ left))))

    several_fails : ((ts : List Token) (b : Bad) → reads sets rule d f ts ≡ Err b → FaultOf d f ts b) → (k : ℕ) (ts : List Token) (b : Bad) → length ts ≤ k → repeated (first sets f) (reads sets rule d f) k ts ≡ Err b → Faulty ts b
    several_fails fails zero ts b le eq = absurd cc
    several_fails fails (suc k) ts b le eq = by_first (λ ts b. several_fails fails k ts b) (comes (first sets f) ts) refl eq
      where
        by_first : ((ts : List Token) (b : Bad) → length ts ≤ k → repeated (first sets f) (reads sets rule d f) k ts ≡ Err b → Faulty ts b) → (x : Bool) → comes (first sets f) ts ≡ x → chosen x (reads sets rule d f ts >>= (λ x. behind x.0 (repeated (first sets f) (reads sets rule d f) k x.1))) (Ok ([], ts)) ≡ Err b → Faulty ts b
        by_first again false c eq = absurd cc
        by_first again true c eq =
            let parts = and_cases (decided sets f) _ dec in
            let some_ = and_cases (not (nullable f)) _ parts.1 in
            elim (bind_err (reads sets rule d f ts) (λ x. behind x.0 (repeated (first sets f) (reads sets rule d f) k x.1)) b eq) [
              | inl here ↦ faulty_here ts b c (fails ts b here)
              | inr later ↦
                  (let took = takes sets rule checked d f parts.0 ts later.0.0 later.0.1 later.1 in
                  let less = shorter sets rule checked d f ts later.0.1 later.0.0 (not_true _ some_.0) took in
                  faulty_later ts later.0.1 later.0.0 b c less took (again later.0.1 b (omega arith) (behind_err later.0.0 later.0.1 later.2)))
            ]
          where
            behind_err : (a : List Mark) (mid : List Token) → behind a (repeated (first sets f) (reads sets rule d f) k mid) ≡ Err b → repeated (first sets f) (reads sets rule d f) k mid ≡ Err b
            behind_err a mid e = elim (bind_err (repeated (first sets f) (reads sets rule d f) k mid) (λ x. Ok (a ++ x.0, x.1)) b e) [ inl h ↦ h | inr h ↦ absurd (let z = h.2 in cc) ]

  -- ---- every form

  abbrev Fails : ℕ → Form → Type 0
  Fails d f = (ts : List Token) (b : Bad) → reads sets rule d f ts ≡ Err b → FaultOf d f ts b

  -- the fault that is answered is this one
  err_is : (d : ℕ) (f : Form) (ts : List Token) (a b : Bad) → (let r : Read = Err a in r ≡ Err b) → FaultOf d f ts a → FaultOf d f ts b
  err_is d f ts a b e p = let same : a ≡ b = cc in subst (FaultOf d f ts) same p

  form_fails : (d : ℕ) → ((n : Nest) → Fails d (Nested n)) → (f : Form) → decided sets f ≡ true → Fails d f
  form_fails d sub Nothing dec ts b eq = absurd cc
  form_fails d sub (Word keeps w) dec [] b eq = err_is d (Word keeps w) [] _ b eq (fault_word d keeps w [] refl)
  form_fails d sub (Word keeps w) dec (t ∷ ts) b eq = by_test (is w t.kind) refl eq
    where
      by_test : (x : Bool) → is w t.kind ≡ x → chosen x (Ok (mark_of keeps t ∷ [], ts)) (bad Unexpected (t ∷ ts)) ≡ Err b → FaultOf d (Word keeps w) (t ∷ ts) b
      by_test true e eq = absurd cc
      by_test false e eq = err_is d (Word keeps w) (t ∷ ts) _ b eq (fault_word d keeps w (t ∷ ts) (ap (λ x. x || false) e))
  form_fails d sub (f ⨾ g) dec ts b eq =
      let p = and_cases (decided sets f) _ dec in
      let q = and_cases (decided sets g) _ p.1 in
      elim (bind_err (reads sets rule d f ts) (λ x. behind x.0 (reads sets rule d g x.1)) b eq) [
        | inl here ↦ fault_front d f g ts b (form_fails d sub f p.0 ts b here)
        | inr later ↦ fault_behind d f g ts later.0.1 later.0.0 b (takes sets rule checked d f p.0 ts later.0.0 later.0.1 later.1) (form_fails d sub g q.0 later.0.1 b (behind_err later.0.0 later.0.1 later.2))
      ]
    where
      behind_err : (a : List Mark) (mid : List Token) → behind a (reads sets rule d g mid) ≡ Err b → reads sets rule d g mid ≡ Err b
      behind_err a mid e = elim (bind_err (reads sets rule d g mid) (λ x. Ok (a ++ x.0, x.1)) b e) [ inl h ↦ h | inr h ↦ absurd (let z = h.2 in cc) ]
  form_fails d sub (f ∣ g) dec ts b eq =
      let p = and_cases (decided sets f) _ dec in
      let q = and_cases (decided sets g) _ p.1 in
      by_first (form_fails d sub f p.0 ts b) (form_fails d sub g q.0 ts b) (comes (first sets f) ts) refl eq
    where
      by_first : (reads sets rule d f ts ≡ Err b → FaultOf d f ts b) → (reads sets rule d g ts ≡ Err b → FaultOf d g ts b) → (x : Bool) → comes (first sets f) ts ≡ x → chosen x (reads sets rule d f ts) (reads sets rule d g ts) ≡ Err b → FaultOf d (f ∣ g) ts b
      by_first p q true c eq = fault_one d f g ts b c (p eq)
      by_first p q false c eq = fault_other d f g ts b c (q eq)
  form_fails d sub (Many f) dec ts b eq =
      let p = and_cases (decided sets f) _ dec in
      let s = several_fails d f dec (form_fails d sub f p.0) (length ts) ts b (omega arith) eq in
      record { front = s.front; splits = s.splits; viable = s.viable; deeper = s.deeper; same = λ t r left e. s.same (length (s.front ++ t ∷ left)) t r left e (omega arith) }
  form_fails d sub (Chained l f) dec ts b eq =
      elim (bind_err (reads sets rule d f ts) (λ x. Ok (bracketed (Chain l) x.0, x.1)) b eq) [
        | inl here ↦ fault_chain d l f ts b (form_fails d sub f dec ts b here)
        | inr later ↦ absurd (let z = later.2 in cc)
      ]
  form_fails d sub (Nested n) dec ts b eq = sub n ts b eq

  nest_fails : (d : ℕ) (n : Nest) → Fails d (Nested n)
  unfolding nest_over
  nest_fails zero n ts b eq = by_first (comes (sets.firsts n) ts) refl eq
    where
      by_first : (x : Bool) → comes (sets.firsts n) ts ≡ x → chosen x (bad TooDeep ts) (bad Unexpected ts) ≡ Err b → FaultOf zero (Nested n) ts b
      by_first true c eq = err_is zero (Nested n) ts _ b eq (fault_deep n ts c)
      by_first false c eq = err_is zero (Nested n) ts _ b eq (fault_not_deep n ts c)
  nest_fails (suc d) n ts b eq =
      elim (bind_err (reads sets rule d (rule n) ts) (λ x. Ok (bracketed (Phrase n) x.0, x.1)) b eq) [
        | inl here ↦ fault_nested d n ts b (form_fails d (nest_fails d) (rule n) (checked.decides n) ts b here)
        | inr later ↦ absurd (let z = later.2 in cc)
      ]

  -- where nothing is read
  pub fails : (d : ℕ) (f : Form) → decided sets f ≡ true → (ts : List Token) (b : Bad) → reads sets rule d f ts ≡ Err b → Fault rule f (reads sets rule d f) ts b
  fails d f dec = form_fails d (nest_fails d) f dec
