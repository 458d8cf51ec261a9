-- Whole texts: what reading says of all the tokens is what the grammar says of them.
use Rattle.std.proofs.Common.{◌≡◌, ℕ, ◌<◌, ◌≤◌, true, false, List, [], ◌∷◌, ◌++◌, length, drop, Option, Some, None, Ok, Err, refl, sym, ap, ◌∙◌, subst, inl, inr, ◌⊎◌, arith, append_assoc, length-append, length-drop}
use Rattle.std.proofs.lemmas.Bool.{true≢false, cases_lt}
use Rattle.orca_base.specs.declared.limits.TheConstants.{NESTING}
use Rattle.orca_lexer.specs.declared.token.Token.{Token}
use Rattle.orca_grammar.specs.Forms.{Terminal, Nest, Statement, Expression, Factor, TypePhrase, Links, Term, Sum, Relation, Conjunction, Disjunction, Form, Nothing, Nested, Mark, nothing, first_deep}
use Rattle.orca_grammar.specs.Rules.{rule, plain_type, type_rule, factor_rule, chain, chained, term, sum, relation, conjunction, disjunction, statement_rule, return_rest, unit}
use Rattle.orca_grammar.specs.Reading.{comes, next, Unexpected, TooDeep, Bad, bad, Read}
use Rattle.orca_grammar.specs.Sets.{sets, firsts_of}
use Rattle.orca_grammar.specs.Grammar.{IsText, IsUnexpected, IsTooNested, nest_at, read}
use Rattle.orca_grammar.proofs.Decided.{unit_decided, firsts_are}
use Rattle.orca_grammar.proofs.Fronts.{no_nest, factor_alone_is, statement_alone, factor_alone, type_alone, expression_on_factor}
use Rattle.orca_grammar.proofs.Tests.{head}
use Rattle.orca_grammar.proofs.Steps.{checked}
use Rattle.orca_grammar.proofs.Takes.{takes, Took, ok_pair, bad_parts}
use Rattle.orca_grammar.proofs.Again.{again, judged}
use Rattle.orca_grammar.proofs.Fails.{Viable, Fault, fails, fronts, begun, some_word, then_some, some_one, some_other, some_nested}

-- ---- each nested phrase has a derivation, and one with each token that it may begin with

some_factor : Viable rule (Nested Factor) []
unfolding factor_rule
some_factor = some_nested rule Factor [] (some_one rule _ _ [] (some_word rule true Terminal.AnyNumber))

-- an operand alone is a phrase of its level
some_alone : (level : Links) (f : Form) → Viable rule f [] → Viable rule (chain level f) []
unfolding chained
some_alone level f some = then_some rule f _ [] some (some_other rule _ Nothing [] (record { marks = []; rest = []; derives = nothing }))

some_disjunction : Viable rule disjunction []
unfolding term sum relation conjunction disjunction
some_disjunction =
    some_alone Disjunction conjunction (some_alone Conjunction relation (some_alone Relation sum (some_alone Sum term (some_alone Term (Nested Factor) some_factor))))

pub some_nest : (n : Nest) → Viable rule (Nested n) []
unfolding statement_rule return_rest plain_type type_rule
some_nest Statement = some_nested rule Statement [] (some_one rule _ _ [] (then_some rule _ _ [] (some_word rule true _) (some_other rule _ Nothing [] (record { marks = []; rest = []; derives = nothing }))))
some_nest Expression = some_nested rule Expression [] some_disjunction
some_nest Factor = some_factor
some_nest TypePhrase = some_nested rule TypePhrase [] (some_one rule _ _ [] (some_one rule _ _ [] (some_word rule true _)))

-- each nested phrase begins with each of its tokens
begun_alone : (n : Nest) (t : Token) → fronts no_nest (rule n) ≡ true → comes (firsts_of n) (t ∷ []) ≡ true → Viable rule (Nested n) (t ∷ [])
begun_alone n t k c =
    some_nested rule n (t ∷ []) (begun rule some_nest sets no_nest (λ m u none _. absurd (true≢false (sym none))) (rule n) t k (ap (λ ws. comes ws (t ∷ [])) (firsts_are n) ∙ c))

pub begun_nest : (n : Nest) (t : Token) → comes (firsts_of n) (t ∷ []) ≡ true → Viable rule (Nested n) (t ∷ [])
begun_nest Statement t c = begun_alone Statement t statement_alone c
begun_nest Factor t c = begun_alone Factor t factor_alone c
begun_nest TypePhrase t c = begun_alone TypePhrase t type_alone c
begun_nest Expression t c =
    some_nested rule Expression (t ∷ []) (begun rule some_nest sets factor_alone_is at_factor (rule Expression) t expression_on_factor (ap (λ ws. comes ws (t ∷ [])) (firsts_are Expression) ∙ c))
  where
    at_factor : (n : Nest) (t : Token) → factor_alone_is n ≡ true → comes (firsts_of n) (t ∷ []) ≡ true → Viable rule (Nested n) (t ∷ [])
    at_factor Statement t k c = absurd cc
    at_factor Expression t k c = absurd cc
    at_factor Factor t k c = begun_alone Factor t factor_alone c
    at_factor TypePhrase t k c = absurd cc

-- ---- what the reader of a unit says

at_end : comes (next sets unit) [] ≡ false
at_end = refl

read_takes : (ts : List Token) (ms : List Mark) (rest : List Token) → read NESTING unit ts ≡ Ok (ms, rest) → Took sets rule NESTING unit ts ms rest
unfolding nest_at
read_takes ts ms rest e = takes sets rule checked NESTING unit unit_decided ts ms rest e

took_again : (ts : List Token) (ms : List Mark) (rest : List Token) (t : Took sets rule NESTING unit ts ms rest) (y : List Token) → head rest ≡ head y → read NESTING unit (t.front ++ y) ≡ Ok (ms, y)
unfolding nest_at
took_again ts ms rest t y e = t.local y e

pub read_again : (ms : List Mark) (ts : List Token) → IsText ms ts → read NESTING unit ts ≡ judged (first_deep ms NESTING) ms ts []
unfolding nest_at
read_again ms ts h = again sets rule checked NESTING h unit_decided at_end

read_fails : (ts : List Token) (b : Bad) → read NESTING unit ts ≡ Err b → Fault rule unit (read NESTING unit) ts b
unfolding nest_at
read_fails ts b e = fails sets rule checked some_nest begun_nest NESTING unit unit_decided ts b e

-- what was read whole is the one unit of the tokens
pub record IsWhole (tokens : List Token) (ms : List Mark) : Type 0 where
  pub text : IsText ms tokens
  pub fits : first_deep ms NESTING ≡ None
  pub only : (other : List Mark) → IsText other tokens → other ≡ ms

pub whole : (tokens : List Token) (ms : List Mark) → read NESTING unit tokens ≡ Ok (ms, []) → IsWhole tokens ms
whole tokens ms e =
    let t = read_takes tokens ms [] e in
    record {
      text = subst (λ x. IsText ms x) (sym t.splits) (t.derives []);
      fits = t.fits;
      only = λ ns h. by_deep ns (first_deep ns NESTING) (sym (read_again ns tokens h) ∙ e);
    }
  where
    by_deep : (ns : List Mark) (o : Option ℕ) → judged o ns tokens [] ≡ Ok (ms, []) → ns ≡ ms
    by_deep ns None q = (ok_pair ns ms [] [] q).0
    by_deep ns (Some k) q = absurd cc

-- a front that is read, or at whose end nothing goes on, nests no deeper than allowed
cut_before : (a b x : List Token) (t : Token) (y : List Token) → a ++ x ≡ b ++ t ∷ y → length b < length a → (m : List Token) × (a ≡ b ++ t ∷ m)
cut_before [] b x t y e lt = absurd (omega arith)
cut_before (c ∷ a) [] x t y e lt = let h : c ≡ t = cc in (a, ap (λ z. z ∷ a) h)
cut_before (c ∷ a) (d ∷ b) x t y e lt =
    let h : c ≡ d = cc in
    let r : a ++ x ≡ b ++ t ∷ y = cc in
    let m = cut_before a b x t y r (omega arith) in
    (m.0, λ i. h i ∷ m.1 i)

nests_so : (front found : List Token) → ((b : List Token) → read NESTING unit (front ++ found) ≡ bad TooDeep b → ⊥) →
    (ms : List Mark) (rest : List Token) → IsText ms (front ++ rest) → (k : ℕ) → first_deep ms NESTING ≡ Some k → length front ≤ k
nests_so front found not_deep ms rest text k e = by_order (cases_lt k (length front))
  where
    deep : read NESTING unit (front ++ rest) ≡ bad TooDeep (drop k (front ++ rest))
    deep = read_again ms (front ++ rest) text ∙ ap (λ o. judged o ms (front ++ rest) []) e

    by_order : (k < length front) ⊎ (length front ≤ k) → length front ≤ k
    by_order (inr le) = le
    by_order (inl lt) =
        let f = read_fails (front ++ rest) (record { why = TooDeep; rest = drop k (front ++ rest) }) deep in
        let at = f.deeper refl in
        let long : length f.front ≡ k = omega (arith, ap length f.splits, length-append f.front (drop k (front ++ rest)), length-drop k (front ++ rest), ap length at.2, length-append front rest) in
        let cut = cut_before front f.front rest at.0 at.1 (f.splits ∙ ap (λ z. f.front ++ z) at.2) (omega arith) in
        absurd (not_deep (at.0 ∷ (cut.0 ++ found)) (ap (λ z. read NESTING unit (z ++ found)) cut.1 ∙ ap (read NESTING unit) (append_assoc f.front (at.0 ∷ cut.0) found) ∙ f.same at.0 at.1 (cut.0 ++ found) at.2))

longer_front : (front : List Token) (t : Token) (rest : List Token) → (front ++ t ∷ []) ++ rest ≡ front ++ t ∷ rest
longer_front front t rest = append_assoc front (t ∷ []) rest

-- a unit ends, and more tokens stand there
pub left_behind : (tokens : List Token) (ms : List Mark) (t : Token) (rest : List Token) → read NESTING unit tokens ≡ Ok (ms, t ∷ rest) → (front : List Token) × IsUnexpected tokens front (t ∷ rest)
left_behind tokens ms t rest e =
    let p = read_takes tokens ms (t ∷ rest) e in (
      p.front,
      record {
        splits = p.splits;
        begins = record { marks = ms; rest = []; text = p.derives [] };
        goes_no_further = λ u r is b.
            let same : t ≡ u = cc in
            no_unit p.front u b.rest b.marks (first_deep b.marks NESTING)
            (sym (read_again b.marks (p.front ++ u ∷ b.rest) (subst (IsText b.marks) (longer_front p.front u b.rest) b.text)) ∙ took_again tokens ms (t ∷ rest) p (u ∷ b.rest) (ap (λ z. Some z) same));
        ends = λ is. absurd cc;
        nests = nests_so p.front (t ∷ rest) (λ b q. let z = sym (took_again tokens ms (t ∷ rest) p (t ∷ rest) refl) ∙ q in absurd cc);
      },
    )
  where
    no_unit : (front : List Token) (u : Token) (r : List Token) (ns : List Mark) (o : Option ℕ) → judged o ns (front ++ u ∷ r) [] ≡ Ok (ms, u ∷ r) → ⊥
    no_unit front u r ns None q = let z = (ok_pair ns ms [] (u ∷ r) q).1 in cc
    no_unit front u r ns (Some k) q = cc

-- a token, or the end, with which nothing goes on
pub unexpected : (tokens found : List Token) → read NESTING unit tokens ≡ bad Unexpected found → (front : List Token) × IsUnexpected tokens front found
unexpected tokens found e =
    let p = read_fails tokens (record { why = Unexpected; rest = found }) e in (
      p.front,
      record {
        splits = p.splits;
        begins = record { marks = p.viable.marks; rest = p.viable.rest; text = p.viable.derives };
        goes_no_further = λ u r is b.
            no_unit (p.front ++ u ∷ b.rest) (u ∷ b.rest) b.marks (first_deep b.marks NESTING)
            (sym (read_again b.marks (p.front ++ u ∷ b.rest) (subst (IsText b.marks) (longer_front p.front u b.rest) b.text)) ∙ p.same u r b.rest is);
        ends = λ is ns text. no_unit tokens found ns (first_deep ns NESTING) (sym (read_again ns tokens text) ∙ e);
        nests = nests_so p.front found (λ b q. let z = sym e ∙ ap (read NESTING unit) p.splits ∙ q in absurd (other_why z));
      },
    )
  where
    no_unit : (ts r : List Token) (ns : List Mark) (o : Option ℕ) → judged o ns ts [] ≡ bad Unexpected r → ⊥
    no_unit ts r ns None q = cc
    no_unit ts r ns (Some k) q = let h = (bad_parts TooDeep Unexpected (drop k ts) r q).0 in cc

    other_why : {x y : List Token} → (let a : Read = bad Unexpected x in a ≡ bad TooDeep y) → ⊥
    other_why {x} {y} h = let z = (bad_parts Unexpected TooDeep x y h).0 in cc

-- a token that would be nested too deep
pub too_nested : (tokens found : List Token) → read NESTING unit tokens ≡ bad TooDeep found → (front : List Token) × (t : Token) × (rest : List Token) × (found ≡ t ∷ rest) × IsTooNested tokens front t rest
too_nested tokens found e =
    let p = read_fails tokens (record { why = TooDeep; rest = found }) e in
    let at = p.deeper refl in (
      p.front,
      at.0,
      at.1,
      at.2,
      record {
        splits = p.splits ∙ ap (λ z. p.front ++ z) at.2;
        begins = record { marks = at.3.marks; rest = at.3.rest; text = at.3.derives };
        deep = λ ns r text. by_deep ns p.front at.0 r (first_deep ns NESTING) refl (sym (read_again ns (p.front ++ at.0 ∷ r) text) ∙ p.same at.0 at.1 r at.2);
      },
    )
  where
    by_deep : (ns : List Mark) (front : List Token) (t : Token) (r : List Token) (o : Option ℕ) → first_deep ns NESTING ≡ o → judged o ns (front ++ t ∷ r) [] ≡ bad TooDeep (t ∷ r) → first_deep ns NESTING ≡ Some (length front)
    by_deep ns front t r None same_ q = cc
    by_deep ns front t r (Some k) same_ q =
        let same = (bad_parts TooDeep TooDeep (drop k (front ++ t ∷ r)) (t ∷ r) q).1 in
        let long : k ≡ length front = omega (arith, ap length same, length-drop k (front ++ t ∷ r), length-append front (t ∷ r)) in
        same_ ∙ ap Some long
