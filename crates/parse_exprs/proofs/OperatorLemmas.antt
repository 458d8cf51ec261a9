-- A choice of words reads the one that comes.
use Rattle.std.proofs.Common.{◌≡◌, ℕ, Bool, true, false, ◌||◌, ◌&&◌, List, [], ◌∷◌, None, Ok, refl, sym, ap, ◌∙◌, inl, inr}
use Rattle.std.specs.Prelude.{if◌then◌else◌}
use Rattle.std.proofs.lemmas.Bool.{or_cases}
use Rattle.orca_lexer.specs.declared.token.Token.{Token}
use Rattle.orca_lexer.specs.declared.token.TokenKind.{TokenKind}
use Rattle.orca_grammar.specs.Forms.{is, Nest, Links, Term, Sum, Relation, Conjunction, Disjunction, Form, Nothing, Word, ◌⨾◌, ◌∣◌, Many, Chained, Nested, Spelled}
use Rattle.orca_grammar.specs.Rules as rules
use Rattle.orca_grammar.specs.Reading.{is_any, comes, first, Read, Reader, bad, Unexpected, read_over}
use Rattle.orca_grammar.specs.Sets.{sets}
use Rattle.orca_grammar.specs.Grammar.{read, nest_at}
use Rattle.orca_grammar.proofs.Tests.{and_cases, comes_append}
use Rattle.orca_tree.specs.declared.tree.Operator.{Operator}
use Rattle.orca_tree.specs.Marks.{word, operator_token}

-- a choice of words whose places aren't kept
abbrev are_words : Form → Bool
are_words Nothing = false
are_words (Word true w) = false
are_words (Word false w) = true
are_words (f ⨾ g) = false
are_words (f ∣ g) = are_words f && are_words g
are_words (Many f) = false
are_words (Chained l f) = false
are_words (Nested n) = false

words_read : (sub : Nest → Reader) (f : Form) (t : Token) (ts : List Token) → are_words f ≡ true → comes (first sets f) (t ∷ ts) ≡ true → read_over sets sub f (t ∷ ts) ≡ Ok (Spelled None t.kind ∷ [], ts)
words_read sub Nothing t ts a c = absurd cc
words_read sub (Word true w) t ts a c = absurd cc
words_read sub (Word false w) t ts a c =
    let found : is w t.kind ≡ true = elim (or_cases (is w t.kind) false c) [ inl h ↦ h | inr h ↦ absurd cc ] in
    ap (λ b. let r : Read = if b then Ok (Spelled None t.kind ∷ [], ts) else bad Unexpected (t ∷ ts) in r) found
words_read sub (f ⨾ g) t ts a c = absurd cc
words_read sub (f ∣ g) t ts a c =
    let parts = and_cases (are_words f) (are_words g) a in
    choose (comes (first sets f) (t ∷ ts)) refl (words_read sub f t ts parts.0) (words_read sub g t ts parts.1) (sym (comes_append (first sets f) (first sets g) (t ∷ ts)) ∙ c)
  where
    choose : (b : Bool) → comes (first sets f) (t ∷ ts) ≡ b
        → (comes (first sets f) (t ∷ ts) ≡ true → read_over sets sub f (t ∷ ts) ≡ Ok (Spelled None t.kind ∷ [], ts))
        → (comes (first sets g) (t ∷ ts) ≡ true → read_over sets sub g (t ∷ ts) ≡ Ok (Spelled None t.kind ∷ [], ts))
        → (comes (first sets f) (t ∷ ts) || comes (first sets g) (t ∷ ts)) ≡ true
        → read_over sets sub (f ∣ g) (t ∷ ts) ≡ Ok (Spelled None t.kind ∷ [], ts)
    choose true e one other any = ap (λ x. if x then read_over sets sub f (t ∷ ts) else read_over sets sub g (t ∷ ts)) e ∙ one e
    choose false e one other any =
        ap (λ x. if x then read_over sets sub f (t ∷ ts) else read_over sets sub g (t ∷ ts)) e
        ∙ other (sym (ap (λ x. x || comes (first sets g) (t ∷ ts)) e) ∙ any)
words_read sub (Many f) t ts a c = absurd cc
words_read sub (Chained l f) t ts a c = absurd cc
words_read sub (Nested n) t ts a c = absurd cc

operators_are_words : (level : Links) → are_words (rules.operator level) ≡ true
unfolding rules.operator
operators_are_words Term = refl
operators_are_words Sum = refl
operators_are_words Relation = refl
operators_are_words Conjunction = refl
operators_are_words Disjunction = refl

pub operator_comes : (level : Links) (ts : List Token) (t : Token) (rest : List Token) → ts ≡ t ∷ rest → is_any (first sets (rules.operator level)) t.kind ≡ true → comes (first sets (rules.operator level)) ts ≡ true
operator_comes level ts t rest e c = ap (comes (first sets (rules.operator level))) e ∙ c

pub operator_read : (level : Links) (d : ℕ) (ts : List Token) (t : Token) (rest : List Token) (op : Operator) → ts ≡ t ∷ rest → is_any (first sets (rules.operator level)) t.kind ≡ true → t.kind ≡ operator_token op
    → read d (rules.operator level) ts ≡ Ok (word (operator_token op) ∷ [], rest)
operator_read level d ts t rest op e c k =
    ap (read d (rules.operator level)) e
    ∙ words_read (nest_at d) (rules.operator level) t rest (operators_are_words level) c
    ∙ ap (λ (kind : TokenKind). let x : Read = Ok (Spelled None kind ∷ [], rest) in x) k
