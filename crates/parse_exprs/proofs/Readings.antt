-- What a reader's parts answer says what it answers: of one after the other, of loops, of nested phrases.
use Rattle.std.proofs.Common.{◌≡◌, ℕ, ◌-◌, ◌<◌, Bool, true, false, List, [], ◌++◌, Result, Ok, Err, refl, sym, ap, ◌∙◌, subst, append_assoc}
use Rattle.std.specs.Prelude.{IsErrAnd}
use Rattle.std.specs.Borrow.{Bor}
use Rattle.std.proofs.lemmas.List.{append-nil}
use Rattle.orca_lexer.specs.declared.token.Token.{Token}
use Rattle.orca_grammar.specs.Forms.{Nest, Form, ◌⨾◌, Many, Phrase, Mark, bracketed}
use Rattle.orca_grammar.specs.Rules.{rule}
use Rattle.orca_grammar.specs.Reading.{comes, first, decided, Read, ◌>>=◌, behind, in_brackets}
use Rattle.orca_grammar.specs.Sets.{sets, firsts_of}
use Rattle.orca_grammar.specs.Grammar.{read, nest_at}
use Rattle.orca_grammar.proofs.Steps.{many_stop, many_step, many_fail, nest_zero, nest_below}
use Rattle.orca_base.specs.declared.refusal.Refusal.TheVariants.{Because, NoMemory}
use Rattle.parse_exprs.specs.declared.read_error.ReadError.TheVariants as errors
use Rattle.parse_exprs.specs.Gives.{Failure, Fails, Parses, none_left}

pub behind_behind : (a b : List Mark) (r : Read) → behind a (behind b r) ≡ behind (a ++ b) r
behind_behind a b (Ok x) = ap (λ (ms : List Mark). let r : Read = Ok (ms, x.1) in r) (sym (append_assoc a b x.0))
behind_behind a b (Err e) = refl

pub behind_none : (r : Read) → behind [] r ≡ r
behind_none (Ok x) = refl
behind_none (Err e) = refl

-- ---- why nothing is read

-- two readings are one
pub fails_same : (h : Failure) (r s : Read) → r ≡ s → Fails h s → Fails h r
fails_same NoMemory r s e f = tt
fails_same (Because (errors.Unexpected rest)) r s e f = e ∙ f
fails_same (Because (errors.TooNested rest)) r s e f = e ∙ f

-- where the first part fails, so does what goes on with it
pub fails_then : (h : Failure) (r : Read) (f : List Mark × List Token → Read) → Fails h r → Fails h (r >>= f)
fails_then NoMemory r f e = tt
fails_then (Because (errors.Unexpected rest)) r f e = ap (λ (x : Read). x >>= f) e
fails_then (Because (errors.TooNested rest)) r f e = ap (λ (x : Read). x >>= f) e

-- an exit by `?`
pub exit : {X : Type 0} {Q : Failure → Type 0} (marks : X → List Mark) (result : Result (X × Bor (List Token)) Failure) (h : Failure) (reading : Read)
    → IsErrAnd result Q → ((y : Failure) → Q y → y ≡ h) → Fails h reading → Parses marks result reading
exit marks (Ok x) h reading e same f = absurd e
exit marks (Err y) h reading e same f = subst (λ z. Fails z reading) (sym (same y e)) f

-- ---- one after the other

module _ (d : ℕ) (f g : Form) (ts : List Token) where
  pub both_first : (h : Failure) → Fails h (read d f ts) → Fails h (read d (f ⨾ g) ts)
  both_first h e = fails_then h (read d f ts) (λ x. behind x.0 (read d g x.1)) e

  module _ (a : List Mark) (mid : List Token) (one : read d f ts ≡ Ok (a, mid)) where
    pub both_second : (h : Failure) → Fails h (read d g mid) → Fails h (read d (f ⨾ g) ts)
    both_second h e = fails_same h _ _ (ap (λ (r : Read). r >>= (λ x. behind x.0 (read d g x.1))) one) (fails_then h (read d g mid) (λ x. Ok (a ++ x.0, x.1)) e)

    pub both_read : (b : List Mark) (rest : List Token) → read d g mid ≡ Ok (b, rest) → read d (f ⨾ g) ts ≡ Ok (a ++ b, rest)
    both_read b rest two = ap (λ (r : Read). r >>= (λ x. behind x.0 (read d g x.1))) one ∙ ap (behind a) two

-- ---- nested phrases

-- no level is left
pub nested_none : (h : Failure) (d : ℕ) (n : Nest) (ts : List Token) (begins : Bool) → d ≡ 0 → begins ≡ comes (firsts_of n) ts → Fails h (none_left begins ts) → Fails h (nest_at d n ts)
nested_none h d n ts begins zero b f = fails_same h _ _ (ap (λ k. nest_at k n ts) zero ∙ nest_zero n ts ∙ ap (λ c. none_left c ts) (sym b)) f

-- one level is
pub nested_read : {X : Type 0} (marks : X → List Mark) (result : Result (X × Bor (List Token)) Failure) (d : ℕ) (n : Nest) (ts : List Token) → 0 < d
    → Parses marks result (in_brackets (Phrase n) (read (d - 1) (rule n) ts)) → Parses marks result (nest_at d n ts)
nested_read marks result d n ts some p = subst (Parses marks result) (sym (nest_below d n ts some)) p

-- what is read, in brackets
pub in_brackets_read : {X : Type 0} (marks : X → List Mark) (result : Result (X × Bor (List Token)) Failure) (n : Nest) (reading : Read)
    → Parses marks result reading → Parses (λ x. bracketed (Phrase n) (marks x)) result (in_brackets (Phrase n) reading)
in_brackets_read marks (Ok x) n reading p = ap (in_brackets (Phrase n)) p
in_brackets_read marks (Err h) n reading p = fails_then h reading (λ x. Ok (bracketed (Phrase n) x.0, x.1)) p

-- ---- loops over parts of one form

-- `so_far` are the marks of the parts that were read, and `total` is the whole reading
module _ (d : ℕ) (f : Form) (so_far : List Mark) (ts : List Token) (total : Read) (invariant : total ≡ behind so_far (read d (Many f) ts)) where
  -- one more is read
  pub goes_on : (a : List Mark) (mid : List Token) → decided sets (Many f) ≡ true → comes (first sets f) ts ≡ true → read d f ts ≡ Ok (a, mid) → total ≡ behind (so_far ++ a) (read d (Many f) mid)
  goes_on a mid dec c one = invariant ∙ ap (behind so_far) (many_step d f ts mid a dec c one) ∙ behind_behind so_far a (read d (Many f) mid)

  -- none comes
  pub stops : comes (first sets f) ts ≡ false → total ≡ Ok (so_far, ts)
  stops c = invariant ∙ ap (behind so_far) (many_stop d f ts c) ∙ ap (λ (ms : List Mark). let r : Read = Ok (ms, ts) in r) (append-nil so_far)

  -- one comes, and isn't read
  pub breaks : (h : Failure) → comes (first sets f) ts ≡ true → Fails h (read d f ts) → Fails h total
  breaks NoMemory c bad = tt
  breaks (Because (errors.Unexpected rest)) c bad = invariant ∙ ap (behind so_far) (many_fail d f ts _ c bad)
  breaks (Because (errors.TooNested rest)) c bad = invariant ∙ ap (behind so_far) (many_fail d f ts _ c bad)
