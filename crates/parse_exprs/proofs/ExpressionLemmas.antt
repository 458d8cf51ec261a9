-- The forms of expressions, opened.
use Rattle.std.proofs.Common.{◌≡◌, ℕ, ◌<◌, true, false, List, [], ◌∷◌, ◌++◌, length, Ok, refl, sym, ap, ◌∙◌, arith}
use Rattle.std.specs.Prelude.{if◌then◌else◌}
use Rattle.std.proofs.lemmas.List.{append-nil, flat_map_more}
use Rattle.orca_lexer.specs.declared.token.Symbol.TheVariants.{Comma}
use Rattle.orca_lexer.specs.declared.token.Token.{Token}
use Rattle.orca_lexer.specs.declared.token.TokenKind.TheVariants.{Sign}
use Rattle.orca_grammar.specs.Forms.{Form, ◌⨾◌, Many, Nested, Expression, Mark}
use Rattle.orca_grammar.specs.Rules.{sign, arguments, selector, selectors}
use Rattle.orca_grammar.specs.Reading.{comes, first, decided, Read, ◌>>=◌, behind}
use Rattle.orca_grammar.specs.Sets.{sets, factor_firsts, expression_nexts}
use Rattle.orca_grammar.specs.Grammar.{read, nest_at}
use Rattle.orca_tree.specs.declared.tree.Expression.{Expression as ExpressionTree}
use Rattle.orca_grammar.proofs.Steps.{form_shorter}
use Rattle.orca_tree.specs.declared.tree.Selector.{Selector}
use Rattle.orca_tree.specs.Marks.{word, expression, selector as selector_marks, selectors as selectors_marks, arguments as arguments_marks}
use Rattle.parse_exprs.specs.Gives.{Failure, Fails}
use Rattle.parse_exprs.proofs.Readings.{fails_same, both_first, both_second, both_read, goes_on, stops, breaks}

-- ---- selectors

selectors_decided : decided sets (Many selector) ≡ true
unfolding selector factor_firsts expression_nexts
selectors_decided = refl

pub selector_shorter : (d : ℕ) (ts rest : List Token) (ms : List Mark) → read d selector ts ≡ Ok (ms, rest) → length rest < length ts
unfolding selector factor_firsts expression_nexts
selector_shorter d ts rest ms e = form_shorter d selector ts rest ms refl refl e

-- those so far, and those still to come
module _ (d : ℕ) (tokens rest : List Token) where
  pub selectors_break : (h : Failure) (so_far : List Mark) → read d (Many selector) tokens ≡ behind so_far (read d (Many selector) rest) → comes (first sets selector) rest ≡ true → Fails h (read d selector rest) → Fails h (read d selectors tokens)
  unfolding selectors
  selectors_break h so_far so c bad = breaks d selector so_far rest (read d (Many selector) tokens) so h c bad

  pub selectors_go_on : (after : List Token) (path : List Selector) (step : Selector) → read d (Many selector) tokens ≡ behind (selectors_marks path) (read d (Many selector) rest) → comes (first sets selector) rest ≡ true
      → read d selector rest ≡ Ok (selector_marks step, after) → read d (Many selector) tokens ≡ behind (selectors_marks (path ++ step ∷ [])) (read d (Many selector) after)
  selectors_go_on after path step so c one =
      goes_on d selector (selectors_marks path) rest (read d (Many selector) tokens) so (selector_marks step) after selectors_decided c one
      ∙ ap (λ (ms : List Mark). behind ms (read d (Many selector) after)) (flat_map_more selector_marks [] path step)

  pub selectors_end : (so_far : List Mark) → read d (Many selector) tokens ≡ behind so_far (read d (Many selector) rest) → comes (first sets selector) rest ≡ false → read d selectors tokens ≡ Ok (so_far, rest)
  unfolding selectors
  selectors_end so_far so none = stops d selector so_far rest (read d (Many selector) tokens) so none

-- ---- arguments

-- one argument behind others
abbrev pub argument_more : Form
argument_more = sign Comma ⨾ Nested Expression

pub more_decided : decided sets (Many argument_more) ≡ true
unfolding factor_firsts expression_nexts
more_decided = refl

pub arguments_none : (d : ℕ) (ts : List Token) → comes factor_firsts ts ≡ false → read d arguments ts ≡ Ok ([], ts)
unfolding arguments
arguments_none d ts c = ap (λ b. let r : Read = if b then read d (Nested Expression ⨾ Many argument_more) ts else Ok ([], ts) in r) (ap (λ ws. comes ws ts) (append-nil factor_firsts) ∙ c)

pub arguments_some : (d : ℕ) (ts : List Token) → comes factor_firsts ts ≡ true → read d arguments ts ≡ read d (Nested Expression ⨾ Many argument_more) ts
unfolding arguments
arguments_some d ts c = ap (λ b. let r : Read = if b then read d (Nested Expression ⨾ Many argument_more) ts else Ok ([], ts) in r) (ap (λ ws. comes ws ts) (append-nil factor_firsts) ∙ c)

-- the first argument is read
pub argument_first : (d : ℕ) (ts rest : List Token) (e : ExpressionTree) → comes factor_firsts ts ≡ true → nest_at d Expression ts ≡ Ok (expression e, rest)
    → read d arguments ts ≡ behind (arguments_marks (e ∷ [])) (read d (Many argument_more) rest)
argument_first d ts rest e c one =
    arguments_some d ts c
    ∙ ap (λ (r : Read). r >>= (λ x. behind x.0 (read d (Many argument_more) x.1))) one
    ∙ ap (λ (ms : List Mark). behind ms (read d (Many argument_more) rest)) (sym (append-nil (expression e)))

-- one more stands behind a comma
pub arguments_push : (es : List ExpressionTree) (e : ExpressionTree) → 0 < length es → arguments_marks es ++ (word (Sign Comma) ∷ expression e) ≡ arguments_marks (es ++ e ∷ [])
arguments_push [] e some = absurd (omega arith)
arguments_push (first ∷ es) e some = flat_map_more (λ y. word (Sign Comma) ∷ expression y) (expression first) es e

argument_read : (d : ℕ) (ts after rest : List Token) (e : ExpressionTree) → read d (sign Comma) ts ≡ Ok (word (Sign Comma) ∷ [], after) → nest_at d Expression after ≡ Ok (expression e, rest)
    → read d argument_more ts ≡ Ok (word (Sign Comma) ∷ expression e, rest)
argument_read d ts after rest e comma one = both_read d (sign Comma) (Nested Expression) ts (word (Sign Comma) ∷ []) after comma (expression e) rest one

pub argument_shorter : (d : ℕ) (ts after rest : List Token) (e : ExpressionTree) → read d (sign Comma) ts ≡ Ok (word (Sign Comma) ∷ [], after) → nest_at d Expression after ≡ Ok (expression e, rest) → length rest < length ts
unfolding factor_firsts expression_nexts
argument_shorter d ts after rest e comma one = form_shorter d argument_more ts rest (word (Sign Comma) ∷ expression e) refl refl (argument_read d ts after rest e comma one)

-- the first isn't read
pub arguments_fail : (h : Failure) (d : ℕ) (ts : List Token) → comes factor_firsts ts ≡ true → Fails h (nest_at d Expression ts) → Fails h (read d arguments ts)
arguments_fail h d ts c bad = fails_same h _ _ (arguments_some d ts c) (both_first d (Nested Expression) (Many argument_more) ts h bad)

-- those so far, and those still to come
module _ (d : ℕ) (rest : List Token) (total : Read) where
  pub arguments_break : (h : Failure) (after : List Token) (so_far : List Mark) → total ≡ behind so_far (read d (Many argument_more) rest) → comes (first sets (sign Comma)) rest ≡ true → read d (sign Comma) rest ≡ Ok (word (Sign Comma) ∷ [], after)
      → Fails h (nest_at d Expression after) → Fails h total
  arguments_break h after so_far so c comma bad =
      breaks d argument_more so_far rest total so h c (both_second d (sign Comma) (Nested Expression) rest (word (Sign Comma) ∷ []) after comma h bad)

  pub arguments_go_on : (after next : List Token) (es : List ExpressionTree) (e : ExpressionTree) → 0 < length es → total ≡ behind (arguments_marks es) (read d (Many argument_more) rest) → comes (first sets (sign Comma)) rest ≡ true
      → read d (sign Comma) rest ≡ Ok (word (Sign Comma) ∷ [], after) → nest_at d Expression after ≡ Ok (expression e, next) → total ≡ behind (arguments_marks (es ++ e ∷ [])) (read d (Many argument_more) next)
  arguments_go_on after next es e some so c comma one =
      goes_on d argument_more (arguments_marks es) rest total so (word (Sign Comma) ∷ expression e) next more_decided c (argument_read d rest after next e comma one)
      ∙ ap (λ (ms : List Mark). behind ms (read d (Many argument_more) next)) (arguments_push es e some)
