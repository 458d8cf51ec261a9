-- The syntax is read back from its derivation: marks that an expression has are those of one alone.
use Rattle.std.proofs.Common.{◌≡◌, ℤ, ℕ, Bool, true, false, List, [], ◌∷◌, ◌++◌, Option, Some, None, refl, sym, ap, ◌∙◌, append_assoc, append-nil}
use Rattle.orca_base.specs.declared.place.Place.{Place}
use Rattle.orca_lexer.specs.declared.token.Keyword.TheVariants.{KeyAnd, KeyFalse, KeyFrom, KeyIn, KeyNot, KeyOr, KeyOrd, KeySize, KeyTrue}
use Rattle.orca_lexer.specs.declared.token.Symbol.TheVariants.{AtMost, AtLeast, Closes, Differs, Dollar, Equals, Greater, Joins, Less, Minus, Opens, Over, Plus, Times}
use Rattle.orca_lexer.specs.declared.token.TokenKind.{TokenKind}
use Rattle.orca_lexer.specs.declared.token.TokenKind.TheVariants as kind
use Rattle.orca_lexer.specs.declared.token.TokenKind.TheVariants.{Key, Sign}
use Rattle.orca_grammar.specs.Forms.{Bracket, Mark, Spelled, Begin, End, Chain as ChainOf}
use Rattle.orca_tree.specs.declared.tree.Name.{Name}
use Rattle.orca_tree.specs.declared.tree.Operator.{Operator}
use Rattle.orca_tree.specs.declared.tree.Operator.TheVariants as op
use Rattle.orca_tree.specs.Marks.{operator_token}
use Rattle.orca_syntax.specs.Syntax as syn
use Rattle.orca_syntax.specs.Syntax.{Expr, Links, Step, Path, Exprs}
use Rattle.orca_syntax.specs.Forest.{Forest, none, token, group, flat}
use Rattle.orca_syntax.specs.Derivation.{word, level, operand, links, path, exprs, more_exprs}

-- ---- from marks to the forest: what was read so far, and what stands round it

pub data Grown : Type 0 where
  grow : Forest → List Forest → Grown

abbrev pub put_token : Option Place → TokenKind → Grown → Grown
put_token p k (grow f fs) = grow (token p k f) fs

abbrev pub closed : Grown → Grown
closed (grow f fs) = grow none (f ∷ fs)

abbrev pub opened : Bracket → Grown → Grown
opened b (grow g []) = grow g []
opened b (grow g (f ∷ fs)) = grow (group b g f) fs

abbrev pub grown : List Mark → Grown
grown [] = grow none []
grown (Spelled p k ∷ ms) = put_token p k (grown ms)
grown (Begin b ∷ ms) = opened b (grown ms)
grown (End b ∷ ms) = closed (grown ms)

abbrev pub onto : Forest → Forest → Forest
onto none h = h
onto (token p k f) h = token p k (onto f h)
onto (group b g f) h = group b g (onto f h)

onto-none : (f : Forest) → onto f none ≡ f
onto-none none = refl
onto-none (token p k f) = ap (λ x. token p k x) (onto-none f)
onto-none (group b g f) = ap (λ x. group b g x) (onto-none f)

grows : (f : Forest) (ms : List Mark) (h : Forest) (fs : List Forest) → grown ms ≡ grow h fs → grown (flat f ++ ms) ≡ grow (onto f h) fs
grows none ms h fs is = is
grows (token p k f) ms h fs is = ap (λ x. put_token p k x) (grows f ms h fs is)
grows (group b g f) ms h fs is =
    ap (λ (xs : List Mark). opened b (grown xs)) (append_assoc (flat g) (End b ∷ flat f) ms)
    ∙ ap (λ x. opened b x) (grows g (End b ∷ (flat f ++ ms)) none (onto f h ∷ fs) (ap (λ x. closed x) (grows f ms h fs is)))
    ∙ ap (λ x. grow (group b x (onto f h)) fs) (onto-none g)

abbrev pub forest_in : Grown → Forest
forest_in (grow f fs) = f

pub forest_of : List Mark → Forest
forest_of ms = forest_in (grown ms)

pub forest_back : (f : Forest) → forest_of (flat f) ≡ f
unfolding forest_of
forest_back f = ap (λ (xs : List Mark). forest_in (grown xs)) (sym (append-nil (flat f))) ∙ ap forest_in (grows f [] none [] refl) ∙ onto-none f

-- ---- from the forest to the syntax

abbrev pub operator_of : TokenKind → Operator
operator_of (Key KeyOr) = op.Or
operator_of (Key KeyAnd) = op.And
operator_of (Key KeyIn) = op.In
operator_of (Sign Equals) = op.Equal
operator_of (Sign Differs) = op.Different
operator_of (Sign Less) = op.Less
operator_of (Sign AtMost) = op.AtMost
operator_of (Sign Greater) = op.Greater
operator_of (Sign AtLeast) = op.AtLeast
operator_of (Sign Plus) = op.Add
operator_of (Sign Minus) = op.Subtract
operator_of (Sign Joins) = op.Join
operator_of (Sign Times) = op.Multiply
operator_of (Sign Over) = op.Divide
operator_of _ = op.Remainder

operator_back : (o : Operator) → operator_of (operator_token o) ≡ o
operator_back op.Or = refl
operator_back op.And = refl
operator_back op.Equal = refl
operator_back op.Different = refl
operator_back op.Less = refl
operator_back op.AtMost = refl
operator_back op.Greater = refl
operator_back op.AtLeast = refl
operator_back op.In = refl
operator_back op.Add = refl
operator_back op.Subtract = refl
operator_back op.Join = refl
operator_back op.Multiply = refl
operator_back op.Divide = refl
operator_back op.Remainder = refl

-- how a factor begins, and what stands behind a name
pub data Start : Type 0 where
  number : ℤ → Start
  char : ℕ → Start
  text : List ℕ → Start
  truth : Bool → Start
  negation negative parentheses from size ordinal by_name : Start

abbrev pub start_of : TokenKind → Start
start_of (kind.Number v) = number v
start_of (kind.Char c) = char c
start_of (kind.Text t) = text t
start_of (Key KeyTrue) = truth true
start_of (Key KeyFalse) = truth false
start_of (Key KeyNot) = negation
start_of (Key KeyFrom) = from
start_of (Key KeySize) = size
start_of (Key KeyOrd) = ordinal
start_of (Sign Minus) = negative
start_of (Sign Opens) = parentheses
start_of _ = by_name

pub data Behind : Type 0 where
  arguments operation steps : Behind

abbrev pub behind_of : TokenKind → Behind
behind_of (Sign Opens) = arguments
behind_of (Sign Dollar) = operation
behind_of _ = steps

abbrev pub place_of : Option Place → Place
place_of (Some at) = at
place_of None = record { line = 0; column = 0 }

abbrev pub text_of : TokenKind → List ℕ
text_of (kind.Name t) = t
text_of _ = []

abbrev pub name_of : Option Place → TokenKind → Name
name_of p k = record { at = place_of p; text = text_of k }

abbrev pub chosen : Start → Place → Expr → Expr → Expr → Expr → Expr → Expr
chosen (number v) at operand inner enclosed path other = syn.Number at v
chosen (char c) at operand inner enclosed path other = syn.Char at c
chosen (text t) at operand inner enclosed path other = syn.Text at t
chosen (truth b) at operand inner enclosed path other = syn.Truth at b
chosen negation at operand inner enclosed path named = syn.Not at operand
chosen negative at operand inner enclosed path named = syn.Negative at operand
chosen parentheses at operand inner enclosed path named = syn.Parentheses at inner
chosen from at operand inner enclosed path named = path
chosen size at operand inner enclosed path named = syn.Size at enclosed
chosen ordinal at operand inner enclosed path named = syn.Ordinal at enclosed
chosen by_name at operand inner enclosed path other = other

abbrev pub behind_name : Behind → Name → Path → Exprs → Expr → Expr
behind_name arguments n p es e = Expr.Call n es
behind_name operation n p es e = e
behind_name steps n p es e = syn.Get n p

abbrev pub nowhere : Place
nowhere = record { line = 0; column = 0 }

abbrev pub nothing : Expr
nothing = syn.Truth nowhere false

abbrev mutual
  pub read_operand : Forest → Expr
  read_operand (group b g f) = read_chains (read_factor g) f
  read_operand _ = nothing

  pub read_chains : Expr → Forest → Expr
  read_chains e (group b g f) = read_chains (syn.Chain e (read_links g)) f
  read_chains e _ = e

  pub read_factor : Forest → Expr
  read_factor (token p k f) = chosen (start_of k) (place_of p) (read_operand f) (read_whole f) (read_enclosed f) (read_from (place_of p) f) (read_named (name_of p k) f)
  read_factor _ = nothing

  -- in front of its links stands an operand, which is skipped
  pub read_links : Forest → Links
  read_links none = syn.no_link
  read_links (token p k f) = syn.link (operator_of k) (read_operand f) (read_links f)
  read_links (group b g f) = read_links f

  pub read_whole : Forest → Expr
  read_whole (group b g f) = read_operand g
  read_whole _ = nothing

  pub read_enclosed : Forest → Expr
  read_enclosed (token p k f) = read_whole f
  read_enclosed _ = nothing

  pub read_from : Place → Forest → Expr
  read_from at (token p k (token q n f)) = syn.From at (name_of q n) (read_path f)
  read_from at _ = nothing

  pub read_named : Name → Forest → Expr
  read_named n (token p k f) = behind_name (behind_of k) n (read_step (place_of p) f) (read_exprs f) (read_invoke n f)
  read_named n _ = syn.Get n syn.here

  pub read_invoke : Name → Forest → Expr
  read_invoke n (token p k (token q o f)) = Expr.Invoke n (name_of p k) (read_exprs f)
  read_invoke n _ = nothing

  pub read_path : Forest → Path
  read_path (token p k f) = read_step (place_of p) f
  read_path _ = syn.here

  pub read_step : Place → Forest → Path
  read_step at (token p k f) = syn.to (syn.Field at (name_of p k)) (read_path f)
  read_step at (group b g (token p k f)) = syn.to (syn.Index at (read_operand g)) (read_path f)
  read_step at _ = syn.here

  pub read_exprs : Forest → Exprs
  read_exprs (group b g f) = syn.expr (read_operand g) (read_more f)
  read_exprs _ = syn.no_expr

  pub read_more : Forest → Exprs
  read_more (token p k (group b g f)) = syn.expr (read_operand g) (read_more f)
  read_more _ = syn.no_expr

-- ---- what is read is what was there

skips : (e : Expr) (f : Forest) → read_links (operand e f) ≡ read_links f
skips (syn.Chain e ls) f = skips e (group (ChainOf (level ls)) (links ls) f)
skips _ f = refl

ends : (e : Expr) (ls : Links) → read_chains e (links ls) ≡ e
ends e syn.no_link = refl
ends e (syn.link o e2 ls) = refl

mutual
  pub operand_back : (e : Expr) (f : Forest) → read_operand (operand e f) ≡ read_chains e f
  operand_back (syn.Chain e ls) f =
      operand_back e (group (ChainOf (level ls)) (links ls) f) ∙ ap (λ x. read_chains (syn.Chain e x) f) (links_back ls)
  operand_back (syn.Number at v) f = refl
  operand_back (syn.Char at c) f = refl
  operand_back (syn.Text at t) f = refl
  operand_back (syn.Truth at true) f = refl
  operand_back (syn.Truth at false) f = refl
  operand_back (syn.Not at e) f = ap (λ x. read_chains (syn.Not at x) f) (operand_back e none)
  operand_back (syn.Negative at e) f = ap (λ x. read_chains (syn.Negative at x) f) (operand_back e none)
  operand_back (syn.Parentheses at e) f = ap (λ x. read_chains (syn.Parentheses at x) f) (operand_back e none)
  operand_back (syn.From at n p) f = ap (λ x. read_chains (syn.From at n x) f) (path_back p (word (Sign Closes) none) refl)
  operand_back (syn.Size at e) f = ap (λ x. read_chains (syn.Size at x) f) (operand_back e none)
  operand_back (syn.Ordinal at e) f = ap (λ x. read_chains (syn.Ordinal at x) f) (operand_back e none)
  operand_back (syn.Get n syn.here) f = refl
  operand_back (syn.Get n (syn.to (syn.Field at m) p)) f = ap (λ x. read_chains (syn.Get n (syn.to (syn.Field at m) x)) f) (path_back p none refl)
  operand_back (syn.Get n (syn.to (syn.Index at e) p)) f =
      ap (λ x. read_chains (syn.Get n (syn.to (syn.Index at x) (read_path (path p none)))) f) (operand_back e none)
      ∙ ap (λ x. read_chains (syn.Get n (syn.to (syn.Index at e) x)) f) (path_back p none refl)
  operand_back (Expr.Call n es) f = ap (λ x. read_chains (Expr.Call n x) f) (exprs_back es (word (Sign Closes) none) refl refl)
  operand_back (Expr.Invoke n m es) f = ap (λ x. read_chains (Expr.Invoke n m x) f) (exprs_back es (word (Sign Closes) none) refl refl)

  links_back : (ls : Links) → read_links (links ls) ≡ ls
  links_back syn.no_link = refl
  links_back (syn.link o e ls) =
      ap (λ x. syn.link x (read_operand (operand e (links ls))) (read_links (operand e (links ls)))) (operator_back o)
      ∙ ap (λ x. syn.link o x (read_links (operand e (links ls)))) (operand_back e (links ls) ∙ ends e ls)
      ∙ ap (λ x. syn.link o e x) (skips e (links ls) ∙ links_back ls)

  pub path_back : (p : Path) (f : Forest) → read_path f ≡ syn.here → read_path (path p f) ≡ p
  path_back syn.here f end = end
  path_back (syn.to (syn.Field at m) p) f end = ap (λ x. syn.to (syn.Field at m) x) (path_back p f end)
  path_back (syn.to (syn.Index at e) p) f end =
      ap (λ x. syn.to (syn.Index at x) (read_path (path p f))) (operand_back e none) ∙ ap (λ x. syn.to (syn.Index at e) x) (path_back p f end)

  pub exprs_back : (es : Exprs) (f : Forest) → read_exprs f ≡ syn.no_expr → read_more f ≡ syn.no_expr → read_exprs (exprs es f) ≡ es
  exprs_back syn.no_expr f end last = end
  exprs_back (syn.expr e es) f end last =
      ap (λ x. syn.expr x (read_more (more_exprs es f))) (operand_back e none) ∙ ap (λ x. syn.expr e x) (more_back es f last)

  more_back : (es : Exprs) (f : Forest) → read_more f ≡ syn.no_expr → read_more (more_exprs es f) ≡ es
  more_back syn.no_expr f last = last
  more_back (syn.expr e es) f last =
      ap (λ x. syn.expr x (read_more (more_exprs es f))) (operand_back e none) ∙ ap (λ x. syn.expr e x) (more_back es f last)
