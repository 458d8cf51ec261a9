-- The marks of a tree are those of the syntax that it shows.
use Rattle.std.proofs.Common.{◌≡◌, List, [], ◌∷◌, ◌++◌, refl, sym, ap, ◌∙◌, append_assoc, append-nil}
use Rattle.orca_lexer.specs.declared.token.Keyword.TheVariants.{KeyFrom, KeyNot, KeyOrd, KeySize}
use Rattle.orca_lexer.specs.declared.token.Symbol.TheVariants.{Closes, ClosesIndex, Comma, Dollar, Minus, Opens, OpensIndex}
use Rattle.orca_lexer.specs.declared.token.TokenKind.TheVariants.{Key, Sign}
use Rattle.orca_grammar.specs.Forms.{Links as Level, Chain as ChainOf, Bracket, Mark, Begin, End, bracketed}
use Rattle.orca_tree.specs.declared.tree.Expression.{Expression, Row_of-Expression, end_of-Expression, more_of-Expression, Row_of-Link, end_of-Link, more_of-Link, Row_of-Selector, end_of-Selector, more_of-Selector}
use Rattle.orca_tree.specs.declared.tree.Expression.TheVariants as is
use Rattle.orca_tree.specs.declared.tree.Selector.{Selector}
use Rattle.orca_tree.specs.declared.tree.Selector.TheVariants.{Field, Index}
use Rattle.orca_tree.specs.Marks as marks
use Rattle.orca_tree.specs.Marks.{row_links, operator_token, name_mark, whole}
use Rattle.orca_syntax.specs.Shown.{expr, link_row, path_row, step, expr_row}
use Rattle.orca_syntax.specs.Forest.{Forest, none, group, flat}
use Rattle.orca_syntax.specs.Derivation as der

-- a phrase in brackets, and what stands behind it
pub in_group : (b : Bracket) (ms : List Mark) (g f : Forest) → ms ≡ flat g → bracketed b ms ++ flat f ≡ flat (group b g f)
in_group b ms g f same =
    ap (λ (xs : List Mark). Begin b ∷ xs) (append_assoc ms (End b ∷ []) (flat f)) ∙ ap (λ (xs : List Mark). Begin b ∷ (xs ++ End b ∷ flat f)) same

-- where nothing stands behind it
pub alone : (ms xs : List Mark) → ms ++ [] ≡ xs → ms ≡ xs
alone ms xs same = sym (append-nil _) ∙ same

-- a token, and what stands behind it
pub in_front : (m : Mark) (a b : List Mark) → a ≡ b → m ∷ a ≡ m ∷ b
in_front m a b same = ap (λ (xs : List Mark). m ∷ xs) same

-- what stands behind a phrase, and one part behind another
pub behind : (a x y z : List Mark) → x ≡ y → a ++ y ≡ z → a ++ x ≡ z
behind a x y z last first = ap (λ (xs : List Mark). a ++ xs) last ∙ first

pub in_turn : (a b x : List Mark) {y z : List Mark} → b ++ x ≡ y → a ++ y ≡ z → (a ++ b) ++ x ≡ z
in_turn a b x last first = append_assoc a b x ∙ behind a (b ++ x) _ _ last first

level_is : {n : _} (row : Row_of-Link n) → row_links row ≡ der.level (link_row row)
level_is end_of-Link = refl
level_is (more_of-Link op e row) = refl

mutual
  pub operand_shown : (e : Expression) (f : Forest) → marks.operand e ++ flat f ≡ flat (der.operand (expr e) f)
  operand_shown (is.Chain' p first shape row) f =
      append_assoc (marks.operand first) (bracketed (ChainOf (row_links row)) (marks.links_row row)) (flat f)
      ∙ ap (λ (l : Level). marks.operand first ++ (bracketed (ChainOf l) (marks.links_row row) ++ flat f)) (level_is row)
      ∙ ap (λ (xs : List Mark). marks.operand first ++ xs) (in_group (ChainOf (der.level (link_row row))) (marks.links_row row) (der.links (link_row row)) f (links_shown row))
      ∙ operand_shown first (group (ChainOf (der.level (link_row row))) (der.links (link_row row)) f)
  operand_shown (is.Number at value) f = refl
  operand_shown (is.Char at code) f = refl
  operand_shown (is.Text at text) f = refl
  operand_shown (is.Truth at value) f = refl
  operand_shown (is.Not' at p e) f =
      in_group _ _ (der.word_at at (Key KeyNot) (der.operand (expr e) none)) f (in_front (marks.word_at at (Key KeyNot)) _ _ (alone _ _ (operand_shown e none)))
  operand_shown (is.Negative' at p e) f =
      in_group _ _ (der.word_at at (Sign Minus) (der.operand (expr e) none)) f (in_front (marks.word_at at (Sign Minus)) _ _ (alone _ _ (operand_shown e none)))
  operand_shown (is.Parentheses' at p e) f =
      in_group _ _ (der.word_at at (Sign Opens) (der.whole (der.operand (expr e) none) (der.word (Sign Closes) none))) f (in_front (marks.word_at at (Sign Opens)) _ _ (in_group _ _ _ (der.word (Sign Closes) none) (alone _ _ (operand_shown e none))))
  operand_shown (is.From' at n shape row) f =
      in_group _ _ (der.word_at at (Key KeyFrom) (der.word (Sign Opens) (der.name n (der.path (path_row row) (der.word (Sign Closes) none))))) f (in_front (marks.word_at at (Key KeyFrom)) _ _ (in_front (marks.word (Sign Opens)) _ _ (in_front (name_mark n) _ _ (path_shown row (der.word (Sign Closes) none)))))
  operand_shown (is.Size' at p e) f =
      in_group _ _ (der.word_at at (Key KeySize) (der.word (Sign Opens) (der.whole (der.operand (expr e) none) (der.word (Sign Closes) none)))) f (in_front (marks.word_at at (Key KeySize)) _ _ (in_front (marks.word (Sign Opens)) _ _ (in_group _ _ _ (der.word (Sign Closes) none) (alone _ _ (operand_shown e none)))))
  operand_shown (is.Ordinal' at p e) f =
      in_group _ _ (der.word_at at (Key KeyOrd) (der.word (Sign Opens) (der.whole (der.operand (expr e) none) (der.word (Sign Closes) none)))) f (in_front (marks.word_at at (Key KeyOrd)) _ _ (in_front (marks.word (Sign Opens)) _ _ (in_group _ _ _ (der.word (Sign Closes) none) (alone _ _ (operand_shown e none)))))
  operand_shown (is.Get' n shape row) f =
      in_group _ _ (der.name n (der.path (path_row row) none)) f (in_front (name_mark n) _ _ (alone _ _ (path_shown row none)))
  operand_shown (is.Call' n shape row) f =
      in_group _ _ (der.name n (der.word (Sign Opens) (der.exprs (expr_row row) (der.word (Sign Closes) none)))) f (in_front (name_mark n) _ _ (in_front (marks.word (Sign Opens)) _ _ (exprs_shown row (der.word (Sign Closes) none))))
  operand_shown (is.Invoke' n m shape row) f =
      in_group _ _ (der.name n (der.word (Sign Dollar) (der.name m (der.word (Sign Opens) (der.exprs (expr_row row) (der.word (Sign Closes) none)))))) f (in_front (name_mark n) _ _ (in_front (marks.word (Sign Dollar)) _ _ (in_front (name_mark m) _ _ (in_front (marks.word (Sign Opens)) _ _ (exprs_shown row (der.word (Sign Closes) none))))))

  links_shown : {n : _} (row : Row_of-Link n) → marks.links_row row ≡ flat (der.links (link_row row))
  links_shown end_of-Link = refl
  links_shown (more_of-Link op e row) =
      in_front (marks.word (operator_token op)) _ _ (ap (λ (xs : List Mark). marks.operand e ++ xs) (links_shown row) ∙ operand_shown e (der.links (link_row row)))

  pub step_shown : (s : Selector) (f : Forest) → marks.selector s ++ flat f ≡ flat (der.step (step s) f)
  step_shown (Field at n) f = refl
  step_shown (Index at e) f =
      in_front (marks.word_at at (Sign OpensIndex)) _ _
      (append_assoc (whole (marks.operand e)) (marks.word (Sign ClosesIndex) ∷ []) (flat f) ∙ in_group _ _ _ (der.word (Sign ClosesIndex) f) (alone _ _ (operand_shown e none)))

  path_shown : {n : _} (row : Row_of-Selector n) (f : Forest) → marks.selectors_row row ++ flat f ≡ flat (der.path (path_row row) f)
  path_shown end_of-Selector f = refl
  path_shown (more_of-Selector s row) f =
      append_assoc (marks.selector s) (marks.selectors_row row) (flat f) ∙ ap (λ (xs : List Mark). marks.selector s ++ xs) (path_shown row f) ∙ step_shown s (der.path (path_row row) f)

  exprs_shown : {n : _} (row : Row_of-Expression n) (f : Forest) → marks.arguments_row row ++ flat f ≡ flat (der.exprs (expr_row row) f)
  exprs_shown end_of-Expression f = refl
  exprs_shown (more_of-Expression e row) f =
      append_assoc (whole (marks.operand e)) (marks.more_arguments_row row) (flat f)
      ∙ ap (λ (xs : List Mark). whole (marks.operand e) ++ xs) (more_exprs_shown row f)
      ∙ in_group _ _ _ (der.more_exprs (expr_row row) f) (alone _ _ (operand_shown e none))

  more_exprs_shown : {n : _} (row : Row_of-Expression n) (f : Forest) → marks.more_arguments_row row ++ flat f ≡ flat (der.more_exprs (expr_row row) f)
  more_exprs_shown end_of-Expression f = refl
  more_exprs_shown (more_of-Expression e row) f =
      in_front (marks.word (Sign Comma)) _ _
      (append_assoc (whole (marks.operand e)) (marks.more_arguments_row row) (flat f)
      ∙ ap (λ (xs : List Mark). whole (marks.operand e) ++ xs) (more_exprs_shown row f)
      ∙ in_group _ _ _ (der.more_exprs (expr_row row) f) (alone _ _ (operand_shown e none)))
