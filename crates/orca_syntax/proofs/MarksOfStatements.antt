-- The marks of a type and of a statement are those of the syntax that it shows.
use Rattle.std.proofs.Common.{◌≡◌, List, [], ◌∷◌, ◌++◌, Option, Some, None, refl, ap, ◌∙◌}
use Rattle.std.specs.Prelude.{option_map}
use Rattle.std.specs.List.{flat_map}
use Rattle.orca_lexer.specs.declared.token.Keyword.TheVariants.{KeyDo, KeyFi, KeyOd, KeyOf, KeyOn, KeyThen, KeyUntil}
use Rattle.orca_lexer.specs.declared.token.Symbol.TheVariants.{Becomes, Closes, ClosesIndex, Comma, Range as RangeSign, Semicolon}
use Rattle.orca_lexer.specs.declared.token.TokenKind.{TokenKind}
use Rattle.orca_lexer.specs.declared.token.TokenKind.TheVariants.{Key, Sign}
use Rattle.orca_grammar.specs.Forms.{Statement as StatementPhrase, Expression as ExpressionPhrase, Phrase, Mark}
use Rattle.orca_tree.specs.declared.tree.Bound.{Bound}
use Rattle.orca_tree.specs.declared.tree.Bound.TheVariants as bounds
use Rattle.orca_tree.specs.declared.tree.TypePhrase.{TypePhrase}
use Rattle.orca_tree.specs.declared.tree.TypePhrase.TheVariants as types
use Rattle.orca_tree.specs.declared.tree.Expression.{Expression}
use Rattle.orca_tree.specs.declared.tree.Selector.{Selector}
use Rattle.orca_tree.specs.declared.tree.Statement.{Statement, Row_of-Statement, end_of-Statement, more_of-Statement, Row_of-Arm, end_of-Arm as no_arm, more_of-Arm as an_arm}
use Rattle.orca_tree.specs.declared.tree.Statement.TheVariants as does
use Rattle.orca_tree.specs.declared.tree.Arm.{Arm}
use Rattle.orca_tree.specs.declared.tree.Arm.TheVariants.{When', Otherwise'}
use Rattle.orca_tree.specs.Marks as marks
use Rattle.orca_syntax.specs.Syntax.{Stmt}
use Rattle.orca_syntax.specs.Shown.{expr, exprs, path, kind, stmt, stmt_row, arm, arm_row}
use Rattle.orca_syntax.specs.Forest.{Forest, none, group, flat}
use Rattle.orca_syntax.specs.Derivation as der
use Rattle.orca_syntax.proofs.MarksShown.{in_group, alone, in_front, behind, in_turn, operand_shown, step_shown}

pub expression_shown : (e : Expression) (f : Forest) → marks.expression e ++ flat f ≡ flat (der.value (expr e) f)
expression_shown e f = in_group (Phrase ExpressionPhrase) (marks.operand e) (der.operand (expr e) none) f (alone _ _ (operand_shown e none))

-- ---- lists

more_shown : (es : List Expression) (f : Forest) → flat_map (λ y. marks.word (Sign Comma) ∷ marks.expression y) es ++ flat f ≡ flat (der.more_exprs (exprs es) f)
more_shown [] f = refl
more_shown (e ∷ es) f = in_front _ _ _ (in_turn (marks.expression e) (flat_map (λ y. marks.word (Sign Comma) ∷ marks.expression y) es) (flat f) (more_shown es f) (expression_shown e (der.more_exprs (exprs es) f)))

arguments_shown : (es : List Expression) (f : Forest) → marks.arguments es ++ flat f ≡ flat (der.exprs (exprs es) f)
arguments_shown [] f = refl
arguments_shown (e ∷ es) f = in_turn (marks.expression e) (flat_map (λ y. marks.word (Sign Comma) ∷ marks.expression y) es) (flat f) (more_shown es f) (expression_shown e (der.more_exprs (exprs es) f))

selectors_shown : (ss : List Selector) (f : Forest) → marks.selectors ss ++ flat f ≡ flat (der.path (path ss) f)
selectors_shown [] f = refl
selectors_shown (s ∷ ss) f = in_turn (marks.selector s) (marks.selectors ss) (flat f) (selectors_shown ss f) (step_shown s (der.path (path ss) f))

-- ---- types

pub bound_shown : (b : Bound) (f : Forest) → marks.bound b ++ flat f ≡ flat (der.bound b f)
bound_shown (bounds.Number at value) f = refl
bound_shown (bounds.Negative at value) f = refl
bound_shown (bounds.Named n) f = refl

pub type_shown : (t : TypePhrase) (f : Forest) → marks.type_phrase t ++ flat f ≡ flat (der.type_phrase (kind t) f)
type_shown (types.Integer at) f = refl
type_shown (types.Boolean at) f = refl
type_shown (types.Char at) f = refl
type_shown (types.Text at) f = refl
type_shown (types.Named n) f = refl
type_shown (types.Array' at low high p t) f =
    let of_element = der.word (Sign ClosesIndex) (der.word (Key KeyOf) (der.type_phrase (kind t) none)) in
    let to_high = der.word (Sign RangeSign) (der.bound high of_element) in
    in_group _ _ (der.type_inside (kind (types.Array' at low high p t))) f
    (in_front _ _ _ (in_front _ _ _
    (behind _ _ _ _ (in_front _ _ _ (behind _ _ _ _ (in_front _ _ _ (in_front _ _ _ (alone _ _ (type_shown t none)))) (bound_shown high of_element))) (bound_shown low to_high))))
type_shown (types.Set' at p t) f = in_group _ _ (der.type_inside (kind (types.Set' at p t))) f (in_front _ _ _ (in_front _ _ _ (alone _ _ (type_shown t none))))
type_shown (types.Bag' at p t) f = in_group _ _ (der.type_inside (kind (types.Bag' at p t))) f (in_front _ _ _ (in_front _ _ _ (alone _ _ (type_shown t none))))

-- ---- statements

in_statement : (s : Stmt) (ms : List Mark) (f : Forest) → ms ≡ flat (der.stmt_inside s) → marks.statement_of ms ++ flat f ≡ flat (group (Phrase StatementPhrase) (der.stmt_inside s) f)
in_statement s ms f same = in_group (Phrase StatementPhrase) ms (der.stmt_inside s) f same

on_shown : (on : Option Expression) → marks.if_any (λ e. marks.word (Key KeyOn) ∷ marks.expression e) on ≡ flat (der.if_any der.on_value (option_map expr on) none)
on_shown None = refl
on_shown (Some e) = in_front _ _ _ (alone (marks.expression e) _ (expression_shown e none))

arm_word_shown : (a : Arm) → marks.arm_word a ≡ der.arm_word (arm a)
arm_word_shown (When' test shape row) = refl
arm_word_shown (Otherwise' shape row) = refl

mutual
  pub stmt_shown : (s : Statement) (f : Forest) → marks.statement s ++ flat f ≡ flat (group (Phrase StatementPhrase) (der.stmt_inside (stmt s)) f)
  stmt_shown (does.Return at None) f = refl
  stmt_shown (does.Return at (Some e)) f = in_statement (stmt (does.Return at (Some e))) _ f (in_front _ _ _ (alone (marks.expression e) _ (expression_shown e none)))
  stmt_shown (does.If' at shape row) f = in_statement (stmt (does.If' at shape row)) _ f (in_front _ _ _ (arms_shown row (der.word (Key KeyFi) none)))
  stmt_shown (does.While' at test shape row) f =
      let last = der.word (Key KeyOd) none in
      in_statement (stmt (does.While' at test shape row)) _ f
      (in_front _ _ _ (behind (marks.expression test) _ _ _ (in_front (marks.word (Key KeyDo)) _ _ (stmts_shown row last)) (expression_shown test (der.word (Key KeyDo) (der.stmts (stmt_row row) last)))))
  stmt_shown (does.For' at n range shape row) f =
      let last = der.word (Key KeyOd) none in
      let does_body = der.word (Key KeyDo) (der.stmts (stmt_row row) last) in
      let to_high = der.word (Sign RangeSign) (der.value (expr range.high) does_body) in
      in_statement (stmt (does.For' at n range shape row)) _ f
      (in_front _ _ _ (in_front _ _ _ (in_front _ _ _
      (behind (marks.expression range.low) _ _ _ (in_front (marks.word (Sign RangeSign)) _ _ (behind (marks.expression range.high) _ _ _ (in_front (marks.word (Key KeyDo)) _ _ (stmts_shown row last)) (expression_shown range.high does_body))) (expression_shown range.low to_high)))))
  stmt_shown (does.Repeat' at shape row test) f =
      in_statement (stmt (does.Repeat' at shape row test)) _ f
      (in_front _ _ _ (behind _ _ _ _ (in_front _ _ _ (alone (marks.expression test) _ (expression_shown test none))) (stmts_shown row (der.word (Key KeyUntil) (der.value (expr test) none)))))
  stmt_shown (does.Fork at n es on) f =
      in_statement (stmt (does.Fork at n es on)) _ f
      (in_front _ _ _ (in_front _ _ _ (in_front _ _ _
      (in_turn (marks.arguments es.items) (marks.word (Sign Closes) ∷ []) (marks.if_any (λ e. marks.word (Key KeyOn) ∷ marks.expression e) on) (in_front _ _ _ (on_shown on)) (arguments_shown es.items (der.word (Sign Closes) (der.if_any der.on_value (option_map expr on) none)))))))
  stmt_shown (does.WriteLine at es) f = in_statement (stmt (does.WriteLine at es)) _ f (in_front _ _ _ (in_front _ _ _ (arguments_shown es.items (der.word (Sign Closes) none))))
  stmt_shown (does.Insert at e into) f =
      let last = der.word (Sign Closes) none in
      in_statement (stmt (does.Insert at e into)) _ f
      (in_front _ _ _ (in_front _ _ _
      (in_turn (marks.expression e) (marks.word (Sign Comma) ∷ marks.designator into) (marks.word (Sign Closes) ∷ []) (in_front _ _ _ (in_front _ _ _ (selectors_shown into.path.items last))) (expression_shown e (der.word (Sign Comma) (der.name into.name (der.path (path into.path.items) last)))))))
  stmt_shown (does.Delete at e from) f =
      let last = der.word (Sign Closes) none in
      in_statement (stmt (does.Delete at e from)) _ f
      (in_front _ _ _ (in_front _ _ _
      (in_turn (marks.expression e) (marks.word (Sign Comma) ∷ marks.designator from) (marks.word (Sign Closes) ∷ []) (in_front _ _ _ (in_front _ _ _ (selectors_shown from.path.items last))) (expression_shown e (der.word (Sign Comma) (der.name from.name (der.path (path from.path.items) last)))))))
  stmt_shown (does.Assign to e) f =
      in_statement (stmt (does.Assign to e)) _ f
      (in_front _ _ _ (behind _ _ _ _ (in_front _ _ _ (alone (marks.expression e) _ (expression_shown e none))) (selectors_shown to.path.items (der.word (Sign Becomes) (der.value (expr e) none)))))
  stmt_shown (does.Call n es) f = in_statement (stmt (does.Call n es)) _ f (in_front _ _ _ (in_front _ _ _ (arguments_shown es.items (der.word (Sign Closes) none))))
  stmt_shown (does.Invoke n m es) f =
      in_statement (stmt (does.Invoke n m es)) _ f (in_front _ _ _ (in_front _ _ _ (in_front _ _ _ (in_front _ _ _ (arguments_shown es.items (der.word (Sign Closes) none))))))

  pub stmts_shown : {n : _} (row : Row_of-Statement n) (f : Forest) → marks.statements_row row ++ flat f ≡ flat (der.stmts (stmt_row row) f)
  stmts_shown end_of-Statement f = refl
  stmts_shown (more_of-Statement s row) f =
      in_turn (marks.statement s) (marks.word (Sign Semicolon) ∷ marks.statements_row row) (flat f) (in_front _ _ _ (stmts_shown row f)) (stmt_shown s (der.word (Sign Semicolon) (der.stmts (stmt_row row) f)))

  arms_shown : {n : _} (row : Row_of-Arm n) (f : Forest) → marks.arms_row row ++ flat f ≡ flat (der.arms (arm_row row) f)
  arms_shown no_arm f = refl
  arms_shown (an_arm a row) f = in_turn (marks.arm a) (marks.more_arms_row row) (flat f) (more_arms_shown row f) (arm_shown a (der.more_arms (arm_row row) f))

  more_arms_shown : {n : _} (row : Row_of-Arm n) (f : Forest) → marks.more_arms_row row ++ flat f ≡ flat (der.more_arms (arm_row row) f)
  more_arms_shown no_arm f = refl
  more_arms_shown (an_arm a row) f =
      ap (λ (k : TokenKind). marks.word k ∷ ((marks.arm a ++ marks.more_arms_row row) ++ flat f)) (arm_word_shown a)
      ∙ in_front _ _ _ (in_turn (marks.arm a) (marks.more_arms_row row) (flat f) (more_arms_shown row f) (arm_shown a (der.more_arms (arm_row row) f)))

  arm_shown : (a : Arm) (f : Forest) → marks.arm a ++ flat f ≡ flat (der.arm (arm a) f)
  arm_shown (When' test shape row) f =
      in_turn (marks.expression test) (marks.word (Key KeyThen) ∷ marks.statements_row row) (flat f) (in_front _ _ _ (stmts_shown row f)) (expression_shown test (der.word (Key KeyThen) (der.stmts (stmt_row row) f)))
  arm_shown (Otherwise' shape row) f = stmts_shown row f
