-- The place of a phrase is that of its first token.
use Rattle.std.proofs.Common.{◌≡◌, List, ◌++◌, Some, refl, ap, ◌∙◌}
use Rattle.orca_base.specs.declared.place.Place.{Place}
use Rattle.orca_grammar.specs.Forms.{Chain as ChainOf, Mark, Phrase, Statement as StatementPhrase}
use Rattle.orca_tree.specs.declared.tree.Bound.{Bound}
use Rattle.orca_tree.specs.declared.tree.Bound.TheVariants as bounds
use Rattle.orca_tree.specs.Marks as marks
use Rattle.orca_tree.specs.Places.{first_place}
use Rattle.orca_syntax.specs.Syntax as syn
use Rattle.orca_syntax.specs.Syntax.{Expr, Step, Kind, Stmt, Definition, Decl}
use Rattle.orca_syntax.specs.Shown as shown
use Rattle.orca_syntax.specs.Shown.{expr, kind, stmt}
use Rattle.orca_syntax.specs.Forest.{Forest, none, group, flat}
use Rattle.orca_syntax.specs.Derivation as der
use Rattle.orca_syntax.specs.Places.{bound_place, decl_place, definition_place, expr_place, kind_place, step_place, stmt_place, ArePlaces, AreShownPlaces}
use Rattle.orca_syntax.proofs.MarksShown.{alone, step_shown}
use Rattle.orca_syntax.proofs.MarksOfStatements.{bound_shown, expression_shown, stmt_shown, type_shown}
use Rattle.orca_syntax.proofs.MarksOfDeclarations.{decl_shown, definition_shown, guard_shown, head_shown, operation_shown}

bound_first : (b : Bound) → first_place (flat (der.bound b none)) ≡ Some (bound_place b)
bound_first (bounds.Number at value) = refl
bound_first (bounds.Negative at value) = refl
bound_first (bounds.Named n) = refl

operand_first : (e : Expr) (f : Forest) (more : List Mark) → first_place (flat (der.operand e f) ++ more) ≡ Some (expr_place e)
operand_first (syn.Chain first ls) f more = operand_first first (group (ChainOf (der.level ls)) (der.links ls) f) more
operand_first (syn.Number at value) f more = refl
operand_first (syn.Char at code) f more = refl
operand_first (syn.Text at text) f more = refl
operand_first (syn.Truth at value) f more = refl
operand_first (syn.Not at e) f more = refl
operand_first (syn.Negative at e) f more = refl
operand_first (syn.Parentheses at e) f more = refl
operand_first (syn.From at n p) f more = refl
operand_first (syn.Size at e) f more = refl
operand_first (syn.Ordinal at e) f more = refl
operand_first (syn.Get n p) f more = refl
operand_first (Expr.Call n es) f more = refl
operand_first (Expr.Invoke n m es) f more = refl

expr_first : (e : Expr) → first_place (flat (der.value e none)) ≡ Some (expr_place e)
expr_first e = operand_first e none _

step_first : (p : Step) → first_place (flat (der.step p none)) ≡ Some (step_place p)
step_first (syn.Field at n) = refl
step_first (syn.Index at e) = refl

kind_first : (k : Kind) → first_place (flat (der.type_phrase k none)) ≡ Some (kind_place k)
kind_first (syn.Integer at) = refl
kind_first (syn.Boolean at) = refl
kind_first (syn.Character at) = refl
kind_first (syn.String at) = refl
kind_first (syn.Named n) = refl
kind_first (syn.Array at low high k) = refl
kind_first (syn.Set at k) = refl
kind_first (syn.Bag at k) = refl

stmt_first : (s : Stmt) → first_place (flat (group (Phrase StatementPhrase) (der.stmt_inside s) none)) ≡ Some (stmt_place s)
stmt_first (syn.Return at v) = refl
stmt_first (syn.If at as_) = refl
stmt_first (syn.While at test ss) = refl
stmt_first (syn.For at n low high ss) = refl
stmt_first (syn.Repeat at ss test) = refl
stmt_first (syn.Fork at n es on) = refl
stmt_first (syn.WriteLine at es) = refl
stmt_first (syn.Insert at e n p) = refl
stmt_first (syn.Delete at e n p) = refl
stmt_first (syn.Assign n p e) = refl
stmt_first (Stmt.Call n es) = refl
stmt_first (Stmt.Invoke n m es) = refl

definition_first : (d : Definition) → first_place (flat (der.definition d none)) ≡ Some (definition_place d)
definition_first (syn.Record at ts) = refl
definition_first (syn.Enumeration at ns) = refl
definition_first (syn.Alias k) = kind_first k

decl_first : (d : Decl) → first_place (flat (der.decl d none)) ≡ Some (decl_place d)
decl_first (syn.Constant at n b) = refl
decl_first (syn.Declares at n d) = refl
decl_first (syn.Specification at n hs) = refl
decl_first (syn.Implementation at n vs os ss) = refl
decl_first (syn.Function at n ps r b) = refl
decl_first (syn.Process at n ps b) = refl

pub are_places : ArePlaces
are_places = record {
  bounds = bound_first;
  exprs = expr_first;
  steps = step_first;
  kinds = kind_first;
  stmts = stmt_first;
  heads = λ h. refl;
  guards = λ g. refl;
  operations = λ o. refl;
  definitions = definition_first;
  decls = decl_first;
}

-- marks of which nothing is left behind a derivation's
of_marks : (ms : List Mark) (f : Forest) (p : Place) → ms ++ flat none ≡ flat f → first_place (flat f) ≡ Some p → first_place ms ≡ Some p
of_marks ms f p same first = ap first_place (alone ms (flat f) same) ∙ first

pub are_shown_places : AreShownPlaces
are_shown_places = record {
  bounds = λ b. of_marks (marks.bound b) (der.bound b none) (bound_place b) (bound_shown b none) (bound_first b);
  expressions = λ e. of_marks (marks.expression e) (der.value (expr e) none) (expr_place (expr e)) (expression_shown e none) (expr_first (expr e));
  types = λ t. of_marks (marks.type_phrase t) (der.type_phrase (kind t) none) (kind_place (kind t)) (type_shown t none) (kind_first (kind t));
  statements = λ s. of_marks (marks.statement s) (group (Phrase StatementPhrase) (der.stmt_inside (stmt s)) none) (stmt_place (stmt s)) (stmt_shown s none) (stmt_first (stmt s));
  selectors = λ s. of_marks (marks.selector s) (der.step (shown.step s) none) (step_place (shown.step s)) (step_shown s none) (step_first (shown.step s));
  heads = λ h. of_marks (marks.head h) (der.head (shown.head h) none) h.at (head_shown h none) refl;
  guards = λ g. of_marks (marks.guard g) (der.guard (shown.guard g) none) g.at (guard_shown g none) refl;
  operations = λ o. of_marks (marks.operation o) (der.operation (shown.operation o) none) o.head.at (operation_shown o none) refl;
  definitions = λ d. of_marks (marks.definition d) (der.definition (shown.definition d) none) (definition_place (shown.definition d)) (definition_shown d none) (definition_first (shown.definition d));
  declarations = λ d. of_marks (marks.declaration d) (der.decl (shown.decl d) none) (decl_place (shown.decl d)) (decl_shown d none) (decl_first (shown.decl d));
}
