-- The place of a phrase, which is that of its first token: it is so of the phrase's marks (`ArePlaces`), and of each tree that shows the
-- phrase (`AreShownPlaces`), whose `place` tells it. The places that a syntax keeps stand in the order of its text (`IsInTextOrder`).
use Rattle.std.specs.Prelude.{◌≡◌, List, [], ◌∷◌, Some, None}
use Rattle.std.specs.List.{AllPairs}
use Rattle.orca_base.specs.declared.place.Place.{Place}
use Rattle.orca_lexer.specs.Order.{StandsBefore}
use Rattle.orca_grammar.specs.Forms.{Statement as StatementPhrase, Phrase, Mark, Spelled, Begin, End}
use Rattle.orca_tree.specs.declared.tree.Bound.{Bound}
use Rattle.orca_tree.specs.declared.tree.Bound.TheVariants as bounds
use Rattle.orca_tree.specs.declared.tree.TypePhrase.{TypePhrase}
use Rattle.orca_tree.specs.declared.tree.Expression.{Expression}
use Rattle.orca_tree.specs.declared.tree.Selector.{Selector}
use Rattle.orca_tree.specs.declared.tree.Statement.{Statement}
use Rattle.orca_tree.specs.declared.tree.Head as tree_head
use Rattle.orca_tree.specs.declared.tree.Guard as tree_guard
use Rattle.orca_tree.specs.declared.tree.Operation as tree_operation
use Rattle.orca_tree.specs.declared.tree.Definition as tree_definition
use Rattle.orca_tree.specs.declared.tree.Declaration.{Declaration}
use Rattle.orca_tree.specs.Marks as marks
use Rattle.orca_tree.specs.Places.{first_place}
use Rattle.orca_syntax.specs.Syntax as syn
use Rattle.orca_syntax.specs.Syntax.{Expr, Step, Kind, Stmt, Head, Guard, Operation, Definition, Decl, Syntax}
use Rattle.orca_syntax.specs.Forest.{none, group, flat}
use Rattle.orca_syntax.specs.Derivation as der
use Rattle.orca_syntax.specs.Derivation.{syntax_marks}
use Rattle.orca_syntax.specs.Shown as shown
use Rattle.orca_syntax.specs.Shown.{expr, kind, stmt}

abbrev pub bound_place : Bound → Place
bound_place (bounds.Number at value) = at
bound_place (bounds.Negative at value) = at
bound_place (bounds.Named n) = n.at

abbrev pub expr_place : Expr → Place
expr_place (syn.Chain first ls) = expr_place first
expr_place (syn.Number at value) = at
expr_place (syn.Char at code) = at
expr_place (syn.Text at text) = at
expr_place (syn.Truth at value) = at
expr_place (syn.Not at e) = at
expr_place (syn.Negative at e) = at
expr_place (syn.Parentheses at e) = at
expr_place (syn.From at n p) = at
expr_place (syn.Size at e) = at
expr_place (syn.Ordinal at e) = at
expr_place (syn.Get n p) = n.at
expr_place (Expr.Call n es) = n.at
expr_place (Expr.Invoke n m es) = n.at

-- of a step to a part, the `.` or the `[`
abbrev pub step_place : Step → Place
step_place (syn.Field at n) = at
step_place (syn.Index at e) = at

abbrev pub kind_place : Kind → Place
kind_place (syn.Integer at) = at
kind_place (syn.Boolean at) = at
kind_place (syn.Character at) = at
kind_place (syn.String at) = at
kind_place (syn.Named n) = n.at
kind_place (syn.Array at low high k) = at
kind_place (syn.Set at k) = at
kind_place (syn.Bag at k) = at

abbrev pub stmt_place : Stmt → Place
stmt_place (syn.Return at v) = at
stmt_place (syn.If at as_) = at
stmt_place (syn.While at test ss) = at
stmt_place (syn.For at n low high ss) = at
stmt_place (syn.Repeat at ss test) = at
stmt_place (syn.Fork at n es on) = at
stmt_place (syn.WriteLine at es) = at
stmt_place (syn.Insert at e n p) = at
stmt_place (syn.Delete at e n p) = at
stmt_place (syn.Assign n p e) = n.at
stmt_place (Stmt.Call n es) = n.at
stmt_place (Stmt.Invoke n m es) = n.at

abbrev pub definition_place : Definition → Place
definition_place (syn.Record at ts) = at
definition_place (syn.Enumeration at ns) = at
definition_place (syn.Alias k) = kind_place k

abbrev pub decl_place : Decl → Place
decl_place (syn.Constant at n b) = at
decl_place (syn.Declares at n d) = at
decl_place (syn.Specification at n hs) = at
decl_place (syn.Implementation at n vs os ss) = at
decl_place (syn.Function at n ps r b) = at
decl_place (syn.Process at n ps b) = at

-- in the derivation of a phrase this is the place of the first token
pub record ArePlaces : Type 0 where
  pub bounds : (b : Bound) → first_place (flat (der.bound b none)) ≡ Some (bound_place b)
  pub exprs : (e : Expr) → first_place (flat (der.value e none)) ≡ Some (expr_place e)
  pub steps : (p : Step) → first_place (flat (der.step p none)) ≡ Some (step_place p)
  pub kinds : (k : Kind) → first_place (flat (der.type_phrase k none)) ≡ Some (kind_place k)
  pub stmts : (s : Stmt) → first_place (flat (group (Phrase StatementPhrase) (der.stmt_inside s) none)) ≡ Some (stmt_place s)
  pub heads : (h : Head) → first_place (flat (der.head h none)) ≡ Some h.at
  pub guards : (g : Guard) → first_place (flat (der.guard g none)) ≡ Some g.at
  pub operations : (o : Operation) → first_place (flat (der.operation o none)) ≡ Some o.head.at
  pub definitions : (d : Definition) → first_place (flat (der.definition d none)) ≡ Some (definition_place d)
  pub decls : (d : Decl) → first_place (flat (der.decl d none)) ≡ Some (decl_place d)

-- and in the marks of each tree
pub record AreShownPlaces : Type 0 where
  pub bounds : (b : Bound) → first_place (marks.bound b) ≡ Some (bound_place b)
  pub expressions : (e : Expression) → first_place (marks.expression e) ≡ Some (expr_place (expr e))
  pub selectors : (s : Selector) → first_place (marks.selector s) ≡ Some (step_place (shown.step s))
  pub types : (t : TypePhrase) → first_place (marks.type_phrase t) ≡ Some (kind_place (kind t))
  pub statements : (s : Statement) → first_place (marks.statement s) ≡ Some (stmt_place (stmt s))
  pub heads : (h : tree_head.Head) → first_place (marks.head h) ≡ Some h.at
  pub guards : (g : tree_guard.Guard) → first_place (marks.guard g) ≡ Some g.at
  pub operations : (o : tree_operation.Operation) → first_place (marks.operation o) ≡ Some o.head.at
  pub definitions : (d : tree_definition.Definition) → first_place (marks.definition d) ≡ Some (definition_place (shown.definition d))
  pub declarations : (d : Declaration) → first_place (marks.declaration d) ≡ Some (decl_place (shown.decl d))

-- the places that marks keep, in their order
abbrev pub kept_places : List Mark → List Place
kept_places [] = []
kept_places (Spelled None kind ∷ ms) = kept_places ms
kept_places (Spelled (Some at) kind ∷ ms) = at ∷ kept_places ms
kept_places (Begin b ∷ ms) = kept_places ms
kept_places (End b ∷ ms) = kept_places ms

-- of the places that a syntax keeps each stands before all that follow it
abbrev pub IsInTextOrder : Syntax → Type 0
IsInTextOrder s = AllPairs StandsBefore (kept_places (syntax_marks s))
