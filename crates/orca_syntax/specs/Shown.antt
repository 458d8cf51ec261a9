-- The syntax that a tree shows: each Rust type shows one type of Syntax.antt, and a `Vec` shows what its list does. A phrase with a `Vec`
-- has its children as a row here; in words of its list it is in proofs/ShownLaws.antt.
use Rattle.std.specs.Prelude.{List, [], ◌∷◌, map, option_map}
use Rattle.orca_tree.specs.declared.tree.TypePhrase.{TypePhrase}
use Rattle.orca_tree.specs.declared.tree.TypePhrase.TheVariants as types
use Rattle.orca_tree.specs.declared.tree.TypedName as tree_typed_name
use Rattle.orca_tree.specs.declared.tree.Variables as tree_variables
use Rattle.orca_tree.specs.declared.tree.Parameter as tree_parameter
use Rattle.orca_tree.specs.declared.tree.Head as tree_head
use Rattle.orca_tree.specs.declared.tree.Guard as tree_guard
use Rattle.orca_tree.specs.declared.tree.Block as tree_block
use Rattle.orca_tree.specs.declared.tree.Operation as tree_operation
use Rattle.orca_tree.specs.declared.tree.OperationBody.{OperationBody}
use Rattle.orca_tree.specs.declared.tree.OperationBody.TheVariants as bodies
use Rattle.orca_tree.specs.declared.tree.Definition as tree_definition
use Rattle.orca_tree.specs.declared.tree.Definition.TheVariants as defines
use Rattle.orca_tree.specs.declared.tree.Declaration.{Declaration}
use Rattle.orca_tree.specs.declared.tree.Declaration.TheVariants as declares
use Rattle.orca_tree.specs.declared.tree.Unit.{Unit as UnitTree}
use Rattle.orca_tree.specs.declared.tree.Statement.{Statement, Row_of-Statement, end_of-Statement, more_of-Statement, Row_of-Arm, end_of-Arm, more_of-Arm}
use Rattle.orca_tree.specs.declared.tree.Statement.TheVariants as does
use Rattle.orca_tree.specs.declared.tree.Arm.{Arm as ArmTree}
use Rattle.orca_tree.specs.declared.tree.Arm.TheVariants.{When', Otherwise'}
use Rattle.orca_tree.specs.declared.tree.Expression.{Expression, Row_of-Expression, end_of-Expression, more_of-Expression, Row_of-Link, end_of-Link, more_of-Link, Row_of-Selector, end_of-Selector, more_of-Selector}
use Rattle.orca_tree.specs.declared.tree.Expression.TheVariants as is
use Rattle.orca_tree.specs.declared.tree.Link.{Link}
use Rattle.orca_tree.specs.declared.tree.Selector.{Selector}
use Rattle.orca_tree.specs.declared.tree.Selector.TheVariants.{Field, Index}
use Rattle.orca_syntax.specs.Syntax as syn
use Rattle.orca_syntax.specs.Syntax.{Expr, Links, Step, Path, Exprs, Kind, Stmt, Stmts, Arm, Arms, Decl, Definition, Body, Syntax}

-- ---- expressions

abbrev mutual
  pub expr : Expression → Expr
  expr (is.Chain' p first shape row) = syn.Chain (expr first) (link_row row)
  expr (is.Number at value) = syn.Number at value
  expr (is.Char at code) = syn.Char at code
  expr (is.Text at text) = syn.Text at text
  expr (is.Truth at value) = syn.Truth at value
  expr (is.Not' at p e) = syn.Not at (expr e)
  expr (is.Negative' at p e) = syn.Negative at (expr e)
  expr (is.Parentheses' at p e) = syn.Parentheses at (expr e)
  expr (is.From' at name shape row) = syn.From at name (path_row row)
  expr (is.Size' at p e) = syn.Size at (expr e)
  expr (is.Ordinal' at p e) = syn.Ordinal at (expr e)
  expr (is.Get' name shape row) = syn.Get name (path_row row)
  expr (is.Call' name shape row) = Expr.Call name (expr_row row)
  expr (is.Invoke' object operation shape row) = Expr.Invoke object operation (expr_row row)

  pub link_row : {n : _} → Row_of-Link n → Links
  link_row end_of-Link = syn.no_link
  link_row (more_of-Link op e row) = syn.link op (expr e) (link_row row)

  pub path_row : {n : _} → Row_of-Selector n → Path
  path_row end_of-Selector = syn.here
  path_row (more_of-Selector s row) = syn.to (step s) (path_row row)

  pub step : Selector → Step
  step (Field at name) = syn.Field at name
  step (Index at e) = syn.Index at (expr e)

  pub expr_row : {n : _} → Row_of-Expression n → Exprs
  expr_row end_of-Expression = syn.no_expr
  expr_row (more_of-Expression e row) = syn.expr (expr e) (expr_row row)

abbrev pub exprs : List Expression → Exprs
exprs [] = syn.no_expr
exprs (e ∷ es) = syn.expr (expr e) (exprs es)

abbrev pub links : List Link → Links
links [] = syn.no_link
links (l ∷ ls) = syn.link l.operator (expr l.right) (links ls)

abbrev pub path : List Selector → Path
path [] = syn.here
path (s ∷ ss) = syn.to (step s) (path ss)

-- ---- types

abbrev pub kind : TypePhrase → Kind
kind (types.Integer at) = syn.Integer at
kind (types.Boolean at) = syn.Boolean at
kind (types.Char at) = syn.Character at
kind (types.Text at) = syn.String at
kind (types.Named name) = syn.Named name
kind (types.Array' at low high p element) = syn.Array at low high (kind element)
kind (types.Set' at p element) = syn.Set at (kind element)
kind (types.Bag' at p element) = syn.Bag at (kind element)

-- ---- statements

abbrev mutual
  pub stmt : Statement → Stmt
  stmt (does.Return at value) = syn.Return at (option_map expr value)
  stmt (does.If' at shape row) = syn.If at (arm_row row)
  stmt (does.While' at test shape row) = syn.While at (expr test) (stmt_row row)
  stmt (does.For' at name range shape row) = syn.For at name (expr range.low) (expr range.high) (stmt_row row)
  stmt (does.Repeat' at shape row test) = syn.Repeat at (stmt_row row) (expr test)
  stmt (does.Fork at process args on) = syn.Fork at process (exprs args.items) (option_map expr on)
  stmt (does.WriteLine at args) = syn.WriteLine at (exprs args.items)
  stmt (does.Insert at element into) = syn.Insert at (expr element) into.name (path into.path.items)
  stmt (does.Delete at element from) = syn.Delete at (expr element) from.name (path from.path.items)
  stmt (does.Assign to value) = syn.Assign to.name (path to.path.items) (expr value)
  stmt (does.Call function args) = Stmt.Call function (exprs args.items)
  stmt (does.Invoke object operation args) = Stmt.Invoke object operation (exprs args.items)

  pub stmt_row : {n : _} → Row_of-Statement n → Stmts
  stmt_row end_of-Statement = syn.no_stmt
  stmt_row (more_of-Statement s row) = syn.stmt (stmt s) (stmt_row row)

  pub arm_row : {n : _} → Row_of-Arm n → Arms
  arm_row end_of-Arm = syn.no_arm
  arm_row (more_of-Arm a row) = syn.arm (arm a) (arm_row row)

  pub arm : ArmTree → Arm
  arm (When' test shape row) = syn.When (expr test) (stmt_row row)
  arm (Otherwise' shape row) = syn.Otherwise (stmt_row row)

abbrev pub stmts : List Statement → Stmts
stmts [] = syn.no_stmt
stmts (s ∷ ss) = syn.stmt (stmt s) (stmts ss)

abbrev pub arms : List ArmTree → Arms
arms [] = syn.no_arm
arms (a ∷ rest) = syn.arm (arm a) (arms rest)

-- ---- declarations

abbrev pub variables : tree_variables.Variables → syn.Variables
variables v = record { names = v.names.items; kind = kind v.kind }

abbrev pub typed_name : tree_typed_name.TypedName → syn.TypedName
typed_name t = record { name = t.name; kind = kind t.kind }

abbrev pub parameter : tree_parameter.Parameter → syn.Parameter
parameter p = record { name = p.name; mode = p.mode; kind = kind p.kind }

abbrev pub head : tree_head.Head → syn.Head
head h = record { at = h.at; name = h.name; parameters = map typed_name h.parameters.items; result = option_map kind h.result }

abbrev pub guard : tree_guard.Guard → syn.Guard
guard g = record { at = g.at; test = expr g.test; body = stmts g.body.items }

abbrev pub body : OperationBody → Body
body (bodies.Guarded first others) = syn.Guarded (guard first) (map guard others.items)
body (bodies.Plain ss) = syn.Plain (stmts ss.items)

abbrev pub operation : tree_operation.Operation → syn.Operation
operation o = record { head = head o.head; variables = map variables o.variables.items; body = body o.body }

abbrev pub block : tree_block.Block → syn.Block
block b = record { variables = map variables b.variables.items; statements = stmts b.statements.items }

abbrev pub definition : tree_definition.Definition → Definition
definition (defines.Record at fields) = syn.Record at (map typed_name fields.items)
definition (defines.Enumeration at names) = syn.Enumeration at names.items
definition (defines.Alias of) = syn.Alias (kind of)

abbrev pub decl : Declaration → Decl
decl (declares.Constant at name value) = syn.Constant at name value
decl (declares.Type at name of) = syn.Declares at name (definition of)
decl (declares.Specification at name heads) = syn.Specification at name (map head heads.items)
decl (declares.Implementation at name fields operations opening) = syn.Implementation at name (map variables fields.items)
    (map operation operations.items) (option_map (λ ss. stmts ss.items) opening)
decl (declares.Function at name ps result b) = syn.Function at name (map parameter ps.items) (option_map kind result) (block b)
decl (declares.Process at name ps b) = syn.Process at name (map parameter ps.items) (block b)

-- a whole text
abbrev pub syntax_of : UnitTree → Syntax
syntax_of u = record { name = u.module; imports = u.imports.items; declarations = map decl u.declarations.items }
