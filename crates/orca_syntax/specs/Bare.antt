-- A syntax without its places: each place is that of nowhere.
use Rattle.std.specs.Prelude.{map, option_map}
use Rattle.orca_base.specs.declared.place.Place.{Place}
use Rattle.orca_tree.specs.declared.tree.Name.{Name}
use Rattle.orca_tree.specs.declared.tree.Bound.{Bound}
use Rattle.orca_tree.specs.declared.tree.Bound.TheVariants as bounds
use Rattle.orca_syntax.specs.Syntax as syn
use Rattle.orca_syntax.specs.Syntax.{Expr, Links, Step, Path, Exprs, Kind, Stmt, Stmts, Arm, Arms, Body, Definition, Decl, Syntax}

abbrev pub nowhere : Place
nowhere = record { line = 0; column = 0 }

abbrev pub name : Name → Name
name n = record { at = nowhere; text = n.text }

abbrev pub bound : Bound → Bound
bound (bounds.Number at value) = bounds.Number nowhere value
bound (bounds.Negative at value) = bounds.Negative nowhere value
bound (bounds.Named n) = bounds.Named (name n)

-- ---- expressions

abbrev mutual
  pub expr : Expr → Expr
  expr (syn.Chain first ls) = syn.Chain (expr first) (links ls)
  expr (syn.Number at value) = syn.Number nowhere value
  expr (syn.Char at code) = syn.Char nowhere code
  expr (syn.Text at text) = syn.Text nowhere text
  expr (syn.Truth at value) = syn.Truth nowhere value
  expr (syn.Not at e) = syn.Not nowhere (expr e)
  expr (syn.Negative at e) = syn.Negative nowhere (expr e)
  expr (syn.Parentheses at e) = syn.Parentheses nowhere (expr e)
  expr (syn.From at n p) = syn.From nowhere (name n) (path p)
  expr (syn.Size at e) = syn.Size nowhere (expr e)
  expr (syn.Ordinal at e) = syn.Ordinal nowhere (expr e)
  expr (syn.Get n p) = syn.Get (name n) (path p)
  expr (Expr.Call n es) = Expr.Call (name n) (exprs es)
  expr (Expr.Invoke n m es) = Expr.Invoke (name n) (name m) (exprs es)

  pub links : Links → Links
  links syn.no_link = syn.no_link
  links (syn.link op e ls) = syn.link op (expr e) (links ls)

  pub step : Step → Step
  step (syn.Field at n) = syn.Field nowhere (name n)
  step (syn.Index at e) = syn.Index nowhere (expr e)

  pub path : Path → Path
  path syn.here = syn.here
  path (syn.to s p) = syn.to (step s) (path p)

  pub exprs : Exprs → Exprs
  exprs syn.no_expr = syn.no_expr
  exprs (syn.expr e es) = syn.expr (expr e) (exprs es)

-- ---- types

abbrev pub kind : Kind → Kind
kind (syn.Integer at) = syn.Integer nowhere
kind (syn.Boolean at) = syn.Boolean nowhere
kind (syn.Character at) = syn.Character nowhere
kind (syn.String at) = syn.String nowhere
kind (syn.Named n) = syn.Named (name n)
kind (syn.Array at low high k) = syn.Array nowhere (bound low) (bound high) (kind k)
kind (syn.Set at k) = syn.Set nowhere (kind k)
kind (syn.Bag at k) = syn.Bag nowhere (kind k)

-- ---- statements

abbrev mutual
  pub stmt : Stmt → Stmt
  stmt (syn.Return at value) = syn.Return nowhere (option_map expr value)
  stmt (syn.If at as_) = syn.If nowhere (arms as_)
  stmt (syn.While at test ss) = syn.While nowhere (expr test) (stmts ss)
  stmt (syn.For at n low high ss) = syn.For nowhere (name n) (expr low) (expr high) (stmts ss)
  stmt (syn.Repeat at ss test) = syn.Repeat nowhere (stmts ss) (expr test)
  stmt (syn.Fork at n es on) = syn.Fork nowhere (name n) (exprs es) (option_map expr on)
  stmt (syn.WriteLine at es) = syn.WriteLine nowhere (exprs es)
  stmt (syn.Insert at e n p) = syn.Insert nowhere (expr e) (name n) (path p)
  stmt (syn.Delete at e n p) = syn.Delete nowhere (expr e) (name n) (path p)
  stmt (syn.Assign n p e) = syn.Assign (name n) (path p) (expr e)
  stmt (Stmt.Call n es) = Stmt.Call (name n) (exprs es)
  stmt (Stmt.Invoke n m es) = Stmt.Invoke (name n) (name m) (exprs es)

  pub stmts : Stmts → Stmts
  stmts syn.no_stmt = syn.no_stmt
  stmts (syn.stmt s ss) = syn.stmt (stmt s) (stmts ss)

  pub arm : Arm → Arm
  arm (syn.When test ss) = syn.When (expr test) (stmts ss)
  arm (syn.Otherwise ss) = syn.Otherwise (stmts ss)

  pub arms : Arms → Arms
  arms syn.no_arm = syn.no_arm
  arms (syn.arm a as_) = syn.arm (arm a) (arms as_)

-- ---- declarations

abbrev pub variables : syn.Variables → syn.Variables
variables v = record { names = map name v.names; kind = kind v.kind }

abbrev pub typed_name : syn.TypedName → syn.TypedName
typed_name t = record { name = name t.name; kind = kind t.kind }

abbrev pub parameter : syn.Parameter → syn.Parameter
parameter p = record { name = name p.name; mode = p.mode; kind = kind p.kind }

abbrev pub head : syn.Head → syn.Head
head h = record { at = nowhere; name = name h.name; parameters = map typed_name h.parameters; result = option_map kind h.result }

abbrev pub guard : syn.Guard → syn.Guard
guard g = record { at = nowhere; test = expr g.test; body = stmts g.body }

abbrev pub body : Body → Body
body (syn.Guarded first others) = syn.Guarded (guard first) (map guard others)
body (syn.Plain ss) = syn.Plain (stmts ss)

abbrev pub operation : syn.Operation → syn.Operation
operation o = record { head = head o.head; variables = map variables o.variables; body = body o.body }

abbrev pub block : syn.Block → syn.Block
block b = record { variables = map variables b.variables; statements = stmts b.statements }

abbrev pub definition : Definition → Definition
definition (syn.Record at fields) = syn.Record nowhere (map typed_name fields)
definition (syn.Enumeration at names) = syn.Enumeration nowhere (map name names)
definition (syn.Alias of) = syn.Alias (kind of)

abbrev pub decl : Decl → Decl
decl (syn.Constant at n value) = syn.Constant nowhere (name n) (bound value)
decl (syn.Declares at n of) = syn.Declares nowhere (name n) (definition of)
decl (syn.Specification at n heads) = syn.Specification nowhere (name n) (map head heads)
decl (syn.Implementation at n fields operations opening) = syn.Implementation nowhere (name n) (map variables fields)
    (map operation operations) (option_map stmts opening)
decl (syn.Function at n ps result b) = syn.Function nowhere (name n) (map parameter ps) (option_map kind result) (block b)
decl (syn.Process at n ps b) = syn.Process nowhere (name n) (map parameter ps) (block b)

-- a whole text
abbrev pub bare : Syntax → Syntax
bare s = record { name = option_map name s.name; imports = map name s.imports; declarations = map decl s.declarations }
