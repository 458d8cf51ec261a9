-- The words of a syntax, phrase by phrase: each is one that a text may have (orca_lexer, specs/Spelling.antt, `IsSound`). Of each fact
-- there is one proof: specs/SoundOnce.antt.
use Rattle.std.specs.Prelude.{◌≢◌, List, [], IfSome}
use Rattle.std.specs.List.{AllByRecursion}
use Rattle.orca_lexer.specs.declared.token.TokenKind.TheVariants as kind
use Rattle.orca_lexer.specs.Spelling.{IsSound}
use Rattle.orca_tree.specs.declared.tree.Name.{Name}
use Rattle.orca_tree.specs.declared.tree.Bound.{Bound}
use Rattle.orca_tree.specs.declared.tree.Bound.TheVariants as bounds
use Rattle.orca_syntax.specs.Syntax as syn
use Rattle.orca_syntax.specs.Syntax.{Expr, Links, Step, Path, Exprs, Kind, Stmt, Stmts, Arm, Arms, Variables, TypedName, Parameter, Head, Guard, Body, Operation, Block, Definition, Decl, Syntax}

abbrev pub IsSoundName : Name → Type 0
IsSoundName n = IsSound (kind.Name n.text)

-- ---- expressions

abbrev mutual
  pub IsSoundExpr : Expr → Type 0
  IsSoundExpr (syn.Chain first ls) = IsSoundExpr first × AreSoundLinks ls
  IsSoundExpr (syn.Number at value) = IsSound (kind.Number value)
  IsSoundExpr (syn.Char at code) = IsSound (kind.Char code)
  IsSoundExpr (syn.Text at text) = IsSound (kind.Text text)
  IsSoundExpr (syn.Truth at value) = Unit {0}
  IsSoundExpr (syn.Not at e) = IsSoundExpr e
  IsSoundExpr (syn.Negative at e) = IsSoundExpr e
  IsSoundExpr (syn.Parentheses at e) = IsSoundExpr e
  IsSoundExpr (syn.From at n p) = IsSoundName n × IsSoundPath p
  IsSoundExpr (syn.Size at e) = IsSoundExpr e
  IsSoundExpr (syn.Ordinal at e) = IsSoundExpr e
  IsSoundExpr (syn.Get n p) = IsSoundName n × IsSoundPath p
  IsSoundExpr (Expr.Call n es) = IsSoundName n × AreSoundExprs es
  IsSoundExpr (Expr.Invoke n m es) = IsSoundName n × IsSoundName m × AreSoundExprs es

  pub AreSoundLinks : Links → Type 0
  AreSoundLinks syn.no_link = Unit {0}
  AreSoundLinks (syn.link op e ls) = IsSoundExpr e × AreSoundLinks ls

  pub IsSoundStep : Step → Type 0
  IsSoundStep (syn.Field at n) = IsSoundName n
  IsSoundStep (syn.Index at e) = IsSoundExpr e

  pub IsSoundPath : Path → Type 0
  IsSoundPath syn.here = Unit {0}
  IsSoundPath (syn.to s p) = IsSoundStep s × IsSoundPath p

  pub AreSoundExprs : Exprs → Type 0
  AreSoundExprs syn.no_expr = Unit {0}
  AreSoundExprs (syn.expr e es) = IsSoundExpr e × AreSoundExprs es

-- ---- types

abbrev pub IsSoundBound : Bound → Type 0
IsSoundBound (bounds.Number at value) = IsSound (kind.Number value)
IsSoundBound (bounds.Negative at value) = IsSound (kind.Number value)
IsSoundBound (bounds.Named n) = IsSoundName n

abbrev pub IsSoundKind : Kind → Type 0
IsSoundKind (syn.Integer at) = Unit {0}
IsSoundKind (syn.Boolean at) = Unit {0}
IsSoundKind (syn.Character at) = Unit {0}
IsSoundKind (syn.String at) = Unit {0}
IsSoundKind (syn.Named n) = IsSoundName n
IsSoundKind (syn.Array at low high k) = IsSoundBound low × IsSoundBound high × IsSoundKind k
IsSoundKind (syn.Set at k) = IsSoundKind k
IsSoundKind (syn.Bag at k) = IsSoundKind k

-- ---- statements

abbrev mutual
  pub IsSoundStmt : Stmt → Type 0
  IsSoundStmt (syn.Return at v) = IfSome v IsSoundExpr
  IsSoundStmt (syn.If at as_) = AreSoundArms as_
  IsSoundStmt (syn.While at test ss) = IsSoundExpr test × AreSoundStmts ss
  IsSoundStmt (syn.For at n low high ss) = IsSoundName n × IsSoundExpr low × IsSoundExpr high × AreSoundStmts ss
  IsSoundStmt (syn.Repeat at ss test) = AreSoundStmts ss × IsSoundExpr test
  IsSoundStmt (syn.Fork at n es on) = IsSoundName n × AreSoundExprs es × IfSome on IsSoundExpr
  IsSoundStmt (syn.WriteLine at es) = AreSoundExprs es
  IsSoundStmt (syn.Insert at e n p) = IsSoundExpr e × IsSoundName n × IsSoundPath p
  IsSoundStmt (syn.Delete at e n p) = IsSoundExpr e × IsSoundName n × IsSoundPath p
  IsSoundStmt (syn.Assign n p e) = IsSoundName n × IsSoundPath p × IsSoundExpr e
  IsSoundStmt (Stmt.Call n es) = IsSoundName n × AreSoundExprs es
  IsSoundStmt (Stmt.Invoke n m es) = IsSoundName n × IsSoundName m × AreSoundExprs es

  pub AreSoundStmts : Stmts → Type 0
  AreSoundStmts syn.no_stmt = Unit {0}
  AreSoundStmts (syn.stmt s ss) = IsSoundStmt s × AreSoundStmts ss

  pub IsSoundArm : Arm → Type 0
  IsSoundArm (syn.When test ss) = IsSoundExpr test × AreSoundStmts ss
  IsSoundArm (syn.Otherwise ss) = AreSoundStmts ss

  pub AreSoundArms : Arms → Type 0
  AreSoundArms syn.no_arm = Unit {0}
  AreSoundArms (syn.arm a as_) = IsSoundArm a × AreSoundArms as_

-- ---- declarations

abbrev pub AreSoundNames : List Name → Type 0
AreSoundNames ns = AllByRecursion IsSoundName ns

abbrev pub AreSoundVariables : Variables → Type 0
AreSoundVariables v = AreSoundNames v.names × IsSoundKind v.kind

abbrev pub IsSoundTypedName : TypedName → Type 0
IsSoundTypedName t = IsSoundName t.name × IsSoundKind t.kind

abbrev pub IsSoundParameter : Parameter → Type 0
IsSoundParameter p = IsSoundName p.name × IsSoundKind p.kind

abbrev pub IsSoundHead : Head → Type 0
IsSoundHead h = IsSoundName h.name × AllByRecursion IsSoundTypedName h.parameters × IfSome h.result IsSoundKind

abbrev pub IsSoundGuard : Guard → Type 0
IsSoundGuard g = IsSoundExpr g.test × AreSoundStmts g.body

abbrev pub IsSoundBody : Body → Type 0
IsSoundBody (syn.Guarded g gs) = IsSoundGuard g × AllByRecursion IsSoundGuard gs
IsSoundBody (syn.Plain ss) = AreSoundStmts ss

abbrev pub IsSoundOperation : Operation → Type 0
IsSoundOperation o = IsSoundHead o.head × AllByRecursion AreSoundVariables o.variables × IsSoundBody o.body

abbrev pub IsSoundBlock : Block → Type 0
IsSoundBlock b = AllByRecursion AreSoundVariables b.variables × AreSoundStmts b.statements

-- a record has a field at least, and an enumeration a name
abbrev pub IsSoundDefinition : Definition → Type 0
IsSoundDefinition (syn.Record at ts) = AllByRecursion IsSoundTypedName ts × (ts ≢ [])
IsSoundDefinition (syn.Enumeration at ns) = AreSoundNames ns × (ns ≢ [])
IsSoundDefinition (syn.Alias k) = IsSoundKind k

abbrev pub IsSoundDecl : Decl → Type 0
IsSoundDecl (syn.Constant at n b) = IsSoundName n × IsSoundBound b
IsSoundDecl (syn.Declares at n d) = IsSoundName n × IsSoundDefinition d
IsSoundDecl (syn.Specification at n hs) = IsSoundName n × AllByRecursion IsSoundHead hs
IsSoundDecl (syn.Implementation at n vs os ss) =
    IsSoundName n × AllByRecursion AreSoundVariables vs × AllByRecursion IsSoundOperation os × IfSome ss AreSoundStmts
IsSoundDecl (syn.Function at n ps r b) = IsSoundName n × AllByRecursion IsSoundParameter ps × IfSome r IsSoundKind × IsSoundBlock b
IsSoundDecl (syn.Process at n ps b) = IsSoundName n × AllByRecursion IsSoundParameter ps × IsSoundBlock b

abbrev pub IsSoundSyntax : Syntax → Type 0
IsSoundSyntax s = IfSome s.name IsSoundName × AreSoundNames s.imports × AllByRecursion IsSoundDecl s.declarations
