-- Of what makes a syntax sound there is one proof, so that a type may keep it: of its words, phrase by phrase, and of the order of its
-- places.
use Rattle.std.proofs.Common.{◌≡◌, ◌<◌, ◌^◌, ℕ, ℤ, pos, nat_abs, List, [], ◌∷◌, Option, Some, None, ap, sym, ◌∙◌, inl, inr, arith}
use Rattle.std.specs.Prelude.{IfSome}
use Rattle.std.specs.List.{AllByRecursion}
use Rattle.std.proofs.Props.{props}
use mathlib.Core.HLevel.{is_prop→PathP}
use native.Mathlib.Bridge.{le_prop}
use Rattle.orca_base.specs.declared.place.Place.{Place}
use Rattle.orca_lexer.specs.declared.token.TokenKind.{TokenKind}
use Rattle.orca_lexer.specs.declared.token.TokenKind.TheVariants as kind
use Rattle.orca_lexer.specs.declared.token.TokenKind.TheVariants.{Key, Sign}
use Rattle.orca_lexer.specs.Order.{StandsBefore}
use Rattle.orca_lexer.specs.Spelling.{IsSound}
use Rattle.orca_tree.specs.declared.tree.Name.{Name}
use Rattle.orca_tree.specs.declared.tree.Bound.{Bound}
use Rattle.orca_tree.specs.declared.tree.Bound.TheVariants as bounds
use Rattle.orca_syntax.specs.Syntax as syn
use Rattle.orca_syntax.specs.Syntax.{Expr, Links, Step, Path, Exprs, Kind, Stmt, Stmts, Arm, Arms, Variables, TypedName, Parameter, Head, Guard, Body, Operation, Block, Definition, Decl, Syntax}
use Rattle.orca_syntax.specs.Places.{IsInTextOrder}
use Rattle.orca_syntax.specs.Sound.{IsSoundName, IsSoundExpr, AreSoundLinks, IsSoundStep, IsSoundPath, AreSoundExprs, IsSoundBound, IsSoundKind, IsSoundStmt, AreSoundStmts, IsSoundArm, AreSoundArms, AreSoundNames, AreSoundVariables, IsSoundTypedName, IsSoundParameter, IsSoundHead, IsSoundGuard, IsSoundBody, IsSoundOperation, IsSoundBlock, IsSoundDefinition, IsSoundDecl, IsSoundSyntax}

-- ---- tokens and places

number_once : (value : ℤ) → IsProp ((n : ℕ) × (n < 2 ^ 63) × (value ≡ pos n))
number_once value x y =
    let same : x.0 ≡ y.0 = ap nat_abs (sym x.2 ∙ y.2) in
    let less = is_prop→PathP (λ i. same i < 2 ^ 63) (λ i. hlevel props) x.1 y.1 in
    let is = is_prop→PathP (λ i. value ≡ pos (same i)) (λ i. hlevel props) x.2 y.2 in
    λ i. (same i, less i, is i)

pub IsSound-prop : (k : TokenKind) → IsProp (IsSound k)
IsSound-prop (kind.Name name) = hlevel props
IsSound-prop (kind.Number value) = number_once value
IsSound-prop (kind.Char code) = hlevel props
IsSound-prop (kind.Text text) = hlevel props
IsSound-prop (Key w) = hlevel
IsSound-prop (Sign s) = hlevel

pub StandsBefore-prop : (p q : Place) → IsProp (StandsBefore p q)
StandsBefore-prop p q (inl a) (inl b) = ap (λ x. inl x) (le_prop a b)
StandsBefore-prop p q (inl a) (inr b) = absurd (omega (arith, a, b.0))
StandsBefore-prop p q (inr a) (inl b) = absurd (omega (arith, a.0, b))
StandsBefore-prop p q (inr a) (inr b) = let one : IsProp ((p.line ≡ q.line) × (p.column < q.column)) = hlevel props in ap (λ x. inr x) (one a b)

pub IsInTextOrder-prop : (s : Syntax) → IsProp (IsInTextOrder s)
IsInTextOrder-prop s = hlevel (props, StandsBefore-prop)

-- ---- rows of phrases

each_once : {X : Type 0} (P : X → Type 0) → ((x : X) → IsProp (P x)) → (xs : List X) → IsProp (AllByRecursion P xs)
each_once P one [] = hlevel
each_once P one (x ∷ xs) = let a = one x in let b = each_once P one xs in hlevel (a, b)

if_once : {X : Type 0} (P : X → Type 0) → ((x : X) → IsProp (P x)) → (o : Option X) → IsProp (IfSome o P)
if_once P one None = hlevel
if_once P one (Some x) = one x

name_once : (n : Name) → IsProp (IsSoundName n)
name_once n = IsSound-prop (kind.Name n.text)

-- ---- expressions

mutual
  expr_once : (e : Expr) → IsProp (IsSoundExpr e)
  expr_once (syn.Chain first ls) = let a = expr_once first in let b = links_once ls in hlevel (a, b)
  expr_once (syn.Number at value) = IsSound-prop (kind.Number value)
  expr_once (syn.Char at code) = IsSound-prop (kind.Char code)
  expr_once (syn.Text at text) = IsSound-prop (kind.Text text)
  expr_once (syn.Truth at value) = hlevel
  expr_once (syn.Not at e) = expr_once e
  expr_once (syn.Negative at e) = expr_once e
  expr_once (syn.Parentheses at e) = expr_once e
  expr_once (syn.From at n p) = let a = name_once n in let b = path_once p in hlevel (a, b)
  expr_once (syn.Size at e) = expr_once e
  expr_once (syn.Ordinal at e) = expr_once e
  expr_once (syn.Get n p) = let a = name_once n in let b = path_once p in hlevel (a, b)
  expr_once (Expr.Call n es) = let a = name_once n in let b = exprs_once es in hlevel (a, b)
  expr_once (Expr.Invoke n m es) = let a = name_once n in let b = name_once m in let d = exprs_once es in hlevel (a, b, d)

  links_once : (ls : Links) → IsProp (AreSoundLinks ls)
  links_once syn.no_link = hlevel
  links_once (syn.link op e ls) = let a = expr_once e in let b = links_once ls in hlevel (a, b)

  step_once : (s : Step) → IsProp (IsSoundStep s)
  step_once (syn.Field at n) = name_once n
  step_once (syn.Index at e) = expr_once e

  path_once : (p : Path) → IsProp (IsSoundPath p)
  path_once syn.here = hlevel
  path_once (syn.to s p) = let a = step_once s in let b = path_once p in hlevel (a, b)

  exprs_once : (es : Exprs) → IsProp (AreSoundExprs es)
  exprs_once syn.no_expr = hlevel
  exprs_once (syn.expr e es) = let a = expr_once e in let b = exprs_once es in hlevel (a, b)

-- ---- types

bound_once : (b : Bound) → IsProp (IsSoundBound b)
bound_once (bounds.Number at value) = IsSound-prop (kind.Number value)
bound_once (bounds.Negative at value) = IsSound-prop (kind.Number value)
bound_once (bounds.Named n) = name_once n

kind_once : (k : Kind) → IsProp (IsSoundKind k)
kind_once (syn.Integer at) = hlevel
kind_once (syn.Boolean at) = hlevel
kind_once (syn.Character at) = hlevel
kind_once (syn.String at) = hlevel
kind_once (syn.Named n) = name_once n
kind_once (syn.Array at low high k) = let a = bound_once low in let b = bound_once high in let d = kind_once k in hlevel (a, b, d)
kind_once (syn.Set at k) = kind_once k
kind_once (syn.Bag at k) = kind_once k

-- ---- statements

mutual
  stmt_once : (s : Stmt) → IsProp (IsSoundStmt s)
  stmt_once (syn.Return at v) = if_once IsSoundExpr expr_once v
  stmt_once (syn.If at as_) = arms_once as_
  stmt_once (syn.While at test ss) = let a = expr_once test in let b = stmts_once ss in hlevel (a, b)
  stmt_once (syn.For at n low high ss) =
      let a = name_once n in
      let b = expr_once low in
      let d = expr_once high in
      let e = stmts_once ss in
      hlevel (a, b, d, e)
  stmt_once (syn.Repeat at ss test) = let a = stmts_once ss in let b = expr_once test in hlevel (a, b)
  stmt_once (syn.Fork at n es on) = let a = name_once n in let b = exprs_once es in let d = if_once IsSoundExpr expr_once on in hlevel (a, b, d)
  stmt_once (syn.WriteLine at es) = exprs_once es
  stmt_once (syn.Insert at e n p) = let a = expr_once e in let b = name_once n in let d = path_once p in hlevel (a, b, d)
  stmt_once (syn.Delete at e n p) = let a = expr_once e in let b = name_once n in let d = path_once p in hlevel (a, b, d)
  stmt_once (syn.Assign n p e) = let a = name_once n in let b = path_once p in let d = expr_once e in hlevel (a, b, d)
  stmt_once (Stmt.Call n es) = let a = name_once n in let b = exprs_once es in hlevel (a, b)
  stmt_once (Stmt.Invoke n m es) = let a = name_once n in let b = name_once m in let d = exprs_once es in hlevel (a, b, d)

  stmts_once : (ss : Stmts) → IsProp (AreSoundStmts ss)
  stmts_once syn.no_stmt = hlevel
  stmts_once (syn.stmt s ss) = let a = stmt_once s in let b = stmts_once ss in hlevel (a, b)

  arm_once : (a : Arm) → IsProp (IsSoundArm a)
  arm_once (syn.When test ss) = let a = expr_once test in let b = stmts_once ss in hlevel (a, b)
  arm_once (syn.Otherwise ss) = stmts_once ss

  arms_once : (as_ : Arms) → IsProp (AreSoundArms as_)
  arms_once syn.no_arm = hlevel
  arms_once (syn.arm a as_) = let b = arm_once a in let d = arms_once as_ in hlevel (b, d)

-- ---- declarations

names_once : (ns : List Name) → IsProp (AreSoundNames ns)
names_once = each_once IsSoundName name_once

variables_once : (v : Variables) → IsProp (AreSoundVariables v)
variables_once v = let a = names_once v.names in let b = kind_once v.kind in hlevel (a, b)

typed_name_once : (t : TypedName) → IsProp (IsSoundTypedName t)
typed_name_once t = let a = name_once t.name in let b = kind_once t.kind in hlevel (a, b)

parameter_once : (p : Parameter) → IsProp (IsSoundParameter p)
parameter_once p = let a = name_once p.name in let b = kind_once p.kind in hlevel (a, b)

head_once : (h : Head) → IsProp (IsSoundHead h)
head_once h =
    let a = name_once h.name in
    let b = each_once IsSoundTypedName typed_name_once h.parameters in
    let d = if_once IsSoundKind kind_once h.result in
    hlevel (a, b, d)

guard_once : (g : Guard) → IsProp (IsSoundGuard g)
guard_once g = let a = expr_once g.test in let b = stmts_once g.body in hlevel (a, b)

body_once : (b : Body) → IsProp (IsSoundBody b)
body_once (syn.Guarded g gs) = let a = guard_once g in let b = each_once IsSoundGuard guard_once gs in hlevel (a, b)
body_once (syn.Plain ss) = stmts_once ss

operation_once : (o : Operation) → IsProp (IsSoundOperation o)
operation_once o =
    let a = head_once o.head in
    let b = each_once AreSoundVariables variables_once o.variables in
    let d = body_once o.body in
    hlevel (a, b, d)

block_once : (b : Block) → IsProp (IsSoundBlock b)
block_once b = let a = each_once AreSoundVariables variables_once b.variables in let d = stmts_once b.statements in hlevel (a, d)

definition_once : (d : Definition) → IsProp (IsSoundDefinition d)
definition_once (syn.Record at ts) = let a = each_once IsSoundTypedName typed_name_once ts in hlevel a
definition_once (syn.Enumeration at ns) = let a = names_once ns in hlevel a
definition_once (syn.Alias k) = kind_once k

decl_once : (d : Decl) → IsProp (IsSoundDecl d)
decl_once (syn.Constant at n b) = let a = name_once n in let e = bound_once b in hlevel (a, e)
decl_once (syn.Declares at n d) = let a = name_once n in let b = definition_once d in hlevel (a, b)
decl_once (syn.Specification at n hs) = let a = name_once n in let b = each_once IsSoundHead head_once hs in hlevel (a, b)
decl_once (syn.Implementation at n vs os ss) =
    let a = name_once n in
    let b = each_once AreSoundVariables variables_once vs in
    let d = each_once IsSoundOperation operation_once os in
    let e = if_once AreSoundStmts stmts_once ss in
    hlevel (a, b, d, e)
decl_once (syn.Function at n ps r b) =
    let a = name_once n in
    let d = each_once IsSoundParameter parameter_once ps in
    let e = if_once IsSoundKind kind_once r in
    let f = block_once b in
    hlevel (a, d, e, f)
decl_once (syn.Process at n ps b) = let a = name_once n in let d = each_once IsSoundParameter parameter_once ps in let e = block_once b in hlevel (a, d, e)

pub IsSoundSyntax-prop : (s : Syntax) → IsProp (IsSoundSyntax s)
IsSoundSyntax-prop s =
    let a = if_once IsSoundName name_once s.name in
    let b = names_once s.imports in
    let d = each_once IsSoundDecl decl_once s.declarations in
    hlevel (a, b, d)
