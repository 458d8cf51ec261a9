-- What a body does with objects (docs/RUNTIME.md, Choice of copies): each call of an object's operation, and each argument that is a name.
-- How often something is done is the number in front: 1 in a body, and ten times as much in each loop. The condition of a `while` or an
-- `until` stands inside its loop, the bounds of a `for` outside.
use Rattle.std.specs.Prelude.{ℕ, suc, List, [], ◌∷◌, ◌++◌, Option, Some, None}
use Rattle.orca_tree.specs.declared.tree.Name.{Name}
use Rattle.orca_syntax.specs.Syntax as syn
use Rattle.orca_syntax.specs.Syntax.{Expr, Links, Step, Path, Exprs, Stmt, Stmts, Arm, Arms}
use Rattle.site_estimates.specs.Numbers.{product}

-- what is done with an object: an operation of it is called, or it is passed to what is called or forked by a name, as the argument at a
-- position from 0
pub data UseKind : Type 0 where
  Calls : List ℕ → UseKind
  Passes : List ℕ → ℕ → UseKind

-- what is done with the object that has a name in the body, and how often
pub record Use : Type 0 where
  pub object : List ℕ
  pub times : ℕ
  pub kind : UseKind

abbrev pub called : ℕ → Name → Name → Use
called n o m = record { object = o.text; times = n; kind = Calls m.text }

abbrev pub passes : ℕ → Name → ℕ → Name → Use
passes n f position o = record { object = o.text; times = n; kind = Passes f.text position }

-- an argument that is a name is passed on; any other passes no object
abbrev pub passed : ℕ → Name → ℕ → Expr → List Use
passed n f position (syn.Get o syn.here) = passes n f position o ∷ []
passed n f position _ = []

abbrev mutual
  pub expr_uses : ℕ → Expr → List Use
  expr_uses n (syn.Chain first ls) = expr_uses n first ++ links_uses n ls
  expr_uses n (syn.Not at e) = expr_uses n e
  expr_uses n (syn.Negative at e) = expr_uses n e
  expr_uses n (syn.Parentheses at e) = expr_uses n e
  expr_uses n (syn.From at o p) = path_uses n p
  expr_uses n (syn.Size at e) = expr_uses n e
  expr_uses n (syn.Ordinal at e) = expr_uses n e
  expr_uses n (syn.Get o p) = path_uses n p
  expr_uses n (Expr.Call f es) = arguments_uses n f 0 es
  expr_uses n (Expr.Invoke o m es) = called n o m ∷ exprs_uses n es
  expr_uses n _ = []

  pub links_uses : ℕ → Links → List Use
  links_uses n syn.no_link = []
  links_uses n (syn.link operator e ls) = expr_uses n e ++ links_uses n ls

  pub path_uses : ℕ → Path → List Use
  path_uses n syn.here = []
  path_uses n (syn.to x p) = step_uses n x ++ path_uses n p

  pub step_uses : ℕ → Step → List Use
  step_uses n (syn.Field at f) = []
  step_uses n (syn.Index at e) = expr_uses n e

  pub exprs_uses : ℕ → Exprs → List Use
  exprs_uses n syn.no_expr = []
  exprs_uses n (syn.expr e es) = expr_uses n e ++ exprs_uses n es

  -- the arguments of what is called or forked, from a position on
  pub arguments_uses : ℕ → Name → ℕ → Exprs → List Use
  arguments_uses n f position syn.no_expr = []
  arguments_uses n f position (syn.expr e es) = (passed n f position e ++ expr_uses n e) ++ arguments_uses n f (suc position) es

abbrev pub uses_if_any : ℕ → Option Expr → List Use
uses_if_any n None = []
uses_if_any n (Some e) = expr_uses n e

abbrev mutual
  pub stmt_uses : ℕ → Stmt → List Use
  stmt_uses n (syn.Return at e) = uses_if_any n e
  stmt_uses n (syn.If at as_) = arms_uses n as_
  stmt_uses n (syn.While at test ss) = expr_uses (product 10 n) test ++ stmts_uses (product 10 n) ss
  stmt_uses n (syn.For at i low high ss) = expr_uses n low ++ (expr_uses n high ++ stmts_uses (product 10 n) ss)
  stmt_uses n (syn.Repeat at ss test) = stmts_uses (product 10 n) ss ++ expr_uses (product 10 n) test
  stmt_uses n (syn.Fork at p es on) = arguments_uses n p 0 es ++ uses_if_any n on
  stmt_uses n (syn.WriteLine at es) = exprs_uses n es
  stmt_uses n (syn.Insert at e o p) = expr_uses n e ++ path_uses n p
  stmt_uses n (syn.Delete at e o p) = expr_uses n e ++ path_uses n p
  stmt_uses n (syn.Assign o p e) = path_uses n p ++ expr_uses n e
  stmt_uses n (Stmt.Call f es) = arguments_uses n f 0 es
  stmt_uses n (Stmt.Invoke o m es) = called n o m ∷ exprs_uses n es

  pub stmts_uses : ℕ → Stmts → List Use
  stmts_uses n syn.no_stmt = []
  stmts_uses n (syn.stmt x xs) = stmt_uses n x ++ stmts_uses n xs

  pub arms_uses : ℕ → Arms → List Use
  arms_uses n syn.no_arm = []
  arms_uses n (syn.arm a as_) = arm_uses n a ++ arms_uses n as_

  pub arm_uses : ℕ → Arm → List Use
  arm_uses n (syn.When test ss) = expr_uses n test ++ stmts_uses n ss
  arm_uses n (syn.Otherwise ss) = stmts_uses n ss
