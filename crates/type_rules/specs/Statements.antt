-- The rules of statements (docs/LANGUAGE.md, Typing): 1, 3, 4, 13, 14, 17, 19 to 25, 34 and 38.
use Rattle.std.specs.Prelude.{ℕ, Bool, not, ◌&&◌, List, [], ◌∷◌, ◌++◌, map, filter, Option, Some, None}
use Rattle.orca_base.specs.declared.place.Place.{Place}
use Rattle.orca_tree.specs.declared.tree.Name.{Name}
use Rattle.orca_syntax.specs.Syntax as syn
use Rattle.orca_syntax.specs.Syntax.{Expr, Path, Exprs, Stmt, Stmts, Arm, Arms, Guard, Body}
use Rattle.orca_syntax.specs.Places.{expr_place}
use Rattle.type_rules.specs.Types as types
use Rattle.type_rules.specs.Types.{DataType, plain, is_integer, is_boolean, is_printed}
use Rattle.type_rules.specs.TopLevel as top
use Rattle.type_rules.specs.TopLevel.{What, TopName, StandsFor, stands_for, sees}
use Rattle.type_rules.specs.Rules.{Breach, Found, asks, breaks, fits, agree, is_among}
use Rattle.type_rules.specs.Scopes.{Local, Scope, Signature, local, is_field, signature, is_plain, may_fork, LoopVariable}
use Rattle.type_rules.specs.Expressions.{typed, walked, written_root, gathering, is_element, arguments, acts, called, called_well, call_found, signature_of, invoked, invoke_found, invoked_signature, roots_differ, AsStatement}

-- 17. A guard is boolean. 21. Conditions of `if`, `elsif`, `while` and `until` are boolean. 22. Bounds of `for` are integers.
-- 25. The value behind `on` is an integer.
abbrev pub wants : Scope → ℕ → (DataType → Bool) → Expr → List Breach
wants v rule p e = (typed v e).breaches ++ asks rule (expr_place e) (fits p (typed v e).is)

abbrev pub wants_if_any : Scope → ℕ → (DataType → Bool) → Option Expr → List Breach
wants_if_any v rule p None = []
wants_if_any v rule p (Some e) = wants v rule p e

-- 20. Both sides of `:=` have one type.
abbrev pub assigns : Place → Found DataType → Found DataType → List Breach
assigns at left right = left.breaches ++ (right.breaches ++ asks 20 at (agree left.is right.is))

-- 23. `return` has a value of the result's type in a body with a result, and none elsewhere.
abbrev pub returns : Option (Option DataType) → Place → Option (Found DataType) → List Breach
returns None at None = []
returns None at (Some e) = breaks 23 at ++ e.breaches
returns (Some t) at None = breaks 23 at
returns (Some t) at (Some e) = e.breaches ++ asks 23 at (agree t e.is)

abbrev pub value_found : Scope → Option Expr → Option (Found DataType)
value_found v None = None
value_found v (Some e) = Some (typed v e)

-- 34. Arguments of `WriteLine` are integers, booleans, chars, strings or enumeration values.
abbrev pub printed : Scope → Exprs → List Breach
printed v syn.no_expr = []
printed v (syn.expr e es) = wants v 34 is_printed e ++ printed v es

-- 38. `insert`, `delete` and `from` have a designator that may be written of a set or bag; the element has its element type.
abbrev pub changes : Place → Found DataType → Found DataType → List Breach
changes at element all = element.breaches ++ (all.breaches ++ asks 38 at (is_element element.is all.is))

-- ---- `fork`

pub data Forked : Type 0 where
  Unknown NoProcess : Forked
  AProcess : Signature → Forked

abbrev pub top_process : Scope → TopName → What → Forked
top_process v t (top.Process ps b) = AProcess (signature v.program t.defined.by ps None b)
top_process v t _ = NoProcess

abbrev pub outer_process : Scope → StandsFor → Forked
outer_process v top.Nothing = Unknown
outer_process v (top.Top i t) = top_process v t t.what
outer_process v _ = NoProcess

abbrev pub process_of : Scope → Name → Option Local → Forked
process_of v n (Some l) = NoProcess
process_of v n None = outer_process v (stands_for v.program v.home n.text)

abbrev pub forked : Scope → Name → Forked
forked v n = process_of v n (local v n.text)

-- 24. The name behind `fork` is a process. (29: There are as many arguments as parameters.)
abbrev pub fork_rules : Name → Exprs → Forked → List Breach
fork_rules n es Unknown = breaks 2 n.at
fork_rules n es NoProcess = breaks 24 n.at
fork_rules n es (AProcess s) = called_well AsStatement n.at n s es

abbrev pub forked_signature : Forked → Signature
forked_signature (AProcess s) = s
forked_signature _ = record { formals = []; result = None }

-- 1. An implementation holds no `fork`. 14. `fork` stands only in a process.
abbrev pub forks : Scope → Place → List Breach
forks v at = asks 1 at (is_plain v.owner) ++ asks 14 at (may_fork v.owner)

-- ---- loops

-- a loop's variable is an integer in its body
abbrev pub with_loop : Scope → Name → Scope
with_loop v n =
    record {
      program = v.program;
      home = v.home;
      locals = record { name = n.text; role = LoopVariable; type = Some (plain types.Integer) } ∷ v.locals;
      owner = v.owner;
      result = v.result;
      in_guard = v.in_guard;
    }

abbrev pub own_locals : Scope → List (List ℕ)
own_locals v = map (λ l. l.name) (filter (λ l. not (is_field l.role)) v.locals)

abbrev pub field_names : Scope → List (List ℕ)
field_names v = map (λ l. l.name) (filter (λ l. is_field l.role) v.locals)

-- 3. No name is declared twice among the parameters, variables and enclosing loop variables of one body.
-- 4. A loop variable doesn't bear the name of a visible top-level declaration, and in an implementation not that of a field.
abbrev pub counts : Scope → Name → List Breach
counts v n =
    asks 3 n.at (not (is_among (own_locals v) n.text))
    ++ asks 4 n.at (not (sees v.program v.home n.text) && not (is_among (field_names v) n.text))

-- ---- statements

abbrev mutual
  pub stmt_breaches : Scope → Stmt → List Breach
  stmt_breaches v (syn.Return at value) = returns v.result at (value_found v value)
  stmt_breaches v (syn.If at as_) = arms_breaches v as_
  stmt_breaches v (syn.While at test ss) = wants v 21 is_boolean test ++ stmts_breaches v ss
  stmt_breaches v (syn.For at n low high ss) =
      counts v n ++ (wants v 22 is_integer low ++ (wants v 22 is_integer high ++ stmts_breaches (with_loop v n) ss))
  stmt_breaches v (syn.Repeat at ss test) = stmts_breaches v ss ++ wants v 21 is_boolean test
  stmt_breaches v (syn.Fork at n es on) =
      forks v at ++ (fork_rules n es (forked v n) ++ (arguments v (forked_signature (forked v n)).formals es
      ++ (roots_differ (forked_signature (forked v n)).formals es ++ wants_if_any v 25 is_integer on)))
  stmt_breaches v (syn.WriteLine at es) = acts v at ++ printed v es
  stmt_breaches v (syn.Insert at e n p) = changes (expr_place e) (typed v e) (gathering n.at (walked v (written_root v 38 n) p))
  stmt_breaches v (syn.Delete at e n p) = changes (expr_place e) (typed v e) (gathering n.at (walked v (written_root v 38 n) p))
  stmt_breaches v (syn.Assign n p e) = assigns n.at (walked v (written_root v 19 n) p) (typed v e)
  stmt_breaches v (Stmt.Call n es) =
      (call_found v AsStatement n es (called v n) (arguments v (signature_of (called v n)).formals es)).breaches
  stmt_breaches v (Stmt.Invoke o m es) =
      (invoke_found v AsStatement o m es (invoked v o m) (arguments v (invoked_signature (invoked v o m)).formals es)).breaches

  pub stmts_breaches : Scope → Stmts → List Breach
  stmts_breaches v syn.no_stmt = []
  stmts_breaches v (syn.stmt s ss) = stmt_breaches v s ++ stmts_breaches v ss

  pub arms_breaches : Scope → Arms → List Breach
  arms_breaches v syn.no_arm = []
  arms_breaches v (syn.arm a as_) = arm_breaches v a ++ arms_breaches v as_

  pub arm_breaches : Scope → Arm → List Breach
  arm_breaches v (syn.When test ss) = wants v 21 is_boolean test ++ stmts_breaches v ss
  arm_breaches v (syn.Otherwise ss) = stmts_breaches v ss
