-- Statements and expressions make no objects.
use Rattle.std.proofs.Common.{ℕ, List, [], ◌∷◌, drop, Option, Some, None}
use Rattle.orca_tree.specs.declared.tree.Mode.{Mode}
use Rattle.orca_tree.specs.declared.tree.Name.{Name}
use Rattle.orca_syntax.specs.Syntax as syn
use Rattle.orca_syntax.specs.Syntax.{Expr, Links, Step, Path, Exprs, Stmt, Stmts, Arms}
use Rattle.type_rules.specs.Scopes.{Scope, Local, local}
use Rattle.type_rules.specs.Statements.{with_loop}
use Rattle.value_core.specs.Datum.{Datum}
use Rattle.meaning_rules.specs.Calls.{Callee, AFunction, Adds, Deletes, NoFunction, callee, first_mode, fresh_node, modes_of}
use Rattle.meaning_rules.specs.Designators.{outer_value, root_type}
use Rattle.type_rules.specs.TopLevel.{stands_for}
use Rattle.code_rules.specs.Instructions.{Mark, Shape}
use Rattle.code_rules.specs.Layouts.{Layout, free, inside}
use Rattle.code_rules.specs.Pieces.{is_short}
use Rattle.code_rules.specs.Phrases.{all_code, arms_code, calling, call_of, constant, count_all, expr_code, fork_code, links_code, marks, passed_code, path_code, read_as, reading, return_code, shapes_of, step_code, stmt_code, stmts_code, target_code}
use Rattle.code_numbers.proofs.Below.{IsBelow, PieceBelow, append_below, link_below, mode_below, choice_below, while_below, repeat_below, loop_below}

-- ---- one instruction

constant_below : (n : ℕ) (x : Datum) (ms : List Mark) → IsBelow n (constant x ms)
constant_below n x [] = tt
constant_below n x (m ∷ ms) = tt

read_below : (n : ℕ) (v : Scope) (l : Layout) (name : Name) (ms : List Mark) (o : Option Local) → IsBelow n (read_as v l name ms o)
read_below n v l name ms (Some x) = tt
read_below n v l name ms None = constant_below n (outer_value v.program (stands_for v.program v.home name.text)) ms

reading_below : (n : ℕ) (v : Scope) (l : Layout) (name : Name) (ms : List Mark) → IsBelow n (reading v l name ms)
reading_below n v l name ms = read_below n v l name ms (local v name.text)

call_below : (n : ℕ) (c : Callee) (fresh : Datum) (shapes : List Shape) → IsBelow n (call_of c fresh shapes)
call_below n (AFunction i modes) fresh shapes = tt
call_below n Adds fresh shapes = tt
call_below n Deletes fresh shapes = tt
call_below n NoFunction fresh shapes = tt

calling_below : (n : ℕ) (v : Scope) (l : Layout) (name : Name) (es : Exprs) → IsBelow n (calling v l name es)
calling_below n v l name es = call_below n (callee v name) (fresh_node v es) (shapes_of v l (modes_of (callee v name)) es)

-- ---- expressions

mutual
  pub expr_below : (n : ℕ) (e : Expr) (v : Scope) (l : Layout) → PieceBelow n (expr_code v l e)
  expr_below n (syn.Chain first ls) v l pc = append_below n (expr_code v l first pc) _ (expr_below n first v l pc) (links_below n ls v l _)
  expr_below n (syn.Number at value) v l pc = (tt, tt)
  expr_below n (syn.Char at code) v l pc = (tt, tt)
  expr_below n (syn.Text at text) v l pc = (tt, tt)
  expr_below n (syn.Truth at value) v l pc = (tt, tt)
  expr_below n (syn.Not at e) v l pc = append_below n (expr_code v l e pc) _ (expr_below n e v l pc) (tt, tt)
  expr_below n (syn.Negative at e) v l pc = append_below n (expr_code v l e pc) _ (expr_below n e v l pc) (tt, tt)
  expr_below n (syn.Size at e) v l pc = append_below n (expr_code v l e pc) _ (expr_below n e v l pc) (tt, tt)
  expr_below n (syn.Ordinal at e) v l pc = append_below n (expr_code v l e pc) _ (expr_below n e v l pc) (tt, tt)
  expr_below n (syn.Parentheses at e) v l pc = expr_below n e v l pc
  expr_below n (syn.From at name p) v l pc = append_below n (path_code v l p pc) _ (path_below n p v l pc) (tt, tt)
  expr_below n (syn.Get name p) v l pc =
      append_below n (path_code v l p pc) _ (path_below n p v l pc) (reading_below n v l name (marks v (root_type v name) p), tt)
  expr_below n (Expr.Call name es) v l pc =
      append_below n (passed_code v l (modes_of (callee v name)) es pc) _ (passed_below n (modes_of (callee v name)) es v l pc) (calling_below n v l name es, tt)
  expr_below n (Expr.Invoke object operation es) v l pc = append_below n (all_code v l es pc) _ (all_below n es v l pc) (tt, tt)

  links_below : (n : ℕ) (ls : Links) (v : Scope) (l : Layout) → PieceBelow n (links_code v l ls)
  links_below n syn.no_link v l pc = tt
  links_below n (syn.link op e ls) v l pc =
      append_below n _ (links_code v l ls _) (link_below n (is_short op) op (expr_code v l e) (expr_below n e v l) pc) (links_below n ls v l _)

  path_below : (n : ℕ) (p : Path) (v : Scope) (l : Layout) → PieceBelow n (path_code v l p)
  path_below n syn.here v l pc = tt
  path_below n (syn.to x p) v l pc = append_below n (step_code v l x pc) _ (step_below n x v l pc) (path_below n p v l _)

  step_below : (n : ℕ) (x : Step) (v : Scope) (l : Layout) → PieceBelow n (step_code v l x)
  step_below n (syn.Field at name) v l pc = tt
  step_below n (syn.Index at e) v l pc = expr_below n e v l pc

  all_below : (n : ℕ) (es : Exprs) (v : Scope) (l : Layout) → PieceBelow n (all_code v l es)
  all_below n syn.no_expr v l pc = tt
  all_below n (syn.expr e es) v l pc = append_below n (expr_code v l e pc) _ (expr_below n e v l pc) (all_below n es v l _)

  passed_below : (n : ℕ) (ms : List Mode) (es : Exprs) (v : Scope) (l : Layout) → PieceBelow n (passed_code v l ms es)
  passed_below n ms syn.no_expr v l pc = tt
  passed_below n ms (syn.expr e es) v l pc =
      append_below n _ (passed_code v l (drop 1 ms) es _)
      (mode_below n (first_mode ms) (expr_code v l e) (target_code v l e) (expr_below n e v l) (target_below n e v l) pc)
      (passed_below n (drop 1 ms) es v l _)

  target_below : (n : ℕ) (e : Expr) (v : Scope) (l : Layout) → PieceBelow n (target_code v l e)
  target_below n (syn.Get name p) v l pc = path_below n p v l pc
  target_below n (syn.Chain first ls) v l pc = tt
  target_below n (syn.Number at value) v l pc = tt
  target_below n (syn.Char at code) v l pc = tt
  target_below n (syn.Text at text) v l pc = tt
  target_below n (syn.Truth at value) v l pc = tt
  target_below n (syn.Not at e) v l pc = tt
  target_below n (syn.Negative at e) v l pc = tt
  target_below n (syn.Parentheses at e) v l pc = tt
  target_below n (syn.From at name p) v l pc = tt
  target_below n (syn.Size at e) v l pc = tt
  target_below n (syn.Ordinal at e) v l pc = tt
  target_below n (Expr.Call name es) v l pc = tt
  target_below n (Expr.Invoke object operation es) v l pc = tt

-- ---- statements

return_below : (n : ℕ) (e : Option Expr) (v : Scope) (l : Layout) → PieceBelow n (return_code v l e)
return_below n None v l pc = (tt, tt)
return_below n (Some e) v l pc = append_below n (expr_code v l e pc) _ (expr_below n e v l pc) (tt, tt)

fork_below : (n : ℕ) (name : Name) (k : ℕ) (e : Option Expr) (v : Scope) (l : Layout) → PieceBelow n (fork_code v l name k e)
fork_below n name k None v l pc = (tt, (tt, tt))
fork_below n name k (Some e) v l pc = append_below n (expr_code v l e pc) _ (expr_below n e v l pc) (tt, (tt, tt))

mutual
  pub stmt_below : (n : ℕ) (x : Stmt) (v : Scope) (l : Layout) → PieceBelow n (stmt_code v l x)
  stmt_below n (syn.Return at e) v l pc = return_below n e v l pc
  stmt_below n (syn.If at as_) v l pc = arms_below n as_ v l pc
  stmt_below n (syn.While at test ss) v l pc =
      while_below n (expr_code v l test) (stmts_code v l ss) (expr_below n test v l) (stmts_below n ss v l) pc
  stmt_below n (syn.For at name low high ss) v l pc =
      append_below n (expr_code v l low pc) _ (expr_below n low v l pc) (append_below n (expr_code v l high _) _ (expr_below n high v l _)
      (loop_below n (free l) (stmts_code (with_loop v name) (inside l) ss) (stmts_below n ss (with_loop v name) (inside l)) _))
  stmt_below n (syn.Repeat at ss test) v l pc =
      repeat_below n (stmts_code v l ss) (expr_code v l test) (stmts_below n ss v l) (expr_below n test v l) pc
  stmt_below n (syn.Fork at name es on) v l pc =
      append_below n (all_code v l es pc) _ (all_below n es v l pc) (fork_below n name (count_all es) on v l _)
  stmt_below n (syn.WriteLine at es) v l pc = append_below n (all_code v l es pc) _ (all_below n es v l pc) (tt, (tt, (tt, tt)))
  stmt_below n (syn.Insert at e name p) v l pc =
      append_below n (expr_code v l e pc) _ (expr_below n e v l pc) (append_below n (path_code v l p _) _ (path_below n p v l _) (tt, tt))
  stmt_below n (syn.Delete at e name p) v l pc =
      append_below n (expr_code v l e pc) _ (expr_below n e v l pc) (append_below n (path_code v l p _) _ (path_below n p v l _) (tt, tt))
  stmt_below n (syn.Assign name p e) v l pc =
      append_below n (path_code v l p pc) _ (path_below n p v l pc) (append_below n (expr_code v l e _) _ (expr_below n e v l _) (tt, tt))
  stmt_below n (Stmt.Call name es) v l pc =
      append_below n (passed_code v l (modes_of (callee v name)) es pc) _ (passed_below n (modes_of (callee v name)) es v l pc) (calling_below n v l name es, (tt, tt))
  stmt_below n (Stmt.Invoke object operation es) v l pc = append_below n (all_code v l es pc) _ (all_below n es v l pc) (tt, (tt, tt))

  pub stmts_below : (n : ℕ) (ss : Stmts) (v : Scope) (l : Layout) → PieceBelow n (stmts_code v l ss)
  stmts_below n syn.no_stmt v l pc = tt
  stmts_below n (syn.stmt x xs) v l pc = append_below n (stmt_code v l x pc) _ (stmt_below n x v l pc) (stmts_below n xs v l _)

  arms_below : (n : ℕ) (as_ : Arms) (v : Scope) (l : Layout) → PieceBelow n (arms_code v l as_)
  arms_below n syn.no_arm v l pc = tt
  arms_below n (syn.arm (syn.When test ss) as_) v l pc =
      choice_below n (expr_code v l test) (stmts_code v l ss) (arms_code v l as_) (expr_below n test v l) (stmts_below n ss v l) (arms_below n as_ v l) pc
  arms_below n (syn.arm (syn.Otherwise ss) as_) v l pc = stmts_below n ss v l pc
