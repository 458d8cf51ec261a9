-- Statements (docs/LANGUAGE.md, Statements), by recursion on the syntax.
use Rattle.std.specs.Prelude.{ℕ, ℤ, List, [], ◌∷◌, map, Option, Some, None, slice_get, Result, Ok}
use Rattle.std.specs.Option.{option_map_or}
use Rattle.orca_base.specs.declared.fault.FaultKind.{FaultKind}
use Rattle.orca_tree.specs.declared.tree.Name.{Name}
use Rattle.orca_syntax.specs.Syntax as syn
use Rattle.orca_syntax.specs.Syntax.{Expr, Path, Exprs, Stmt, Stmts, Arm, Arms, Definition}
use Rattle.link_rules.specs.Units.{Source, values_of}
use Rattle.type_rules.specs.declared.types.Base.TheVariants as base
use Rattle.type_rules.specs.Types as types
use Rattle.type_rules.specs.Types.{Outside, outside_of}
use Rattle.type_rules.specs.TopLevel as top
use Rattle.type_rules.specs.TopLevel.{What, top_names}
use Rattle.type_rules.specs.Scopes.{Scope}
use Rattle.type_rules.specs.Expressions.{typed}
use Rattle.type_rules.specs.Statements.{with_loop}
use Rattle.value_core.specs.Datum.{Datum}
use Rattle.value_ops.specs.Texts.{joined, text_of}
use Rattle.meaning_rules.specs.Operators.{and_then}
use Rattle.meaning_rules.specs.Operators.{integer_in, fitting}
use Rattle.meaning_rules.specs.States.{State, Out, Goes, after, gives}
use Rattle.meaning_rules.specs.Designators.{root_type}
use Rattle.meaning_rules.specs.Variables.{Target, target, store, put, drop_element}
use Rattle.meaning_rules.specs.Calls.{Calls, callee, modes_of, fresh_node, invoked, operate, fork, write}
use Rattle.meaning_rules.specs.Expressions.{eval, eval_path, eval_all, eval_passed}
use Rattle.meaning_rules.specs.Loops.{Flow, On, Back, go_on, when, always, otherwise, while_round, until_round, repeated, between}

-- ---- texts

-- the names of an enumeration's values; of any other type there are none
abbrev pub names_in : What → List (List ℕ)
names_in (top.TypeName of) = map (λ n. n.text) (values_of of)
names_in _ = []

abbrev pub names_at : List Source → Outside → List (List ℕ)
names_at us (types.Bare (base.Enumeration i)) = option_map_or (λ t. names_in t.what) (slice_get (top_names us) i) []
names_at us _ = []

abbrev pub names_of : Scope → Expr → List (List ℕ)
names_of v e = option_map_or (λ t. names_at v.program (outside_of t)) (typed v e).is []

-- the texts of arguments with these values, in a row
abbrev pub texts_of : Scope → Exprs → List Datum → List (List ℕ)
texts_of v (syn.expr e es) (x ∷ xs) = text_of (names_of v e) x ∷ texts_of v es xs
texts_of v _ _ = []

abbrev pub line_of : List ℕ → List (List ℕ) → Result (List ℕ) FaultKind
line_of front [] = Ok front
line_of front (t ∷ ts) = and_then (joined front t) (λ s. line_of s ts)

module _ (call : Calls) where
  -- ---- statements that hold no other

  -- an assignment evaluates the indices of its left side, then its right side, and stores
  abbrev pub assign : Scope → Name → Path → Expr → State → Out Flow
  assign v n p e s =
      after (eval_path call v (root_type v n) p s) (λ path s1.
      after (eval call v e s1) (λ x s2.
      after (store (target v n path) x s2) (λ _ s3. Goes On s3)))

  -- `insert` and `delete` evaluate the element, then the indices of the set or bag
  abbrev pub change_elements : (Target → Datum → State → Out (Unit {0})) → Scope → Expr → Name → Path → State → Out Flow
  change_elements by v e n p s =
      after (eval call v e s) (λ x s1.
      after (eval_path call v (root_type v n) p s1) (λ path s2.
      after (by (target v n path) x s2) (λ _ s3. Goes On s3)))

  -- `return`
  abbrev pub give_back : Scope → Option Expr → State → Out Flow
  give_back v None s = Goes (Back None) s
  give_back v (Some e) s = after (eval call v e s) (λ x s1. after (gives (fitting x) s1) (λ y s2. Goes (Back (Some y)) s2))

  -- calls of a function and of an operation
  abbrev pub call_function : Scope → Name → Exprs → State → Out Flow
  call_function v n es s =
      after (eval_passed call v (modes_of (callee v n)) es s) (λ ps s1.
      after (invoked call (callee v n) (fresh_node v es) ps s1) (λ _ s2. Goes On s2))

  abbrev pub call_operation : Scope → Name → Name → Exprs → State → Out Flow
  call_operation v o m es s = after (eval_all call v es s) (λ xs s1. after (operate v o m xs s1) (λ _ s2. Goes On s2))

  -- `fork` evaluates its arguments, then the member
  abbrev pub member : Scope → Option Expr → State → Out (Option ℤ)
  member v None s = Goes None s
  member v (Some e) s = after (eval call v e s) (λ x s1. Goes (Some (integer_in x)) s1)

  abbrev pub fork_process : Scope → Name → Exprs → Option Expr → State → Out Flow
  fork_process v p es on s =
      after (eval_all call v es s) (λ xs s1. after (member v on s1) (λ m s2. after (fork v p xs m s2) (λ _ s3. Goes On s3)))

  -- `WriteLine` evaluates all of its arguments, and then joins their texts
  abbrev pub write_line : Scope → Exprs → State → Out Flow
  write_line v es s =
      after (eval_all call v es s) (λ xs s1.
      after (gives (line_of [] (texts_of v es xs)) s1) (λ line s2.
      after (write line s2) (λ _ s3. Goes On s3)))

  -- ---- statements

  abbrev mutual
    pub run : Scope → Stmt → State → Out Flow
    run v (syn.Return at e) s = give_back v e s
    run v (syn.If at as_) s = run_arms v as_ s
    run v (syn.While at test ss) s = repeated (while_round (eval call v test) (run_all v ss)) s
    run v (syn.For at n low high ss) s = between (eval call v low) (eval call v high) (run_all (with_loop v n) ss) s
    run v (syn.Repeat at ss test) s = repeated (until_round (eval call v test) (run_all v ss)) s
    run v (syn.Fork at p es on) s = fork_process v p es on s
    run v (syn.WriteLine at es) s = write_line v es s
    run v (syn.Insert at e n p) s = change_elements put v e n p s
    run v (syn.Delete at e n p) s = change_elements drop_element v e n p s
    run v (syn.Assign n p e) s = assign v n p e s
    run v (Stmt.Call n es) s = call_function v n es s
    run v (Stmt.Invoke o m es) s = call_operation v o m es s

    pub run_all : Scope → Stmts → State → Out Flow
    run_all v syn.no_stmt s = Goes On s
    run_all v (syn.stmt x xs) s = after (run v x s) (λ flow s1. go_on flow s1 (run_all v xs))

    pub run_arms : Scope → Arms → State → Out Flow
    run_arms v syn.no_arm s = Goes On s
    run_arms v (syn.arm a as_) s = after (run_arm v a s) (λ taken s1. otherwise taken s1 (run_arms v as_))

    pub run_arm : Scope → Arm → State → Out (Option Flow)
    run_arm v (syn.When test ss) s = when (eval call v test) (run_all v ss) s
    run_arm v (syn.Otherwise ss) s = always (run_all v ss) s
