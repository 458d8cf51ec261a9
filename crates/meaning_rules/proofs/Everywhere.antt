-- What holds of all that evaluations are made of (Closed.antt) holds of every phrase, function and process.
use Rattle.std.proofs.Common.{refl}
use Rattle.std.specs.Prelude.{◌≡◌, ℕ, zero, suc, ◌+◌, ℤ, pos, ◌+ℤ◌, List, [], ◌∷◌, ◌++◌, Bool, true, false, Option, Some, None, Result, Ok, drop, length, slice_get, slice_set, ok_or, is_some}
use Rattle.orca_base.specs.declared.fault.FaultKind.{FaultKind}
use Rattle.orca_base.specs.declared.fault.FaultKind.TheVariants.{IndexOutside, NoReturn, TooDeep}
use Rattle.orca_base.specs.declared.ids.ProcessNo.{ProcessNo}
use Rattle.orca_tree.specs.declared.tree.Name.{Name}
use Rattle.orca_tree.specs.declared.tree.Mode.{Mode}
use Rattle.orca_tree.specs.declared.tree.Mode.TheVariants as mode
use Rattle.orca_tree.specs.declared.tree.Operator.{Operator}
use Rattle.orca_syntax.specs.Syntax as syn
use Rattle.orca_syntax.specs.Syntax.{Expr, Links, Step, Path, Exprs, Stmt, Stmts, Arm, Arms}
use Rattle.type_rules.specs.declared.types.DataType.{DataType}
use Rattle.type_rules.specs.Scopes.{Scope, Local, local}
use Rattle.type_rules.specs.Statements.{with_loop}
use Rattle.value_core.specs.Datum.{Datum, Data}
use Rattle.value_core.specs.Datum as datum
use Rattle.value_ops.specs.Elements.{least_of, without_least, inserted, deleted}
use Rattle.graph_values.specs.Graphs as graphs
use Rattle.value_paths.specs.declared.step.Step.{Step as ValueStep}
use Rattle.value_paths.specs.Paths.{part_at}
use Rattle.meaning_rules.specs.Operators.{and_then}
use Rattle.meaning_rules.specs.Operators.{integer_in, truth_in, decides, applied, fitting}
use Rattle.meaning_rules.specs.States.{State, Out, Goes, gives}
use Rattle.meaning_rules.specs.Designators.{root_type, stepped_type, value_in}
use Rattle.meaning_rules.specs.Variables.{Target, target, load, held, change, enlarge, store, put, drop_element, take, stored}
use Rattle.value_core.specs.Datum.{data_of}
use Rattle.value_core.specs.History.{output_kind, output_object}
use Rattle.value_core.specs.declared.action.Action.{Action}
use Rattle.value_core.specs.declared.action.Action.TheVariants as action
use Rattle.meaning_rules.specs.Programs.{kind_of, op_of, text_of}
use Rattle.meaning_rules.specs.States.{act}
use Rattle.meaning_rules.specs.Operators.{fitting_all}
use Rattle.meaning_rules.specs.Calls.{object_number, Calls, Passed, Given, Lent, Callee, AFunction, Adds, Deletes, NoFunction, as_passed, first_mode, callee, modes_of, fresh_node, invoked, operate, fork, write, id_in}
use Rattle.meaning_rules.specs.Expressions.{eval, eval_links, eval_path, eval_step, eval_all, eval_passed, eval_target, joined_with}
use Rattle.meaning_rules.specs.Loops.{Flow, On, Back, Over, Again, Leave, always, taken_if, otherwise, ended, round_if, until, without_name, counted_round, count, rounds}
use Rattle.meaning_rules.specs.Statements.{change_elements, give_back, member, line_of, texts_of, run, run_all, run_arms, run_arm}
use Rattle.orca_syntax.specs.Syntax.{Block}
use Rattle.link_rules.specs.Units.{Source}
use Rattle.type_rules.specs.TopLevel as top
use Rattle.type_rules.specs.TopLevel.{What, TopName, top_names, stands_for}
use Rattle.value_core.specs.Datum.{list_of}
use Rattle.meaning_rules.specs.States.{Stops, Busy, after}
use Rattle.meaning_rules.specs.Designators.{slot, outer_value}
use Rattle.meaning_rules.specs.Variables.{changed_at}
use Rattle.meaning_rules.specs.Loops.{Round, go_on, while_round, until_round, repeated}
use Rattle.meaning_rules.specs.Programs.{function_scope, process_scope}
use Rattle.meaning_rules.specs.Functions.{hand_back, leave, returned, own_frame, enter_body, enter_what, enter, calls, all_calls}
use Rattle.meaning_rules.specs.Processes.{own_object, make, behind, variable_made, variables_made, object_type_of, block_run, what_run, text_run}
use Rattle.meaning_rules.proofs.Closed.{Closed, Makes, is_of_statement, of_while, of_until}

module _ (G : (A : Type 0) → (State → Out A) → Type 0) (c : Closed G) where
  given_holds : (A : Type 0) (r : Result A FaultKind) → G A (λ s. gives r s)
  given_holds A r = c.gives A (λ frame. r)

  -- ---- variables

  -- the value of a name, which the body has or the text
  value_holds : (A : Type 0) (v : Scope) (n : Name) (make : Result Datum FaultKind → Result A FaultKind) (l : Option Local) →
      G A (λ s. gives (make (value_in v n s l)) s)
  value_holds A v n make None = given_holds A _
  value_holds A v n make (Some l) = c.gives A (λ frame. make (ok_or (slice_get frame (slot v n)) IndexOutside))

  pub load_holds : (v : Scope) (n : Name) (path : List ValueStep) → G Datum (load v n path)
  load_holds v n path = value_holds Datum v n (λ r. and_then r (part_at path)) (local v n.text)

  stored_holds : (place : ℕ) (whole : Datum) → G (Unit {0}) (λ s. Goes tt (stored place whole s))
  stored_holds place whole = c.framed (Unit {0}) (λ frame s. Goes tt s) (λ frame. slice_set frame place whole) (λ frame. c.goes (Unit {0}) tt)

  written_holds : (place : ℕ) (r : List Datum → Result Datum FaultKind) →
      G (Unit {0}) (λ s. after (gives (r s.frame) s) (λ whole s1. Goes tt (stored place whole s1)))
  written_holds place r = c.then Datum (Unit {0}) _ _ (c.gives Datum r) (λ whole. stored_holds place whole)

  pub change_holds : (to : Target) (by : Datum → Result Datum FaultKind) → G (Unit {0}) (change to by)
  change_holds to by = written_holds to.slot (λ frame. and_then (ok_or (slice_get frame to.slot) IndexOutside) (changed_at to.path by))

  enlarge_holds : (to : Target) (by : Datum → Result Datum FaultKind) → G (Unit {0}) (enlarge to by)
  enlarge_holds to by =
      written_holds to.slot (λ frame. and_then (and_then (ok_or (slice_get frame to.slot) IndexOutside) (changed_at to.path by)) fitting)

  pub store_holds : (to : Target) (x : Datum) → G (Unit {0}) (store to x)
  store_holds to x = enlarge_holds to (λ old. Ok x)

  pub put_holds : (to : Target) (x : Datum) → G (Unit {0}) (put to x)
  put_holds to x = enlarge_holds to (λ all. Ok (inserted x all))

  pub drop_holds : (to : Target) (x : Datum) → G (Unit {0}) (drop_element to x)
  drop_holds to x = change_holds to (λ all. Ok (deleted x all))

  pub held_holds : (to : Target) → G Datum (held to)
  held_holds to = c.gives Datum (λ frame. and_then (ok_or (slice_get frame to.slot) IndexOutside) (part_at to.path))

  pub take_holds : (to : Target) → G Datum (take to)
  take_holds to =
      c.then _ _ _ _ (held_holds to) (λ all.
      c.then _ _ _ _ (given_holds Datum (least_of all)) (λ least.
      c.then _ _ _ _ (change_holds to (λ old. Ok (without_least old))) (λ _. c.goes Datum least)))

  -- ---- calls

  module _ (call : Calls) (call_holds : (i : ℕ) (ps : List Passed) → G (Option Datum) (call i ps)) where
    pub invoked_holds : (f : Callee) (fresh : Datum) (ps : List Passed) → G (Option Datum) (invoked call f fresh ps)
    invoked_holds (AFunction i ms) fresh ps = c.then _ _ _ _ (given_holds _ _) (λ _. call_holds i ps)
    invoked_holds Adds fresh (Lent to ∷ ps) =
        c.then _ _ _ _ (held_holds to) (λ graph.
        c.then _ _ _ _ (given_holds _ (graphs.added fresh graph)) (λ new. c.then _ _ _ _ (store_holds to new.1) (λ _. c.goes _ _)))
    invoked_holds Deletes fresh (Given name ∷ Lent to ∷ ps) =
        c.then _ _ _ _ (change_holds to (graphs.deleted (integer_in name))) (λ _. c.goes _ None)
    invoked_holds Adds fresh [] = c.faults _ NoReturn
    invoked_holds Adds fresh (Given x ∷ ps) = c.faults _ NoReturn
    invoked_holds Deletes fresh [] = c.faults _ NoReturn
    invoked_holds Deletes fresh (Lent to ∷ ps) = c.faults _ NoReturn
    invoked_holds Deletes fresh (Given x ∷ []) = c.faults _ NoReturn
    invoked_holds Deletes fresh (Given x ∷ Given y ∷ ps) = c.faults _ NoReturn
    invoked_holds NoFunction fresh ps = c.faults _ NoReturn

  -- ---- actions

  called_holds : (v : Scope) (o : Name) (a : Result Datum FaultKind → Action) → ((r : Result Datum FaultKind) → is_of_statement (a r) ≡ true) →
      (l : Option Local) → G (Option Datum) (λ s. act (a (value_in v o s l)) s)
  called_holds v o a calls None = c.acts (λ frame. a (Ok (outer_value v.program (stands_for v.program v.home o.text)))) (λ frame. calls _)
  called_holds v o a calls (Some l) = c.acts (λ frame. a (ok_or (slice_get frame (slot v o)) IndexOutside)) (λ frame. calls _)

  pub operate_holds : (v : Scope) (o m : Name) (xs : List Datum) → G (Option Datum) (operate v o m xs)
  operate_holds v o m xs =
      c.then _ _ _ _ (given_holds _ (fitting_all (data_of xs))) (λ args.
      called_holds v o
      (λ r. action.Call (kind_of v.program (object_number (root_type v o))) (op_of v.program (object_number (root_type v o)) m.text) (id_in r) args)
      (λ r. refl) (local v o.text))

  pub fork_holds : (v : Scope) (p : Name) (xs : List Datum) (on : Option ℤ) → G (Option Datum) (fork v p xs on)
  fork_holds v p xs on = c.then _ _ _ _ (given_holds _ (fitting_all (data_of xs))) (λ args. c.acts (λ _. action.Fork (text_of v.program p.text) args on) (λ _. refl))

  pub write_holds : (line : List ℕ) → G (Option Datum) (write line)
  write_holds line = c.acts (λ _. action.Call output_kind (record { 0 = 0 }) output_object (datum.more (datum.text line) datum.none)) (λ _. refl)

  -- ---- expressions

  pub joined_holds : (decides : Bool) (operator : Operator) (left : Datum) (right : State → Out Datum) → G Datum right →
      G Datum (joined_with decides operator left right)
  joined_holds true operator left right h = c.goes _ left
  joined_holds false operator left right h = c.then _ _ _ _ h (λ x. given_holds _ (applied operator left x))

  pub passed_holds : (m : Mode) (value : State → Out Datum) (place : State → Out Target) → G Datum value → G Target place →
      G Passed (as_passed m value place)
  passed_holds mode.Value value place h i = c.then _ _ _ _ h (λ x. c.goes _ (Given x))
  passed_holds mode.Shared value place h i = c.then _ _ _ _ h (λ x. c.goes _ (Given x))
  passed_holds mode.Out value place h i = c.then _ _ _ _ i (λ to. c.goes _ (Lent to))

  -- ---- choices and loops

  pub go_on_holds : (flow : Flow) (next : State → Out Flow) → G Flow next → G Flow (λ s. go_on flow s next)
  go_on_holds On next h = h
  go_on_holds (Back x) next h = c.goes _ (Back x)

  pub always_holds : (body : State → Out Flow) → G Flow body → G (Option Flow) (always body)
  always_holds body h = c.then _ _ _ _ h (λ flow. c.goes _ (Some flow))

  pub taken_holds : (b : Bool) (body : State → Out Flow) → G Flow body → G (Option Flow) (taken_if b body)
  taken_holds true body h = always_holds body h
  taken_holds false body h = c.goes _ None

  pub otherwise_holds : (taken : Option Flow) (others : State → Out Flow) → G Flow others → G Flow (λ s. otherwise taken s others)
  otherwise_holds None others h = h
  otherwise_holds (Some flow) others h = c.goes _ flow

  ended_holds : (flow : Flow) → G Round (ended flow)
  ended_holds On = c.goes _ Again
  ended_holds (Back x) = c.goes _ (Leave x)

  pub round_if_holds : (b : Bool) (body : State → Out Flow) → G Flow body → G Round (round_if b body)
  round_if_holds true body h = c.then _ _ _ _ c.turns (λ _. c.then _ _ _ _ h ended_holds)
  round_if_holds false body h = c.goes _ Over

  pub until_holds : (test : State → Out Datum) → G Datum test → (flow : Flow) → G Round (until test flow)
  until_holds test h On = c.then _ _ _ _ h (λ x. c.goes _ _)
  until_holds test h (Back x) = c.goes _ (Leave x)

  pub while_holds : (test : State → Out Datum) (body : State → Out Flow) → G Datum test → G Flow body → G Flow (repeated (while_round test body))
  while_holds test body h k =
      c.repeats (while_round test body) (c.then _ _ _ _ h (λ x. round_if_holds (truth_in x) body k)) (of_while test body h k)

  pub repeat_holds : (test : State → Out Datum) (body : State → Out Flow) → G Datum test → G Flow body → G Flow (repeated (until_round test body))
  repeat_holds test body h k =
      c.repeats (until_round test body) (c.then _ _ _ _ c.turns (λ _. c.then _ _ _ _ k (until_holds test h))) (of_until test body h k)

  without_holds : (flow : Flow) → G Flow (λ s. Goes flow (without_name s))
  without_holds flow = c.framed Flow (λ frame s. Goes flow s) (λ frame. drop 1 frame) (λ frame. c.goes Flow flow)

  counted_holds : (i : ℤ) (body : State → Out Flow) → G Flow body → G Flow (counted_round i body)
  counted_holds i body h =
      c.then _ _ _ _ c.turns (λ _.
      c.framed Flow (λ frame s. after (body s) (λ flow s2. Goes flow (without_name s2))) (λ frame. datum.int i ∷ frame) (λ frame.
      c.then _ _ _ _ h without_holds))

  pub count_holds : (n : ℕ) (i : ℤ) (body : State → Out Flow) → G Flow body → G Flow (count n i body)
  count_holds zero i body h = c.goes _ On
  count_holds (suc n) i body h =
      c.then _ _ _ _ (counted_holds i body h) (λ flow. go_on_holds flow (count n (i +ℤ pos 1) body) (count_holds n (i +ℤ pos 1) body h))

  -- ---- the ends of functions

  pub hand_holds : (ps : List Passed) (ys : List Datum) → G (Unit {0}) (hand_back ps ys)
  hand_holds [] ys = c.goes _ tt
  hand_holds (Given x ∷ ps) [] = c.goes _ tt
  hand_holds (Lent to ∷ ps) [] = c.goes _ tt
  hand_holds (Given x ∷ ps) (y ∷ ys) = hand_holds ps ys
  hand_holds (Lent to ∷ ps) (y ∷ ys) = c.then _ _ _ _ (store_holds to y) (λ _. hand_holds ps ys)

  leave_holds : (ps : List Passed) (x : Option Datum) (outer : List Datum) → G (Option Datum) (leave ps x outer)
  leave_holds ps x outer =
      c.framed (Option Datum) (λ frame s. after (hand_back ps frame s) (λ _ s1. Goes x s1)) (λ frame. outer) (λ frame.
      c.then _ _ _ _ (hand_holds ps frame) (λ _. c.goes _ x))

  returned_holds : (has_result : Bool) (ps : List Passed) (outer : List Datum) (flow : Flow) → G (Option Datum) (returned has_result ps outer flow)
  returned_holds has_result ps outer (Back x) = leave_holds ps x outer
  returned_holds true ps outer On = c.faults _ NoReturn
  returned_holds false ps outer On = leave_holds ps None outer

  -- ---- phrases

  module _ (call : Calls) (call_holds : (i : ℕ) (ps : List Passed) → G (Option Datum) (call i ps)) where
    mutual
      pub eval_holds : (v : Scope) (e : Expr) → G Datum (eval call v e)
      eval_holds v (syn.Chain first ls) = c.then _ _ _ _ (eval_holds v first) (λ x. links_holds v ls x)
      eval_holds v (syn.Number at value) = c.goes _ _
      eval_holds v (syn.Char at code) = c.goes _ _
      eval_holds v (syn.Text at text) = given_holds _ _
      eval_holds v (syn.Truth at value) = c.goes _ _
      eval_holds v (syn.Not at e) = c.then _ _ _ _ (eval_holds v e) (λ x. c.goes _ _)
      eval_holds v (syn.Negative at e) = c.then _ _ _ _ (eval_holds v e) (λ x. given_holds _ _)
      eval_holds v (syn.Parentheses at e) = eval_holds v e
      eval_holds v (syn.From at n p) = c.then _ _ _ _ (path_holds v (root_type v n) p) (λ path. take_holds (target v n path))
      eval_holds v (syn.Size at e) = c.then _ _ _ _ (eval_holds v e) (λ x. c.goes _ _)
      eval_holds v (syn.Ordinal at e) = c.then _ _ _ _ (eval_holds v e) (λ x. c.goes _ _)
      eval_holds v (syn.Get n p) = c.then _ _ _ _ (path_holds v (root_type v n) p) (λ path. load_holds v n path)
      eval_holds v (Expr.Call n es) =
          c.then _ _ _ _ (arguments_holds v (modes_of (callee v n)) es) (λ ps.
          c.then _ _ _ _ (invoked_holds call call_holds (callee v n) (fresh_node v es) ps) (λ x. c.goes _ _))
      eval_holds v (Expr.Invoke o m es) =
          c.then _ _ _ _ (all_holds v es) (λ xs. c.then _ _ _ _ (operate_holds v o m xs) (λ x. c.goes _ _))

      pub links_holds : (v : Scope) (ls : Links) (left : Datum) → G Datum (eval_links call v ls left)
      links_holds v syn.no_link left = c.goes _ left
      links_holds v (syn.link operator e ls) left =
          c.then _ _ _ _ (joined_holds (decides operator left) operator left (eval call v e) (eval_holds v e)) (λ x. links_holds v ls x)

      pub path_holds : (v : Scope) (t : Option DataType) (p : Path) → G (List ValueStep) (eval_path call v t p)
      path_holds v t syn.here = c.goes _ _
      path_holds v t (syn.to x p) =
          c.then _ _ _ _ (step_holds v t x) (λ step. c.then _ _ _ _ (path_holds v (stepped_type v t x) p) (λ path. c.goes _ _))

      pub step_holds : (v : Scope) (t : Option DataType) (x : Step) → G ValueStep (eval_step call v t x)
      step_holds v t (syn.Field at f) = c.goes _ _
      step_holds v t (syn.Index at e) = c.then _ _ _ _ (eval_holds v e) (λ index. c.goes _ _)

      pub all_holds : (v : Scope) (es : Exprs) → G (List Datum) (eval_all call v es)
      all_holds v syn.no_expr = c.goes _ _
      all_holds v (syn.expr e es) = c.then _ _ _ _ (eval_holds v e) (λ x. c.then _ _ _ _ (all_holds v es) (λ xs. c.goes _ _))

      pub arguments_holds : (v : Scope) (modes : List Mode) (es : Exprs) → G (List Passed) (eval_passed call v modes es)
      arguments_holds v modes syn.no_expr = c.goes _ _
      arguments_holds v modes (syn.expr e es) =
          c.then _ _ _ _ (passed_holds (first_mode modes) (eval call v e) (eval_target call v e) (eval_holds v e) (target_holds v e)) (λ x.
          c.then _ _ _ _ (arguments_holds v (drop 1 modes) es) (λ xs. c.goes _ _))

      pub target_holds : (v : Scope) (e : Expr) → G Target (eval_target call v e)
      target_holds v (syn.Get n p) = c.then _ _ _ _ (path_holds v (root_type v n) p) (λ path. c.goes _ _)
      target_holds v (syn.Chain first ls) = c.goes _ _
      target_holds v (syn.Number at value) = c.goes _ _
      target_holds v (syn.Char at code) = c.goes _ _
      target_holds v (syn.Text at text) = c.goes _ _
      target_holds v (syn.Truth at value) = c.goes _ _
      target_holds v (syn.Not at e) = c.goes _ _
      target_holds v (syn.Negative at e) = c.goes _ _
      target_holds v (syn.Parentheses at e) = c.goes _ _
      target_holds v (syn.From at n p) = c.goes _ _
      target_holds v (syn.Size at e) = c.goes _ _
      target_holds v (syn.Ordinal at e) = c.goes _ _
      target_holds v (Expr.Call n es) = c.goes _ _
      target_holds v (Expr.Invoke o m es) = c.goes _ _

    pub give_back_holds : (v : Scope) (e : Option Expr) → G Flow (give_back call v e)
    give_back_holds v None = c.goes _ _
    give_back_holds v (Some e) = c.then _ _ _ _ (eval_holds v e) (λ x. c.then _ _ _ _ (given_holds _ (fitting x)) (λ y. c.goes _ _))

    pub member_holds : (v : Scope) (e : Option Expr) → G (Option ℤ) (member call v e)
    member_holds v None = c.goes _ _
    member_holds v (Some e) = c.then _ _ _ _ (eval_holds v e) (λ x. c.goes _ _)

    elements_holds : (by : Target → Datum → State → Out (Unit {0})) → ((to : Target) (x : Datum) → G (Unit {0}) (by to x)) → (v : Scope) (e : Expr) (n : Name) (p : Path) →
        G Flow (change_elements call by v e n p)
    elements_holds by h v e n p =
        c.then _ _ _ _ (eval_holds v e) (λ x. c.then _ _ _ _ (path_holds v (root_type v n) p) (λ path. c.then _ _ _ _ (h _ x) (λ _. c.goes _ On)))

    mutual
      pub run_holds : (v : Scope) (x : Stmt) → G Flow (run call v x)
      run_holds v (syn.Return at e) = give_back_holds v e
      run_holds v (syn.If at as_) = arms_holds v as_
      run_holds v (syn.While at test ss) =
          while_holds (eval call v test) (run_all call v ss) (eval_holds v test) (run_all_holds v ss)
      run_holds v (syn.For at n low high ss) =
          c.then _ _ _ _ (eval_holds v low) (λ a. c.then _ _ _ _ (eval_holds v high) (λ b.
          count_holds (rounds (integer_in a) (integer_in b)) (integer_in a) (run_all call (with_loop v n) ss) (run_all_holds (with_loop v n) ss)))
      run_holds v (syn.Repeat at ss test) =
          repeat_holds (eval call v test) (run_all call v ss) (eval_holds v test) (run_all_holds v ss)
      run_holds v (syn.Fork at p es on) =
          c.then _ _ _ _ (all_holds v es) (λ xs. c.then _ _ _ _ (member_holds v on) (λ m. c.then _ _ _ _ (fork_holds v p xs m) (λ _. c.goes _ On)))
      run_holds v (syn.WriteLine at es) =
          c.then _ _ _ _ (all_holds v es) (λ xs. c.then _ _ _ _ (given_holds _ (line_of [] (texts_of v es xs))) (λ line.
          c.then _ _ _ _ (write_holds line) (λ _. c.goes _ On)))
      run_holds v (syn.Insert at e n p) = elements_holds put put_holds v e n p
      run_holds v (syn.Delete at e n p) = elements_holds drop_element drop_holds v e n p
      run_holds v (syn.Assign n p e) =
          c.then _ _ _ _ (path_holds v (root_type v n) p) (λ path. c.then _ _ _ _ (eval_holds v e) (λ x.
          c.then _ _ _ _ (store_holds (target v n path) x) (λ _. c.goes _ On)))
      run_holds v (Stmt.Call n es) =
          c.then _ _ _ _ (arguments_holds v (modes_of (callee v n)) es) (λ ps.
          c.then _ _ _ _ (invoked_holds call call_holds (callee v n) (fresh_node v es) ps) (λ _. c.goes _ On))
      run_holds v (Stmt.Invoke o m es) =
          c.then _ _ _ _ (all_holds v es) (λ xs. c.then _ _ _ _ (operate_holds v o m xs) (λ _. c.goes _ On))

      pub run_all_holds : (v : Scope) (ss : Stmts) → G Flow (run_all call v ss)
      run_all_holds v syn.no_stmt = c.goes _ On
      run_all_holds v (syn.stmt x xs) = c.then _ _ _ _ (run_holds v x) (λ flow. go_on_holds flow (run_all call v xs) (run_all_holds v xs))

      pub arms_holds : (v : Scope) (as_ : Arms) → G Flow (run_arms call v as_)
      arms_holds v syn.no_arm = c.goes _ On
      arms_holds v (syn.arm a as_) = c.then _ _ _ _ (arm_holds v a) (λ taken. otherwise_holds taken (run_arms call v as_) (arms_holds v as_))

      pub arm_holds : (v : Scope) (a : Arm) → G (Option Flow) (run_arm call v a)
      arm_holds v (syn.When test ss) = c.then _ _ _ _ (eval_holds v test) (λ x. taken_holds (truth_in x) (run_all call v ss) (run_all_holds v ss))
      arm_holds v (syn.Otherwise ss) = always_holds (run_all call v ss) (run_all_holds v ss)

    module _ (us : List Source) where
      body_holds : (v : Scope) (b : Block) (has_result : Bool) (ps : List Passed) → G (Option Datum) (enter_body call us v b has_result ps)
      body_holds v b has_result ps =
          c.then _ _ _ _ c.turns (λ _.
          c.framed (Option Datum) (λ frame s. after (run_all call v b.statements s) (λ flow s2. returned has_result ps frame flow s2))
          (λ frame. own_frame us v ps) (λ frame. c.then _ _ _ _ (run_all_holds v b.statements) (returned_holds has_result ps frame)))

      what_holds : (t : TopName) (what : What) (ps : List Passed) → G (Option Datum) (enter_what call us t what ps)
      what_holds t (top.Function params r b) ps = body_holds (function_scope us t.defined.by params r b) b (is_some r) ps
      what_holds t (top.Constant b) ps = c.faults _ NoReturn
      what_holds t (top.TypeName of) ps = c.faults _ NoReturn
      what_holds t (top.Value of number) ps = c.faults _ NoReturn
      what_holds t (top.Specified heads) ps = c.faults _ NoReturn
      what_holds t (top.Implemented os) ps = c.faults _ NoReturn
      what_holds t (top.Process params b) ps = c.faults _ NoReturn

      pub enter_holds : (o : Option TopName) (ps : List Passed) → G (Option Datum) (enter call us o ps)
      enter_holds None ps = c.faults _ NoReturn
      enter_holds (Some t) ps = what_holds t t.what ps

  pub calls_holds : (us : List Source) (levels i : ℕ) (ps : List Passed) → G (Option Datum) (calls us levels i ps)
  calls_holds us zero i ps = c.faults _ TooDeep
  calls_holds us (suc levels) i ps = enter_holds (calls us levels) (calls_holds us levels) us (slice_get (top_names us) i) ps

  -- ---- processes

  module _ (makes : Makes G) (us : List Source) (number : ProcessNo) where
    make_holds : (count i : ℕ) → G Datum (make us number count i)
    make_holds count i = c.then _ _ _ _ (makes (kind_of us i) (own_object number count)) (λ _. c.goes _ _)

    behind_holds : (x : Datum) (others : State → Out (List Datum)) → G (List Datum) others → G (List Datum) (behind x others)
    behind_holds x others h = c.then _ _ _ _ h (λ xs. c.goes _ _)

    variable_holds : (count : ℕ) (l : Local) (o : Option ℕ) (others : ℕ → State → Out (List Datum)) → ((n : ℕ) → G (List Datum) (others n)) →
        G (List Datum) (variable_made us number count l o others)
    variable_holds count l None others h = behind_holds _ (others count) (h count)
    variable_holds count l (Some i) others h = c.then _ _ _ _ (make_holds count i) (λ x. behind_holds x (others (count + 1)) (h (count + 1)))

    pub variables_holds : (ls : List Local) (count : ℕ) → G (List Datum) (variables_made us number ls count)
    variables_holds [] count = c.goes _ _
    variables_holds (l ∷ ls) count = variable_holds count l (object_type_of l) (variables_made us number ls) (variables_holds ls)

    block_holds : (args : Data) (v : Scope) (b : Block) → G Flow (block_run us number args v b)
    block_holds args v b =
        c.then _ _ _ _ (variables_holds (drop (length (list_of args)) v.locals) 1) (λ xs.
        c.framed Flow (λ frame s. run_all (all_calls us) v b.statements s) (λ frame. list_of args ++ xs) (λ frame.
        run_all_holds (all_calls us) (calls_holds us 64) v b.statements))

    run_what_holds : (busy : G Flow (λ s. Stops Busy)) (args : Data) (t : TopName) (what : What) → G Flow (what_run us number args t what)
    run_what_holds busy args t (top.Process ps b) = block_holds args (process_scope us t.defined.by ps b) b
    run_what_holds busy args t (top.Constant b) = busy
    run_what_holds busy args t (top.TypeName of) = busy
    run_what_holds busy args t (top.Value of i) = busy
    run_what_holds busy args t (top.Specified heads) = busy
    run_what_holds busy args t (top.Implemented os) = busy
    run_what_holds busy args t (top.Function ps r b) = busy

    pub text_holds : (busy : G Flow (λ s. Stops Busy)) (args : Data) (o : Option TopName) → G Flow (text_run us number args o)
    text_holds busy args None = busy
    text_holds busy args (Some t) = run_what_holds busy args t t.what
