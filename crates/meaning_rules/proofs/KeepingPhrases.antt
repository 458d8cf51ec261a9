-- Expressions and statements that change no field of the object leave its fields as they are.
use Rattle.std.proofs.Common.{refl, ap, sym, ◌∙◌, arith, inl, inr}
use Rattle.std.specs.Prelude.{◌≡◌, ◌⊎◌, ◌<◌, ◌≤◌, ℕ, zero, suc, ◌+◌, ℤ, List, [], ◌∷◌, ◌++◌, length, drop, slice_get, is_some, Bool, true, false, ◌||◌, Option, Some, None, bytes_eq}
use Rattle.std.specs.Option.{option_map_or}
use Rattle.std.specs.List.{AllByRecursion}
use Rattle.std.proofs.lemmas.List.{length-append}
use Rattle.std.proofs.lemmas.List.Folds.{find_at}
use Rattle.orca_tree.specs.declared.tree.Name.{Name}
use Rattle.orca_tree.specs.declared.tree.Mode.{Mode}
use Rattle.orca_tree.specs.declared.tree.Mode.TheVariants as mode
use Rattle.orca_tree.specs.declared.tree.Operator.{Operator}
use Rattle.orca_syntax.specs.Syntax as syn
use Rattle.orca_syntax.specs.Syntax.{Expr, Links, Step, Path, Exprs, Stmt, Stmts, Arm, Arms, Block}
use Rattle.link_rules.specs.Units.{Source}
use Rattle.type_rules.specs.declared.types.DataType.{DataType}
use Rattle.type_rules.specs.declared.types.Base.TheVariants.{Integer}
use Rattle.type_rules.specs.declared.names.LocalRole.TheVariants.{LoopVariable}
use Rattle.type_rules.specs.Types.{plain}
use Rattle.type_rules.specs.TopLevel as top
use Rattle.type_rules.specs.TopLevel.{What, TopName, top_names}
use Rattle.type_rules.specs.Scopes.{Scope, Local, local, is_field}
use Rattle.type_rules.specs.Statements.{with_loop}
use Rattle.value_core.specs.Datum.{Datum, Data, data_of}
use Rattle.value_core.specs.Datum as datum
use Rattle.value_core.specs.History.{output_kind, output_object}
use Rattle.value_core.specs.declared.action.Action.TheVariants as action
use Rattle.value_ops.specs.Integers.{negative_of}
use Rattle.value_paths.specs.Paths.{part_at}
use Rattle.meaning_rules.specs.Operators.{and_then}
use Rattle.meaning_rules.specs.Operators.{integer_in, truth_in, of_integer, decides, applied, fitting, fitting_all}
use Rattle.meaning_rules.specs.Programs.{kind_of, op_of, text_of, function_scope}
use Rattle.meaning_rules.specs.States.{State, Out, Goes, Stops, after}
use Rattle.meaning_rules.specs.Designators.{slot, root_type, stepped_type, named_value}
use Rattle.meaning_rules.specs.Variables.{Target, target, nowhere, put, drop_element}
use Rattle.meaning_rules.specs.Calls.{Calls, Passed, Given, Lent, Callee, AFunction, Adds, Deletes, NoFunction, as_passed, first_mode, values_in, callee, modes_of, fresh_node, invoked, operate, fork, write, object_named, object_number}
use Rattle.meaning_rules.specs.Expressions.{eval, eval_links, eval_path, eval_step, eval_all, eval_passed, eval_target, joined_with}
use Rattle.meaning_rules.specs.Loops.{Flow, On, Back, Over, Again, Leave, always, taken_if, otherwise, ended, round_if, until, rounds}
use Rattle.meaning_rules.specs.Statements.{change_elements, give_back, member, line_of, texts_of, run, run_all, run_arms, run_arm}
use Rattle.meaning_rules.specs.Functions.{hand_back, leave, returned, own_frame, enter_body, enter_what, enter, calls}
use Rattle.meaning_rules.specs.Classes.{names_field, lends_field, changes, links_change, path_changes, step_changes, arguments_change, changes_if_any, stmt_changes, stmts_change, arms_change, arm_changes}
use Rattle.meaning_rules.proofs.Keeping.{Any, Holds, Leaves, Keeping, Spares, same_frame, after_leaves, then_keeping, goes_keeping, stops_keeping, gives_keeping, turn_keeping, act_keeping, store_keeping, put_keeping, drop_keeping, take_keeping, add_keeping, delete_keeping, go_on_keeping, repeated_keeping, count_keeping}

-- ---- tests that are false

pub left_no : (a b : Bool) → (a || b) ≡ false → a ≡ false
left_no false b is = refl
left_no true b is = absurd cc

pub right_no : (a b : Bool) → (a || b) ≡ false → b ≡ false
right_no false b is = is
right_no true b is = absurd cc

-- ---- names of fields

abbrev pub AreFields : List Local → Type 0
AreFields ls = AllByRecursion (λ l. is_field l.role ≡ true) ls

-- the variable of a loop, as it is seen in its body
abbrev pub loop_local : Name → Local
loop_local n = record { name = n.text; role = LoopVariable; type = Some (plain Integer) }

-- the fields are the last of the names that are seen
pub record Sees (fields : List Local) (v : Scope) (m : ℕ) : Type 0 where
  pub front : List Local
  pub long : length front ≡ m
  pub are : v.locals ≡ front ++ fields

tells_field : Option Local → Bool
tells_field o = option_map_or (λ l. is_field l.role) o false

beyond_fields : (fields : List Local) → AreFields fields → (place : ℕ) → option_map_or (λ l. is_field l.role) (slice_get fields place) false ≡ false →
    length fields ≤ place
beyond_fields [] all place no_field = omega arith
beyond_fields (f ∷ fs) all zero no_field = absurd (let is = all.0 in cc)
beyond_fields (f ∷ fs) all (suc place) no_field =
    let rest = beyond_fields fs all.1 place no_field in omega (arith, rest)

beside_fields : (front fields : List Local) → AreFields fields → (place : ℕ) →
    option_map_or (λ l. is_field l.role) (slice_get (front ++ fields) place) false ≡ false → (place < length front) ⊎ (length front + length fields ≤ place)
beside_fields [] fields all place no_field =
    let above = beyond_fields fields all place no_field in inr (omega (arith, above))
beside_fields (x ∷ front) fields all zero no_field = inl (omega arith)
beside_fields (x ∷ front) fields all (suc place) no_field = by_case (beside_fields front fields all place no_field)
  where
    by_case : (place < length front) ⊎ (length front + length fields ≤ place) → (suc place < length (x ∷ front)) ⊎ (length (x ∷ front) + length fields ≤ suc place)
    by_case (inl less) = inl (omega (arith, less))
    by_case (inr above) = inr (omega (arith, above))

module _ (fields : List Local) (are_fields : AreFields fields) (kept : List Datum) (fit : length kept ≤ length fields) where
  spares_if : (m : ℕ) (front : List Local) (place : ℕ) → length front ≡ m → (place < length front) ⊎ (length front + length fields ≤ place) →
      Spares m kept place
  spares_if m front place long (inl less) = inl (omega (arith, long, less))
  spares_if m front place long (inr above) = inr (omega (arith, long, above, fit))

  slot_spares : (v : Scope) (m : ℕ) → Sees fields v m → (n : Name) → names_field v n ≡ false → Spares m kept (slot v n)
  slot_spares v m sees n no_field =
      let found : local v n.text ≡ slice_get v.locals (slot v n) = find_at (λ l. bytes_eq l.name n.text) v.locals in
      let here : option_map_or (λ l. is_field l.role) (slice_get (sees.front ++ fields) (slot v n)) false ≡ false =
      ap (λ ls. option_map_or (λ l. is_field l.role) (slice_get ls (slot v n)) false) (sym sees.are)
      ∙ (ap (λ o. option_map_or (λ l. is_field l.role) o false) (sym found) ∙ no_field) in
      spares_if m sees.front (slot v n) sees.long (beside_fields sees.front fields are_fields (slot v n) here)

  nowhere_spares : (v : Scope) (m : ℕ) → Sees fields v m → Spares m kept (length v.locals)
  nowhere_spares v m sees =
      let long : length sees.front ≡ m = sees.long in
      let all : length v.locals ≡ length (sees.front ++ fields) = ap length sees.are in
      let both : length (sees.front ++ fields) ≡ length sees.front + length fields = length-append sees.front fields in
      inr (omega (arith, long, all, both, fit))

  sees_loop : (v : Scope) (m : ℕ) (n : Name) → Sees fields v m → Sees fields (with_loop v n) (suc m)
  sees_loop v m n sees = record { front = loop_local n ∷ sees.front; long = ap suc sees.long; are = ap (λ ls. loop_local n ∷ ls) sees.are }

  -- ---- calls

  abbrev pub AllSpare : ℕ → List Passed → Type 0
  AllSpare m [] = Unit {0}
  AllSpare m (Given x ∷ ps) = AllSpare m ps
  AllSpare m (Lent to ∷ ps) = Spares m kept to.slot × AllSpare m ps

  abbrev pub Spared : ℕ → Passed → Type 0
  Spared m (Given x) = Unit {0}
  Spared m (Lent to) = Spares m kept to.slot

  spare_more : (m : ℕ) (p : Passed) (ps : List Passed) → Spared m p → AllSpare m ps → AllSpare m (p ∷ ps)
  spare_more m (Given x) ps one all = all
  spare_more m (Lent to) ps one all = (one, all)

  hand_keeping : (m : ℕ) (ps : List Passed) (ys : List Datum) → AllSpare m ps → Keeping m kept Any (hand_back ps ys)
  hand_keeping m [] ys all = goes_keeping kept m Any tt tt
  hand_keeping m (Given x ∷ ps) [] all = goes_keeping kept m Any tt tt
  hand_keeping m (Lent to ∷ ps) [] all = goes_keeping kept m Any tt tt
  hand_keeping m (Given x ∷ ps) (y ∷ ys) all = hand_keeping m ps ys all
  hand_keeping m (Lent to ∷ ps) (y ∷ ys) all =
      then_keeping kept m Any Any _ _ (store_keeping kept m to y all.0) (λ x _. hand_keeping m ps ys all.1)

  leave_leaves : (m : ℕ) (ps : List Passed) (x : Option Datum) (outer s : State) → AllSpare m ps → Holds m kept outer →
      Leaves m kept (Any {A = Option Datum}) (leave ps x outer.frame s)
  leave_leaves m ps x outer s all h =
      after_leaves kept m Any Any (hand_back ps s.frame (record s { frame = outer.frame })) (λ _ s1. Goes x s1)
      ((hand_keeping m ps s.frame all).keeping (record s { frame = outer.frame }) (same_frame m kept outer (record s { frame = outer.frame }) refl h))
      (λ y _. goes_keeping kept m Any x tt)

  returned_leaves : (m : ℕ) (has_result : Bool) (ps : List Passed) (flow : Flow) (outer s : State) → AllSpare m ps → Holds m kept outer →
      Leaves m kept (Any {A = Option Datum}) (returned has_result ps outer.frame flow s)
  returned_leaves m has_result ps (Back x) outer s all h = leave_leaves m ps x outer s all h
  returned_leaves m true ps On outer s all h = tt
  returned_leaves m false ps On outer s all h = leave_leaves m ps None outer s all h

  -- a body's own variables are its own
  body_keeping : (call : Calls) (us : List Source) (m : ℕ) (v : Scope) (b : Block) (has_result : Bool) (ps : List Passed) → AllSpare m ps →
      Keeping m kept Any (enter_body call us v b has_result ps)
  body_keeping call us m v b has_result ps all = then_keeping kept m Any Any _ _ (turn_keeping kept m) (λ _ _. record {
    keeping = λ s1 h.
        inside s1 h (run_all call v b.statements (record s1 { frame = own_frame us v ps }));
  })
    where
      inside : (s1 : State) → Holds m kept s1 → (o : Out Flow) →
          Leaves m kept (Any {A = Option Datum}) (after o (λ flow s2. returned has_result ps s1.frame flow s2))
      inside s1 h (Goes flow s2) = returned_leaves m has_result ps flow s1 s2 all h
      inside s1 h (Stops why) = tt

  what_keeping : (call : Calls) (us : List Source) (m : ℕ) (t : TopName) (what : What) (ps : List Passed) → AllSpare m ps →
      Keeping m kept Any (enter_what call us t what ps)
  what_keeping call us m t (top.Function params r b) ps all = body_keeping call us m (function_scope us t.defined.by params r b) b (is_some r) ps all
  what_keeping call us m t (top.Constant b) ps all = stops_keeping kept m Any _
  what_keeping call us m t (top.TypeName of) ps all = stops_keeping kept m Any _
  what_keeping call us m t (top.Value of number) ps all = stops_keeping kept m Any _
  what_keeping call us m t (top.Specified heads) ps all = stops_keeping kept m Any _
  what_keeping call us m t (top.Implemented os) ps all = stops_keeping kept m Any _
  what_keeping call us m t (top.Process params b) ps all = stops_keeping kept m Any _

  enter_keeping : (call : Calls) (us : List Source) (m : ℕ) (o : Option TopName) (ps : List Passed) → AllSpare m ps →
      Keeping m kept Any (enter call us o ps)
  enter_keeping call us m None ps all = stops_keeping kept m Any _
  enter_keeping call us m (Some t) ps all = what_keeping call us m t t.what ps all

  pub calls_keeping : (us : List Source) (levels m i : ℕ) (ps : List Passed) → AllSpare m ps → Keeping m kept Any (calls us levels i ps)
  calls_keeping us zero m i ps all = stops_keeping kept m Any _
  calls_keeping us (suc levels) m i ps all = enter_keeping (calls us levels) us m (slice_get (top_names us) i) ps all

  module _ (call : Calls) (call_keeping : (m i : ℕ) (ps : List Passed) → AllSpare m ps → Keeping m kept Any (call i ps)) where
    invoked_keeping : (m : ℕ) (c : Callee) (fresh : Datum) (ps : List Passed) → AllSpare m ps → Keeping m kept Any (invoked call c fresh ps)
    invoked_keeping m (AFunction i ms) fresh ps all =
        then_keeping kept m Any Any _ _ (gives_keeping kept m (λ s. fitting_all (data_of (values_in ps)))) (λ x _. call_keeping m i ps all)
    invoked_keeping m Adds fresh (Lent to ∷ ps) all = add_keeping kept m to fresh all.0
    invoked_keeping m Deletes fresh (Given name ∷ Lent to ∷ ps) all = delete_keeping kept m to name all.0
    invoked_keeping m Adds fresh [] all = stops_keeping kept m Any _
    invoked_keeping m Adds fresh (Given x ∷ ps) all = stops_keeping kept m Any _
    invoked_keeping m Deletes fresh [] all = stops_keeping kept m Any _
    invoked_keeping m Deletes fresh (Lent to ∷ ps) all = stops_keeping kept m Any _
    invoked_keeping m Deletes fresh (Given x ∷ []) all = stops_keeping kept m Any _
    invoked_keeping m Deletes fresh (Given x ∷ Given y ∷ ps) all = stops_keeping kept m Any _
    invoked_keeping m NoFunction fresh ps all = stops_keeping kept m Any _

    -- ---- actions

    operate_keeping : (v : Scope) (m : ℕ) (o n : Name) (xs : List Datum) → Keeping m kept Any (operate v o n xs)
    operate_keeping v m o n xs =
        then_keeping kept m Any Any _ _ (gives_keeping kept m (λ s. fitting_all (data_of xs))) (λ args _.
        act_keeping kept m (λ s. action.Call (kind_of v.program (object_number (root_type v o)))
        (op_of v.program (object_number (root_type v o)) n.text) (object_named v o s) args))

    fork_keeping : (v : Scope) (m : ℕ) (p : Name) (xs : List Datum) (on : Option ℤ) → Keeping m kept Any (fork v p xs on)
    fork_keeping v m p xs on =
        then_keeping kept m Any Any _ _ (gives_keeping kept m (λ s. fitting_all (data_of xs))) (λ args _.
        act_keeping kept m (λ s. action.Fork (text_of v.program p.text) args on))

    write_keeping : (m : ℕ) (line : List ℕ) → Keeping m kept Any (write line)
    write_keeping m line = act_keeping kept m (λ s. action.Call output_kind (record { 0 = 0 }) output_object (datum.more (datum.text line) datum.none))

    -- ---- choices

    joined_keeping : (m : ℕ) (decides : Bool) (operator : Operator) (left : Datum) (right : State → Out Datum) → Keeping m kept Any right →
        Keeping m kept Any (joined_with decides operator left right)
    joined_keeping m true operator left right h = goes_keeping kept m Any left tt
    joined_keeping m false operator left right h = then_keeping kept m Any Any _ _ h (λ x _. gives_keeping kept m (λ s. applied operator left x))

    passed_keeping : (v : Scope) (m : ℕ) (e : Expr) (how : Mode) (value : State → Out Datum) (place : State → Out Target) → Keeping m kept Any value →
        (lends_field v mode.Out e ≡ false → Keeping m kept (λ to. Spares m kept to.slot) place) → lends_field v how e ≡ false →
        Keeping m kept (Spared m) (as_passed how value place)
    passed_keeping v m e mode.Value value place h i no_field = then_keeping kept m Any (Spared m) _ _ h (λ x _. goes_keeping kept m (Spared m) (Given x) tt)
    passed_keeping v m e mode.Shared value place h i no_field = then_keeping kept m Any (Spared m) _ _ h (λ x _. goes_keeping kept m (Spared m) (Given x) tt)
    passed_keeping v m e mode.Out value place h i no_field =
        then_keeping kept m (λ to. Spares m kept to.slot) (Spared m) _ _ (i no_field) (λ to spares. goes_keeping kept m (Spared m) (Lent to) spares)

    always_keeping : (m : ℕ) (body : State → Out Flow) → Keeping m kept Any body → Keeping m kept Any (always body)
    always_keeping m body h = then_keeping kept m Any Any _ _ h (λ flow _. goes_keeping kept m Any (Some flow) tt)

    taken_keeping : (m : ℕ) (b : Bool) (body : State → Out Flow) → Keeping m kept Any body → Keeping m kept Any (taken_if b body)
    taken_keeping m true body h = always_keeping m body h
    taken_keeping m false body h = goes_keeping kept m Any None tt

    otherwise_keeping : (m : ℕ) (taken : Option Flow) (others : State → Out Flow) → Keeping m kept Any others → Keeping m kept Any (λ s. otherwise taken s others)
    otherwise_keeping m None others h = h
    otherwise_keeping m (Some flow) others h = goes_keeping kept m Any flow tt

    ended_keeping : (m : ℕ) (flow : Flow) → Keeping m kept Any (ended flow)
    ended_keeping m On = goes_keeping kept m Any Again tt
    ended_keeping m (Back x) = goes_keeping kept m Any (Leave x) tt

    round_if_keeping : (m : ℕ) (b : Bool) (body : State → Out Flow) → Keeping m kept Any body → Keeping m kept Any (round_if b body)
    round_if_keeping m true body h = then_keeping kept m Any Any _ _ (turn_keeping kept m) (λ _ _. then_keeping kept m Any Any _ _ h (λ flow _. ended_keeping m flow))
    round_if_keeping m false body h = goes_keeping kept m Any Over tt

    until_keeping : (m : ℕ) (test : State → Out Datum) → Keeping m kept Any test → (flow : Flow) → Keeping m kept Any (until test flow)
    until_keeping m test h On = then_keeping kept m Any Any _ _ h (λ x _. goes_keeping kept m Any _ tt)
    until_keeping m test h (Back x) = goes_keeping kept m Any (Leave x) tt

    -- ---- expressions

    mutual
      eval_keeping : (v : Scope) (m : ℕ) → Sees fields v m → (e : Expr) → changes v e ≡ false → Keeping m kept Any (eval call v e)
      eval_keeping v m sees (syn.Chain first ls) still =
          then_keeping kept m Any Any _ _ (eval_keeping v m sees first (left_no _ _ still)) (λ x _. links_keeping v m sees ls x (right_no _ _ still))
      eval_keeping v m sees (syn.Number at value) still = goes_keeping kept m Any _ tt
      eval_keeping v m sees (syn.Char at code) still = goes_keeping kept m Any _ tt
      eval_keeping v m sees (syn.Text at text) still = gives_keeping kept m (λ s. fitting (datum.text text))
      eval_keeping v m sees (syn.Truth at value) still = goes_keeping kept m Any _ tt
      eval_keeping v m sees (syn.Not at e) still = then_keeping kept m Any Any _ _ (eval_keeping v m sees e still) (λ x _. goes_keeping kept m Any _ tt)
      eval_keeping v m sees (syn.Negative at e) still =
          then_keeping kept m Any Any _ _ (eval_keeping v m sees e still) (λ x _. gives_keeping kept m (λ s. of_integer (negative_of (integer_in x))))
      eval_keeping v m sees (syn.Parentheses at e) still = eval_keeping v m sees e still
      eval_keeping v m sees (syn.From at n p) still =
          then_keeping kept m Any Any _ _ (path_keeping v m sees (root_type v n) p (right_no _ _ still)) (λ path _.
          take_keeping kept m (target v n path) (slot_spares v m sees n (left_no _ _ still)))
      eval_keeping v m sees (syn.Size at e) still = then_keeping kept m Any Any _ _ (eval_keeping v m sees e still) (λ x _. goes_keeping kept m Any _ tt)
      eval_keeping v m sees (syn.Ordinal at e) still = then_keeping kept m Any Any _ _ (eval_keeping v m sees e still) (λ x _. goes_keeping kept m Any _ tt)
      eval_keeping v m sees (syn.Get n p) still =
          then_keeping kept m Any Any _ _ (path_keeping v m sees (root_type v n) p still) (λ path _.
          gives_keeping kept m (λ s. and_then (named_value v n s) (part_at path)))
      eval_keeping v m sees (Expr.Call n es) still =
          then_keeping kept m (AllSpare m) Any _ _ (arguments_keeping v m sees (modes_of (callee v n)) es still) (λ ps all.
          then_keeping kept m Any Any _ _ (invoked_keeping m (callee v n) (fresh_node v es) ps all) (λ x _. goes_keeping kept m Any _ tt))
      eval_keeping v m sees (Expr.Invoke o n es) still =
          then_keeping kept m Any Any _ _ (all_keeping v m sees [] es still) (λ xs _.
          then_keeping kept m Any Any _ _ (operate_keeping v m o n xs) (λ x _. goes_keeping kept m Any _ tt))

      links_keeping : (v : Scope) (m : ℕ) → Sees fields v m → (ls : Links) (left : Datum) → links_change v ls ≡ false →
          Keeping m kept Any (eval_links call v ls left)
      links_keeping v m sees syn.no_link left still = goes_keeping kept m Any left tt
      links_keeping v m sees (syn.link operator e ls) left still =
          then_keeping kept m Any Any _ _ (joined_keeping m (decides operator left) operator left (eval call v e) (eval_keeping v m sees e (left_no _ _ still)))
          (λ x _. links_keeping v m sees ls x (right_no _ _ still))

      path_keeping : (v : Scope) (m : ℕ) → Sees fields v m → (t : Option DataType) (p : Path) → path_changes v p ≡ false →
          Keeping m kept Any (eval_path call v t p)
      path_keeping v m sees t syn.here still = goes_keeping kept m Any [] tt
      path_keeping v m sees t (syn.to x p) still =
          then_keeping kept m Any Any _ _ (step_keeping v m sees t x (left_no _ _ still)) (λ step _.
          then_keeping kept m Any Any _ _ (path_keeping v m sees (stepped_type v t x) p (right_no _ _ still)) (λ path _. goes_keeping kept m Any _ tt))

      step_keeping : (v : Scope) (m : ℕ) → Sees fields v m → (t : Option DataType) (x : Step) → step_changes v x ≡ false →
          Keeping m kept Any (eval_step call v t x)
      step_keeping v m sees t (syn.Field at f) still = goes_keeping kept m Any _ tt
      step_keeping v m sees t (syn.Index at e) still = then_keeping kept m Any Any _ _ (eval_keeping v m sees e still) (λ x _. goes_keeping kept m Any _ tt)

      all_keeping : (v : Scope) (m : ℕ) → Sees fields v m → (modes : List Mode) (es : Exprs) → arguments_change v modes es ≡ false →
          Keeping m kept Any (eval_all call v es)
      all_keeping v m sees modes syn.no_expr still = goes_keeping kept m Any [] tt
      all_keeping v m sees modes (syn.expr e es) still =
          then_keeping kept m Any Any _ _ (eval_keeping v m sees e (left_no _ _ (right_no _ _ still))) (λ x _.
          then_keeping kept m Any Any _ _ (all_keeping v m sees (drop 1 modes) es (right_no _ _ (right_no _ _ still))) (λ xs _. goes_keeping kept m Any _ tt))

      arguments_keeping : (v : Scope) (m : ℕ) → Sees fields v m → (modes : List Mode) (es : Exprs) → arguments_change v modes es ≡ false →
          Keeping m kept (AllSpare m) (eval_passed call v modes es)
      arguments_keeping v m sees modes syn.no_expr still = goes_keeping kept m (AllSpare m) [] tt
      arguments_keeping v m sees modes (syn.expr e es) still =
          then_keeping kept m (Spared m) (AllSpare m) _ _
          (passed_keeping v m e (first_mode modes) (eval call v e) (eval_target call v e) (eval_keeping v m sees e (left_no _ _ (right_no _ _ still)))
          (λ lends. target_keeping v m sees e lends (left_no _ _ (right_no _ _ still))) (left_no _ _ still)) (λ p one.
          then_keeping kept m (AllSpare m) (AllSpare m) _ _ (arguments_keeping v m sees (drop 1 modes) es (right_no _ _ (right_no _ _ still))) (λ ps all.
          goes_keeping kept m (AllSpare m) (p ∷ ps) (spare_more m p ps one all)))

      target_keeping : (v : Scope) (m : ℕ) → Sees fields v m → (e : Expr) → lends_field v mode.Out e ≡ false → changes v e ≡ false →
          Keeping m kept (λ to. Spares m kept to.slot) (eval_target call v e)
      target_keeping v m sees (syn.Get n p) lends still =
          then_keeping kept m Any (λ to. Spares m kept to.slot) _ _ (path_keeping v m sees (root_type v n) p still) (λ path _.
          goes_keeping kept m (λ to. Spares m kept to.slot) (target v n path) (slot_spares v m sees n lends))
      target_keeping v m sees (syn.Chain first ls) lends still = goes_keeping kept m (λ to. Spares m kept to.slot) (nowhere v) (nowhere_spares v m sees)
      target_keeping v m sees (syn.Number at value) lends still = goes_keeping kept m (λ to. Spares m kept to.slot) (nowhere v) (nowhere_spares v m sees)
      target_keeping v m sees (syn.Char at code) lends still = goes_keeping kept m (λ to. Spares m kept to.slot) (nowhere v) (nowhere_spares v m sees)
      target_keeping v m sees (syn.Text at text) lends still = goes_keeping kept m (λ to. Spares m kept to.slot) (nowhere v) (nowhere_spares v m sees)
      target_keeping v m sees (syn.Truth at value) lends still = goes_keeping kept m (λ to. Spares m kept to.slot) (nowhere v) (nowhere_spares v m sees)
      target_keeping v m sees (syn.Not at e) lends still = goes_keeping kept m (λ to. Spares m kept to.slot) (nowhere v) (nowhere_spares v m sees)
      target_keeping v m sees (syn.Negative at e) lends still = goes_keeping kept m (λ to. Spares m kept to.slot) (nowhere v) (nowhere_spares v m sees)
      target_keeping v m sees (syn.Parentheses at e) lends still = goes_keeping kept m (λ to. Spares m kept to.slot) (nowhere v) (nowhere_spares v m sees)
      target_keeping v m sees (syn.From at n p) lends still = goes_keeping kept m (λ to. Spares m kept to.slot) (nowhere v) (nowhere_spares v m sees)
      target_keeping v m sees (syn.Size at e) lends still = goes_keeping kept m (λ to. Spares m kept to.slot) (nowhere v) (nowhere_spares v m sees)
      target_keeping v m sees (syn.Ordinal at e) lends still = goes_keeping kept m (λ to. Spares m kept to.slot) (nowhere v) (nowhere_spares v m sees)
      target_keeping v m sees (Expr.Call n es) lends still = goes_keeping kept m (λ to. Spares m kept to.slot) (nowhere v) (nowhere_spares v m sees)
      target_keeping v m sees (Expr.Invoke o n es) lends still = goes_keeping kept m (λ to. Spares m kept to.slot) (nowhere v) (nowhere_spares v m sees)

    -- ---- statements

    give_back_keeping : (v : Scope) (m : ℕ) → Sees fields v m → (e : Option Expr) → changes_if_any v e ≡ false → Keeping m kept Any (give_back call v e)
    give_back_keeping v m sees None still = goes_keeping kept m Any (Back None) tt
    give_back_keeping v m sees (Some e) still =
        then_keeping kept m Any Any _ _ (eval_keeping v m sees e still) (λ x _.
        then_keeping kept m Any Any _ _ (gives_keeping kept m (λ s. fitting x)) (λ y _. goes_keeping kept m Any _ tt))

    member_keeping : (v : Scope) (m : ℕ) → Sees fields v m → (e : Option Expr) → changes_if_any v e ≡ false → Keeping m kept Any (member call v e)
    member_keeping v m sees None still = goes_keeping kept m Any None tt
    member_keeping v m sees (Some e) still = then_keeping kept m Any Any _ _ (eval_keeping v m sees e still) (λ x _. goes_keeping kept m Any _ tt)

    elements_keeping : (by : Target → Datum → State → Out (Unit {0})) →
        ((m : ℕ) (to : Target) (x : Datum) → Spares m kept to.slot → Keeping m kept Any (by to x)) → (v : Scope) (m : ℕ) → Sees fields v m →
        (e : Expr) (n : Name) (p : Path) → (changes v e || (names_field v n || path_changes v p)) ≡ false →
        Keeping m kept Any (change_elements call by v e n p)
    elements_keeping by h v m sees e n p still =
        then_keeping kept m Any Any _ _ (eval_keeping v m sees e (left_no _ _ still)) (λ x _.
        then_keeping kept m Any Any _ _ (path_keeping v m sees (root_type v n) p (right_no _ _ (right_no _ _ still))) (λ path _.
        then_keeping kept m Any Any _ _ (h m (target v n path) x (slot_spares v m sees n (left_no _ _ (right_no _ _ still)))) (λ y _.
        goes_keeping kept m Any On tt)))

    mutual
      run_keeping : (v : Scope) (m : ℕ) → Sees fields v m → (x : Stmt) → stmt_changes v x ≡ false → Keeping m kept Any (run call v x)
      run_keeping v m sees (syn.Return at e) still = give_back_keeping v m sees e still
      run_keeping v m sees (syn.If at as_) still = arms_keeping v m sees as_ still
      run_keeping v m sees (syn.While at test ss) still =
          repeated_keeping kept m _ (then_keeping kept m Any Any _ _ (eval_keeping v m sees test (left_no _ _ still)) (λ x _.
          round_if_keeping m (truth_in x) (run_all call v ss) (run_all_keeping v m sees ss (right_no _ _ still))))
      run_keeping v m sees (syn.For at n low high ss) still =
          then_keeping kept m Any Any _ _ (eval_keeping v m sees low (left_no _ _ still)) (λ a _.
          then_keeping kept m Any Any _ _ (eval_keeping v m sees high (left_no _ _ (right_no _ _ still))) (λ b _.
          count_keeping kept m (rounds (integer_in a) (integer_in b)) (integer_in a) (run_all call (with_loop v n) ss)
          (run_all_keeping (with_loop v n) (suc m) (sees_loop v m n sees) ss (right_no _ _ (right_no _ _ still)))))
      run_keeping v m sees (syn.Repeat at ss test) still =
          repeated_keeping kept m _ (then_keeping kept m Any Any _ _ (turn_keeping kept m) (λ _ _.
          then_keeping kept m Any Any _ _ (run_all_keeping v m sees ss (left_no _ _ still)) (λ flow _.
          until_keeping m (eval call v test) (eval_keeping v m sees test (right_no _ _ still)) flow)))
      run_keeping v m sees (syn.Fork at p es on) still =
          then_keeping kept m Any Any _ _ (all_keeping v m sees [] es (left_no _ _ still)) (λ xs _.
          then_keeping kept m Any Any _ _ (member_keeping v m sees on (right_no _ _ still)) (λ to _.
          then_keeping kept m Any Any _ _ (fork_keeping v m p xs to) (λ y _. goes_keeping kept m Any On tt)))
      run_keeping v m sees (syn.WriteLine at es) still =
          then_keeping kept m Any Any _ _ (all_keeping v m sees [] es still) (λ xs _.
          then_keeping kept m Any Any _ _ (gives_keeping kept m (λ s. line_of [] (texts_of v es xs))) (λ line _.
          then_keeping kept m Any Any _ _ (write_keeping m line) (λ y _. goes_keeping kept m Any On tt)))
      run_keeping v m sees (syn.Insert at e n p) still = elements_keeping put (put_keeping kept) v m sees e n p still
      run_keeping v m sees (syn.Delete at e n p) still = elements_keeping drop_element (drop_keeping kept) v m sees e n p still
      run_keeping v m sees (syn.Assign n p e) still =
          then_keeping kept m Any Any _ _ (path_keeping v m sees (root_type v n) p (left_no _ _ (right_no _ _ still))) (λ path _.
          then_keeping kept m Any Any _ _ (eval_keeping v m sees e (right_no _ _ (right_no _ _ still))) (λ x _.
          then_keeping kept m Any Any _ _ (store_keeping kept m (target v n path) x (slot_spares v m sees n (left_no _ _ still))) (λ y _.
          goes_keeping kept m Any On tt)))
      run_keeping v m sees (Stmt.Call n es) still =
          then_keeping kept m (AllSpare m) Any _ _ (arguments_keeping v m sees (modes_of (callee v n)) es still) (λ ps all.
          then_keeping kept m Any Any _ _ (invoked_keeping m (callee v n) (fresh_node v es) ps all) (λ x _. goes_keeping kept m Any On tt))
      run_keeping v m sees (Stmt.Invoke o n es) still =
          then_keeping kept m Any Any _ _ (all_keeping v m sees [] es still) (λ xs _.
          then_keeping kept m Any Any _ _ (operate_keeping v m o n xs) (λ x _. goes_keeping kept m Any On tt))

      pub run_all_keeping : (v : Scope) (m : ℕ) → Sees fields v m → (ss : Stmts) → stmts_change v ss ≡ false → Keeping m kept Any (run_all call v ss)
      run_all_keeping v m sees syn.no_stmt still = goes_keeping kept m Any On tt
      run_all_keeping v m sees (syn.stmt x xs) still =
          then_keeping kept m Any Any _ _ (run_keeping v m sees x (left_no _ _ still)) (λ flow _.
          go_on_keeping kept m flow (run_all call v xs) (run_all_keeping v m sees xs (right_no _ _ still)))

      arms_keeping : (v : Scope) (m : ℕ) → Sees fields v m → (as_ : Arms) → arms_change v as_ ≡ false → Keeping m kept Any (run_arms call v as_)
      arms_keeping v m sees syn.no_arm still = goes_keeping kept m Any On tt
      arms_keeping v m sees (syn.arm a as_) still =
          then_keeping kept m Any Any _ _ (arm_keeping v m sees a (left_no _ _ still)) (λ taken _.
          otherwise_keeping m taken (run_arms call v as_) (arms_keeping v m sees as_ (right_no _ _ still)))

      arm_keeping : (v : Scope) (m : ℕ) → Sees fields v m → (a : Arm) → arm_changes v a ≡ false → Keeping m kept Any (run_arm call v a)
      arm_keeping v m sees (syn.When test ss) still =
          then_keeping kept m Any Any _ _ (eval_keeping v m sees test (left_no _ _ still)) (λ x _.
          taken_keeping m (truth_in x) (run_all call v ss) (run_all_keeping v m sees ss (right_no _ _ still)))
      arm_keeping v m sees (syn.Otherwise ss) still = always_keeping m (run_all call v ss) (run_all_keeping v m sees ss still)
