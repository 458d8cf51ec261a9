-- Expressions and statements without a breach preserve what fits.
use Rattle.std.proofs.Common.{refl, ap, sym, ◌∙◌, subst, arith}
use Rattle.std.specs.Prelude.{◌≡◌, ◌≤◌, ℕ, pos, neg_ℤ, Bool, true, false, not, ◌&&◌, List, [], ◌∷◌, ◌++◌, map, length, slice_get, ok_or, Option, Some, None, option_map, IfOk}
use Rattle.std.specs.Option.{option_map_or}
use Rattle.std.specs.List.{AllByRecursion}
use Rattle.orca_base.specs.declared.fault.FaultKind.TheVariants.{IndexOutside}
use Rattle.orca_base.specs.declared.place.Place.{Place}
use Rattle.orca_tree.specs.declared.tree.Name.{Name}
use Rattle.orca_tree.specs.declared.tree.Operator.{Operator}
use Rattle.orca_syntax.specs.Places.{expr_place}
use Rattle.orca_syntax.specs.Sound.{IsSoundExpr, AreSoundLinks, IsSoundPath, AreSoundExprs}
use Rattle.orca_syntax.specs.Syntax as syn
use Rattle.orca_syntax.specs.Syntax.{Expr, Links, Step, Path, Exprs, Stmt, Stmts, Arm, Arms}
use Rattle.type_rules.specs.declared.signature.Formal.{Formal}
use Rattle.type_rules.specs.declared.signature.Formal.TheVariants.{ByValue, Shared, Out as ByOut, SomeGraph, NodeOf}
use Rattle.type_rules.specs.declared.types.DataType.{DataType}
use Rattle.type_rules.specs.declared.types.Base.TheVariants as base
use Rattle.type_rules.specs.Types.{outside_of, inside_of, plain, is_boolean, is_integer, is_counted, is_numbered, is_gathering, is_graph}
use Rattle.type_rules.specs.Rules.{Found, found, asks, fits, agree}
use Rattle.type_rules.specs.TopLevel.{stands_for}
use Rattle.type_rules.specs.Scopes.{Scope, Local, local}
use Rattle.type_rules.specs.Expressions.{typed, chained, walked, stepped, step_found, arguments, suits, joined, value_of, outer_value, written_root, gathering, may_be_written, is_written, count_of, AsValue}
use Rattle.value_core.specs.Datum.{Datum}
use Rattle.value_core.specs.Datum as datum
use Rattle.value_core.specs.Fits.{Kinds}
use Rattle.value_core.specs.Integers.{IsWord}
use Rattle.value_core.specs.Size.{size_of}
use Rattle.orca_base.specs.declared.limits.TheConstants.{VALUE_SIZE}
use Rattle.value_ops.specs.Integers.{negative_of}
use Rattle.value_ops.specs.Sizes.{number_in, ordinal_of}
use Rattle.value_paths.specs.declared.step.Step.{Step as ValueStep}
use Rattle.value_paths.specs.Paths.{part_at}
use Rattle.meaning_rules.specs.Operators.{integer_in, truth_in, of_integer, decides, applied, fitting, and_then}
use Rattle.meaning_rules.specs.States.{State, Out, Goes, after, gives}
use Rattle.meaning_rules.specs.Designators as designators
use Rattle.meaning_rules.specs.Designators.{slot, root_type, stepped_type, path_type, designator_type, step_to_field, step_by_index, value_in}
use Rattle.meaning_rules.specs.Variables.{Target, target}
use Rattle.meaning_rules.specs.Calls as callables
use Rattle.meaning_rules.specs.Calls.{Calls, Passed, Given, Lent, as_passed, callee, modes_of, fresh_node}
use Rattle.meaning_rules.specs.Expressions.{eval, eval_links, eval_path, eval_step, eval_all, eval_passed, eval_target, joined_with, result}
use Rattle.meaning_rules.specs.Loops.{Flow}
use Rattle.meaning_rules.specs.Statements.{run_all}
use Rattle.meaning_rules.specs.Fitting.{Fits}
use Rattle.meaning_rules.specs.PathsFit.{Leads, StepsTo}
use Rattle.meaning_rules.specs.PhrasesFit.{IsTarget, Preserves, IsResult}
use Rattle.meaning_rules.specs.Accepted.{IsKnownFormal}
use Rattle.meaning_rules.specs.Replies.{Front}
use Rattle.meaning_rules.proofs.Acting.{is_invoked}
use Rattle.meaning_rules.proofs.Called.{IsPassed, ArePassed, mode_in, is_call}
use Rattle.meaning_rules.proofs.Changing.{fitting_fits, held_preserves, take_preserves}
use Rattle.meaning_rules.proofs.Everywhere as everywhere
use Rattle.meaning_rules.proofs.Fronts.{fronts}
use Rattle.meaning_rules.proofs.Judged.{SameTypes, is_written as is_written_name, left_none, right_none, both_left, both_right, asked, unless_none, unless_is, walked_none, local_at, opening_at}
use Rattle.meaning_rules.proofs.OperatorsFit.{is_joined, character_code, character_codes, integer_fits, truth_fits, fitted_integral}
use Rattle.meaning_rules.proofs.Preserving.{then_preserves, goes_preserves, gives_preserves, weaker_preserves}
use Rattle.meaning_rules.proofs.Steps.{is_field_step, is_index_step, walked_on}
use Rattle.meaning_rules.proofs.Valued.{Stands, gathers_so, links_so, operand_parts, number_word, ordinal_word, AreClean, AreTyped, clean_arguments, agreed, are_taken, result_fits, no_step, is_outer}

-- ---- chains

chained_none : (v : Scope) (same : SameTypes) (at : Place) (left : Found DataType) (ls : Links) → (chained v at left ls).breaches ≡ [] → left.breaches ≡ []
chained_none v same at left syn.no_link none = none
chained_none v same at left (syn.link o e ls) none =
    (is_joined v.program [] same at left (expr_place e) (typed v e) o (chained_none v same at (joined o at left (expr_place e) (typed v e)) ls none)).left_none

-- a step of a walked path
step_none : (v : Scope) (t : DataType) (x : Step) (p : Path) → (walked v (found (Some t)) (syn.to x p)).breaches ≡ [] → (stepped v (Some t) x).breaches ≡ []
step_none v t x p none =
    unless_none (stepped v (Some t) x).breaches (stepped v (Some t) x).is (walked_none v (step_found (found (Some t)) (stepped v (Some t) x)) p none)

module _ (kinds : Kinds) (call : Calls) (call_front : (i : ℕ) (ps : List Passed) → Front (Option Datum) (call i ps)) where
  abbrev Fit : Scope → (A : Type 0) → (A → Type 0) → (State → Out A) → Type 0
  Fit v A P f = Preserves v.program kinds v.locals A P f

  abbrev Of : Scope → Option DataType → Datum → Type 0
  Of v o x = Fits v.program kinds x o

  -- one and then another, the first of which uses replies from the front
  first_then : (v : Scope) (A B : Type 0) (P : A → Type 0) (Q : B → Type 0) (f : State → Out A) (next : A → State → Out B) → Front A f → Fit v A P f →
      ((x : A) → P x → Fit v B Q (next x)) → Fit v B Q (λ s. after (f s) next)
  first_then v A B P Q f next front first others = then_preserves v.program kinds v.locals P Q f next front first others

  goes : (v : Scope) (A : Type 0) (P : A → Type 0) (x : A) → P x → Fit v A P (λ s. Goes x s)
  goes v A P x h = goes_preserves v.program kinds v.locals P x h

  as_type : (v : Scope) (o : Option DataType) (t : DataType) (x : Datum) → o ≡ Some t → Fits v.program kinds x (Some t) → Fits v.program kinds x o
  as_type v o t x is h = subst (λ y. Fits v.program kinds x y) (sym is) h

  -- ---- fronts

  eval_front : (v : Scope) (e : Expr) → Front Datum (eval call v e)
  eval_front = everywhere.eval_holds Front fronts call call_front

  path_front : (v : Scope) (t : Option DataType) (p : Path) → Front (List ValueStep) (eval_path call v t p)
  path_front = everywhere.path_holds Front fronts call call_front

  run_all_front : (v : Scope) (ss : Stmts) → Front Flow (run_all call v ss)
  run_all_front = everywhere.run_all_holds Front fronts call call_front

  -- ---- designators

  -- where a path leads: to what is of this type
  abbrev Place_of : Scope → Name → Option DataType → List ValueStep → Type 0
  Place_of v n o path = (u : DataType) × (o ≡ Some u) × IsTarget v.program kinds v.locals (target v n path) u

  abbrev Led : Scope → DataType → Option DataType → List ValueStep → Type 0
  Led v t o path = (u : DataType) × (o ≡ Some u) × Leads v.program path t u

  -- one passed, by what its parameter asks
  one_passed : (v : Scope) → Stands kinds call v → (f : Formal) → IsKnownFormal f → (e : Expr) → suits v f e (typed v e).is ≡ [] →
      Fit v Datum (Of v (typed v e).is) (eval call v e) →
      (may_be_written v e ≡ true → Fit v Target (λ to. (u : DataType) × ((typed v e).is ≡ Some u) × (designator_type v e ≡ Some u) × IsTarget v.program kinds v.locals to u) (eval_target call v e)) →
      Fit v Passed (λ p. IsPassed v.program kinds v.locals (designator_type v e) p f) (as_passed (mode_in f) (eval call v e) (eval_target call v e))
  one_passed v st (ByValue t) known e suit value place =
      first_then v Datum Passed (Of v (typed v e).is) _ (eval call v e) _ (eval_front v e) value (λ x h.
      goes v Passed _ (Given x) (agreed kinds v st.facts st.laws t x (typed v e).is known h (asked 30 (expr_place e) (agree t (typed v e).is) suit)))
  one_passed v st (Shared t) known e suit value place =
      first_then v Datum Passed (Of v (typed v e).is) _ (eval call v e) _ (eval_front v e) value (λ x h.
      goes v Passed _ (Given x) (agreed kinds v st.facts st.laws t x (typed v e).is known h
      (asked 30 (expr_place e) (agree t (typed v e).is) (left_none (asks 30 (expr_place e) (agree t (typed v e).is)) _ suit))))
  one_passed v st NodeOf known e suit value place =
      first_then v Datum Passed (Of v (typed v e).is) _ (eval call v e) _ (eval_front v e) value (λ x h. goes v Passed _ (Given x) tt)
  one_passed v st (ByOut t) known e suit value place =
      let agrees = asked 30 (expr_place e) (agree t (typed v e).is) (left_none (asks 30 (expr_place e) (agree t (typed v e).is)) _ suit) in
      let writes = asked 32 (expr_place e) (may_be_written v e) (right_none (asks 30 (expr_place e) (agree t (typed v e).is)) _ suit) in
      first_then v Target Passed _ _ (eval_target call v e) _ (everywhere.target_holds Front fronts call call_front v e) (place writes) (λ to h.
      goes v Passed _ (Lent to) (
        h.0,
        known.1 ∙ ap Some (st.laws.same.same known.0 h.0
            (ap (λ o. agree (Some known.0) o) (sym h.1) ∙ (ap (λ o. agree o (typed v e).is) (sym known.1) ∙ agrees))),
        h.3,
      ))
  one_passed v st SomeGraph known e suit value place =
      let both = asked 41 (expr_place e) (may_be_written v e && fits is_graph (typed v e).is) suit in
      first_then v Target Passed _ _ (eval_target call v e) _ (everywhere.target_holds Front fronts call call_front v e)
      (place (both_left (may_be_written v e) (fits is_graph (typed v e).is) both)) (λ to h.
      goes v Passed _ (Lent to) (
        h.0,
        h.2,
        h.3,
        links_so (outside_of h.0)
            (ap (fits is_graph) (sym h.1) ∙ both_right (may_be_written v e) (fits is_graph (typed v e).is) both),
      ))

  joined_preserves : (v : Scope) → Stands kinds call v → (o : Operator) (at : Place) (left : Found DataType) (e : Expr) → (joined o at left (expr_place e) (typed v e)).breaches ≡ [] →
      (x : Datum) → Of v left.is x → (b : Bool) → decides o x ≡ b → Fit v Datum (Of v (typed v e).is) (eval call v e) →
      Fit v Datum (Of v (joined o at left (expr_place e) (typed v e)).is) (joined_with b o x (eval call v e))
  joined_preserves v st o at left e none x h true is right =
      goes v Datum _ x ((is_joined v.program kinds st.laws.same at left (expr_place e) (typed v e) o none).decided x is h)
  joined_preserves v st o at left e none x h false is right =
      first_then v Datum Datum (Of v (typed v e).is) _ (eval call v e) _ (eval_front v e) right (λ y k.
      gives_preserves v.program kinds v.locals _ (λ s. applied o x y) (λ s fits_s.
      (is_joined v.program kinds st.laws.same at left (expr_place e) (typed v e) o none).gives x y h k))

  small : (v : Scope) (x : Datum) (o : Option DataType) → Of v o x → size_of x ≤ VALUE_SIZE
  small v x None h = absurd h
  small v x (Some t) h = h.1

  -- the type of a path, as typing has it
  path_types : (v : Scope) → Stands kinds call v → (t : DataType) (p : Path) → (walked v (found (Some t)) p).breaches ≡ [] →
      path_type v (Some t) p ≡ (walked v (found (Some t)) p).is
  path_types v st t syn.here none = refl
  path_types v st t (syn.to (syn.Field at f) p) none =
      let x = is_field_step v st.facts t at f (step_none v t (syn.Field at f) p none) in
      let on = walked_on v t x.type (syn.Field at f) p x.found_so in
      ap (λ o. path_type v o p) x.next ∙ (path_types v st x.type p (ap (λ d. d.breaches) (sym on) ∙ none) ∙ ap (λ d. d.is) (sym on))
  path_types v st t (syn.to (syn.Index at e) p) none =
      let x = is_index_step v st.facts t at e (step_none v t (syn.Index at e) p none) in
      let on = walked_on v t x.type (syn.Index at e) p x.found_so in
      ap (λ o. path_type v o p) x.next ∙ (path_types v st x.type p (ap (λ d. d.breaches) (sym on) ∙ none) ∙ ap (λ d. d.is) (sym on))

  -- a step, and the path behind it
  rest_preserves : (v : Scope) (t u : DataType) (o next : Option DataType) (p : Path) (step : ValueStep) → next ≡ Some u → StepsTo v.program step t u →
      Fit v (List ValueStep) (Led v u o) (eval_path call v (Some u) p) →
      Fit v (List ValueStep) (Led v t o) (λ s. after (eval_path call v next p s) (λ path s2. Goes (step ∷ path) s2))
  rest_preserves v t u o next p step is leads h =
      subst (λ r. Fit v (List ValueStep) (Led v t o) (λ s. after (eval_path call v r p s) (λ path s2. Goes (step ∷ path) s2))) (sym is)
      (first_then v (List ValueStep) (List ValueStep) (Led v u o) _ (eval_path call v (Some u) p) _ (path_front v (Some u) p) h (λ path k.
      goes v (List ValueStep) _ (step ∷ path) (k.0, k.1, (u, leads, k.2))))

  -- a designator that is to be written
  pub placed : (v : Scope) → Stands kinds call v → (rule : ℕ) (n : Name) (p : Path) → ((t : DataType) → (walked v (found (Some t)) p).breaches ≡ [] → Fit v (List ValueStep) (Led v t (walked v (found (Some t)) p).is) (eval_path call v (Some t) p)) →
      (walked v (written_root v rule n) p).breaches ≡ [] →
      Fit v (List ValueStep) (Place_of v n (walked v (written_root v rule n) p).is) (eval_path call v (root_type v n) p)
  placed v st rule n p walk none =
      let w = is_written_name v st.scope rule n (walked_none v (written_root v rule n) p none) in
      let same : walked v (written_root v rule n) p ≡ walked v (found (Some w.type)) p = ap (λ d. walked v d p) w.found_so in
      subst (λ o. Fit v (List ValueStep) (Place_of v n (walked v (written_root v rule n) p).is) (eval_path call v o p)) (sym w.root)
      (subst (λ d. Fit v (List ValueStep) (Place_of v n d.is) (eval_path call v (Some w.type) p)) (sym same)
      (weaker_preserves v.program kinds v.locals _ _ _ (λ path h. (h.0, h.1, (w.of, w.type, local_at v n w.of w.named, w.typed, h.2)))
      (walk w.type (ap (λ d. d.breaches) (sym same) ∙ none))))

  -- a designator's value
  gotten : (v : Scope) → Stands kinds call v → (n : Name) (p : Path) → ((t : DataType) → (walked v (found (Some t)) p).breaches ≡ [] → Fit v (List ValueStep) (Led v t (walked v (found (Some t)) p).is) (eval_path call v (Some t) p)) →
      (o : Option Local) → local v n.text ≡ o → (walked v (value_of v n o) p).breaches ≡ [] →
      Fit v Datum (Of v (walked v (value_of v n o) p).is)
      (λ s. after (eval_path call v (option_map_or (λ l. l.type) o None) p s) (λ path s1. gives (and_then (value_in v n s1 o) (part_at path)) s1))
  gotten v st n p walk (Some l) named none =
      let known = (opening_at v st.scope n l named).known in
      subst (λ r. Fit v Datum (Of v (walked v (found r) p).is)
      (λ s. after (eval_path call v r p s) (λ path s1. gives (and_then (ok_or (slice_get s1.frame (slot v n)) IndexOutside) (part_at path)) s1))) (sym known.1)
      (first_then v (List ValueStep) Datum (Led v known.0 (walked v (found (Some known.0)) p).is) _ (eval_path call v (Some known.0) p) _ (path_front v (Some known.0) p)
      (walk known.0 (ap (λ r. (walked v (found r) p).breaches) (sym known.1) ∙ none)) (λ path h.
      weaker_preserves v.program kinds v.locals _ _ _ (λ x k. as_type v _ h.0 x h.1 k)
      (held_preserves v.program kinds st.laws.paths st.laws.sizes v.locals (target v n path) h.0 (l, known.0, local_at v n l named, known.1, h.2))))
  gotten v st n syn.here walk None named none =
      let it = is_outer kinds v st.facts n (stands_for v.program v.home n.text) refl none in
      goes v Datum _ (designators.outer_value v.program (stands_for v.program v.home n.text)) (as_type v _ (plain it.of) _ (ap (λ f. f.is) it.found_so) it.value)
  gotten v st n (syn.to x p) walk None named none =
      let it = is_outer kinds v st.facts n (stands_for v.program v.home n.text) refl
      (walked_none v (outer_value v n (stands_for v.program v.home n.text)) (syn.to x p) none) in
      absurd (no_step v it.of it.simple x (step_none v (plain it.of) x p (ap (λ d. (walked v d (syn.to x p)).breaches) (sym it.found_so) ∙ none)))

  rooted : (v : Scope) → Stands kinds call v → (n : Name) (p : Path) → ((t : DataType) → (walked v (found (Some t)) p).breaches ≡ [] → Fit v (List ValueStep) (Led v t (walked v (found (Some t)) p).is) (eval_path call v (Some t) p)) →
      (o : Option Local) → local v n.text ≡ o → (walked v (value_of v n o) p).breaches ≡ [] →
      is_written o ≡ true →
      Fit v Target (λ to. (u : DataType) × ((walked v (value_of v n o) p).is ≡ Some u) × (path_type v (option_map_or (λ l. l.type) o None) p ≡ Some u) × IsTarget v.program kinds v.locals to u)
      (λ s. after (eval_path call v (option_map_or (λ l. l.type) o None) p s) (λ path s1. Goes (target v n path) s1))
  rooted v st n p walk None named none writes = absurd cc
  rooted v st n p walk (Some l) named none writes =
      let known = (opening_at v st.scope n l named).known in
      let clean = ap (λ r. (walked v (found r) p).breaches) (sym known.1) ∙ none in
      subst (λ r. Fit v Target (λ to. (u : DataType) × ((walked v (found r) p).is ≡ Some u) × (path_type v r p ≡ Some u) × IsTarget v.program kinds v.locals to u)
      (λ s. after (eval_path call v r p s) (λ path s1. Goes (target v n path) s1))) (sym known.1)
      (first_then v (List ValueStep) Target (Led v known.0 (walked v (found (Some known.0)) p).is) _ (eval_path call v (Some known.0) p) _ (path_front v (Some known.0) p)
      (walk known.0 clean) (λ path h.
      goes v Target _ (target v n path) (h.0, h.1, path_types v st known.0 p clean ∙ h.1, (l, known.0, local_at v n l named, known.1, h.2))))

  mutual
    pub eval_preserves : (v : Scope) → Stands kinds call v → (e : Expr) → IsSoundExpr e → (typed v e).breaches ≡ [] → Fit v Datum (Of v (typed v e).is) (eval call v e)
    eval_preserves v st (syn.Chain first ls) sound none =
        first_then v Datum Datum (Of v (typed v first).is) _ (eval call v first) _ (eval_front v first)
        (eval_preserves v st first sound.0 (chained_none v st.laws.same (expr_place first) (typed v first) ls none)) (λ x h.
        links_preserves v st (expr_place first) (typed v first) ls sound.1 none x h)
    eval_preserves v st (syn.Number at value) sound none =
        goes v Datum _ (datum.int value) (integer_fits v.program kinds value (subst IsWord (sym sound.2) (record { sfits = sound.1 })))
    eval_preserves v st (syn.Char at code) sound none = goes v Datum _ (datum.char code) ((tt, character_code code sound), omega arith)
    eval_preserves v st (syn.Text at text) sound none =
        gives_preserves v.program kinds v.locals _ (λ s. fitting (datum.text text)) (λ s fits_s.
        fitting_fits v.program kinds (datum.text text) (plain base.String) (tt, character_codes text sound))
    eval_preserves v st (syn.Truth at value) sound none = goes v Datum _ (datum.truth value) (truth_fits v.program kinds value)
    eval_preserves v st (syn.Not at e) sound none =
        let parts = operand_parts 35 is_boolean (expr_place e) (typed v e) (plain base.Boolean) none in
        first_then v Datum Datum (Of v (typed v e).is) _ (eval call v e) _ (eval_front v e) (eval_preserves v st e sound parts.0) (λ x h.
        goes v Datum _ (datum.truth (not (truth_in x))) (as_type v _ (plain base.Boolean) (datum.truth (not (truth_in x))) parts.2 (truth_fits v.program kinds (not (truth_in x)))))
    eval_preserves v st (syn.Negative at e) sound none =
        let parts = operand_parts 36 is_integer (expr_place e) (typed v e) (plain base.Integer) none in
        first_then v Datum Datum (Of v (typed v e).is) _ (eval call v e) _ (eval_front v e) (eval_preserves v st e sound parts.0) (λ x h.
        gives_preserves v.program kinds v.locals _ (λ s. of_integer (negative_of (integer_in x))) (λ s fits_s.
        subst (λ o. IfOk (of_integer (negative_of (integer_in x))) (λ z. Fits v.program kinds z o)) (sym parts.2)
        (fitted_integral v.program kinds (neg_ℤ (integer_in x)))))
    eval_preserves v st (syn.Parentheses at e) sound none = eval_preserves v st e sound none
    eval_preserves v st (syn.From at n p) sound none =
        let outer = unless_none (asks 18 at (not v.in_guard) ++ (gathering n.at (walked v (written_root v 38 n) p)).breaches)
        (option_map inside_of (gathering n.at (walked v (written_root v 38 n) p)).is) none in
        let inner = unless_none ((walked v (written_root v 38 n) p).breaches ++ asks 38 n.at (fits is_gathering (walked v (written_root v 38 n) p).is)) (walked v (written_root v 38 n) p).is
        (right_none (asks 18 at (not v.in_guard)) _ outer) in
        let clean = left_none (walked v (written_root v 38 n) p).breaches _ inner in
        let gathers = asked 38 n.at (fits is_gathering (walked v (written_root v 38 n) p).is) (right_none (walked v (written_root v 38 n) p).breaches _ inner) in
        let is : (typed v (syn.From at n p)).is ≡ option_map inside_of (walked v (written_root v 38 n) p).is =
        ap (λ f. f.is) (unless_is _ (option_map inside_of (gathering n.at (walked v (written_root v 38 n) p)).is) outer)
        ∙ ap (λ f. option_map inside_of f.is) (unless_is _ (walked v (written_root v 38 n) p).is inner) in
        first_then v (List ValueStep) Datum (Place_of v n (walked v (written_root v 38 n) p).is) _ (eval_path call v (root_type v n) p) _ (path_front v (root_type v n) p)
        (placed v st 38 n p (λ u none_u. path_preserves v st u p sound.1 none_u) clean) (λ path h.
        weaker_preserves v.program kinds v.locals _ _ _ (λ x k. as_type v _ (inside_of h.0) x (is ∙ ap (option_map inside_of) h.1) k)
        (take_preserves v.program kinds st.laws.paths st.laws.sizes v.locals (target v n path) h.0 h.2 st.laws.elements
        (gathers_so (outside_of h.0) (ap (fits is_gathering) (sym h.1) ∙ gathers))))
    eval_preserves v st (syn.Size at e) sound none =
        let parts = operand_parts 39 is_counted (expr_place e) (typed v e) (plain base.Integer) none in
        first_then v Datum Datum (Of v (typed v e).is) _ (eval call v e) _ (eval_front v e) (eval_preserves v st e sound parts.0) (λ x h.
        goes v Datum _ (datum.int (pos (number_in x))) (as_type v _ (plain base.Integer) (datum.int (pos (number_in x))) parts.2 (integer_fits v.program kinds (pos (number_in x)) (number_word x (small v x (typed v e).is h)))))
    eval_preserves v st (syn.Ordinal at e) sound none =
        let parts = operand_parts 39 is_numbered (expr_place e) (typed v e) (plain base.Integer) none in
        first_then v Datum Datum (Of v (typed v e).is) _ (eval call v e) _ (eval_front v e) (eval_preserves v st e sound parts.0) (λ x h.
        goes v Datum _ (datum.int (pos (ordinal_of x))) (as_type v _ (plain base.Integer) (datum.int (pos (ordinal_of x))) parts.2
        (integer_fits v.program kinds (pos (ordinal_of x)) (ordinal_word v.program kinds st.facts x (typed v e).is h))))
    eval_preserves v st (syn.Get n p) sound none = gotten v st n p (λ u none_u. path_preserves v st u p sound.1 none_u) (local v n.text) refl none
    eval_preserves v st (Expr.Call n es) sound none =
        let c = is_call kinds call v st.scope st.facts st.laws st.calls AsValue n es none in
        first_then v (List Passed) Datum (λ ps. ArePassed kinds v ps c.signed.formals es) _ (eval_passed call v (modes_of (callee v n)) es) _
        (everywhere.arguments_holds Front fronts call call_front v (modes_of (callee v n)) es)
        (subst (λ ms. Fit v (List Passed) (λ ps. ArePassed kinds v ps c.signed.formals es) (eval_passed call v ms es)) (sym c.modes)
        (arguments_preserves v st c.signed.formals es sound.1 c.known c.inside c.many)) (λ ps h.
        first_then v (Option Datum) Datum (IsResult v.program kinds c.signed.result) _ (callables.invoked call (callee v n) (fresh_node v es) ps) _
        (everywhere.invoked_holds Front fronts call call_front (callee v n) (fresh_node v es) ps) (c.invokes ps h) (λ x k.
        goes v Datum _ (result x) (subst (λ o. Fits v.program kinds (result x) o) (sym c.type) (result_fits v.program kinds c.signed.result x c.used k))))
    eval_preserves v st (Expr.Invoke o m es) sound none =
        let c = is_invoked kinds v st.scope st.facts AsValue o m es none in
        first_then v (List Datum) Datum (λ xs. AreTyped kinds v xs es) _ (eval_all call v es) _ (everywhere.all_holds Front fronts call call_front v es)
        (all_preserves v st es sound.2 (clean_arguments v c.signed.formals es c.inside)) (λ xs h.
        first_then v (Option Datum) Datum (IsResult v.program kinds c.signed.result) _ (callables.operate v o m xs) _ (everywhere.operate_holds Front fronts v o m xs)
        (c.operates xs (are_taken kinds v st.facts st.laws c.signed.formals es xs c.known c.inside c.many h)) (λ x k.
        goes v Datum _ (result x) (subst (λ y. Fits v.program kinds (result x) y) (sym c.type) (result_fits v.program kinds c.signed.result x c.used k))))

    links_preserves : (v : Scope) → Stands kinds call v → (at : Place) (left : Found DataType) (ls : Links) → AreSoundLinks ls → (chained v at left ls).breaches ≡ [] →
        (x : Datum) → Of v left.is x → Fit v Datum (Of v (chained v at left ls).is) (eval_links call v ls x)
    links_preserves v st at left syn.no_link sound none x h = goes v Datum _ x h
    links_preserves v st at left (syn.link o e ls) sound none x h =
        let clean = chained_none v st.laws.same at (joined o at left (expr_place e) (typed v e)) ls none in
        let right = (is_joined v.program kinds st.laws.same at left (expr_place e) (typed v e) o clean).right_none in
        first_then v Datum Datum (Of v (joined o at left (expr_place e) (typed v e)).is) _ (joined_with (decides o x) o x (eval call v e)) _
        (everywhere.joined_holds Front fronts (decides o x) o x (eval call v e) (eval_front v e))
        (joined_preserves v st o at left e clean x h (decides o x) refl (eval_preserves v st e sound.0 right)) (λ y k.
        links_preserves v st at (joined o at left (expr_place e) (typed v e)) ls sound.1 none y k)

    -- a path behind a type
    pub path_preserves : (v : Scope) → Stands kinds call v → (t : DataType) (p : Path) → IsSoundPath p → (walked v (found (Some t)) p).breaches ≡ [] →
        Fit v (List ValueStep) (Led v t (walked v (found (Some t)) p).is) (eval_path call v (Some t) p)
    path_preserves v st t syn.here sound none = goes v (List ValueStep) _ [] (t, refl, refl)
    path_preserves v st t (syn.to (syn.Field at f) p) sound none =
        let x = is_field_step v st.facts t at f (step_none v t (syn.Field at f) p none) in
        let on = walked_on v t x.type (syn.Field at f) p x.found_so in
        rest_preserves v t x.type (walked v (found (Some t)) (syn.to (syn.Field at f) p)).is (stepped_type v (Some t) (syn.Field at f)) p (step_to_field v (Some t) f) x.next x.steps
        (subst (λ d. Fit v (List ValueStep) (Led v x.type d.is) (eval_path call v (Some x.type) p)) (sym on)
        (path_preserves v st x.type p sound.1 (ap (λ d. d.breaches) (sym on) ∙ none)))
    path_preserves v st t (syn.to (syn.Index at e) p) sound none =
        let x = is_index_step v st.facts t at e (step_none v t (syn.Index at e) p none) in
        let on = walked_on v t x.type (syn.Index at e) p x.found_so in
        first_then v ValueStep (List ValueStep) (λ step. StepsTo v.program step t x.type) _ (eval_step call v (Some t) (syn.Index at e)) _
        (everywhere.step_holds Front fronts call call_front v (Some t) (syn.Index at e))
        (first_then v Datum ValueStep (Of v (typed v e).is) _ (eval call v e) _ (eval_front v e) (eval_preserves v st e sound.0 x.steps.0) (λ y h.
        goes v ValueStep _ (step_by_index (Some t) y) (x.steps.1 y))) (λ step leads.
        rest_preserves v t x.type (walked v (found (Some t)) (syn.to (syn.Index at e) p)).is (stepped_type v (Some t) (syn.Index at e)) p step x.next leads
        (subst (λ d. Fit v (List ValueStep) (Led v x.type d.is) (eval_path call v (Some x.type) p)) (sym on)
        (path_preserves v st x.type p sound.1 (ap (λ d. d.breaches) (sym on) ∙ none))))

    -- arguments, by their parameters
    pub arguments_preserves : (v : Scope) → Stands kinds call v → (fs : List Formal) (es : Exprs) → AreSoundExprs es → AllByRecursion IsKnownFormal fs → arguments v fs es ≡ [] →
        length fs ≡ count_of es → Fit v (List Passed) (λ ps. ArePassed kinds v ps fs es) (eval_passed call v (map mode_in fs) es)
    arguments_preserves v st [] syn.no_expr sound known none many = goes v (List Passed) _ [] tt
    arguments_preserves v st (f ∷ fs) syn.no_expr sound known none many = absurd (omega (arith, many))
    arguments_preserves v st [] (syn.expr e es) sound known none many = absurd (omega (arith, many))
    arguments_preserves v st (f ∷ fs) (syn.expr e es) sound known none many =
        let own = left_none (typed v e).breaches _ none in
        let rest = right_none (typed v e).breaches (suits v f e (typed v e).is ++ arguments v fs es) none in
        first_then v Passed (List Passed) (λ p. IsPassed v.program kinds v.locals (designator_type v e) p f) _ (as_passed (mode_in f) (eval call v e) (eval_target call v e)) _
        (everywhere.passed_holds Front fronts (mode_in f) (eval call v e) (eval_target call v e) (eval_front v e) (everywhere.target_holds Front fronts call call_front v e))
        (one_passed v st f known.0 e (left_none (suits v f e (typed v e).is) _ rest) (eval_preserves v st e sound.0 own) (λ writes. target_preserves v st e sound.0 own writes)) (λ p h.
        first_then v (List Passed) (List Passed) (λ ps. ArePassed kinds v ps fs es) _ (eval_passed call v (map mode_in fs) es) _
        (everywhere.arguments_holds Front fronts call call_front v (map mode_in fs) es)
        (arguments_preserves v st fs es sound.1 known.1 (right_none (suits v f e (typed v e).is) _ rest) (omega (arith, many))) (λ ps k.
        goes v (List Passed) _ (p ∷ ps) (h, k)))

    target_preserves : (v : Scope) → Stands kinds call v → (e : Expr) → IsSoundExpr e → (typed v e).breaches ≡ [] → may_be_written v e ≡ true →
        Fit v Target (λ to. (u : DataType) × ((typed v e).is ≡ Some u) × (designator_type v e ≡ Some u) × IsTarget v.program kinds v.locals to u) (eval_target call v e)
    target_preserves v st (syn.Get n p) sound none writes = rooted v st n p (λ u none_u. path_preserves v st u p sound.1 none_u) (local v n.text) refl none writes
    target_preserves v st (syn.Chain first ls) sound none writes = absurd cc
    target_preserves v st (syn.Number at value) sound none writes = absurd cc
    target_preserves v st (syn.Char at code) sound none writes = absurd cc
    target_preserves v st (syn.Text at text) sound none writes = absurd cc
    target_preserves v st (syn.Truth at value) sound none writes = absurd cc
    target_preserves v st (syn.Not at e) sound none writes = absurd cc
    target_preserves v st (syn.Negative at e) sound none writes = absurd cc
    target_preserves v st (syn.Parentheses at e) sound none writes = absurd cc
    target_preserves v st (syn.From at n p) sound none writes = absurd cc
    target_preserves v st (syn.Size at e) sound none writes = absurd cc
    target_preserves v st (syn.Ordinal at e) sound none writes = absurd cc
    target_preserves v st (Expr.Call n es) sound none writes = absurd cc
    target_preserves v st (Expr.Invoke o m es) sound none writes = absurd cc

    pub all_preserves : (v : Scope) → Stands kinds call v → (es : Exprs) → AreSoundExprs es → AreClean v es → Fit v (List Datum) (λ xs. AreTyped kinds v xs es) (eval_all call v es)
    all_preserves v st syn.no_expr sound clean = goes v (List Datum) _ [] tt
    all_preserves v st (syn.expr e es) sound clean =
        first_then v Datum (List Datum) (Of v (typed v e).is) _ (eval call v e) _ (eval_front v e) (eval_preserves v st e sound.0 clean.0) (λ x h.
        first_then v (List Datum) (List Datum) (λ xs. AreTyped kinds v xs es) _ (eval_all call v es) _ (everywhere.all_holds Front fronts call call_front v es)
        (all_preserves v st es sound.1 clean.1) (λ xs k. goes v (List Datum) _ (x ∷ xs) (h, k)))
