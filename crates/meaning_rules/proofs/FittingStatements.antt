-- Statements without a breach preserve what fits, and what they return is of the result's type.
use Rattle.std.proofs.Common.{refl, ap, sym, ◌∙◌, subst, arith}
use Rattle.std.proofs.lemmas.Int.{ints}
use Rattle.std.specs.Prelude.{◌≡◌, ◌<◌, ◌+◌, ◌≤ℤ◌, ℕ, ℤ, pos, negsuc, ◌+ℤ◌, ◌-ℤ◌, nat_abs, int_le, Bool, true, false, if◌then◌else◌, List, [], ◌++◌, Option, Some, None, IfOk}
use Rattle.std.proofs.lemmas.List.Elements.{All-nil}
use Rattle.orca_base.specs.declared.place.Place.{Place}
use Rattle.orca_tree.specs.declared.tree.Name.{Name}
use Rattle.orca_syntax.specs.Places.{expr_place}
use Rattle.orca_syntax.specs.Sound.{IsSoundStmt, AreSoundStmts, IsSoundArm, AreSoundArms}
use Rattle.orca_syntax.specs.Syntax as syn
use Rattle.orca_syntax.specs.Syntax.{Expr, Path, Exprs, Stmt, Stmts, Arm, Arms}
use Rattle.type_rules.specs.declared.types.DataType.{DataType}
use Rattle.type_rules.specs.declared.types.Base.TheVariants as base
use Rattle.type_rules.specs.Types.{outside_of, inside_of, plain, is_boolean, is_integer, is_gathering, is_printed, same_type}
use Rattle.type_rules.specs.Rules.{Found, asks, fits, agree}
use Rattle.type_rules.specs.Scopes.{Scope}
use Rattle.type_rules.specs.Expressions.{typed, walked, written_root, gathering, is_element, arguments, roots_differ, acts, AsStatement}
use Rattle.type_rules.specs.Statements.{wants, returns, value_found, changes, printed, forks, forked, fork_rules, forked_signature, with_loop, counts, wants_if_any, stmt_breaches, stmts_breaches, arms_breaches, arm_breaches}
use Rattle.value_core.specs.Datum.{Datum}
use Rattle.value_core.specs.Fits.{Kinds}
use Rattle.value_core.specs.Integers.{IsWord}
use Rattle.value_paths.specs.declared.step.Step.{Step as ValueStep}
use Rattle.meaning_rules.specs.Operators.{integer_in, truth_in, fitting}
use Rattle.meaning_rules.specs.States.{State, Out, Goes, after, gives, turn}
use Rattle.meaning_rules.specs.Designators.{root_type}
use Rattle.meaning_rules.specs.Variables.{target, store, put, drop_element}
use Rattle.meaning_rules.specs.Calls as callables
use Rattle.meaning_rules.specs.Calls.{Calls, Passed, callee, modes_of, fresh_node}
use Rattle.meaning_rules.specs.Expressions.{eval, eval_path, eval_all, eval_passed}
use Rattle.meaning_rules.specs.Loops.{Flow, On, Back, Round, Over, Again, Leave, always, taken_if, otherwise, ended, round_if, until, rounds}
use Rattle.meaning_rules.specs.Statements.{give_back, member, line_of, texts_of, run, run_all, run_arms, run_arm}
use Rattle.meaning_rules.specs.Fitting.{IsOf, Fits}
use Rattle.meaning_rules.specs.PhrasesFit.{IsTarget, Preserves, IsResult, Returns}
use Rattle.meaning_rules.specs.Accepted.{IsKnownResult}
use Rattle.meaning_rules.specs.Replies.{Front}
use Rattle.meaning_rules.proofs.Acting.{is_invoked, is_forked, IsLine, is_line, write_preserves}
use Rattle.meaning_rules.proofs.Called.{ArePassed, is_call}
use Rattle.meaning_rules.proofs.Changing.{fitting_fits, store_preserves, put_preserves, drop_preserves}
use Rattle.meaning_rules.proofs.Everywhere as everywhere
use Rattle.meaning_rules.proofs.FittingPhrases.{eval_preserves, all_preserves, arguments_preserves, path_preserves, placed}
use Rattle.meaning_rules.proofs.Fronts.{fronts}
use Rattle.meaning_rules.proofs.Judged.{SameTypes, left_none, right_none, asked, unless_none, unless_is, fits_tested, fits_agreed}
use Rattle.meaning_rules.proofs.OperatorsFit.{integer_fits, integer_word}
use Rattle.meaning_rules.proofs.Preserving.{Any, then_preserves, goes_preserves, gives_preserves, turn_preserves, go_on_preserves, Rounds, repeated_preserves, count_preserves}
use Rattle.meaning_rules.proofs.Valued.{Stands, stands_in_loop, loop_local, gathers_so, AreClean, AreTyped, clean_arguments, texts_codes, are_taken}

-- ---- numbers between two

word_between : (a b c : ℤ) → a ≤ℤ c → c ≤ℤ b → IsWord a → IsWord b → IsWord c
word_between (pos a) (pos b) (pos c) low high word_a word_b = record { sfits = omega (arith, ints, high, word_b.sfits) }
word_between (negsuc a) (pos b) (pos c) low high word_a word_b = record { sfits = omega (arith, ints, high, word_b.sfits) }
word_between (negsuc a) (pos b) (negsuc c) low high word_a word_b = record { sfits = omega (arith, ints, low, word_a.sfits) }
word_between (negsuc a) (negsuc b) (negsuc c) low high word_a word_b = record { sfits = omega (arith, ints, low, word_a.sfits) }
word_between (pos a) (negsuc b) c low high word_a word_b = absurd (omega (arith, ints, low, high))
word_between (pos a) (pos b) (negsuc c) low high word_a word_b = absurd (omega (arith, ints, low))
word_between (negsuc a) (negsuc b) (pos c) low high word_a word_b = absurd (omega (arith, ints, high))

-- each round's number is between the bounds
round_word : (a b : ℤ) → IsWord a → IsWord b → (k : ℕ) → k < rounds a b → IsWord (a +ℤ pos k)
round_word a b word_a word_b k less = by (int_le a b) refl less
  where
    by : (t : Bool) → int_le a b ≡ t → k < (if t then nat_abs (b -ℤ a) + 1 else 0) → IsWord (a +ℤ pos k)
    by true is some =
        let low : a ≤ℤ (a +ℤ pos k) = omega (arith, ints) in
        let high : (a +ℤ pos k) ≤ℤ b = grind (arith, ints) in
        word_between a b (a +ℤ pos k) low high word_a word_b
    by false is some = absurd (omega (arith, some))

module _ (kinds : Kinds) (call : Calls) (call_front : (i : ℕ) (ps : List Passed) → Front (Option Datum) (call i ps)) where
  abbrev Fit : Scope → (A : Type 0) → (A → Type 0) → (State → Out A) → Type 0
  Fit v A P f = Preserves v.program kinds v.locals A P f

  abbrev Of : Scope → Option DataType → Datum → Type 0
  Of v o x = Fits v.program kinds x o

  abbrev Leaving : Scope → Flow → Type 0
  Leaving v flow = Returns v.program kinds v.result flow

  first_then : (v : Scope) (A B : Type 0) (P : A → Type 0) (Q : B → Type 0) (f : State → Out A) (next : A → State → Out B) → Front A f → Fit v A P f →
      ((x : A) → P x → Fit v B Q (next x)) → Fit v B Q (λ s. after (f s) next)
  first_then v A B P Q f next front first others = then_preserves v.program kinds v.locals P Q f next front first others

  goes : (v : Scope) (A : Type 0) (P : A → Type 0) (x : A) → P x → Fit v A P (λ s. Goes x s)
  goes v A P x h = goes_preserves v.program kinds v.locals P x h

  eval_front : (v : Scope) (e : Expr) → Front Datum (eval call v e)
  eval_front = everywhere.eval_holds Front fronts call call_front

  run_all_front : (v : Scope) (ss : Stmts) → Front Flow (run_all call v ss)
  run_all_front = everywhere.run_all_holds Front fronts call call_front

  -- ---- `return`

  returns_none : (us : _) (r : Option (Option DataType)) (at : Place) → returns r at None ≡ [] → IsResult us kinds r None
  returns_none us None at none = tt
  returns_none us (Some t) at none = absurd cc

  returns_some : (us : _) (same : SameTypes) (r : Option (Option DataType)) (at : Place) (f : Found DataType) → IsKnownResult us r → returns r at (Some f) ≡ [] →
      (f.breaches ≡ []) × ((y : Datum) → Fits us kinds y f.is → IsResult us kinds r (Some y))
  returns_some us same None at f known none = absurd cc
  returns_some us same (Some t) at f known none = (
    left_none f.breaches _ none,
    λ y h. subst (λ o. Fits us kinds y o) (sym known.1)
        (fits_agreed us kinds same y known.0 f.is h (ap (λ o. agree o f.is) (sym known.1) ∙ asked 23 at (agree t f.is) (right_none f.breaches _ none))),
  )

  fitting_of : (us : _) (x : Datum) (o : Option DataType) → Fits us kinds x o → IfOk (fitting x) (λ y. Fits us kinds y o)
  fitting_of us x None h = absurd h
  fitting_of us x (Some t) h = fitting_fits us kinds x t h.0

  give_back_preserves : (v : Scope) → Stands kinds call v → (at : Place) (e : Option Expr) → IsSoundStmt (syn.Return at e) → returns v.result at (value_found v e) ≡ [] →
      Fit v Flow (Leaving v) (give_back call v e)
  give_back_preserves v st at None sound none = goes v Flow (Leaving v) (Back None) (returns_none v.program v.result at none)
  give_back_preserves v st at (Some e) sound none =
      let parts = returns_some v.program st.laws.same v.result at (typed v e) st.scope.result none in
      first_then v Datum Flow (Of v (typed v e).is) (Leaving v) (eval call v e) _ (eval_front v e) (eval_preserves kinds call call_front v st e sound parts.0) (λ x h.
      first_then v Datum Flow (Of v (typed v e).is) (Leaving v) (λ s. gives (fitting x) s) _ (fronts.gives Datum (λ frame. fitting x))
      (gives_preserves v.program kinds v.locals (Of v (typed v e).is) (λ s. fitting x) (λ s fits_s. fitting_of v.program x (typed v e).is h)) (λ y k.
      goes v Flow (Leaving v) (Back (Some y)) (parts.1 y k)))

  -- ---- `if` and loops

  abbrev Taking : Scope → Option Flow → Type 0
  Taking v None = Unit {0}
  Taking v (Some flow) = Leaving v flow

  always_preserves : (v : Scope) (body : State → Out Flow) → Front Flow body → Fit v Flow (Leaving v) body → Fit v (Option Flow) (Taking v) (always body)
  always_preserves v body front h = first_then v Flow (Option Flow) (Leaving v) (Taking v) body _ front h (λ flow k. goes v (Option Flow) (Taking v) (Some flow) k)

  taken_preserves : (v : Scope) (b : Bool) (body : State → Out Flow) → Front Flow body → Fit v Flow (Leaving v) body → Fit v (Option Flow) (Taking v) (taken_if b body)
  taken_preserves v true body front h = always_preserves v body front h
  taken_preserves v false body front h = goes v (Option Flow) (Taking v) None tt

  otherwise_preserves : (v : Scope) (taken : Option Flow) (others : State → Out Flow) → Taking v taken → Fit v Flow (Leaving v) others →
      Fit v Flow (Leaving v) (λ s. otherwise taken s others)
  otherwise_preserves v None others k h = h
  otherwise_preserves v (Some flow) others k h = goes v Flow (Leaving v) flow k

  abbrev Turning : Scope → Round → Type 0
  Turning v r = Rounds v.program kinds v.locals (Leaving v) tt r

  ended_preserves : (v : Scope) (flow : Flow) → Leaving v flow → Fit v Round (Turning v) (ended flow)
  ended_preserves v On k = goes v Round (Turning v) Again tt
  ended_preserves v (Back x) k = goes v Round (Turning v) (Leave x) k

  round_if_preserves : (v : Scope) (b : Bool) (body : State → Out Flow) → Front Flow body → Fit v Flow (Leaving v) body → Fit v Round (Turning v) (round_if b body)
  round_if_preserves v true body front h =
      first_then v (Unit {0}) Round Any (Turning v) turn _ fronts.turns (turn_preserves v.program kinds v.locals) (λ x done.
      first_then v Flow Round (Leaving v) (Turning v) body _ front h (λ flow k. ended_preserves v flow k))
  round_if_preserves v false body front h = goes v Round (Turning v) Over tt

  over_or_again : (v : Scope) (b : Bool) → Turning v (if b then Over else Again)
  over_or_again v true = tt
  over_or_again v false = tt

  until_preserves : (v : Scope) (P : Datum → Type 0) (test : State → Out Datum) → Front Datum test → Fit v Datum P test → (flow : Flow) → Leaving v flow →
      Fit v Round (Turning v) (until test flow)
  until_preserves v P test front h On k =
      first_then v Datum Round P (Turning v) test _ front h (λ x l. goes v Round (Turning v) (if truth_in x then Over else Again) (over_or_again v (truth_in x)))
  until_preserves v P test front h (Back x) k = goes v Round (Turning v) (Leave x) k

  -- ---- what a place is to hold

  -- an element of what is gathered
  element_fits : (v : Scope) (same : SameTypes) (x : Datum) (o all : Option DataType) (u : DataType) → Of v o x → all ≡ Some u → is_element o all ≡ true → IsOf v.program kinds x (inside_of u)
  element_fits v same x None all u h is holds = absurd h
  element_fits v same x (Some t) all u h is holds =
      let e = same.same t (inside_of u) (ap (λ y. fits (λ w. same_type t (inside_of w)) y) (sym is) ∙ holds) in
      subst (λ y. IsOf v.program kinds x y) e h.0

  abbrev Place_of : Scope → Name → Option DataType → List ValueStep → Type 0
  Place_of v n o path = (u : DataType) × (o ≡ Some u) × IsTarget v.program kinds v.locals (target v n path) u

  -- `insert` and `delete`
  record AreChanged (v : Scope) (e : Expr) (n : Name) (p : Path) : Type 0 where
    element : (typed v e).breaches ≡ []
    place : (walked v (written_root v 38 n) p).breaches ≡ []
    gathers : fits is_gathering (walked v (written_root v 38 n) p).is ≡ true
    fit : is_element (typed v e).is (walked v (written_root v 38 n) p).is ≡ true

  are_changed : (v : Scope) (e : Expr) (n : Name) (p : Path) → changes (expr_place e) (typed v e) (gathering n.at (walked v (written_root v 38 n) p)) ≡ [] → AreChanged v e n p
  are_changed v e n p none =
      let all = walked v (written_root v 38 n) p in
      let rest = right_none (typed v e).breaches ((gathering n.at all).breaches ++ asks 38 (expr_place e) (is_element (typed v e).is (gathering n.at all).is)) none in
      let inner = unless_none (all.breaches ++ asks 38 n.at (fits is_gathering all.is)) all.is (left_none (gathering n.at all).breaches _ rest) in
      record {
        element = left_none (typed v e).breaches _ none;
        place = left_none all.breaches _ inner;
        gathers = asked 38 n.at (fits is_gathering all.is) (right_none all.breaches _ inner);
        fit = ap (λ f. is_element (typed v e).is f.is) (sym (unless_is _ all.is inner))
            ∙ asked 38 (expr_place e) (is_element (typed v e).is (gathering n.at all).is) (right_none (gathering n.at all).breaches _ rest);
      }

  member_preserves : (v : Scope) → Stands kinds call v → (at : Place) (p : Name) (es : Exprs) (on : Option Expr) → IsSoundStmt (syn.Fork at p es on) → wants_if_any v 25 is_integer on ≡ [] →
      Fit v (Option ℤ) Any (member call v on)
  member_preserves v st at p es None sound none = goes v (Option ℤ) Any None tt
  member_preserves v st at p es (Some e) sound none =
      first_then v Datum (Option ℤ) (Of v (typed v e).is) Any (eval call v e) _ (eval_front v e)
      (eval_preserves kinds call call_front v st e sound.2 (left_none (typed v e).breaches _ none)) (λ x h. goes v (Option ℤ) Any (Some (integer_in x)) tt)

  clean_printed : (v : Scope) (es : Exprs) → printed v es ≡ [] → AreClean v es
  clean_printed v syn.no_expr none = tt
  clean_printed v (syn.expr e es) none =
      (left_none (typed v e).breaches _ (left_none (wants v 34 is_printed e) _ none), clean_printed v es (right_none (wants v 34 is_printed e) _ none))

  bound_word : (v : Scope) (same : SameTypes) (x : Datum) (e : Expr) → wants v 22 is_integer e ≡ [] → Of v (typed v e).is x → IsWord (integer_in x)
  bound_word v same x e none h =
      let b = fits_tested v.program kinds is_integer x (typed v e).is h (asked 22 (expr_place e) (fits is_integer (typed v e).is) (right_none (typed v e).breaches _ none)) in
      integer_word v.program kinds x (subst (λ t. Fits v.program kinds x (Some t)) (same.same b.0 (plain base.Integer) b.2) b.3).0

  -- ---- statements

  mutual
    run_preserves : (v : Scope) → Stands kinds call v → (x : Stmt) → IsSoundStmt x → stmt_breaches v x ≡ [] → Fit v Flow (Leaving v) (run call v x)
    run_preserves v st (syn.Return at e) sound none = give_back_preserves v st at e sound none
    run_preserves v st (syn.If at as_) sound none = arms_preserves v st as_ sound none
    run_preserves v st (syn.While at test ss) sound none =
        let tested = left_none (typed v test).breaches _ (left_none (wants v 21 is_boolean test) _ none) in
        let body = right_none (wants v 21 is_boolean test) (stmts_breaches v ss) none in
        repeated_preserves v.program kinds v.locals (Leaving v) tt _
        (fronts.then _ _ _ _ (eval_front v test) (λ x. everywhere.round_if_holds Front fronts (truth_in x) (run_all call v ss) (run_all_front v ss)))
        (first_then v Datum Round (Of v (typed v test).is) (Turning v) (eval call v test) _ (eval_front v test) (eval_preserves kinds call call_front v st test sound.0 tested) (λ x h.
        round_if_preserves v (truth_in x) (run_all call v ss) (run_all_front v ss) (run_all_preserves v st ss sound.1 body)))
    run_preserves v st (syn.For at n low high ss) sound none =
        let own = right_none (counts v n) (wants v 22 is_integer low ++ (wants v 22 is_integer high ++ stmts_breaches (with_loop v n) ss)) none in
        let lows = left_none (wants v 22 is_integer low) _ own in
        let rest = right_none (wants v 22 is_integer low) (wants v 22 is_integer high ++ stmts_breaches (with_loop v n) ss) own in
        let highs = left_none (wants v 22 is_integer high) _ rest in
        first_then v Datum Flow (Of v (typed v low).is) (Leaving v) (eval call v low) _ (eval_front v low)
        (eval_preserves kinds call call_front v st low sound.1 (left_none (typed v low).breaches _ lows)) (λ a h.
        first_then v Datum Flow (Of v (typed v high).is) (Leaving v) (eval call v high) _ (eval_front v high)
        (eval_preserves kinds call call_front v st high sound.2 (left_none (typed v high).breaches _ highs)) (λ b k.
        count_preserves v.program kinds v.locals (Leaving v) tt (loop_local n) (run_all call (with_loop v n) ss) (run_all_front (with_loop v n) ss)
        (run_all_preserves (with_loop v n) (stands_in_loop kinds call v n st) ss sound.3 (right_none (wants v 22 is_integer high) (stmts_breaches (with_loop v n) ss) rest))
        (rounds (integer_in a) (integer_in b)) (integer_in a) (λ i less.
        integer_fits v.program kinds (integer_in a +ℤ pos i)
        (round_word (integer_in a) (integer_in b) (bound_word v st.laws.same a low lows h) (bound_word v st.laws.same b high highs k) i less))))
    run_preserves v st (syn.Repeat at ss test) sound none =
        let tested = left_none (typed v test).breaches _ (right_none (stmts_breaches v ss) (wants v 21 is_boolean test) none) in
        repeated_preserves v.program kinds v.locals (Leaving v) tt _
        (fronts.then _ _ _ _ fronts.turns (λ y. fronts.then _ _ _ _ (run_all_front v ss) (everywhere.until_holds Front fronts (eval call v test) (eval_front v test))))
        (first_then v (Unit {0}) Round Any (Turning v) turn _ fronts.turns (turn_preserves v.program kinds v.locals) (λ y done.
        first_then v Flow Round (Leaving v) (Turning v) (run_all call v ss) _ (run_all_front v ss) (run_all_preserves v st ss sound.0 (left_none (stmts_breaches v ss) _ none)) (λ flow k.
        until_preserves v (Of v (typed v test).is) (eval call v test) (eval_front v test) (eval_preserves kinds call call_front v st test sound.1 tested) flow k)))
    run_preserves v st (syn.Fork at p es on) sound none =
        let one = right_none (forks v at) (fork_rules p es (forked v p) ++ (arguments v (forked_signature (forked v p)).formals es
        ++ (roots_differ (forked_signature (forked v p)).formals es ++ wants_if_any v 25 is_integer on))) none in
        let two = right_none (fork_rules p es (forked v p)) (arguments v (forked_signature (forked v p)).formals es
        ++ (roots_differ (forked_signature (forked v p)).formals es ++ wants_if_any v 25 is_integer on)) one in
        let three = right_none (arguments v (forked_signature (forked v p)).formals es) (roots_differ (forked_signature (forked v p)).formals es ++ wants_if_any v 25 is_integer on) two in
        let f = is_forked kinds v st.facts p es (left_none (fork_rules p es (forked v p)) _ one) in
        let given : arguments v f.signed.formals es ≡ [] = ap (λ s. arguments v s.formals es) (sym f.is) ∙ left_none (arguments v (forked_signature (forked v p)).formals es) _ two in
        first_then v (List Datum) Flow (λ xs. AreTyped kinds v xs es) (Leaving v) (eval_all call v es) _ (everywhere.all_holds Front fronts call call_front v es)
        (all_preserves kinds call call_front v st es sound.1 (clean_arguments v f.signed.formals es given)) (λ xs h.
        first_then v (Option ℤ) Flow Any (Leaving v) (member call v on) _ (everywhere.member_holds Front fronts call call_front v on)
        (member_preserves v st at p es on sound (right_none (roots_differ (forked_signature (forked v p)).formals es) _ three)) (λ m done.
        first_then v (Option Datum) Flow Any (Leaving v) (callables.fork v p xs m) _ (everywhere.fork_holds Front fronts v p xs m)
        (f.forks xs m (are_taken kinds v st.facts st.laws f.signed.formals es xs f.known given f.many h)) (λ y forked_so. goes v Flow (Leaving v) On tt)))
    run_preserves v st (syn.WriteLine at es) sound none =
        let clean = clean_printed v es (right_none (acts v at) (printed v es) none) in
        first_then v (List Datum) Flow (λ xs. AreTyped kinds v xs es) (Leaving v) (eval_all call v es) _ (everywhere.all_holds Front fronts call call_front v es)
        (all_preserves kinds call call_front v st es sound clean) (λ xs h.
        first_then v (List ℕ) Flow IsLine (Leaving v) (λ s. gives (line_of [] (texts_of v es xs)) s) _ (fronts.gives (List ℕ) (λ frame. line_of [] (texts_of v es xs)))
        (gives_preserves v.program kinds v.locals IsLine (λ s. line_of [] (texts_of v es xs)) (λ s fits_s.
        is_line [] (texts_of v es xs) (All-nil _, omega arith) (texts_codes kinds v st.facts st.laws es xs h))) (λ line k.
        first_then v (Option Datum) Flow Any (Leaving v) (callables.write line) _ (everywhere.write_holds Front fronts line)
        (write_preserves v.program kinds v.locals line k) (λ y done. goes v Flow (Leaving v) On tt)))
    run_preserves v st (syn.Insert at e n p) sound none =
        let c = are_changed v e n p none in
        first_then v Datum Flow (Of v (typed v e).is) (Leaving v) (eval call v e) _ (eval_front v e) (eval_preserves kinds call call_front v st e sound.0 c.element) (λ x h.
        first_then v (List ValueStep) Flow (Place_of v n (walked v (written_root v 38 n) p).is) (Leaving v) (eval_path call v (root_type v n) p) _
        (everywhere.path_holds Front fronts call call_front v (root_type v n) p)
        (placed kinds call call_front v st 38 n p (λ u clean. path_preserves kinds call call_front v st u p sound.2 clean) c.place) (λ path k.
        first_then v (Unit {0}) Flow Any (Leaving v) (put (target v n path) x) _ (everywhere.put_holds Front fronts (target v n path) x)
        (put_preserves v.program kinds st.laws.paths st.laws.sizes v.locals (target v n path) k.0 k.2 st.laws.elements
        (gathers_so (outside_of k.0) (ap (fits is_gathering) (sym k.1) ∙ c.gathers)) x (element_fits v st.laws.same x (typed v e).is _ k.0 h k.1 c.fit)) (λ y done.
        goes v Flow (Leaving v) On tt)))
    run_preserves v st (syn.Delete at e n p) sound none =
        let c = are_changed v e n p none in
        first_then v Datum Flow (Of v (typed v e).is) (Leaving v) (eval call v e) _ (eval_front v e) (eval_preserves kinds call call_front v st e sound.0 c.element) (λ x h.
        first_then v (List ValueStep) Flow (Place_of v n (walked v (written_root v 38 n) p).is) (Leaving v) (eval_path call v (root_type v n) p) _
        (everywhere.path_holds Front fronts call call_front v (root_type v n) p)
        (placed kinds call call_front v st 38 n p (λ u clean. path_preserves kinds call call_front v st u p sound.2 clean) c.place) (λ path k.
        first_then v (Unit {0}) Flow Any (Leaving v) (drop_element (target v n path) x) _ (everywhere.drop_holds Front fronts (target v n path) x)
        (drop_preserves v.program kinds st.laws.paths st.laws.sizes v.locals (target v n path) k.0 k.2 st.laws.elements
        (gathers_so (outside_of k.0) (ap (fits is_gathering) (sym k.1) ∙ c.gathers)) x) (λ y done.
        goes v Flow (Leaving v) On tt)))
    run_preserves v st (syn.Assign n p e) sound none =
        let left = walked v (written_root v 19 n) p in
        let rest = right_none left.breaches ((typed v e).breaches ++ asks 20 n.at (agree left.is (typed v e).is)) none in
        let agrees = asked 20 n.at (agree left.is (typed v e).is) (right_none (typed v e).breaches _ rest) in
        first_then v (List ValueStep) Flow (Place_of v n (walked v (written_root v 19 n) p).is) (Leaving v) (eval_path call v (root_type v n) p) _
        (everywhere.path_holds Front fronts call call_front v (root_type v n) p)
        (placed kinds call call_front v st 19 n p (λ u clean. path_preserves kinds call call_front v st u p sound.1 clean) (left_none left.breaches _ none)) (λ path k.
        first_then v Datum Flow (Of v (typed v e).is) (Leaving v) (eval call v e) _ (eval_front v e)
        (eval_preserves kinds call call_front v st e sound.2 (left_none (typed v e).breaches _ rest)) (λ x h.
        first_then v (Unit {0}) Flow Any (Leaving v) (store (target v n path) x) _ (everywhere.store_holds Front fronts (target v n path) x)
        (store_preserves v.program kinds st.laws.paths st.laws.sizes v.locals (target v n path) k.0 k.2 x
        (fits_agreed v.program kinds st.laws.same x k.0 (typed v e).is h (ap (λ o. agree o (typed v e).is) (sym k.1) ∙ agrees)).0) (λ y done.
        goes v Flow (Leaving v) On tt)))
    run_preserves v st (Stmt.Call n es) sound none =
        let c = is_call kinds call v st.scope st.facts st.laws st.calls AsStatement n es none in
        first_then v (List Passed) Flow (λ ps. ArePassed kinds v ps c.signed.formals es) (Leaving v) (eval_passed call v (modes_of (callee v n)) es) _
        (everywhere.arguments_holds Front fronts call call_front v (modes_of (callee v n)) es)
        (subst (λ ms. Fit v (List Passed) (λ ps. ArePassed kinds v ps c.signed.formals es) (eval_passed call v ms es)) (sym c.modes)
        (arguments_preserves kinds call call_front v st c.signed.formals es sound.1 c.known c.inside c.many)) (λ ps h.
        first_then v (Option Datum) Flow (IsResult v.program kinds c.signed.result) (Leaving v) (callables.invoked call (callee v n) (fresh_node v es) ps) _
        (everywhere.invoked_holds Front fronts call call_front (callee v n) (fresh_node v es) ps) (c.invokes ps h) (λ x k.
        goes v Flow (Leaving v) On tt))
    run_preserves v st (Stmt.Invoke o m es) sound none =
        let c = is_invoked kinds v st.scope st.facts AsStatement o m es none in
        first_then v (List Datum) Flow (λ xs. AreTyped kinds v xs es) (Leaving v) (eval_all call v es) _ (everywhere.all_holds Front fronts call call_front v es)
        (all_preserves kinds call call_front v st es sound.2 (clean_arguments v c.signed.formals es c.inside)) (λ xs h.
        first_then v (Option Datum) Flow (IsResult v.program kinds c.signed.result) (Leaving v) (callables.operate v o m xs) _ (everywhere.operate_holds Front fronts v o m xs)
        (c.operates xs (are_taken kinds v st.facts st.laws c.signed.formals es xs c.known c.inside c.many h)) (λ x k.
        goes v Flow (Leaving v) On tt))

    pub run_all_preserves : (v : Scope) → Stands kinds call v → (ss : Stmts) → AreSoundStmts ss → stmts_breaches v ss ≡ [] → Fit v Flow (Leaving v) (run_all call v ss)
    run_all_preserves v st syn.no_stmt sound none = goes v Flow (Leaving v) On tt
    run_all_preserves v st (syn.stmt x xs) sound none =
        first_then v Flow Flow (Leaving v) (Leaving v) (run call v x) _ (everywhere.run_holds Front fronts call call_front v x)
        (run_preserves v st x sound.0 (left_none (stmt_breaches v x) _ none)) (λ flow k.
        go_on_preserves v.program kinds v.locals (Leaving v) tt flow (run_all call v xs) k
        (run_all_preserves v st xs sound.1 (right_none (stmt_breaches v x) (stmts_breaches v xs) none)))

    arms_preserves : (v : Scope) → Stands kinds call v → (as_ : Arms) → AreSoundArms as_ → arms_breaches v as_ ≡ [] → Fit v Flow (Leaving v) (run_arms call v as_)
    arms_preserves v st syn.no_arm sound none = goes v Flow (Leaving v) On tt
    arms_preserves v st (syn.arm a as_) sound none =
        first_then v (Option Flow) Flow (Taking v) (Leaving v) (run_arm call v a) _ (everywhere.arm_holds Front fronts call call_front v a)
        (arm_preserves v st a sound.0 (left_none (arm_breaches v a) _ none)) (λ taken k.
        otherwise_preserves v taken (run_arms call v as_) k (arms_preserves v st as_ sound.1 (right_none (arm_breaches v a) (arms_breaches v as_) none)))

    arm_preserves : (v : Scope) → Stands kinds call v → (a : Arm) → IsSoundArm a → arm_breaches v a ≡ [] → Fit v (Option Flow) (Taking v) (run_arm call v a)
    arm_preserves v st (syn.When test ss) sound none =
        first_then v Datum (Option Flow) (Of v (typed v test).is) (Taking v) (eval call v test) _ (eval_front v test)
        (eval_preserves kinds call call_front v st test sound.0 (left_none (typed v test).breaches _ (left_none (wants v 21 is_boolean test) _ none))) (λ x h.
        taken_preserves v (truth_in x) (run_all call v ss) (run_all_front v ss) (run_all_preserves v st ss sound.1 (right_none (wants v 21 is_boolean test) (stmts_breaches v ss) none)))
    arm_preserves v st (syn.Otherwise ss) sound none = always_preserves v (run_all call v ss) (run_all_front v ss) (run_all_preserves v st ss sound none)
