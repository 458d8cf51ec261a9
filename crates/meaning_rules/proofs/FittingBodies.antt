-- Functions, operations and makings preserve what fits.
use Rattle.std.proofs.Common.{refl, ap, sym, ◌∙◌, subst, arith, eqb-true}
use Rattle.std.specs.Prelude.{◌≡◌, ◌+◌, ◌==◌, ℕ, zero, suc, Bool, true, false, if◌then◌else◌, List, [], ◌∷◌, ◌++◌, map, flat_map, drop, length, slice_get, is_some, Option, Some, None, option_map, IfSome}
use Rattle.std.specs.List.{AllByRecursion}
use Rattle.std.proofs.lemmas.List.{append_assoc, length-append}
use Rattle.orca_base.specs.declared.fault.FaultKind.TheVariants.{TooDeep}
use Rattle.orca_base.specs.declared.ids.KindNo.{KindNo}
use Rattle.orca_base.specs.declared.ids.OpNo.{OpNo}
use Rattle.orca_tree.specs.declared.tree.Mode.{Mode}
use Rattle.orca_tree.specs.declared.tree.Mode.TheVariants as mode
use Rattle.orca_syntax.specs.Syntax as syn
use Rattle.orca_syntax.specs.Syntax.{Expr, Kind, Parameter, Stmts, Guard, Body, Operation, Block}
use Rattle.link_rules.specs.Units.{Source}
use Rattle.type_rules.specs.declared.types.DataType.{DataType}
use Rattle.type_rules.specs.TopLevel.{TopName}
use Rattle.type_rules.specs.Constants.{View}
use Rattle.type_rules.specs.TypePhrases.{data_found}
use Rattle.type_rules.specs.Rules.{Found}
use Rattle.type_rules.specs.declared.types.Measured.{Measured}
use Rattle.orca_tree.specs.declared.tree.Name.{Name}
use Rattle.type_rules.specs.Scopes.{Local, Scope, type_of, parameter_found, passed, formal, parameter_local, value_local, locals_of, view_of, own_names, signature, role_of}
use Rattle.type_rules.specs.Declarations.{field_locals, operation_view}
use Rattle.type_rules.specs.declared.names.LocalRole.TheVariants.{Variable}
use Rattle.value_core.specs.Datum.{Datum, Data, list_of, list_of-data_of}
use Rattle.value_core.specs.Fits.{Kinds, IfMade, KeepsState, RepliesWell}
use Rattle.value_core.specs.View.{datum_of-value_of}
use Rattle.value_core.specs.declared.action.Reply.TheVariants as reply
use Rattle.value_core.specs.declared.meaning.Tried.{Tried}
use Rattle.value_core.specs.declared.meaning.Tried.TheVariants as tried
use Rattle.meaning_rules.specs.Openings.{opening}
use Rattle.meaning_rules.specs.Operators.{truth_in}
use Rattle.meaning_rules.specs.Programs.{ObjectType, object_type, type_at, function_scope, operation_scope, operation_variables, begin_scope, result_in}
use Rattle.meaning_rules.specs.States.{State, Out, Goes, Stops, after, turn}
use Rattle.meaning_rules.specs.Variables.{store}
use Rattle.meaning_rules.specs.Calls.{Calls, Passed, Given, Lent}
use Rattle.meaning_rules.specs.Expressions.{eval}
use Rattle.meaning_rules.specs.Loops.{Flow, On, Back}
use Rattle.meaning_rules.specs.Statements.{run_all}
use Rattle.meaning_rules.specs.Functions.{opened, parameter_values, hand_back, leave, returned, own_frame, enter_body, enter_what, enter, calls, all_calls}
use Rattle.meaning_rules.specs.Operations.{start, fault_of, reply_of, done, body_ended, body_tried, chosen, guard_tried, guards_tried, alternatives_tried, operation_start, own_count, alternatives, operation_tried, type_tried, tries_of, begun_with, made, type_made, making_of}
use Rattle.meaning_rules.specs.Fitting.{Fits, AreFitting, FitsState, FitsType, FitsArgs, FitsArgsOf, FitsOperation, FitsParameters, FitsReply, FitsReplyOf, FitsResultOf, FitsResult}
use Rattle.meaning_rules.specs.PhrasesFit.{AreAnswers, AreGiven, CallsFit, Leaves, Preserves, IsResult, Returns}
use Rattle.meaning_rules.specs.Accepted.{IsOfData, HoldsData, IsKnownResult, IsFunction, AreInOrder, BodyInOrder, IsOperationBody, IsObjectType, IsAccepted}
use Rattle.meaning_rules.specs.Replies.{Front}
use Rattle.meaning_rules.proofs.Changing.{store_preserves}
use Rattle.meaning_rules.proofs.Everywhere as everywhere
use Rattle.meaning_rules.proofs.FittingStatements.{run_all_preserves}
use Rattle.meaning_rules.proofs.Fronts.{fronts}
use Rattle.meaning_rules.proofs.Objectless.{fits_without}
use Rattle.meaning_rules.proofs.Premises.{Laws}
use Rattle.meaning_rules.proofs.Preserving.{Any, after_preserves, first_answers, then_preserves, goes_preserves, faults_preserves, turn_preserves}
use Rattle.meaning_rules.proofs.Valued.{Stands}

not_zero : (k : ℕ) (b : Bool) → (suc k == 0) ≡ b → (suc k == 0) ≡ false
not_zero k true is = let e : suc k ≡ 0 = eqb-true (suc k) 0 is in absurd (omega (arith, e))
not_zero k false is = is

-- ---- frames

module _ (us : List Source) (kinds : Kinds) where
  pub fitting_more_locals : (xs ys : List Datum) (ls ms : List Local) → AreFitting us kinds xs ls → AreFitting us kinds ys ms → AreFitting us kinds (xs ++ ys) (ls ++ ms)
  fitting_more_locals [] ys [] ms h k = k
  fitting_more_locals [] ys (l ∷ ls) ms h k = absurd h
  fitting_more_locals (x ∷ xs) ys [] ms h k = absurd h
  fitting_more_locals (x ∷ xs) ys (l ∷ ls) ms h k = (h.0, fitting_more_locals xs ys ls ms h.1 k)

  pub fitting_length : (xs : List Datum) (ls : List Local) → AreFitting us kinds xs ls → length xs ≡ length ls
  fitting_length [] [] h = refl
  fitting_length [] (l ∷ ls) h = absurd h
  fitting_length (x ∷ xs) [] h = absurd h
  fitting_length (x ∷ xs) (l ∷ ls) h = ap suc (fitting_length xs ls h.1)

  pub dropped_fits : (xs : List Datum) (ls ms : List Local) → AreFitting us kinds xs (ls ++ ms) → AreFitting us kinds (drop (length ls) xs) ms
  dropped_fits xs [] ms h = h
  dropped_fits [] (l ∷ ls) ms h = absurd h
  dropped_fits (x ∷ xs) (l ∷ ls) ms h = dropped_fits xs ls ms h.1

  -- what variables of data open with
  pub opening_fits : (o : Option DataType) → IsOfData us o → Fits us kinds (opening us o) o
  opening_fits o h = subst (λ t. Fits us kinds (opening us t) t) (sym h.1) (h.2.opens [] h.0 refl kinds)

  pub opened_fit : (ls : List Local) → AllByRecursion (λ l. IsOfData us l.type) ls → AreFitting us kinds (opened us ls) ls
  opened_fit [] all = tt
  opened_fit (l ∷ ls) all = (opening_fits l.type all.0, opened_fit ls all.1)

  -- ---- what a function's frame begins with

  abbrev AllHold : List Local → Type 0
  AllHold ls = AllByRecursion (λ l. HoldsData l.role us l.type) ls

  none_given : (ls : List Local) → parameter_values us ls [] ≡ []
  none_given [] = refl
  none_given (l ∷ ls) = refl

  module _ (ls : List Local) (w : View) where
    pub own_fits : (params : List Parameter) (vars : List Local) (given : List Passed) → AreGiven us kinds ls given (map (formal w) params) →
        AllHold (map (parameter_local w) params ++ vars) → AllByRecursion (λ l. IsOfData us l.type) vars →
        AreFitting us kinds (parameter_values us (map (parameter_local w) params ++ vars) given ++ opened us (drop (length given) (map (parameter_local w) params ++ vars)))
        (map (parameter_local w) params ++ vars)
    own_fits [] vars [] h holds data_vars =
        subst (λ xs. AreFitting us kinds (xs ++ opened us vars) vars) (sym (none_given vars)) (opened_fit vars data_vars)
    own_fits [] vars (Given x ∷ ps) h holds data_vars = absurd h
    own_fits [] vars (Lent to ∷ ps) h holds data_vars = absurd h
    own_fits (q ∷ params) vars [] h holds data_vars = absurd h
    own_fits (q ∷ params) vars (p ∷ ps) h holds data_vars =
        one q.mode (type_of (parameter_found w q.mode q.kind)) p h holds.0 (λ k. own_fits params vars ps k holds.1 data_vars)
      where
        one : (m : Mode) (t : Option DataType) (p : Passed) → AreGiven us kinds ls (p ∷ ps) (passed m t ∷ map (formal w) params) → HoldsData (role_of m) us t →
            (AreGiven us kinds ls ps (map (formal w) params) →
            AreFitting us kinds (parameter_values us (map (parameter_local w) params ++ vars) ps ++ opened us (drop (length ps) (map (parameter_local w) params ++ vars)))
            (map (parameter_local w) params ++ vars)) →
            AreFitting us kinds
            (parameter_values us (record { name = q.name.text; role = role_of m; type = t } ∷ (map (parameter_local w) params ++ vars)) (p ∷ ps)
            ++ opened us (drop (length ps) (map (parameter_local w) params ++ vars)))
            (record { name = q.name.text; role = role_of m; type = t } ∷ (map (parameter_local w) params ++ vars))
        one mode.Value t (Given x) g hold rest = (g.0, rest g.1)
        one mode.Value t (Lent to) g hold rest = absurd g
        one mode.Shared t (Given x) g hold rest = (g.0, rest g.1)
        one mode.Shared t (Lent to) g hold rest = absurd g
        one mode.Out t (Given x) g hold rest = absurd g
        one mode.Out t (Lent to) g hold rest = (opening_fits t hold, rest g.1)

    -- ---- what goes back

    module _ (laws : Laws us) where
      hand_preserves : (params : List Parameter) (vars : List Local) (given : List Passed) (ys : List Datum) → AreGiven us kinds ls given (map (formal w) params) →
          AreFitting us kinds ys (map (parameter_local w) params ++ vars) → Preserves us kinds ls (Unit {0}) Any (hand_back given ys)
      hand_preserves [] vars [] ys h fits = goes_preserves us kinds ls Any tt tt
      hand_preserves [] vars (Given x ∷ ps) ys h fits = absurd h
      hand_preserves [] vars (Lent to ∷ ps) ys h fits = absurd h
      hand_preserves (q ∷ params) vars [] ys h fits = absurd h
      hand_preserves (q ∷ params) vars (p ∷ ps) [] h fits = absurd fits
      hand_preserves (q ∷ params) vars (p ∷ ps) (y ∷ ys) h fits =
          one q.mode (type_of (parameter_found w q.mode q.kind)) p h fits.0 (λ k. hand_preserves params vars ps ys k fits.1)
        where
          one : (m : Mode) (t : Option DataType) (p : Passed) → AreGiven us kinds ls (p ∷ ps) (passed m t ∷ map (formal w) params) → Fits us kinds y t →
              (AreGiven us kinds ls ps (map (formal w) params) → Preserves us kinds ls (Unit {0}) Any (hand_back ps ys)) →
              Preserves us kinds ls (Unit {0}) Any (hand_back (p ∷ ps) (y ∷ ys))
          one mode.Value t (Given x) g fit rest = rest g.1
          one mode.Value t (Lent to) g fit rest = absurd g
          one mode.Shared t (Given x) g fit rest = rest g.1
          one mode.Shared t (Lent to) g fit rest = absurd g
          one mode.Out t (Given x) g fit rest = absurd g
          one mode.Out t (Lent to) g fit rest =
              then_preserves us kinds ls Any Any (store to y) _ (everywhere.store_holds Front fronts to y)
              (store_preserves us kinds laws.paths laws.sizes ls to g.0.0 g.0.2 y (subst (λ o. Fits us kinds y o) g.0.1 fit).0) (λ z stored_so. rest g.1)

      -- the end of a body
      leave_leaves : (params : List Parameter) (vars : List Local) (r : Option (Option DataType)) (given : List Passed) (x : Option Datum) (outer : List Datum) (s : State) →
          AreGiven us kinds ls given (map (formal w) params) → AreFitting us kinds s.frame (map (parameter_local w) params ++ vars) → AreFitting us kinds outer ls →
          IsResult us kinds r x → AreAnswers us (leave given x outer) s → Leaves us kinds ls (IsResult us kinds r) (leave given x outer s)
      leave_leaves params vars r given x outer s h fits outer_fits holds all =
          (then_preserves us kinds ls Any (IsResult us kinds r) (hand_back given s.frame) (λ _ s1. Goes x s1) (everywhere.hand_holds Front fronts given s.frame)
          (hand_preserves params vars given s.frame h fits) (λ z handed. goes_preserves us kinds ls (IsResult us kinds r) x holds)).preserves
          (record s { frame = outer }) outer_fits all

      returned_leaves : (params : List Parameter) (vars : List Local) (k : Option Kind) (v : View) (given : List Passed) (outer : List Datum) (flow : Flow) (s : State) →
          AreGiven us kinds ls given (map (formal w) params) → AreFitting us kinds s.frame (map (parameter_local w) params ++ vars) → AreFitting us kinds outer ls →
          Returns us kinds (option_map (λ x. type_of (data_found v x)) k) flow → AreAnswers us (returned (is_some k) given outer flow) s →
          Leaves us kinds ls (IsResult us kinds (option_map (λ x. type_of (data_found v x)) k)) (returned (is_some k) given outer flow s)
      returned_leaves params vars k v given outer (Back x) s h fits outer_fits holds all =
          leave_leaves params vars (option_map (λ y. type_of (data_found v y)) k) given x outer s h fits outer_fits holds all
      returned_leaves params vars None v given outer On s h fits outer_fits holds all = leave_leaves params vars None given None outer s h fits outer_fits tt all
      returned_leaves params vars (Some x) v given outer On s h fits outer_fits holds all = tt

-- ---- functions

pub variables_hold : (us : List Source) (ls vs : List Local) → AllByRecursion (λ l. HoldsData l.role us l.type) (ls ++ vs) → AllByRecursion (λ l. HoldsData l.role us l.type) vs
variables_hold us [] vs all = all
variables_hold us (l ∷ ls) vs all = variables_hold us ls vs all.1

-- of a body's variables
pub all_data : (us : List Source) (vs : List syn.Variables) (of_kind : Kind → Found Measured) →
    AllByRecursion (λ l. HoldsData l.role us l.type) (flat_map (locals_of Variable of_kind) vs) → AllByRecursion (λ l. IsOfData us l.type) (flat_map (locals_of Variable of_kind) vs)
all_data us [] of_kind all = tt
all_data us (v ∷ vs) of_kind all = both v.names all (λ rest. all_data us vs of_kind rest)
  where
    both : (names : List Name) →
        AllByRecursion (λ l. HoldsData l.role us l.type) (map (λ n. record { name = n.text; role = Variable; type = type_of (of_kind v.kind) }) names ++ flat_map (locals_of Variable of_kind) vs) →
        (AllByRecursion (λ l. HoldsData l.role us l.type) (flat_map (locals_of Variable of_kind) vs) → AllByRecursion (λ l. IsOfData us l.type) (flat_map (locals_of Variable of_kind) vs)) →
        AllByRecursion (λ l. IsOfData us l.type) (map (λ n. record { name = n.text; role = Variable; type = type_of (of_kind v.kind) }) names ++ flat_map (locals_of Variable of_kind) vs)
    both [] rest others = others rest
    both (n ∷ names) rest others = (rest.0, both names rest.1 others)

module _ (us : List Source) (kinds : Kinds) (facts : IsAccepted us) (laws : Laws us) where
  -- a function's body, with what is passed
  body_preserves : (call : Calls) → ((i : ℕ) (ps : List Passed) → Front (Option Datum) (call i ps)) → CallsFit us kinds call → (ls : List Local) (t : TopName) (params : List Parameter) (r : Option Kind) (b : Block) →
      IsFunction us t params r b → AreInOrder (function_scope us t.defined.by params r b) b.statements → (given : List Passed) → AreGiven us kinds ls given (signature us t.defined.by params r b).formals →
      Preserves us kinds ls (Option Datum) (IsResult us kinds (signature us t.defined.by params r b).result)
      (enter_body call us (function_scope us t.defined.by params r b) b (is_some r) given)
  body_preserves call call_front fit ls t params r b function order given h =
      let v : Scope = function_scope us t.defined.by params r b in
      let w : View = view_of us t.defined.by (own_names params b) in
      let vars : List Local = flat_map (locals_of Variable (data_found w)) b.variables in
      let f : State → Out Flow = λ s. run_all call v b.statements (record s { frame = own_frame us v given }) in
      record {
        preserves = λ s fits all.
            after_preserves us kinds ls ls Any (IsResult us kinds (signature us t.defined.by params r b).result) turn
            (λ _ s1. after (f s1) (λ flow s2. returned (is_some r) given s1.frame flow s2)) s (turn s) (fronts.turns.front s)
            ((turn_preserves us kinds ls).preserves s fits (first_answers us kinds turn (λ _ s1. after (f s1) (λ flow s2. returned (is_some r) given s1.frame flow s2)) s all)) all
            (λ x s1 fits1 holds answers.
            after_preserves us kinds v.locals ls (Returns us kinds v.result) (IsResult us kinds (signature us t.defined.by params r b).result) f (returned (is_some r) given s1.frame) s1 (f s1)
            ((fronts.framed Flow (λ frame q. run_all call v b.statements q) (λ frame. own_frame us v given) (λ frame. everywhere.run_all_holds Front fronts call call_front v b.statements)).front s1)
            ((run_all_preserves kinds call call_front v (record { scope = function.scope; facts = facts; laws = laws; calls = fit }) b.statements order.0 order.1).preserves
            (record s1 { frame = own_frame us v given })
            (own_fits us kinds ls w params vars given h function.holds (all_data us b.variables (data_found w) (variables_hold us (map (parameter_local w) params) vars function.holds)))
            (first_answers us kinds f (returned (is_some r) given s1.frame) s1 answers))
            answers
            (λ flow s2 fits2 left answers2.
            returned_leaves us kinds ls w laws params vars r w given s1.frame flow s2 h fits2 fits1 left answers2));
      }

  pub calls_fit : (levels : ℕ) → CallsFit us kinds (calls us levels)
  calls_fit zero ls i t ps r b at what given h less = faults_preserves us kinds ls _ TooDeep
  calls_fit (suc levels) ls i t ps r b at what given h less =
      subst (λ o. Preserves us kinds ls (Option Datum) (IsResult us kinds (signature us t.defined.by ps r b).result) (enter (calls us levels) us o given)) (sym at)
      (subst (λ x. Preserves us kinds ls (Option Datum) (IsResult us kinds (signature us t.defined.by ps r b).result) (enter_what (calls us levels) us t x given)) (sym what)
      (body_preserves (calls us levels) (everywhere.calls_holds Front fronts us levels) (calls_fit levels) ls t ps r b (facts.functions i t ps r b at what) (facts.orderly.functions i t ps r b at what) given h))

  -- ---- bodies of implementations, which have no replies

  no_answers : {A : Type 0} (f : State → Out A) (frame : List Datum) → AreAnswers us f (start frame)
  no_answers f frame [] rest answer need is comes = absurd cc
  no_answers f frame (x ∷ before) rest answer need is comes = absurd cc

  -- ---- operations

  -- what a try leaves and replies
  abbrev Does : ObjectType → Option (Option DataType) → Tried → Type 0
  Does t r tr = KeepsState tr (λ state. FitsType us kinds state (Some t)) × RepliesWell tr (FitsResult us r)

  broke_fits : (r : Option (Option DataType)) (fault : _) → FitsResult us r (reply.Broke fault)
  broke_fits None fault = tt
  broke_fits (Some t) fault = tt

  reply_fits : (r : Option (Option DataType)) (x : Option Datum) → IsKnownResult us r → IsResult us kinds r x → FitsResult us r (reply_of x)
  reply_fits None None known h = tt
  reply_fits None (Some x) known h = absurd h
  reply_fits (Some t) None known h = absurd h
  reply_fits (Some t) (Some x) known h = subst (λ y. Fits us [] y t) (sym (datum_of-value_of x)) (fits_without us kinds [] x t known h)

  module _ (t : ObjectType) (r : Option (Option DataType)) (known : IsKnownResult us r) (own : List Local) where
    done_does : (guard : ℕ) (x : Option Datum) (s : State) → AreFitting us kinds s.frame (own ++ field_locals us t.home t.fields) → IsResult us kinds r x →
        Does t r (done guard (length own) x s)
    done_does guard x s fits h = (
      subst (λ ys. AreFitting us kinds ys (field_locals us t.home t.fields)) (sym (list_of-data_of (drop (length own) s.frame)))
          (dropped_fits us kinds s.frame own (field_locals us t.home t.fields) fits),
      reply_fits r x known h,
    )

  module _ (t : ObjectType) (v : View) (k : Option Kind) (known : IsKnownResult us (option_map (λ x. type_of (data_found v x)) k)) (own : List Local) where
    abbrev Result : Option (Option DataType)
    Result = option_map (λ x. type_of (data_found v x)) k

    ended_does : (guard : ℕ) (flow : Flow) (s : State) → AreFitting us kinds s.frame (own ++ field_locals us t.home t.fields) → Returns us kinds Result flow →
        Does t Result (body_ended guard (length own) (is_some k) flow s)
    ended_does guard (Back x) s fits h = done_does t Result known own guard x s fits h
    ended_does guard On s fits h = by k known
      where
        by : (j : Option Kind) → IsKnownResult us (option_map (λ x. type_of (data_found v x)) j) →
            Does t (option_map (λ x. type_of (data_found v x)) j) (body_ended guard (length own) (is_some j) On s)
        by None known_j = done_does t None tt own guard None s fits tt
        by (Some x) known_j = (tt, tt)

    tried_does : (guard : ℕ) (out : Out Flow) → Leaves us kinds (own ++ field_locals us t.home t.fields) (Returns us kinds Result) out →
        Does t Result (body_tried guard (length own) (is_some k) out)
    tried_does guard (Goes flow s) h = ended_does guard flow s h.0 h.1
    tried_does guard (Stops why) h = (tt, broke_fits Result (fault_of why))

    chosen_does : (b : Bool) (body others : Tried) → Does t Result body → Does t Result others → Does t Result (chosen b body others)
    chosen_does true body others h i = h
    chosen_does false body others h i = i

    guard_does : (guard : ℕ) (body others : Tried) (out : Out Datum) → Does t Result body → Does t Result others → Does t Result (guard_tried guard body others out)
    guard_does guard body others (Goes x s) h i = chosen_does (truth_in x) body others h i
    guard_does guard body others (Stops why) h i = (tt, broke_fits Result (fault_of why))

    module _ (sc : Scope) (test : Expr → Out Datum) (body : ℕ → Stmts → Tried) (does : (guard : ℕ) (ss : Stmts) → AreInOrder sc ss → Does t Result (body guard ss)) where
      guards_do : (guard : ℕ) (gs : List Guard) → AllByRecursion (λ g. AreInOrder sc g.body) gs → Does t Result (guards_tried test body guard gs)
      guards_do guard [] all = (tt, tt)
      guards_do guard (g ∷ gs) all =
          guard_does guard (body guard g.body) (guards_tried test body (guard + 1) gs) (test g.test) (does guard g.body all.0) (guards_do (guard + 1) gs all.1)

      alternatives_do : (b : Body) → BodyInOrder sc b → Does t Result (alternatives_tried test body b)
      alternatives_do (syn.Guarded first others) all = guards_do 1 (first ∷ others) all
      alternatives_do (syn.Plain ss) all = does 0 ss all

  operation_does : (t : ObjectType) (o : Operation) (state args : Data) → IsOperationBody us t o → BodyInOrder (operation_scope us t o false) o.body → FitsType us kinds state (Some t) → FitsParameters us kinds t args (Some o) →
      Does t (result_in us t o) (operation_tried us t state args (Some o))
  operation_does t o state args body in_order state_fits args_fit =
      let params : List Local = map (value_local (operation_view us t.home t.fields o)) o.head.parameters in
      let own : List Local = params ++ operation_variables us t o in
      let long : own_count us t o args ≡ length own =
      ap (λ n. n + length (operation_variables us t o)) (fitting_length us kinds (list_of args) params args_fit.0) ∙ sym (length-append params (operation_variables us t o)) in
      let fits : AreFitting us kinds (operation_start us t o state args).frame (operation_scope us t o false).locals =
      fitting_more_locals us kinds (list_of args) _ params _ args_fit.0
      (fitting_more_locals us kinds (opened us (operation_variables us t o)) (list_of state) (operation_variables us t o) (field_locals us t.home t.fields)
      (opened_fit us kinds (operation_variables us t o) body.holds) state_fits) in
      let st : Stands kinds (all_calls us) (operation_scope us t o false) = record { scope = body.scope; facts = facts; laws = laws; calls = calls_fit 64 } in
      subst (λ n. Does t (result_in us t o) (alternatives us (operation_scope us t o true) (operation_scope us t o false) n (is_some o.head.result) (operation_start us t o state args) o.body)) (sym long)
      (alternatives_do t (operation_view us t.home t.fields o) o.head.result body.scope.result own (operation_scope us t o false)
      (λ e. eval (all_calls us) (operation_scope us t o true) e (operation_start us t o state args))
      (λ guard ss. body_tried guard (length own) (is_some o.head.result) (run_all (all_calls us) (operation_scope us t o false) ss (operation_start us t o state args)))
      (λ guard ss order.
      tried_does t (operation_view us t.home t.fields o) o.head.result body.scope.result own guard _
      (subst (λ ls. Leaves us kinds ls (Returns us kinds (result_in us t o)) (run_all (all_calls us) (operation_scope us t o false) ss (operation_start us t o state args)))
      (sym (append_assoc params (operation_variables us t o) (field_locals us t.home t.fields)))
      ((run_all_preserves kinds (all_calls us) (everywhere.calls_holds Front fronts us 64) (operation_scope us t o false) st ss order.0 order.1).preserves
      (operation_start us t o state args) fits (no_answers (run_all (all_calls us) (operation_scope us t o false) ss) (operation_start us t o state args).frame))))
      o.body in_order)

  -- of whatever type
  abbrev DoesOf : OpNo → Option ObjectType → Tried → Type 0
  DoesOf op ot tr = KeepsState tr (λ state. FitsType us kinds state ot) × RepliesWell tr (λ answer. FitsReplyOf us op answer ot)

  type_does : (kind : KindNo) (op : OpNo) (state args : Data) (ot : Option ObjectType) → object_type us kind ≡ ot → FitsType us kinds state ot → FitsOperation us kinds op args ot →
      DoesOf op ot (type_tried us op state args ot)
  type_does kind op state args None is state_fits args_fit = absurd args_fit
  type_does kind op state args (Some t) is state_fits args_fit = by (slice_get t.operations op.0) refl args_fit
    where
      by : (x : Option Operation) → slice_get t.operations op.0 ≡ x → FitsParameters us kinds t args x →
          KeepsState (operation_tried us t state args x) (λ st. FitsType us kinds st (Some t)) × RepliesWell (operation_tried us t state args x) (λ answer. FitsResultOf us t answer x)
      by None at fit = absurd fit
      by (Some o) at fit = operation_does t o state args ((facts.object_types kind t is).operations op.0 o at) (facts.orderly.operations kind t is op.0 o at) state_fits fit

  pub tries_do : (kind : KindNo) (op : OpNo) (state args : Data) → FitsState us kinds kind state → FitsArgs us kinds kind op args →
      KeepsState (tries_of us kind op state args) (FitsState us kinds kind) × RepliesWell (tries_of us kind op state args) (FitsReply us kind op)
  tries_do kind op state args state_fits args_fit = by kind.0 refl args_fit
    where
      by : (n : ℕ) → kind.0 ≡ n → FitsArgsOf us kinds n kind op args →
          KeepsState (tries_of us kind op state args) (FitsState us kinds kind) × RepliesWell (tries_of us kind op state args) (FitsReply us kind op)
      by zero is fit =
          let test : (kind.0 == 0) ≡ true = ap (λ m. m == 0) is in
          let none : object_type us kind ≡ None = ap (type_at us) is in
          subst (λ b. DoesOf op (object_type us kind) (if b then tried.Did 0 state reply.Done else type_tried us op state args (object_type us kind))) (sym test)
          (state_fits, subst (λ ot. FitsReplyOf us op reply.Done ot) (sym none) tt)
      by (suc k) is fit =
          let test : (kind.0 == 0) ≡ false = ap (λ m. m == 0) is ∙ not_zero k (suc k == 0) refl in
          subst (λ b. DoesOf op (object_type us kind) (if b then tried.Did 0 state reply.Done else type_tried us op state args (object_type us kind))) (sym test)
          (type_does kind op state args (object_type us kind) refl state_fits fit)

  -- ---- makings

  begun_fits : (t : ObjectType) (P : Flow → Type 0) (out : Out Flow) → Leaves us kinds (field_locals us t.home t.fields) P out → IfMade (begun_with out) (λ state. FitsType us kinds state (Some t))
  begun_fits t P (Goes flow s) h = subst (λ ys. AreFitting us kinds ys (field_locals us t.home t.fields)) (sym (list_of-data_of s.frame)) h.0
  begun_fits t P (Stops why) h = tt

  made_fits : (t : ObjectType) → IsObjectType us t → (b : Option Stmts) → IfSome b (AreInOrder (begin_scope us t)) →
      IfMade (made us t (opened us (begin_scope us t).locals) b) (λ state. FitsType us kinds state (Some t))
  made_fits t type None order =
      subst (λ ys. AreFitting us kinds ys (field_locals us t.home t.fields)) (sym (list_of-data_of (opened us (field_locals us t.home t.fields))))
      (opened_fit us kinds (field_locals us t.home t.fields) type.holds)
  made_fits t type (Some ss) order =
      begun_fits t (Returns us kinds None) (run_all (all_calls us) (begin_scope us t) ss (start (opened us (field_locals us t.home t.fields))))
      ((run_all_preserves kinds (all_calls us) (everywhere.calls_holds Front fronts us 64) (begin_scope us t)
      (record { scope = type.scope; facts = facts; laws = laws; calls = calls_fit 64 }) ss order.0 order.1).preserves
      (start (opened us (field_locals us t.home t.fields))) (opened_fit us kinds (field_locals us t.home t.fields) type.holds)
      (no_answers (run_all (all_calls us) (begin_scope us t) ss) (opened us (field_locals us t.home t.fields))))

  pub makings_fit : (kind : KindNo) → IfMade (making_of us kind) (FitsState us kinds kind)
  makings_fit kind = by (object_type us kind) refl
    where
      by : (ot : Option ObjectType) → object_type us kind ≡ ot → IfMade (type_made us ot) (λ state. FitsType us kinds state ot)
      by None is = refl
      by (Some t) is = made_fits t (facts.object_types kind t is) t.begins (facts.orderly.begins kind t is)
