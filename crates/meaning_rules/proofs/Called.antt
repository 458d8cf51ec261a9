-- Calls of functions and of operations without a breach: what they call, what they pass, and what comes of it.
use Rattle.std.proofs.Common.{refl, ap, sym, ◌∙◌, subst, leb-true, eqb-true}
use Rattle.std.specs.Prelude.{◌≡◌, ◌≤◌, ◌==◌, ◌++◌, ℕ, ℤ, Bool, true, false, not, ◌||◌, ◌&&◌, if◌then◌else◌, nat_le, List, [], ◌∷◌, length, map, slice_get, Option, Some, None, option_map, Ok, Err, IfOk}
use Rattle.std.specs.List.{AllByRecursion, list_any}
use Rattle.orca_base.specs.declared.fault.FaultKind.TheVariants.{TooLarge}
use Rattle.orca_base.specs.declared.limits.TheConstants.{VALUE_SIZE}
use Rattle.orca_base.specs.declared.place.Place.{Place}
use Rattle.orca_tree.specs.declared.tree.Mode.{Mode}
use Rattle.orca_tree.specs.declared.tree.Mode.TheVariants as mode
use Rattle.orca_tree.specs.declared.tree.Name.{Name}
use Rattle.orca_syntax.specs.Syntax as syn
use Rattle.orca_syntax.specs.Syntax.{Expr, Exprs, Kind, Parameter, Block}
use Rattle.link_rules.specs.Units.{Source}
use Rattle.type_rules.specs.declared.names.Predeclared.{Predeclared}
use Rattle.type_rules.specs.declared.names.Predeclared.TheVariants as predeclared
use Rattle.type_rules.specs.declared.signature.Formal.{Formal}
use Rattle.type_rules.specs.declared.signature.Formal.TheVariants.{ByValue, Shared, Out as ByOut, SomeGraph, NodeOf}
use Rattle.type_rules.specs.declared.signature.Signature.{Signature}
use Rattle.type_rules.specs.declared.types.DataType.{DataType}
use Rattle.type_rules.specs.declared.types.Base.TheVariants as base
use Rattle.type_rules.specs.declared.types.Layer.TheVariants as layer
use Rattle.type_rules.specs.Types as types
use Rattle.type_rules.specs.Types.{Outside, outside_of, inside_of, object_in, plain}
use Rattle.type_rules.specs.Rules.{Found, asks}
use Rattle.type_rules.specs.TopLevel as top
use Rattle.type_rules.specs.TopLevel.{What, TopName, StandsFor, stands_for, at_number, numbered, everywhere, sees, number_of, predeclared, top_names}
use Rattle.type_rules.specs.Constants.{View}
use Rattle.type_rules.specs.Scopes.{Local, Scope, local, type_of, parameter_found, passed, formal, view_of, own_names, signature, may_invoke}
use Rattle.type_rules.specs.Expressions.{Called, Use, called, function_of, outer_function, top_function, call_found, invoke_found, arguments, function_rules, called_well, count_of, is_used_well, result_type, roots_differ, signature_of, acts, operation_rules, invoked_signature, of_local, of_type, of_object, of_operation, outer_object, Invoked, AsValue, AsStatement}
use Rattle.type_rules.specs.Expressions as judged
use Rattle.value_core.specs.Datum.{Datum, Data, data_of}
use Rattle.value_core.specs.Fits.{Kinds}
use Rattle.value_core.specs.Size.{size_of_all}
use Rattle.value_paths.specs.declared.step.Step.TheVariants.{Node}
use Rattle.meaning_rules.specs.Openings.{opening}
use Rattle.meaning_rules.specs.Operators.{fitting_all}
use Rattle.meaning_rules.specs.States.{State, Out, after, gives}
use Rattle.meaning_rules.specs.Designators.{designator_type}
use Rattle.meaning_rules.specs.Variables.{Target, add_node}
use Rattle.meaning_rules.specs.Calls.{Calls, Passed, Given, Lent, AFunction, Adds, Deletes, callee, function_named, function_in, modes_of, fresh_node, invoked, values_in}
use Rattle.meaning_rules.specs.Fitting.{Fits}
use Rattle.meaning_rules.specs.PhrasesFit.{AreGiven, CallsFit, IsTarget, Preserves, IsResult}
use Rattle.meaning_rules.specs.Accepted.{IsOpening, IsKnownFormal, IsPlain, IsAccepted}
use Rattle.meaning_rules.proofs.Fronts.{fronts}
use Rattle.meaning_rules.proofs.Judged.{left_none, right_none, asked, unless_none, unless_is, all_at}
use Rattle.meaning_rules.proofs.Changing.{add_preserves, delete_preserves}
use Rattle.meaning_rules.proofs.PathsFit.{graph_is}
use Rattle.meaning_rules.proofs.Premises.{Laws}
use Rattle.meaning_rules.proofs.Preserving.{then_preserves, weaker_preserves, gives_preserves}
use Rattle.meaning_rules.proofs.Steps.{leads_on, graph_not_object}

-- ---- what is passed

module _ (us : List Source) (kinds : Kinds) (ls : List Local) where
  -- for a parameter, by an argument whose designator has this type
  abbrev pub IsPassed : Option DataType → Passed → Formal → Type 0
  IsPassed d (Given x) (ByValue t) = Fits us kinds x t
  IsPassed d (Given x) (Shared t) = Fits us kinds x t
  IsPassed d (Lent to) (ByOut t) = (u : DataType) × (t ≡ Some u) × IsTarget us kinds ls to u
  IsPassed d (Lent to) SomeGraph = (u : DataType) × (d ≡ Some u) × IsTarget us kinds ls to u × (outside_of u ≡ types.Within layer.Graph)
  IsPassed d (Given x) NodeOf = Unit {0}
  IsPassed d _ _ = ⊥

-- arguments of a call, one by one
abbrev pub ArePassed : Kinds → Scope → List Passed → List Formal → Exprs → Type 0
ArePassed kinds v [] [] syn.no_expr = Unit {0}
ArePassed kinds v (p ∷ ps) (f ∷ fs) (syn.expr e es) = IsPassed v.program kinds v.locals (designator_type v e) p f × ArePassed kinds v ps fs es
ArePassed kinds v _ _ _ = ⊥

-- a function has no parameter of the graph's functions
abbrev pub IsOrdinary : Formal → Type 0
IsOrdinary (ByValue t) = Unit {0}
IsOrdinary (Shared t) = Unit {0}
IsOrdinary (ByOut t) = Unit {0}
IsOrdinary SomeGraph = ⊥
IsOrdinary NodeOf = ⊥

are_given : (kinds : Kinds) (v : Scope) (ps : List Passed) (fs : List Formal) (es : Exprs) → AllByRecursion IsOrdinary fs → ArePassed kinds v ps fs es →
    AreGiven v.program kinds v.locals ps fs
are_given kinds v [] [] syn.no_expr ordinary h = tt
are_given kinds v [] [] (syn.expr e es) ordinary h = absurd h
are_given kinds v [] (f ∷ fs) es ordinary h = absurd h
are_given kinds v (p ∷ ps) [] es ordinary h = absurd h
are_given kinds v (p ∷ ps) (f ∷ fs) syn.no_expr ordinary h = absurd h
are_given kinds v (Given x ∷ ps) (ByValue t ∷ fs) (syn.expr e es) ordinary h = (h.0, are_given kinds v ps fs es ordinary.1 h.1)
are_given kinds v (Given x ∷ ps) (Shared t ∷ fs) (syn.expr e es) ordinary h = (h.0, are_given kinds v ps fs es ordinary.1 h.1)
are_given kinds v (Given x ∷ ps) (ByOut t ∷ fs) (syn.expr e es) ordinary h = absurd h.0
are_given kinds v (Given x ∷ ps) (SomeGraph ∷ fs) (syn.expr e es) ordinary h = absurd h.0
are_given kinds v (Given x ∷ ps) (NodeOf ∷ fs) (syn.expr e es) ordinary h = absurd ordinary.0
are_given kinds v (Lent to ∷ ps) (ByOut t ∷ fs) (syn.expr e es) ordinary h = (h.0, are_given kinds v ps fs es ordinary.1 h.1)
are_given kinds v (Lent to ∷ ps) (ByValue t ∷ fs) (syn.expr e es) ordinary h = absurd h.0
are_given kinds v (Lent to ∷ ps) (Shared t ∷ fs) (syn.expr e es) ordinary h = absurd h.0
are_given kinds v (Lent to ∷ ps) (SomeGraph ∷ fs) (syn.expr e es) ordinary h = absurd ordinary.0
are_given kinds v (Lent to ∷ ps) (NodeOf ∷ fs) (syn.expr e es) ordinary h = absurd h.0

-- how each is passed
abbrev pub mode_in : Formal → Mode
mode_in (ByValue t) = mode.Value
mode_in (Shared t) = mode.Shared
mode_in (ByOut t) = mode.Out
mode_in SomeGraph = mode.Out
mode_in NodeOf = mode.Value

mode_passed : (m : Mode) (t : Option DataType) → mode_in (passed m t) ≡ m
mode_passed mode.Value t = refl
mode_passed mode.Out t = refl
mode_passed mode.Shared t = refl

modes_passed : (w : View) (ps : List Parameter) → map (λ p. p.mode) ps ≡ map mode_in (map (formal w) ps)
modes_passed w [] = refl
modes_passed w (p ∷ ps) =
    ap (λ m. m ∷ map (λ q. q.mode) ps) (sym (mode_passed p.mode (type_of (parameter_found w p.mode p.kind))))
    ∙ ap (λ ms. mode_in (formal w p) ∷ ms) (modes_passed w ps)

ordinary_passed : (m : Mode) (t : Option DataType) → IsOrdinary (passed m t)
ordinary_passed mode.Value t = tt
ordinary_passed mode.Out t = tt
ordinary_passed mode.Shared t = tt

all_ordinary : (w : View) (ps : List Parameter) → AllByRecursion IsOrdinary (map (formal w) ps)
all_ordinary w [] = tt
all_ordinary w (p ∷ ps) = (ordinary_passed p.mode (type_of (parameter_found w p.mode p.kind)), all_ordinary w ps)

-- ---- what names stand for

numbered_top : (us : List Source) (n j : ℕ) (o : Option TopName) (t : TopName) (i : ℕ) → o ≡ slice_get (top_names us) n → numbered n o ≡ top.Top i t →
    slice_get (top_names us) i ≡ Some t
numbered_top us n j None t i at is = absurd cc
numbered_top us n j (Some x) t i at is =
    let number : n ≡ i = ap (number_in n) is in
    let name : x ≡ t = ap (name_in x) is in
    ap (λ k. slice_get (top_names us) k) (sym number) ∙ (sym at ∙ ap Some name)
  where
    number_in : ℕ → StandsFor → ℕ
    number_in n (top.Top i t) = i
    number_in n _ = n

    name_in : TopName → StandsFor → TopName
    name_in x (top.Top i t) = t
    name_in x _ = x

everywhere_no_top : (p : Option Predeclared) (i : ℕ) (t : TopName) → everywhere p ≡ top.Top i t → ⊥
everywhere_no_top None i t is = absurd cc
everywhere_no_top (Some p) i t is = absurd cc

pub top_at : (us : List Source) (home name : List ℕ) (i : ℕ) (t : TopName) → stands_for us home name ≡ top.Top i t → slice_get (top_names us) i ≡ Some t
top_at us home name i t is = by (sees us home name) is
  where
    at_top : (o : Option ℕ) → at_number us o ≡ top.Top i t → slice_get (top_names us) i ≡ Some t
    at_top None e = absurd cc
    at_top (Some n) e = numbered_top us n 0 (slice_get (top_names us) n) t i refl e

    by : (b : Bool) → (if b then at_number us (number_of us name) else everywhere (predeclared name)) ≡ top.Top i t → slice_get (top_names us) i ≡ Some t
    by true e = at_top (number_of us name) e
    by false e = absurd (everywhere_no_top (predeclared name) i t e)

-- ---- functions

-- a call of a function without a breach
pub record IsCall (kinds : Kinds) (call : Calls) (v : Scope) (way : Use) (n : Name) (es : Exprs) : Type 0 where
  pub signed : Signature
  pub modes : modes_of (callee v n) ≡ map mode_in signed.formals
  pub known : AllByRecursion IsKnownFormal signed.formals
  pub inside : arguments v signed.formals es ≡ []
  pub many : length signed.formals ≡ count_of es
  pub used : is_used_well way signed.result ≡ true
  pub type : (call_found v way n es (called v n) (arguments v (signature_of (called v n)).formals es)).is ≡ result_type signed.result
  pub invokes : (ps : List Passed) → ArePassed kinds v ps signed.formals es →
      Preserves v.program kinds v.locals (Option Datum) (IsResult v.program kinds signed.result) (invoked call (callee v n) (fresh_node v es) ps)

-- what its own rules say
pub well : (way : Use) (at : Place) (n : Name) (s : Signature) (es : Exprs) → called_well way at n s es ≡ [] → (is_used_well way s.result ≡ true) × (length s.formals ≡ count_of es)
well way at n s es none = (
  asked 33 at (is_used_well way s.result) (left_none (asks 33 at (is_used_well way s.result)) _ none),
  eqb-true (length s.formals) (count_of es) (asked 29 n.at (length s.formals == count_of es) (right_none (asks 33 at (is_used_well way s.result)) _ none)),
)

module _ (kinds : Kinds) (call : Calls) (v : Scope) (plain_scope : IsPlain v) (facts : IsAccepted v.program) (laws : Laws v.program) (fit : CallsFit v.program kinds call)
    (way : Use) (n : Name) (es : Exprs) where
  abbrev Judged : Called → Found DataType
  Judged c = call_found v way n es c (arguments v (signature_of c).formals es)

  -- its parts
  parts : (c : Called) → (Judged c).breaches ≡ [] →
      (function_rules v way n es c ≡ []) × (arguments v (signature_of c).formals es ≡ []) × ((Judged c).is ≡ result_type (signature_of c).result)
  parts c none =
      let all = unless_none (function_rules v way n es c ++ (arguments v (signature_of c).formals es ++ roots_differ (signature_of c).formals es)) (result_type (signature_of c).result) none in (
        left_none (function_rules v way n es c) _ all,
        left_none (arguments v (signature_of c).formals es) _ (right_none (function_rules v way n es c) _ all),
        ap (λ f. f.is) (unless_is _ (result_type (signature_of c).result) all),
      )

  -- a call with values that are no larger together than they may be
  sized : (ps : List Passed) (P : Option Datum → Type 0) (f : State → Out (Option Datum)) →
      (size_of_all (data_of (values_in ps)) ≤ VALUE_SIZE → Preserves v.program kinds v.locals (Option Datum) P f) →
      Preserves v.program kinds v.locals (Option Datum) P (λ s. after (gives (fitting_all (data_of (values_in ps))) s) (λ _ s1. f s1))
  sized ps P f h =
      then_preserves v.program kinds v.locals (λ (x : Data). size_of_all (data_of (values_in ps)) ≤ VALUE_SIZE) P _ _
      (fronts.gives Data (λ frame. fitting_all (data_of (values_in ps))))
      (gives_preserves v.program kinds v.locals _ (λ s. fitting_all (data_of (values_in ps))) (λ s fits. small (nat_le (size_of_all (data_of (values_in ps))) VALUE_SIZE) refl))
      (λ x less. h less)
    where
      small : (b : Bool) → nat_le (size_of_all (data_of (values_in ps))) VALUE_SIZE ≡ b →
          IfOk (if b then Ok (data_of (values_in ps)) else Err TooLarge) (λ (x : Data). size_of_all (data_of (values_in ps)) ≤ VALUE_SIZE)
      small true is = leb-true (size_of_all (data_of (values_in ps))) VALUE_SIZE is
      small false is = tt

  -- ---- a function of the program

  of_function : (i : ℕ) (t : TopName) (ps : List Parameter) (r : Option Kind) (b : Block) → stands_for v.program v.home n.text ≡ top.Top i t → t.what ≡ top.Function ps r b →
      called v n ≡ judged.AFunction (signature v.program t.defined.by ps r b) → (Judged (called v n)).breaches ≡ [] → IsCall kinds call v way n es
  of_function i t ps r b stands what is none =
      let s : Signature = signature v.program t.defined.by ps r b in
      let function = facts.functions i t ps r b (top_at v.program v.home n.text i t stands) what in
      let named : callee v n ≡ AFunction i (map (λ p. p.mode) ps) = ap function_named stands ∙ ap (function_in i) what in
      let all = parts (judged.AFunction s) (ap (λ c. (Judged c).breaches) (sym is) ∙ none) in
      let own = right_none (asks 15 n.at (may_invoke v.owner || not (list_any judged.is_shared s.formals))) _ all.0 in
      let rest = right_none (asks 18 n.at (not (v.in_guard && list_any judged.is_out s.formals))) (called_well way n.at n s es) own in
      let fine = well way n.at n s es rest in
      record {
        signed = s;
        modes = ap modes_of named ∙ modes_passed (view_of v.program t.defined.by (own_names ps b)) ps;
        known = function.formals;
        inside = all.1;
        many = fine.1;
        used = fine.0;
        type = ap (λ c. (Judged c).is) is ∙ all.2;
        invokes = λ given h.
            subst (λ c. Preserves v.program kinds v.locals (Option Datum) (IsResult v.program kinds s.result) (invoked call c (fresh_node v es) given)) (sym named)
            (sized given (IsResult v.program kinds s.result) (call i given) (λ less.
            fit v.locals i t ps r b (top_at v.program v.home n.text i t stands) what given
            (are_given kinds v given s.formals es (all_ordinary (view_of v.program t.defined.by (own_names ps b)) ps) h) less));
      }

  -- ---- `addnode` and `deletenode`

  -- the variable of a graph opens nodes
  fresh_fits : (to : Target) (u : DataType) → IsTarget v.program kinds v.locals to u → outside_of u ≡ types.Within layer.Graph →
      Fits v.program kinds (opening v.program (Some (inside_of u))) (Some (inside_of u))
  fresh_fits to u target graph =
      let l = all_at (IsOpening v.program) v.locals to.slot target.0 plain_scope.names target.2 in
      (l.data_type target.1 target.3 (graph_not_object v.program to.path target.1 u target.4 graph)).opens (to.path ++ Node (ℤ.pos 0) ∷ []) (inside_of u)
      (leads_on v.program to.path (Node (ℤ.pos 0)) target.1 u (inside_of u) target.4 (graph, refl)) kinds

  adding : (ps : List Passed) (as_ : Exprs) → ArePassed kinds v ps (SomeGraph ∷ []) as_ →
      Preserves v.program kinds v.locals (Option Datum) (IsResult v.program kinds (Some (Some (plain base.NodeName)))) (invoked call Adds (fresh_node v as_) ps)
  adding [] syn.no_expr h = absurd h
  adding [] (syn.expr e as_) h = absurd h
  adding (p ∷ ps) syn.no_expr h = absurd h
  adding (Given x ∷ ps) (syn.expr e as_) h = absurd h.0
  adding (Lent to ∷ ps) (syn.expr e as_) h =
      subst (λ d. Preserves v.program kinds v.locals (Option Datum) (IsResult v.program kinds (Some (Some (plain base.NodeName)))) (add_node to (opening v.program (option_map inside_of d))))
      (sym h.0.1)
      (weaker_preserves v.program kinds v.locals _ (IsResult v.program kinds (Some (Some (plain base.NodeName)))) _
      (λ x k. subst (IsResult v.program kinds (Some (Some (plain base.NodeName)))) (sym k.1) k.2)
      (add_preserves v.program kinds laws.paths laws.sizes v.locals to h.0.0 h.0.2 laws.graphs h.0.3
      (graph_is v.program laws.parts kinds h.0.0 h.0.3) (opening v.program (Some (inside_of h.0.0))) (fresh_fits to h.0.0 h.0.2 h.0.3)))

  deleting : (ps : List Passed) (as_ : Exprs) → ArePassed kinds v ps (NodeOf ∷ SomeGraph ∷ []) as_ →
      Preserves v.program kinds v.locals (Option Datum) (IsResult v.program kinds None) (invoked call Deletes (fresh_node v es) ps)
  deleting [] syn.no_expr h = absurd h
  deleting [] (syn.expr e as_) h = absurd h
  deleting (p ∷ ps) syn.no_expr h = absurd h
  deleting (Lent to ∷ ps) (syn.expr e as_) h = absurd h.0
  deleting (Given x ∷ []) (syn.expr e syn.no_expr) h = absurd h.1
  deleting (Given x ∷ []) (syn.expr e (syn.expr f as_)) h = absurd h.1
  deleting (Given x ∷ p ∷ ps) (syn.expr e syn.no_expr) h = absurd h.1
  deleting (Given x ∷ Given y ∷ ps) (syn.expr e (syn.expr f as_)) h = absurd h.1.0
  deleting (Given x ∷ Lent to ∷ ps) (syn.expr e (syn.expr f as_)) h =
      let g = h.1.0 in
      weaker_preserves v.program kinds v.locals _ (IsResult v.program kinds None) _ (λ o k. subst (IsResult v.program kinds None) (sym k) tt)
      (delete_preserves v.program kinds laws.paths laws.sizes v.locals to g.0 g.2 laws.graphs g.3 (graph_is v.program laws.parts kinds g.0 g.3) x)

  of_adding : stands_for v.program v.home n.text ≡ top.Everywhere predeclared.AddNode →
      called v n ≡ judged.AGraphFunction (record { formals = SomeGraph ∷ []; result = Some (Some (plain base.NodeName)) }) → (Judged (called v n)).breaches ≡ [] →
      IsCall kinds call v way n es
  of_adding stands is none =
      let s : Signature = record { formals = SomeGraph ∷ []; result = Some (Some (plain base.NodeName)) } in
      let named : callee v n ≡ Adds = ap function_named stands in
      let all = parts (judged.AGraphFunction s) (ap (λ c. (Judged c).breaches) (sym is) ∙ none) in
      let fine = well way n.at n s es (right_none (asks 18 n.at (not v.in_guard)) (called_well way n.at n s es) all.0) in
      record {
        signed = s;
        modes = ap modes_of named;
        known = (tt, tt);
        inside = all.1;
        many = fine.1;
        used = fine.0;
        type = ap (λ c. (Judged c).is) is ∙ all.2;
        invokes = λ given h.
            subst (λ c. Preserves v.program kinds v.locals (Option Datum) (IsResult v.program kinds s.result) (invoked call c (fresh_node v es) given)) (sym named) (adding given es h);
      }

  of_deleting : stands_for v.program v.home n.text ≡ top.Everywhere predeclared.DeleteNode →
      called v n ≡ judged.AGraphFunction (record { formals = NodeOf ∷ SomeGraph ∷ []; result = None }) → (Judged (called v n)).breaches ≡ [] → IsCall kinds call v way n es
  of_deleting stands is none =
      let s : Signature = record { formals = NodeOf ∷ SomeGraph ∷ []; result = None } in
      let named : callee v n ≡ Deletes = ap function_named stands in
      let all = parts (judged.AGraphFunction s) (ap (λ c. (Judged c).breaches) (sym is) ∙ none) in
      let fine = well way n.at n s es (right_none (asks 18 n.at (not v.in_guard)) (called_well way n.at n s es) all.0) in
      record {
        signed = s;
        modes = ap modes_of named;
        known = (tt, (tt, tt));
        inside = all.1;
        many = fine.1;
        used = fine.0;
        type = ap (λ c. (Judged c).is) is ∙ all.2;
        invokes = λ given h.
            subst (λ c. Preserves v.program kinds v.locals (Option Datum) (IsResult v.program kinds s.result) (invoked call c (fresh_node v es) given)) (sym named) (deleting given es h);
      }

  -- ---- which of them

  pub is_call : (Judged (called v n)).breaches ≡ [] → IsCall kinds call v way n es
  is_call none = by_local (local v n.text) refl
    where
      not_called : (c : Called) → called v n ≡ c → ((function_rules v way n es c ≡ []) → ⊥) → IsCall kinds call v way n es
      not_called c is breaks_one = absurd (breaks_one (parts c (ap (λ d. (Judged d).breaches) (sym is) ∙ none)).0)

      by_what : (i : ℕ) (t : TopName) (what : What) → stands_for v.program v.home n.text ≡ top.Top i t → t.what ≡ what → called v n ≡ top_function v t what → IsCall kinds call v way n es
      by_what i t (top.Function ps r b) stands what is = of_function i t ps r b stands what is none
      by_what i t (top.Constant b) stands what is = not_called judged.NoFunction is (λ e. absurd cc)
      by_what i t (top.TypeName of) stands what is = not_called judged.NoFunction is (λ e. absurd cc)
      by_what i t (top.Value of number) stands what is = not_called judged.NoFunction is (λ e. absurd cc)
      by_what i t (top.Specified heads) stands what is = not_called judged.NoFunction is (λ e. absurd cc)
      by_what i t (top.Implemented os) stands what is = not_called judged.NoFunction is (λ e. absurd cc)
      by_what i t (top.Process ps b) stands what is = not_called judged.NoFunction is (λ e. absurd cc)

      by_stand : (s : StandsFor) → stands_for v.program v.home n.text ≡ s → called v n ≡ outer_function v s → IsCall kinds call v way n es
      by_stand top.Nothing stands is = not_called judged.Unknown is (λ e. absurd cc)
      by_stand (top.Top i t) stands is = by_what i t t.what stands refl is
      by_stand (top.Everywhere predeclared.AddNode) stands is = of_adding stands is none
      by_stand (top.Everywhere predeclared.DeleteNode) stands is = of_deleting stands is none
      by_stand (top.Everywhere predeclared.GraphBound) stands is = not_called judged.NoFunction is (λ e. absurd cc)
      by_stand (top.Everywhere predeclared.NodeNameType) stands is = not_called judged.NoFunction is (λ e. absurd cc)
      by_stand (top.Everywhere predeclared.Nil) stands is = not_called judged.NoFunction is (λ e. absurd cc)

      by_local : (o : Option Local) → local v n.text ≡ o → IsCall kinds call v way n es
      by_local (Some l) is = not_called judged.NoFunction (ap (function_of v n.text) is) (λ e. absurd cc)
      by_local None is =
          by_stand (stands_for v.program v.home n.text) refl (ap (function_of v n.text) is)
