-- In an accepted program bodies begin in variables that fit.
use Rattle.std.proofs.Common.{refl, sym, ap, ◌∙◌, subst, arith}
use Rattle.std.specs.Prelude.{◌≡◌, ℕ, zero, suc, ◌+◌, false, is_some, List, [], ◌∷◌, ◌++◌, length, map, flat_map, take, drop, slice_get, Option, Some, None, option_and_then}
use Rattle.std.specs.List.{AllByRecursion, Contains}
use Rattle.std.proofs.lemmas.List.{length-map}
use Rattle.orca_base.specs.declared.ids.KindNo.{KindNo}
use Rattle.orca_base.specs.declared.ids.OpNo.{OpNo}
use Rattle.orca_base.specs.declared.ids.ProcessNo.{ProcessNo}
use Rattle.orca_base.specs.declared.ids.TextNo.{TextNo}
use Rattle.orca_tree.specs.declared.tree.Name.{Name}
use Rattle.orca_syntax.specs.Syntax.{Kind, Parameter, Operation, Block}
use Rattle.link_rules.specs.Units.{Source}
use Rattle.type_rules.specs.declared.names.LocalRole.TheVariants.{Variable, LoopVariable}
use Rattle.type_rules.specs.declared.types.Base.TheVariants as base
use Rattle.type_rules.specs.Constants.{View}
use Rattle.type_rules.specs.Types as types
use Rattle.type_rules.specs.Types.{is_object, object_in, outside_of, plain}
use Rattle.type_rules.specs.TopLevel as top
use Rattle.type_rules.specs.TopLevel.{TopName, top_names}
use Rattle.type_rules.specs.TypePhrases.{data_found, kind_found, single}
use Rattle.type_rules.specs.Scopes.{Local, Scope, locals_of, own_names, parameter_local, signature, value_local, view_of}
use Rattle.type_rules.specs.Statements.{with_loop}
use Rattle.type_rules.specs.Declarations.{field_locals, operation_view}
use Rattle.value_core.specs.Datum.{Datum, Data, list_of}
use Rattle.value_core.specs.Datum as datum
use Rattle.value_core.specs.Fits.{Kinds, ExtendsKinds}
use Rattle.value_core.specs.declared.action.Action.TheVariants as action
use Rattle.meaning_rules.specs.Accepted.{IsAccepted, IsData, IsOpening, IsPlain}
use Rattle.meaning_rules.specs.Calls.{Passed}
use Rattle.meaning_rules.specs.Fitting.{AreFitting, Fits, FitsArgs, FitsArgsOf, FitsOperation, FitsParameters, FitsState, FitsText, FitsTop, FitsType, FitsWhat, IsObject}
use Rattle.meaning_rules.specs.Functions.{opened, own_frame}
use Rattle.meaning_rules.specs.Operations.{operation_start}
use Rattle.meaning_rules.specs.Openings.{opening}
use Rattle.meaning_rules.specs.PhrasesFit.{AreGiven}
use Rattle.meaning_rules.specs.Processes.{behind, make, object_type_of, own_object, variable_made, variables_made}
use Rattle.meaning_rules.specs.Programs.{ObjectType, begin_scope, function_scope, kind_of, object_type, operation_scope, operation_variables, process_scope, process_texts, type_at}
use Rattle.meaning_rules.specs.States.{State, Out, Goes, Stops, act, after}
use Rattle.meaning_rules.proofs.Acting.{object_outside}
use Rattle.meaning_rules.proofs.FittingBodies.{all_data, fitting_length, fitting_more_locals, opened_fit, opening_fits, own_fits, variables_hold}
use Rattle.meaning_rules.proofs.StaysFit.{fitting_more}
use Rattle.accepted_law.specs.StartsFit.{AreMadeIn, IsMadeIn, StartsFit}
use Rattle.accepted_law.proofs.Lists.{same_some}
use Rattle.accepted_law.proofs.Measures.{is_data, single_measured}

-- ---- one evaluation and then another that went on

record Went {A B : Type 0} (o : Out A) (next : A → State → Out B) (y : B) (s1 : State) : Type 0 where
  value : A
  state : State
  first : o ≡ Goes value state
  then_on : next value state ≡ Goes y s1

went : {A B : Type 0} (o : Out A) (next : A → State → Out B) (y : B) (s1 : State) → after o next ≡ Goes y s1 → Went o next y s1
went (Goes x s) next y s1 is = record { value = x; state = s; first = refl; then_on = is }
went (Stops why) next y s1 is = absurd cc

gone : {A : Type 0} → A → Out A → A
gone y (Goes x s) = x
gone y (Stops why) = y

same_gone : {A : Type 0} (x y : A) (s t : State) → Goes x s ≡ Goes y t → x ≡ y
unfolding gone
same_gone x y s t is = ap (gone x) is

module _ (us : List Source) (facts : IsAccepted us) where
  -- ---- variables of processes

  object_fits : (kinds : Kinds) (number : ProcessNo) (count : ℕ) (l : Local) (i : ℕ) → IsOpening us l → object_type_of l ≡ Some i → Contains kinds (own_object number count, kind_of us i) →
      Fits us kinds (datum.object number.0 count) l.type
  object_fits kinds number count l i opens is there =
      let t = opens.known.0 in
      let outside : outside_of t ≡ types.Bare (base.Object i) =
      object_outside (outside_of t) i (ap (λ o. option_and_then (λ u. object_in (outside_of u)) o) (sym opens.known.1) ∙ is) in
      subst (λ o. Fits us kinds (datum.object number.0 count) o) (sym opens.known.1)
      (subst (λ o. IsObject us kinds o number.0 count) (sym outside) there, omega arith)

  module _ (kinds : Kinds) (number : ProcessNo) where
    made_fit : (ls : List Local) (count : ℕ) (s s1 : State) (xs : List Datum) → AllByRecursion (IsOpening us) ls → variables_made us number ls count s ≡ Goes xs s1 →
        AreMadeIn us kinds number ls count → AreFitting us kinds xs ls
    made_fit [] count s s1 xs all is made = subst (λ ys. AreFitting us kinds ys []) (same_gone [] xs s s1 is) tt
    made_fit (l ∷ ls) count s s1 xs all is made =
        by (object_type_of l) refl is made (λ n t t1 ys e m. made_fit ls n t t1 ys all.1 e m)
      where
        behind_fits : (x : Datum) → Fits us kinds x l.type → (n : ℕ) (t : State) → behind x (variables_made us number ls n) t ≡ Goes xs s1 → AreMadeIn us kinds number ls n →
            ((n : ℕ) (t t1 : State) (ys : List Datum) → variables_made us number ls n t ≡ Goes ys t1 → AreMadeIn us kinds number ls n → AreFitting us kinds ys ls) →
            AreFitting us kinds xs (l ∷ ls)
        behind_fits x fits n t e m rest =
            let w = went (variables_made us number ls n t) (λ ys s2. Goes (x ∷ ys) s2) xs s1 e in
            subst (λ ys. AreFitting us kinds ys (l ∷ ls)) (same_gone (x ∷ w.value) xs w.state s1 w.then_on) (fits, rest n t w.state w.value w.first m)

        no_object : object_type_of l ≡ None → is_object all.0.known.0 ≡ false
        no_object e = ap is_some (ap (λ o. option_and_then (λ t. object_in (outside_of t)) o) (sym all.0.known.1) ∙ e)

        by : (o : Option ℕ) → object_type_of l ≡ o → variable_made us number count l o (variables_made us number ls) s ≡ Goes xs s1 → IsMadeIn us kinds number count o (AreMadeIn us kinds number ls) →
            ((n : ℕ) (t t1 : State) (ys : List Datum) → variables_made us number ls n t ≡ Goes ys t1 → AreMadeIn us kinds number ls n → AreFitting us kinds ys ls) →
            AreFitting us kinds xs (l ∷ ls)
        by None e goes m rest =
            behind_fits (opening us l.type)
            (opening_fits us kinds l.type (all.0.known.0, all.0.known.1, all.0.data_type all.0.known.0 all.0.known.1 (no_object e))) count s goes m rest
        by (Some i) e goes m rest =
            let w = went (make us number count i s) (λ x s2. behind x (variables_made us number ls (count + 1)) s2) xs s1 goes in
            let x = went (act (action.Make (kind_of us i) (own_object number count)) s) (λ y s2. Goes (datum.object number.0 count) s2) w.value w.state w.first in
            behind_fits w.value
            (subst (λ y. Fits us kinds y l.type) (same_gone (datum.object number.0 count) w.value x.state w.state x.then_on) (object_fits kinds number count l i all.0 e m.0)) (count + 1) w.state w.then_on m.1 rest

  -- ---- processes

  taken_length : {X : Type 0} (xs ys : List X) → take (length xs) (xs ++ ys) ≡ xs
  taken_length [] ys = refl
  taken_length (x ∷ xs) ys = ap (λ zs. x ∷ zs) (taken_length xs ys)

  dropped_length : {X : Type 0} (xs ys : List X) → drop (length xs) (xs ++ ys) ≡ ys
  dropped_length [] ys = refl
  dropped_length (x ∷ xs) ys = dropped_length xs ys

  all_behind : {X : Type 0} (P : X → Type 0) (xs ys : List X) → AllByRecursion P (xs ++ ys) → AllByRecursion P ys
  all_behind P [] ys all = all
  all_behind P (x ∷ xs) ys all = all_behind P xs ys all.1

  process_starts : (kinds more : Kinds) (text : TextNo) (t : TopName) (ps : List Parameter) (b : Block) (number : ProcessNo) (args : Data) (s s1 : State) (xs : List Datum) →
      slice_get (process_texts us) text.0 ≡ Some t → t.what ≡ top.Process ps b → FitsText us kinds text args → ExtendsKinds kinds more →
      variables_made us number (drop (length (list_of args)) (process_scope us t.defined.by ps b).locals) 1 s ≡ Goes xs s1 →
      AreMadeIn us more number (drop (length (list_of args)) (process_scope us t.defined.by ps b).locals) 1 →
      AreFitting us more (list_of args ++ xs) (process_scope us t.defined.by ps b).locals
  process_starts kinds more text t ps b number args s s1 xs at what fits extends goes made =
      let w : View = view_of us t.defined.by (own_names ps b) in
      let params : List Local = map (parameter_local w) ps in
      let vars : List Local = flat_map (locals_of Variable (kind_found w)) b.variables in
      let count : length params ≡ length ps = length-map ps (parameter_local w) in
      let own = subst (λ x. FitsWhat us kinds args t x) what (subst (FitsTop us kinds args) at fits) in
      let first : AreFitting us kinds (list_of args) params =
      subst (λ ls. AreFitting us kinds (list_of args) ls) (ap (λ n. take n (params ++ vars)) (sym count) ∙ taken_length params vars) own.0 in
      let many : length (list_of args) ≡ length params = fitting_length us kinds (list_of args) params first in
      let rest : drop (length (list_of args)) (params ++ vars) ≡ vars = ap (λ n. drop n (params ++ vars)) many ∙ dropped_length params vars in
      let open_all = all_behind (IsOpening us) params vars (facts.texts text.0 t ps b at what).names in
      fitting_more_locals us more (list_of args) xs params vars (fitting_more us kinds more extends (list_of args) params first)
      (made_fit more number vars 1 s s1 xs open_all
      (subst (λ ls. variables_made us number ls 1 s ≡ Goes xs s1) rest goes)
      (subst (λ ls. AreMadeIn us more number ls 1) rest made))

  -- ---- functions, operations and makings

  function_starts : (kinds : Kinds) (ls : List Local) (i : ℕ) (t : TopName) (ps : List Parameter) (r : Option Kind) (b : Block) (given : List Passed) → slice_get (top_names us) i ≡ Some t →
      t.what ≡ top.Function ps r b → AreGiven us kinds ls given (signature us t.defined.by ps r b).formals →
      AreFitting us kinds (own_frame us (function_scope us t.defined.by ps r b) given) (function_scope us t.defined.by ps r b).locals
  function_starts kinds ls i t ps r b given at what h =
      let w : View = view_of us t.defined.by (own_names ps b) in
      let holds = (facts.functions i t ps r b at what).holds in
      own_fits us kinds ls w ps (flat_map (locals_of Variable (data_found w)) b.variables) given h holds
      (all_data us b.variables (data_found w) (variables_hold us (map (parameter_local w) ps) (flat_map (locals_of Variable (data_found w)) b.variables) holds))

  operation_starts : (kinds : Kinds) (kind : KindNo) (op : OpNo) (t : ObjectType) (o : Operation) (state args : Data) → object_type us kind ≡ Some t → slice_get t.operations op.0 ≡ Some o →
      FitsState us kinds kind state → FitsArgs us kinds kind op args → AreFitting us kinds (operation_start us t o state args).frame (operation_scope us t o false).locals
  operation_starts kinds kind op t o state args is at state_fits args_fit =
      let body = (facts.object_types kind t is).operations op.0 o at in
      let params : List Local = map (value_local (operation_view us t.home t.fields o)) o.head.parameters in
      let own : FitsParameters us kinds t args (Some o) = subst (FitsParameters us kinds t args) at (subst (FitsOperation us kinds op args) is (by kind.0 refl args_fit)) in
      fitting_more_locals us kinds (list_of args) _ params _ own.0
      (fitting_more_locals us kinds (opened us (operation_variables us t o)) (list_of state) (operation_variables us t o) (field_locals us t.home t.fields)
      (opened_fit us kinds (operation_variables us t o) body.holds) (subst (FitsType us kinds state) is state_fits))
    where
      by : (n : ℕ) → kind.0 ≡ n → FitsArgsOf us kinds n kind op args → FitsOperation us kinds op args (object_type us kind)
      by zero e fits = absurd (let none : None ≡ Some t = sym (ap (type_at us) e) ∙ is in cc)
      by (suc k) e fits = fits

  making_starts : (kinds : Kinds) (kind : KindNo) (t : ObjectType) → object_type us kind ≡ Some t → AreFitting us kinds (opened us (begin_scope us t).locals) (begin_scope us t).locals
  making_starts kinds kind t is = opened_fit us kinds (field_locals us t.home t.fields) (facts.object_types kind t is).holds

-- ---- loops

loop_plain : (v : Scope) (n : Name) → IsPlain v → IsPlain (with_loop v n)
loop_plain v n is_plain = record { names = (opens, is_plain.names); result = is_plain.result }
  where
    opens : IsOpening v.program (record { name = n.text; role = LoopVariable; type = Some (plain base.Integer) })
    opens = record {
      known = (plain base.Integer, refl);
      data_type = λ t is simple.
          subst (IsData v.program) (same_some (plain base.Integer) t is)
          (is_data v.program (single base.Integer) (single_measured v.program base.Integer (λ P G h. h) refl (λ kinds k le. (tt, record { sfits = omega arith })) (λ k le. refl)));
    }

pub starts_fit : (us : List Source) → IsAccepted us → StartsFit us
starts_fit us facts = record {
  functions = function_starts us facts;
  operations = operation_starts us facts;
  makings = making_starts us facts;
  processes = process_starts us facts;
  loops = loop_plain;
}
