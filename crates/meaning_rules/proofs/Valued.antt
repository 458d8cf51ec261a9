-- Small facts of values and scopes that the induction over phrases uses.
use Rattle.std.proofs.Common.{refl, ap, sym, ◌∙◌, subst, arith}
use Rattle.std.specs.Prelude.{◌≡◌, ◌≤◌, ◌<◌, ℕ, zero, suc, pos, Bool, true, false, List, [], ◌∷◌, ◌++◌, length, slice_get, unwrap_or, Option, Some, None, option_map}
use Rattle.std.specs.Option.{option_map_or}
use Rattle.std.specs.List.{All, AllByRecursion}
use Rattle.std.proofs.lemmas.List.Elements.{All-nil, recursion_from_All}
use Rattle.orca_base.specs.declared.limits.TheConstants.{VALUE_NESTING, VALUE_SIZE}
use Rattle.orca_base.specs.declared.place.Place.{Place}
use Rattle.orca_tree.specs.declared.tree.Name.{Name}
use Rattle.orca_syntax.specs.Syntax as syn
use Rattle.orca_syntax.specs.Syntax.{Expr, Exprs, Step, Path}
use Rattle.link_rules.specs.Units.{Source}
use Rattle.type_rules.specs.declared.signature.Formal.{Formal}
use Rattle.type_rules.specs.declared.signature.Formal.TheVariants.{ByValue, Shared, Out, SomeGraph, NodeOf}
use Rattle.type_rules.specs.declared.types.Base.{Base}
use Rattle.type_rules.specs.declared.types.Base.TheVariants as base
use Rattle.type_rules.specs.declared.types.Layer.TheVariants as layer
use Rattle.type_rules.specs.declared.types.DataType.{DataType}
use Rattle.type_rules.specs.Types as types
use Rattle.type_rules.specs.Types.{Outside, outside_of, plain, gathers, links_nodes, is_object}
use Rattle.type_rules.specs.Rules.{Found, found, asks, fits, agree}
use Rattle.type_rules.specs.declared.names.Predeclared.TheVariants as predeclared
use Rattle.type_rules.specs.declared.names.LocalRole.TheVariants.{LoopVariable}
use Rattle.type_rules.specs.declared.names.Chain.{Chain}
use Rattle.type_rules.specs.declared.names.Chain.TheVariants.{EndsAt, GoesRound, Fails}
use Rattle.type_rules.specs.TopLevel as top
use Rattle.type_rules.specs.TopLevel.{What, TopName, StandsFor, stands_for, top_names, number_of}
use Rattle.type_rules.specs.Constants.{chain_from}
use Rattle.type_rules.specs.Scopes.{Scope, Local}
use Rattle.type_rules.specs.Statements.{with_loop}
use Rattle.type_rules.specs.Expressions.{typed, stepped, arguments, suits, operand, outer_value, top_value, count_of, is_used_well, result_type, AsValue}
use Rattle.value_core.specs.Datum.{Datum, Data, list_of}
use Rattle.value_core.specs.Datum as datum
use Rattle.value_core.specs.Fits.{Kinds}
use Rattle.value_core.specs.Integers.{IsWord}
use Rattle.value_core.specs.Size.{size_of}
use Rattle.value_core.specs.Sound.{IsCode, nesting}
use Rattle.value_ops.specs.Sizes.{number_in, ordinal_of}
use Rattle.value_ops.specs.Texts.{text_of}
use Rattle.value_paths.specs.declared.step.Step.{Step as ValueStep}
use Rattle.value_paths.specs.declared.step.Step.TheVariants as step
use Rattle.meaning_rules.specs.Openings.{opening}
use Rattle.meaning_rules.specs.Designators as designators
use Rattle.meaning_rules.specs.Designators.{constant}
use Rattle.meaning_rules.specs.Expressions.{result}
use Rattle.meaning_rules.specs.Statements.{names_at, names_of, texts_of}
use Rattle.meaning_rules.specs.Fitting.{IsNamed, IsOf, Fits}
use Rattle.meaning_rules.specs.ElementsFit.{Gathers}
use Rattle.meaning_rules.specs.PathsFit.{Leads}
use Rattle.meaning_rules.specs.PhrasesFit.{CallsFit, IsResult}
use Rattle.meaning_rules.specs.Accepted.{IsKnown, TakesValue, TypeStep, Inside, ToField, Holds, IsData, IsPlain, AreTaken, IsAccepted}
use Rattle.meaning_rules.proofs.Called.{top_at}
use Rattle.meaning_rules.specs.Calls.{Calls}
use Rattle.meaning_rules.proofs.Judged.{left_none, right_none, asked, unless_none, unless_is, fits_agreed}
use Rattle.meaning_rules.proofs.OperatorsFit.{integer_fits}
use Rattle.meaning_rules.proofs.PartSizes.{length_size}
use Rattle.meaning_rules.proofs.Premises.{Laws}

-- ---- where a phrase stands

pub record Stands (kinds : Kinds) (call : Calls) (v : Scope) : Type 0 where
  pub scope : IsPlain v
  pub facts : IsAccepted v.program
  pub laws : Laws v.program
  pub calls : CallsFit v.program kinds call

-- steps lead nowhere from an integer
integer_opens : (us : List Source) (path : List ValueStep) (u : DataType) → Leads us path (plain base.Integer) u → (kinds : Kinds) →
    Fits us kinds (opening us (Some u)) (Some u)
integer_opens us [] u leads kinds =
    subst (λ t. Fits us kinds (opening us (Some t)) (Some t)) leads (integer_fits us kinds (pos 0) (record { sfits = omega arith }))
integer_opens us (step.Index low index ∷ path) u leads kinds = absurd (let e = leads.1.1 in cc)
integer_opens us (step.Field place ∷ path) u leads kinds = absurd (let e = leads.1.1 in cc)
integer_opens us (step.Node name ∷ path) u leads kinds = absurd (let e = leads.1.0 in cc)

integer_objectless : (us : List Source) (path : List TypeStep) (u : DataType) → Holds us path (plain base.Integer) u → is_object u ≡ false
integer_objectless us [] u holds = ap is_object (sym holds)
integer_objectless us (Inside ∷ path) u holds = integer_objectless us path u holds
integer_objectless us (ToField place ∷ path) u holds = absurd (let e = holds.2 in cc)

integer_shallow : (us : List Source) (kinds : Kinds) (v : Datum) → IsOf us kinds v (plain base.Integer) → nesting v ≤ VALUE_NESTING
integer_shallow us kinds (datum.int z) h = omega arith
integer_shallow us kinds (datum.truth b) h = absurd h
integer_shallow us kinds (datum.char c) h = absurd h.0
integer_shallow us kinds (datum.enumerated n) h = absurd h
integer_shallow us kinds (datum.text s) h = absurd h.0
integer_shallow us kinds (datum.array w) h = absurd h
integer_shallow us kinds (datum.fields w) h = absurd h
integer_shallow us kinds (datum.set w) h = absurd h
integer_shallow us kinds (datum.bag w) h = absurd h
integer_shallow us kinds (datum.object p n) h = absurd h

integer_data : (us : List Source) → IsData us (plain base.Integer)
integer_data us = record { objectless = integer_objectless us; opens = integer_opens us; shallow = integer_shallow us }

-- the variable of a loop
abbrev pub loop_local : Name → Local
loop_local n = record { name = n.text; role = LoopVariable; type = Some (plain base.Integer) }

pub stands_in_loop : (kinds : Kinds) (call : Calls) (v : Scope) (n : Name) → Stands kinds call v → Stands kinds call (with_loop v n)
stands_in_loop kinds call v n stands = record {
  scope = record {
    names = (
      record { known = (plain base.Integer, refl); data_type = λ t is no_object. subst (IsData v.program) (ap (given (plain base.Integer)) is) (integer_data v.program) },
      stands.scope.names,
    );
    result = stands.scope.result;
  };
  facts = stands.facts;
  laws = stands.laws;
  calls = stands.calls;
}
  where
    given : DataType → Option DataType → DataType
    given t None = t
    given t (Some u) = u

-- ---- tests on types

pub gathers_so : (o : Outside) → gathers o ≡ true → Gathers o
gathers_so (types.Within layer.Set) is = tt
gathers_so (types.Within layer.Bag) is = tt
gathers_so (types.Within (layer.Array low high)) is = absurd cc
gathers_so (types.Within layer.Graph) is = absurd cc
gathers_so (types.Bare base.Integer) is = absurd cc
gathers_so (types.Bare base.Boolean) is = absurd cc
gathers_so (types.Bare base.Character) is = absurd cc
gathers_so (types.Bare base.String) is = absurd cc
gathers_so (types.Bare base.NodeName) is = absurd cc
gathers_so (types.Bare (base.Enumeration j)) is = absurd cc
gathers_so (types.Bare (base.Record j)) is = absurd cc
gathers_so (types.Bare (base.Object j)) is = absurd cc

pub links_so : (o : Outside) → links_nodes o ≡ true → o ≡ types.Within layer.Graph
links_so (types.Within layer.Graph) is = refl
links_so (types.Within layer.Set) is = absurd cc
links_so (types.Within layer.Bag) is = absurd cc
links_so (types.Within (layer.Array low high)) is = absurd cc
links_so (types.Bare base.Integer) is = absurd cc
links_so (types.Bare base.Boolean) is = absurd cc
links_so (types.Bare base.Character) is = absurd cc
links_so (types.Bare base.String) is = absurd cc
links_so (types.Bare base.NodeName) is = absurd cc
links_so (types.Bare (base.Enumeration j)) is = absurd cc
links_so (types.Bare (base.Record j)) is = absurd cc
links_so (types.Bare (base.Object j)) is = absurd cc

-- ---- one operand

pub operand_parts : (rule : ℕ) (p : DataType → Bool) (at : Place) (e : Found DataType) (t : DataType) → (operand rule p at e t).breaches ≡ [] →
    (e.breaches ≡ []) × (fits p e.is ≡ true) × ((operand rule p at e t).is ≡ Some t)
operand_parts rule p at e t none =
    let all = unless_none (e.breaches ++ asks rule at (fits p e.is)) (Some t) none in
    (left_none e.breaches _ all, asked rule at (fits p e.is) (right_none e.breaches _ all), ap (λ f. f.is) (unless_is _ (Some t) all))

number_small : (x : Datum) → number_in x ≤ size_of x
number_small (datum.text s) = omega arith
number_small (datum.set w) = let less = length_size w in omega (arith, less)
number_small (datum.bag w) = let less = length_size w in omega (arith, less)
number_small (datum.int z) = omega arith
number_small (datum.truth b) = omega arith
number_small (datum.char c) = omega arith
number_small (datum.enumerated n) = omega arith
number_small (datum.array w) = omega arith
number_small (datum.fields w) = omega arith
number_small (datum.object p n) = omega arith

pub number_word : (x : Datum) → size_of x ≤ VALUE_SIZE → IsWord (pos (number_in x))
number_word x less = let small = number_small x in record { sfits = omega (arith, small, less) }

pub named_less : (us : List Source) (o : Outside) (n : ℕ) → IsNamed us o n → n < length (names_at us o)
named_less us (types.Bare (base.Enumeration j)) n h = h
named_less us (types.Bare base.Integer) n h = absurd h
named_less us (types.Bare base.Boolean) n h = absurd h
named_less us (types.Bare base.Character) n h = absurd h
named_less us (types.Bare base.String) n h = absurd h
named_less us (types.Bare base.NodeName) n h = absurd h
named_less us (types.Bare (base.Record j)) n h = absurd h
named_less us (types.Bare (base.Object j)) n h = absurd h
named_less us (types.Within (layer.Array low high)) n h = absurd h
named_less us (types.Within layer.Set) n h = absurd h
named_less us (types.Within layer.Bag) n h = absurd h
named_less us (types.Within layer.Graph) n h = absurd h

module _ (us : List Source) (kinds : Kinds) (facts : IsAccepted us) where
  ordinal_of_type : (x : Datum) (t : DataType) → IsOf us kinds x t → IsWord (pos (ordinal_of x))
  ordinal_of_type (datum.char c) t h = let code = h.1 in record { sfits = omega (arith, code) }
  ordinal_of_type (datum.enumerated n) t h =
      let less = named_less us (outside_of t) n h in
      let few = facts.few (outside_of t) in
      record { sfits = omega (arith, less, few) }
  ordinal_of_type (datum.int z) t h = record { sfits = omega arith }
  ordinal_of_type (datum.truth b) t h = record { sfits = omega arith }
  ordinal_of_type (datum.text s) t h = record { sfits = omega arith }
  ordinal_of_type (datum.array w) t h = record { sfits = omega arith }
  ordinal_of_type (datum.fields w) t h = record { sfits = omega arith }
  ordinal_of_type (datum.set w) t h = record { sfits = omega arith }
  ordinal_of_type (datum.bag w) t h = record { sfits = omega arith }
  ordinal_of_type (datum.object p n) t h = record { sfits = omega arith }

  pub ordinal_word : (x : Datum) (o : Option DataType) → Fits us kinds x o → IsWord (pos (ordinal_of x))
  ordinal_word x None h = absurd h
  ordinal_word x (Some t) h = ordinal_of_type x t h.0

  -- ---- texts

  codes_at : (names : List (List ℕ)) (n : ℕ) → AllByRecursion (All IsCode) names → All IsCode (unwrap_or (slice_get names n) [])
  codes_at [] n all = All-nil IsCode
  codes_at (s ∷ names) zero all = all.0
  codes_at (s ∷ names) (suc n) all = codes_at names n all.1

  text_of_type : (laws : Laws us) (names : List (List ℕ)) (x : Datum) (t : DataType) → All (All IsCode) names → IsOf us kinds x t → All IsCode (text_of names x)
  text_of_type laws names (datum.int z) t all h = laws.told names (datum.int z) all (record { well_formed = h.1; shallow = omega arith })
  text_of_type laws names (datum.truth b) t all h = laws.told names (datum.truth b) all (record { well_formed = tt; shallow = omega arith })
  text_of_type laws names (datum.char c) t all h = laws.told names (datum.char c) all (record { well_formed = h.1; shallow = omega arith })
  text_of_type laws names (datum.enumerated n) t all h = codes_at names n (recursion_from_All (All IsCode) names all)
  text_of_type laws names (datum.text s) t all h = h.1
  text_of_type laws names (datum.array w) t all h = All-nil IsCode
  text_of_type laws names (datum.fields w) t all h = All-nil IsCode
  text_of_type laws names (datum.set w) t all h = All-nil IsCode
  text_of_type laws names (datum.bag w) t all h = All-nil IsCode
  text_of_type laws names (datum.object p n) t all h = All-nil IsCode

  text_codes : (laws : Laws us) (names : List (List ℕ)) (x : Datum) (o : Option DataType) → All (All IsCode) names → Fits us kinds x o → All IsCode (text_of names x)
  text_codes laws names x None all h = absurd h
  text_codes laws names x (Some t) all h = text_of_type laws names x t all h.0

  names_codes : (o : Option DataType) → All (All IsCode) (option_map_or (λ t. names_at us (outside_of t)) o [])
  names_codes None = All-nil (All IsCode)
  names_codes (Some t) = facts.orderly.names (outside_of t)

-- ---- rows of expressions

-- each without a breach, and a value of its type for each
abbrev pub AreClean : Scope → Exprs → Type 0
AreClean v syn.no_expr = Unit {0}
AreClean v (syn.expr e es) = ((typed v e).breaches ≡ []) × AreClean v es

abbrev pub AreTyped : Kinds → Scope → List Datum → Exprs → Type 0
AreTyped kinds v [] syn.no_expr = Unit {0}
AreTyped kinds v (x ∷ xs) (syn.expr e es) = Fits v.program kinds x (typed v e).is × AreTyped kinds v xs es
AreTyped kinds v _ _ = ⊥

pub clean_arguments : (v : Scope) (fs : List Formal) (es : Exprs) → arguments v fs es ≡ [] → AreClean v es
clean_arguments v fs syn.no_expr none = tt
clean_arguments v [] (syn.expr e es) none =
    (left_none (typed v e).breaches _ none, clean_arguments v [] es (right_none (typed v e).breaches _ none))
clean_arguments v (f ∷ fs) (syn.expr e es) none =
    let rest = right_none (typed v e).breaches (suits v f e (typed v e).is ++ arguments v fs es) none in
    (left_none (typed v e).breaches _ none, clean_arguments v fs es (right_none (suits v f e (typed v e).is) _ rest))

module _ (kinds : Kinds) (v : Scope) (facts : IsAccepted v.program) (laws : Laws v.program) where
  pub texts_codes : (es : Exprs) (xs : List Datum) → AreTyped kinds v xs es → AllByRecursion (All IsCode) (texts_of v es xs)
  texts_codes syn.no_expr [] h = tt
  texts_codes syn.no_expr (x ∷ xs) h = tt
  texts_codes (syn.expr e es) [] h = tt
  texts_codes (syn.expr e es) (x ∷ xs) h =
      (text_codes v.program kinds facts laws (names_of v e) x (typed v e).is (names_codes v.program kinds facts (typed v e).is) h.0, texts_codes es xs h.1)

  pub agreed : (t : Option DataType) (x : Datum) (o : Option DataType) → IsKnown t → Fits v.program kinds x o → agree t o ≡ true → Fits v.program kinds x t
  agreed t x o known h is =
      subst (λ y. Fits v.program kinds x y) (sym known.1) (fits_agreed v.program kinds laws.same x known.0 o h (ap (λ y. agree y o) (sym known.1) ∙ is))

  -- values for parameters, by arguments without a breach
  pub are_taken : (fs : List Formal) (es : Exprs) (xs : List Datum) → AllByRecursion TakesValue fs → arguments v fs es ≡ [] → length fs ≡ count_of es →
      AreTyped kinds v xs es → AreTaken v.program kinds xs fs
  are_taken [] syn.no_expr [] known none many h = tt
  are_taken [] syn.no_expr (x ∷ xs) known none many h = absurd h
  are_taken [] (syn.expr e es) xs known none many h = absurd (omega (arith, many))
  are_taken (f ∷ fs) syn.no_expr xs known none many h = absurd (omega (arith, many))
  are_taken (f ∷ fs) (syn.expr e es) [] known none many h = absurd h
  are_taken (f ∷ fs) (syn.expr e es) (x ∷ xs) known none many h =
      let rest = right_none (typed v e).breaches (suits v f e (typed v e).is ++ arguments v fs es) none in
      one f known.0 (left_none (suits v f e (typed v e).is) (arguments v fs es) rest)
      (are_taken fs es xs known.1 (right_none (suits v f e (typed v e).is) (arguments v fs es) rest) (omega (arith, many)) h.1)
    where
      one : (f : Formal) → TakesValue f → suits v f e (typed v e).is ≡ [] → AreTaken v.program kinds xs fs → AreTaken v.program kinds (x ∷ xs) (f ∷ fs)
      one (ByValue t) k suit others = (agreed t x (typed v e).is k h.0 (asked 30 _ (agree t (typed v e).is) suit), others)
      one (Shared t) k suit others = (agreed t x (typed v e).is k h.0 (asked 30 _ (agree t (typed v e).is) (left_none (asks 30 _ (agree t (typed v e).is)) _ suit)), others)
      one (Out t) k suit others = (agreed t x (typed v e).is k h.0 (asked 30 _ (agree t (typed v e).is) (left_none (asks 30 _ (agree t (typed v e).is)) _ suit)), others)
      one SomeGraph k suit others = absurd k
      one NodeOf k suit others = absurd k

-- ---- results of calls

pub result_fits : (us : List Source) (kinds : Kinds) (r : Option (Option DataType)) (x : Option Datum) → is_used_well AsValue r ≡ true → IsResult us kinds r x →
    Fits us kinds (result x) (result_type r)
result_fits us kinds None None used h = absurd cc
result_fits us kinds None (Some x) used h = absurd h
result_fits us kinds (Some t) None used h = absurd h
result_fits us kinds (Some t) (Some x) used h = h

-- ---- names that the body doesn't have

abbrev pub IsSimple : Base → Type 0
IsSimple base.Integer = Unit {0}
IsSimple base.NodeName = Unit {0}
IsSimple (base.Enumeration i) = Unit {0}
IsSimple _ = ⊥

pub no_step : (v : Scope) (b : Base) → IsSimple b → (x : Step) → (stepped v (Some (plain b)) x).breaches ≡ [] → ⊥
no_step v base.Integer simple (syn.Field at f) none = absurd cc
no_step v base.Integer simple (syn.Index at e) none = absurd cc
no_step v base.NodeName simple (syn.Field at f) none = absurd cc
no_step v base.NodeName simple (syn.Index at e) none = absurd cc
no_step v (base.Enumeration i) simple (syn.Field at f) none = absurd cc
no_step v (base.Enumeration i) simple (syn.Index at e) none = absurd cc
no_step v base.Boolean simple x none = absurd simple
no_step v base.Character simple x none = absurd simple
no_step v base.String simple x none = absurd simple
no_step v (base.Record i) simple x none = absurd simple
no_step v (base.Object i) simple x none = absurd simple

-- such a name is of a simple type, and has a value of it
pub record IsOuter (kinds : Kinds) (v : Scope) (n : Name) (s : StandsFor) : Type 0 where
  pub of : Base
  pub simple : IsSimple of
  pub found_so : outer_value v n s ≡ found (Some (plain of))
  pub value : Fits v.program kinds (designators.outer_value v.program s) (Some (plain of))

module _ (kinds : Kinds) (v : Scope) (facts : IsAccepted v.program) (n : Name) where
  constant_word : (i : ℕ) (c : Chain) → chain_from v.program i ≡ c → Fits v.program kinds (constant c) (Some (plain base.Integer))
  constant_word i (EndsAt z) is = integer_fits v.program kinds z (facts.orderly.constants i z is)
  constant_word i GoesRound is = integer_fits v.program kinds (pos 0) (record { sfits = omega arith })
  constant_word i Fails is = integer_fits v.program kinds (pos 0) (record { sfits = omega arith })

  outer_top : (i : ℕ) (t : TopName) → stands_for v.program v.home n.text ≡ top.Top i t → (what : What) → t.what ≡ what → (top_value v n what).breaches ≡ [] →
      (b : Base) × IsSimple b × (top_value v n what ≡ found (Some (plain b))) × Fits v.program kinds (designators.top_value v.program i what) (Some (plain b))
  outer_top i t stands (top.Constant b) is none = (base.Integer, tt, refl, constant_word i (chain_from v.program i) refl)
  outer_top i t stands (top.Value of number) is none =
      let at = facts.values i t of number (top_at v.program v.home n.text i t stands) is in
      (base.Enumeration at.0, tt, ap (λ o. found (option_map (λ j. plain (base.Enumeration j)) o)) at.1, (at.2, omega arith))
  outer_top i t stands (top.TypeName of) is none = absurd cc
  outer_top i t stands (top.Specified heads) is none = absurd cc
  outer_top i t stands (top.Implemented os) is none = absurd cc
  outer_top i t stands (top.Function ps r b) is none = absurd cc
  outer_top i t stands (top.Process ps b) is none = absurd cc

  pub is_outer : (s : StandsFor) → stands_for v.program v.home n.text ≡ s → (outer_value v n s).breaches ≡ [] → IsOuter kinds v n s
  is_outer top.Nothing stands none = absurd cc
  is_outer (top.Top i t) stands none =
      let it = outer_top i t stands t.what refl none in record { of = it.0; simple = it.1; found_so = it.2; value = it.3 }
  is_outer (top.Everywhere predeclared.Nil) stands none =
      record { of = base.NodeName; simple = tt; found_so = refl; value = ((tt, record { sfits = omega arith }), omega arith) }
  is_outer (top.Everywhere predeclared.GraphBound) stands none = absurd cc
  is_outer (top.Everywhere predeclared.NodeNameType) stands none = absurd cc
  is_outer (top.Everywhere predeclared.AddNode) stands none = absurd cc
  is_outer (top.Everywhere predeclared.DeleteNode) stands none = absurd cc
