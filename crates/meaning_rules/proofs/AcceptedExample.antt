-- A program that is accepted: a process without objects, whose body is empty.
use Rattle.std.proofs.Common.{refl, ap, sym, ◌∙◌, subst, arith}
use Rattle.std.specs.Prelude.{◌≡◌, ◌≤◌, ◌<◌, ◌+◌, ◌^◌, ℕ, ℤ, zero, suc, Bool, true, false, not, cond, nat_lt, List, [], ◌∷◌, slice_get, unwrap_or, length, Option, Some, None}
use Rattle.std.specs.List.{All, AllByRecursion}
use Rattle.orca_base.specs.declared.ids.KindNo.{KindNo}
use Rattle.orca_syntax.specs.Syntax.{Kind, Parameter, Block}
use Rattle.link_rules.specs.Units.{Source}
use Rattle.type_rules.specs.declared.signature.Formal.{Formal}
use Rattle.type_rules.specs.declared.signature.Signature.{Signature}
use Rattle.type_rules.specs.declared.types.DataType.{DataType}
use Rattle.type_rules.specs.declared.types.Base.TheVariants as base
use Rattle.type_rules.specs.declared.types.Layer.TheVariants as layer
use Rattle.type_rules.specs.Types as types
use Rattle.type_rules.specs.Types.{Outside}
use Rattle.type_rules.specs.TopLevel as top
use Rattle.type_rules.specs.TopLevel.{What, TopName, bears, number_of, stands_for, top_names}
use Rattle.type_rules.specs.Scopes.{signature, operation_of}
use Rattle.value_core.specs.Datum.{Datum, data_of}
use Rattle.value_core.specs.Datum as datum
use Rattle.value_core.specs.Fits.{Kinds}
use Rattle.value_core.specs.Integers.{IsWord}
use Rattle.value_core.specs.Sound.{IsCode}
use Rattle.type_rules.specs.Constants.{chain_from}
use Rattle.type_rules.specs.declared.names.Chain.TheVariants.{EndsAt}
use Rattle.std.proofs.lemmas.List.Elements.{All-nil}
use Rattle.meaning_rules.proofs.Called.{top_at}
use Rattle.meaning_rules.specs.Openings.{field_types}
use Rattle.meaning_rules.specs.Programs.{ObjectType, object_type, process_scope, process_texts, text_of, type_at}
use Rattle.meaning_rules.specs.Statements.{names_at}
use Rattle.meaning_rules.specs.Fitting.{FitsText, FitsTop}
use Rattle.meaning_rules.specs.ProcessExamples.{empty_main}
use Rattle.meaning_rules.specs.Accepted.{IsKnown, IsPlain, IsProcess, AreInOrder, AreTaken, TakesValue, IsAccepted}

abbrev us : List Source
us = empty_main

no_fields : (i place : ℕ) (t : Option DataType) → slice_get (field_types us i) place ≡ Some t → IsKnown t
no_fields zero place t is = absurd cc
no_fields (suc i) place t is = absurd cc

no_values : (i : ℕ) (t : TopName) (of : List ℕ) (number : ℕ) → slice_get (top_names us) i ≡ Some t → t.what ≡ top.Value of number →
    (j : ℕ) × (number_of us of ≡ Some j) × (number < length (names_at us (types.Bare (base.Enumeration j))))
no_values zero t of number at what = absurd (let e = ap (λ o. what_of o) at ∙ what in cc)
  where
    what_of : Option TopName → What
    what_of None = top.Value [] 0
    what_of (Some x) = x.what
no_values (suc i) t of number at what = absurd cc

no_names : (o : Outside) → length (names_at us o) ≤ 2 ^ 16
no_names (types.Bare (base.Enumeration zero)) = omega arith
no_names (types.Bare (base.Enumeration (suc i))) = omega arith
no_names (types.Bare base.Integer) = omega arith
no_names (types.Bare base.Boolean) = omega arith
no_names (types.Bare base.Character) = omega arith
no_names (types.Bare base.String) = omega arith
no_names (types.Bare base.NodeName) = omega arith
no_names (types.Bare (base.Record j)) = omega arith
no_names (types.Bare (base.Object j)) = omega arith
no_names (types.Within (layer.Array low high)) = omega arith
no_names (types.Within layer.Set) = omega arith
no_names (types.Within layer.Bag) = omega arith
no_names (types.Within layer.Graph) = omega arith

abbrev what_of : Option TopName → What
what_of None = top.Value [] 0
what_of (Some x) = x.what

no_function : (i : ℕ) (t : TopName) (ps : List Parameter) (r : Option Kind) (b : Block) → slice_get (top_names us) i ≡ Some t → t.what ≡ top.Function ps r b → ⊥
no_function zero t ps r b at what = let e = ap what_of at ∙ what in absurd cc
no_function (suc i) t ps r b at what = absurd cc

no_type : (kind : KindNo) (t : ObjectType) → object_type us kind ≡ Some t → ⊥
no_type kind t is = by kind.0 is
  where
    by : (k : ℕ) → type_at us k ≡ Some t → ⊥
    by zero e = absurd cc
    by (suc k) e = absurd cc

-- of the one process, without parameters
abbrev IsEmpty : TopName → What → Type 0
IsEmpty t (top.Process ps b) = IsPlain (process_scope us t.defined.by ps b) × AreInOrder (process_scope us t.defined.by ps b) b.statements
    × AllByRecursion (λ f. ⊥) (signature us t.defined.by ps None b).formals
IsEmpty t _ = Unit {0}

is_empty : (i : ℕ) (t : TopName) → slice_get (top_names us) i ≡ Some t → IsEmpty t t.what
is_empty zero t at = by (Some t) (sym at)
  where
    of : Option TopName → Type 0
    of None = Unit {0}
    of (Some x) = IsEmpty x x.what

    by : (o : Option TopName) → o ≡ slice_get (top_names us) 0 → of o
    by None e = tt
    by (Some x) e = subst of (sym e) (record { names = tt; result = tt }, (tt, refl), tt)
is_empty (suc i) t at = absurd cc

no_operation : (i : ℕ) (name : List ℕ) (s : Signature) → operation_of us i name ≡ Some s → ⊥
no_operation zero name s is = absurd cc
no_operation (suc i) name s is = absurd cc

takes_none : (fs : List Formal) → AllByRecursion (λ f. ⊥) fs → AllByRecursion TakesValue fs
takes_none [] all = tt
takes_none (f ∷ fs) all = absurd all.0

given_none : (kinds : Kinds) (xs : List Datum) (fs : List Formal) → AllByRecursion (λ f. ⊥) fs → AreTaken us kinds xs fs → xs ≡ []
given_none kinds [] [] all taken = refl
given_none kinds (x ∷ xs) [] all taken = absurd taken
given_none kinds xs (f ∷ fs) all taken = absurd all.0

text_zero : (name : List ℕ) → (text_of us name).0 ≡ 0
text_zero name = by (any_bears (process_texts us))
  where
    any_bears : List TopName → Bool
    any_bears [] = false
    any_bears (t ∷ ts) = bears name t

    by : (b : Bool) → unwrap_or (cond (nat_lt (cond (not b) (1 + 0) 0) 1) (Some (cond (not b) (1 + 0) 0)) None) 0 ≡ 0
    by true = refl
    by false = refl

text_fits : (kinds : Kinds) (name : List ℕ) → FitsText us kinds (text_of us name) datum.none
text_fits kinds name = subst (λ n. FitsTop us kinds datum.none (slice_get (process_texts us) n)) (sym (text_zero name)) (tt, omega arith, omega arith)

is_process : (home name : List ℕ) (i : ℕ) (t : TopName) (ps : List Parameter) (b : Block) → stands_for us home name ≡ top.Top i t → t.what ≡ top.Process ps b →
    IsProcess us name (signature us t.defined.by ps None b)
is_process home name i t ps b stands what =
    let empty = subst (IsEmpty t) what (is_empty i t (top_at us home name i t stands)) in
    record {
      formals = takes_none (signature us t.defined.by ps None b).formals empty.2;
      args = λ kinds xs taken small.
          subst (λ ys. FitsText us kinds (text_of us name) (data_of ys)) (sym (given_none kinds xs (signature us t.defined.by ps None b).formals empty.2 taken)) (text_fits kinds name);
    }

no_constant : (i : ℕ) (z : ℤ) → chain_from us i ≡ EndsAt z → IsWord z
no_constant zero z is = absurd cc
no_constant (suc i) z is = absurd cc

no_codes : (o : Outside) → All (All IsCode) (names_at us o)
no_codes (types.Bare (base.Enumeration zero)) = All-nil (All IsCode)
no_codes (types.Bare (base.Enumeration (suc i))) = All-nil (All IsCode)
no_codes (types.Bare base.Integer) = All-nil (All IsCode)
no_codes (types.Bare base.Boolean) = All-nil (All IsCode)
no_codes (types.Bare base.Character) = All-nil (All IsCode)
no_codes (types.Bare base.String) = All-nil (All IsCode)
no_codes (types.Bare base.NodeName) = All-nil (All IsCode)
no_codes (types.Bare (base.Record j)) = All-nil (All IsCode)
no_codes (types.Bare (base.Object j)) = All-nil (All IsCode)
no_codes (types.Within (layer.Array low high)) = All-nil (All IsCode)
no_codes (types.Within layer.Set) = All-nil (All IsCode)
no_codes (types.Within layer.Bag) = All-nil (All IsCode)
no_codes (types.Within layer.Graph) = All-nil (All IsCode)

pub accepted : IsAccepted empty_main
accepted = record {
  fields = no_fields;
  orderly = record {
    functions = λ i t ps r b at what. absurd (no_function i t ps r b at what);
    processes = λ i t ps b at what. (subst (IsEmpty t) what (is_empty i t at)).1;
    begins = λ kind t is. absurd (no_type kind t is);
    operations = λ kind t is i o at. absurd (no_type kind t is);
    constants = no_constant;
    names = no_codes;
  };
  values = no_values;
  few = no_names;
  functions = λ i t ps r b at what. absurd (no_function i t ps r b at what);
  object_types = λ kind t is. absurd (no_type kind t is);
  texts = λ i t ps b at what. (subst (IsEmpty t) what (is_empty i t at)).0;
  operations = λ i name s is. absurd (no_operation i name s is);
  processes = is_process;
  main = (_, _, refl, refl);
}
