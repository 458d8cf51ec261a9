-- Typing and meaning find the same by a name.
use Rattle.std.proofs.Common.{inl, inr, refl, sym, ap, ◌∙◌}
use Rattle.std.specs.Prelude.{◌≡◌, ℕ, Bool, true, false, cond, if◌then◌else◌, bytes_eq, List, [], length, map, find, position, slice_get, unwrap_or, Option, Some, None, option_map}
use Rattle.std.specs.List.{position_or_len}
use Rattle.std.specs.Option.{option_map_or}
use Rattle.std.proofs.lemmas.Bool.{lt-ltb}
use Rattle.std.proofs.lemmas.List.Folds.{find_at}
use Rattle.std.proofs.lemmas.Option.{slice_get-map, slice_get_within}
use Rattle.orca_tree.specs.declared.tree.Name.{Name}
use Rattle.orca_syntax.specs.Syntax as syn
use Rattle.orca_syntax.specs.Syntax.{TypedName, Definition}
use Rattle.link_rules.specs.Linked.{IsLinked}
use Rattle.link_rules.specs.Rules.{Links}
use Rattle.link_rules.proofs.Breaches.{no_breach}
use Rattle.type_rules.specs.declared.names.Predeclared.{Predeclared}
use Rattle.type_rules.specs.declared.names.Predeclared.TheVariants as predeclared
use Rattle.type_rules.specs.declared.signature.Signature.{Signature}
use Rattle.type_rules.specs.declared.types.Base.TheVariants as base
use Rattle.type_rules.specs.declared.types.DataType.{DataType}
use Rattle.type_rules.specs.Types as types
use Rattle.type_rules.specs.Types.{object_in, outside_of}
use Rattle.type_rules.specs.TopLevel as top
use Rattle.type_rules.specs.TopLevel.{What, TopName, StandsFor, stands_for, top_names}
use Rattle.type_rules.specs.TypePhrases.{data_found, whole_module}
use Rattle.type_rules.specs.Scopes.{Local, Scope, local, may_be_object, operation_of, type_of}
use Rattle.type_rules.specs.Expressions as typing
use Rattle.type_rules.specs.Expressions.{Called, Invoked, called, field_at, field_in, field_of, field_of_what, function_of, invoked, of_local, of_object, of_operation, of_type, outer_function, outer_object, predeclared_function, top_function}
use Rattle.type_rules.specs.Statements as statements
use Rattle.type_rules.specs.Statements.{Forked, forked, outer_process, process_of, top_process}
use Rattle.value_core.specs.Datum.{Datum}
use Rattle.value_core.specs.Fits.{Kinds}
use Rattle.meaning_rules.specs.Calls.{function_in, function_named, object_number}
use Rattle.meaning_rules.specs.Designators.{root_type, slot}
use Rattle.meaning_rules.specs.Fitting.{AreFitting}
use Rattle.meaning_rules.specs.Openings.{field_number, field_types, fields_of_what, types_in}
use Rattle.meaning_rules.specs.Programs.{process_texts, text_of}
use Rattle.meaning_rules.proofs.Called.{top_at}
use Rattle.meaning_rules.proofs.Judged.{local_at}
use Rattle.meaning_rules.proofs.Preserving.{frame_at}
use Rattle.accepted_law.specs.Meets.{IsFunctionCalled, IsGraphFunctionCalled, IsHeld, IsProcessForked, Meets}
use Rattle.accepted_law.proofs.Named.{own_text}
use Rattle.accepted_law.proofs.Texts.{stands_bears}

signed_call : Signature → Called → Signature
signed_call g (typing.AFunction s) = s
signed_call g c = g

signed_graphs : Signature → Called → Signature
signed_graphs g (typing.AGraphFunction s) = s
signed_graphs g c = g

signed_operation : Signature → Invoked → Signature
signed_operation g (typing.AnOperation s) = s
signed_operation g i = g

signed_fork : Signature → Forked → Signature
signed_fork g (statements.AProcess s) = s
signed_fork g f = g

module _ (v : Scope) where
  names_meet : (kinds : Kinds) (frame : List Datum) (n : Name) (l : Local) → local v n.text ≡ Some l → AreFitting v.program kinds frame v.locals → IsHeld v kinds frame n l
  names_meet kinds frame n l is fits =
      let x = frame_at v.program kinds frame v.locals (slot v n) l fits (local_at v n l is) in
      record { value = x.0; at = x.1; fits = x.2 }

  functions_meet : (n : Name) (g : Signature) → called v n ≡ typing.AFunction g → IsFunctionCalled v n g
  unfolding signed_call
  functions_meet n g is = by (local v n.text) is
    where
      what : (i : ℕ) (t : TopName) → stands_for v.program v.home n.text ≡ top.Top i t → (w : What) → t.what ≡ w → top_function v t w ≡ typing.AFunction g → IsFunctionCalled v n g
      what i t stands (top.Function ps r b) e f = record {
        number = i;
        named = t;
        parameters = ps;
        result = r;
        body = b;
        at = top_at v.program v.home n.text i t stands;
        what = e;
        calls = ap function_named stands ∙ ap (function_in i) e;
        signed = sym (ap (signed_call g) f);
      }
      what i t stands (top.Constant b) e f = absurd cc
      what i t stands (top.TypeName of) e f = absurd cc
      what i t stands (top.Value of number) e f = absurd cc
      what i t stands (top.Specified hs) e f = absurd cc
      what i t stands (top.Implemented os) e f = absurd cc
      what i t stands (top.Process ps b) e f = absurd cc

      everywhere : (p : Predeclared) → predeclared_function p ≡ typing.AFunction g → IsFunctionCalled v n g
      everywhere predeclared.AddNode e = absurd cc
      everywhere predeclared.DeleteNode e = absurd cc
      everywhere predeclared.GraphBound e = absurd cc
      everywhere predeclared.NodeNameType e = absurd cc
      everywhere predeclared.Nil e = absurd cc

      outer : (s : StandsFor) → stands_for v.program v.home n.text ≡ s → outer_function v s ≡ typing.AFunction g → IsFunctionCalled v n g
      outer top.Nothing e f = absurd cc
      outer (top.Everywhere p) e f = everywhere p f
      outer (top.Top i t) e f = what i t e t.what refl f

      by : (o : Option Local) → function_of v n.text o ≡ typing.AFunction g → IsFunctionCalled v n g
      by (Some l) e = absurd cc
      by None e = outer (stands_for v.program v.home n.text) refl e

  graphs_meet : (n : Name) (g : Signature) → called v n ≡ typing.AGraphFunction g → IsGraphFunctionCalled v n g
  unfolding signed_graphs
  graphs_meet n g is = by (local v n.text) is
    where
      what : (t : TopName) (w : What) → top_function v t w ≡ typing.AGraphFunction g → IsGraphFunctionCalled v n g
      what t (top.Function ps r b) f = absurd cc
      what t (top.Constant b) f = absurd cc
      what t (top.TypeName of) f = absurd cc
      what t (top.Value of number) f = absurd cc
      what t (top.Specified hs) f = absurd cc
      what t (top.Implemented os) f = absurd cc
      what t (top.Process ps b) f = absurd cc

      everywhere : (p : Predeclared) → stands_for v.program v.home n.text ≡ top.Everywhere p → predeclared_function p ≡ typing.AGraphFunction g → IsGraphFunctionCalled v n g
      everywhere predeclared.AddNode e f = inl (ap function_named e, sym (ap (λ c. (signed_graphs g c).formals) f))
      everywhere predeclared.DeleteNode e f = inr (ap function_named e, sym (ap (λ c. (signed_graphs g c).formals) f))
      everywhere predeclared.GraphBound e f = absurd cc
      everywhere predeclared.NodeNameType e f = absurd cc
      everywhere predeclared.Nil e f = absurd cc

      outer : (s : StandsFor) → stands_for v.program v.home n.text ≡ s → outer_function v s ≡ typing.AGraphFunction g → IsGraphFunctionCalled v n g
      outer top.Nothing e f = absurd cc
      outer (top.Everywhere p) e f = everywhere p e f
      outer (top.Top i t) e f = what t t.what f

      by : (o : Option Local) → function_of v n.text o ≡ typing.AGraphFunction g → IsGraphFunctionCalled v n g
      by (Some l) f = absurd cc
      by None f = outer (stands_for v.program v.home n.text) refl f

  operations_meet : (o m : Name) (g : Signature) → invoked v o m ≡ typing.AnOperation g → operation_of v.program (object_number (root_type v o)) m.text ≡ Some g
  unfolding signed_operation
  operations_meet o m g is = by (local v o.text) is
    where
      operation : (i : ℕ) (s : Option Signature) → operation_of v.program i m.text ≡ s → of_operation s ≡ typing.AnOperation g → operation_of v.program i m.text ≡ Some g
      operation i None e f = absurd cc
      operation i (Some s) e f = e ∙ ap (λ x. Some x) (ap (signed_operation g) f)

      object : (i : Option ℕ) → of_object v m i ≡ typing.AnOperation g → operation_of v.program (unwrap_or i 0) m.text ≡ Some g
      object None f = absurd cc
      object (Some i) f = operation i (operation_of v.program i m.text) refl f

      type : (t : Option DataType) → of_type v m t ≡ typing.AnOperation g → operation_of v.program (object_number t) m.text ≡ Some g
      type None f = absurd cc
      type (Some t) f = object (object_in (outside_of t)) f

      tested : (b : Bool) (l : Local) → (if b then of_type v m l.type else typing.NoObject) ≡ typing.AnOperation g → operation_of v.program (object_number l.type) m.text ≡ Some g
      tested true l f = type l.type f
      tested false l f = absurd cc

      none : (s : StandsFor) → outer_object s ≡ typing.AnOperation g → operation_of v.program (object_number None) m.text ≡ Some g
      none top.Nothing f = absurd cc
      none (top.Top i t) f = absurd cc
      none (top.Everywhere p) f = absurd cc

      by : (x : Option Local) → of_local v o m x ≡ typing.AnOperation g → operation_of v.program (object_number (option_map_or (λ l. l.type) x None)) m.text ≡ Some g
      by None f = none (stands_for v.program v.home o.text) f
      by (Some l) f = tested (may_be_object l.role) l f

  processes_meet : IsLinked v.program → (n : Name) (g : Signature) → forked v n ≡ statements.AProcess g → IsProcessForked v n g
  unfolding signed_fork
  processes_meet linked n g is = by (local v n.text) is
    where
      what : (i : ℕ) (t : TopName) → stands_for v.program v.home n.text ≡ top.Top i t → (w : What) → t.what ≡ w → top_process v t w ≡ statements.AProcess g → IsProcessForked v n g
      what i t stands (top.Process ps b) e f = record {
        named = t;
        parameters = ps;
        body = b;
        at =
            ap (λ x. slice_get (process_texts v.program) (text_of v.program x).0) (sym (stands_bears v.program v.home n.text i t stands))
            ∙ own_text v.program linked i t ps b (top_at v.program v.home n.text i t stands) e;
        what = e;
        signed = sym (ap (signed_fork g) f);
      }
      what i t stands (top.Constant b) e f = absurd cc
      what i t stands (top.TypeName of) e f = absurd cc
      what i t stands (top.Value of number) e f = absurd cc
      what i t stands (top.Specified hs) e f = absurd cc
      what i t stands (top.Implemented os) e f = absurd cc
      what i t stands (top.Function ps r b) e f = absurd cc

      outer : (s : StandsFor) → stands_for v.program v.home n.text ≡ s → outer_process v s ≡ statements.AProcess g → IsProcessForked v n g
      outer top.Nothing e f = absurd cc
      outer (top.Everywhere p) e f = absurd cc
      outer (top.Top i t) e f = what i t e t.what refl f

      by : (o : Option Local) → process_of v n o ≡ statements.AProcess g → IsProcessForked v n g
      by (Some l) e = absurd cc
      by None e = outer (stands_for v.program v.home n.text) refl e

  abbrev has_name : Name → TypedName → Bool
  has_name f d = bytes_eq d.name.text f.text

  fields_meet : (i : ℕ) (f : Name) (t : Option DataType) → field_of v f.text (types.Bare (base.Record i)) ≡ Some t → slice_get (field_types v.program i) (field_number v.program i f.text) ≡ Some t
  fields_meet i f t is = by (slice_get (top_names v.program) i) refl is
    where
      found : (x : TopName) (fields : List TypedName) (d : Option TypedName) → find (has_name f) fields ≡ d → option_map (λ d. type_of (data_found (whole_module v.program x) d.kind)) d ≡ Some t →
          slice_get (map (λ d. type_of (data_found (whole_module v.program x) d.kind)) fields) (unwrap_or (position (has_name f) fields) 0) ≡ Some t
      found x fields None e g = absurd cc
      found x fields (Some d) e g =
          let k : ℕ = position_or_len (has_name f) fields in
          let there : slice_get fields k ≡ Some d = sym (find_at (has_name f) fields) ∙ e in
          let first : position (has_name f) fields ≡ Some k = ap (λ b. cond b (Some k) None) (lt-ltb k (length fields) (slice_get_within fields k d there)) in
          ap (λ o. slice_get (map (λ d. type_of (data_found (whole_module v.program x) d.kind)) fields) (unwrap_or o 0)) first
          ∙ (slice_get-map (λ d. type_of (data_found (whole_module v.program x) d.kind)) fields k
          ∙ (ap (option_map (λ d. type_of (data_found (whole_module v.program x) d.kind))) there ∙ g))

      of_definition : (x : TopName) (of : Definition) → field_in v.program x f.text of ≡ Some t →
          slice_get (map (λ d. type_of (data_found (whole_module v.program x) d.kind)) (fields_of_what (top.TypeName of))) (unwrap_or (position (has_name f) (fields_of_what (top.TypeName of))) 0) ≡ Some t
      of_definition x (syn.Record at fields) g = found x fields (find (has_name f) fields) refl g
      of_definition x (syn.Enumeration at ns) g = absurd cc
      of_definition x (syn.Alias k) g = absurd cc

      of_what : (x : TopName) (w : What) → field_of_what v.program x f.text w ≡ Some t →
          slice_get (map (λ d. type_of (data_found (whole_module v.program x) d.kind)) (fields_of_what w)) (unwrap_or (position (has_name f) (fields_of_what w)) 0) ≡ Some t
      of_what x (top.TypeName of) g = of_definition x of g
      of_what x (top.Constant b) g = absurd cc
      of_what x (top.Value of number) g = absurd cc
      of_what x (top.Specified hs) g = absurd cc
      of_what x (top.Implemented os) g = absurd cc
      of_what x (top.Function ps r b) g = absurd cc
      of_what x (top.Process ps b) g = absurd cc

      by : (o : Option TopName) → slice_get (top_names v.program) i ≡ o → field_at v.program f.text o ≡ Some t →
          slice_get (option_map_or (types_in v.program) o []) (unwrap_or (position (has_name f) (option_map_or (λ x. fields_of_what x.what) o [])) 0) ≡ Some t
      by None e g = absurd cc
      by (Some x) e g = of_what x x.what g

meets : (v : Scope) → IsLinked v.program → Meets v
meets v linked = record {
  slots = local_at v;
  names = names_meet v;
  functions = functions_meet v;
  graphs = graphs_meet v;
  operations = operations_meet v;
  processes = processes_meet v linked;
  fields = fields_meet v;
}

pub meets_of_links : (v : Scope) → Links v.program → Meets v
meets_of_links v links = meets v ((no_breach v.program).0 links)
