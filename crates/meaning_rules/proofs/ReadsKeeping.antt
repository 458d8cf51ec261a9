-- An operation that is a read leaves its object as it was.
use Rattle.std.proofs.Common.{refl, ap, sym, ◌∙◌, subst, arith}
use Rattle.std.specs.Prelude.{◌≡◌, ℕ, ◌+◌, ◌==◌, List, [], ◌∷◌, ◌++◌, length, drop, map, flat_map, slice_get, is_some, Bool, true, false, ◌||◌, if◌then◌else◌, Option, Some, None}
use Rattle.std.specs.Option.{option_map_or}
use Rattle.std.specs.List.{list_any}
use Rattle.std.proofs.Math.Seq.{drop-append_seam}
use Rattle.std.proofs.lemmas.List.{append_assoc, length-append, length-map}
use Rattle.meaning_rules.specs.Openings.{opening}
use Rattle.orca_base.specs.declared.ids.KindNo.{KindNo}
use Rattle.orca_base.specs.declared.ids.OpNo.{OpNo}
use Rattle.orca_tree.specs.declared.tree.Name.{Name}
use Rattle.orca_syntax.specs.Syntax as syn
use Rattle.orca_syntax.specs.Syntax.{Expr, Kind, Stmts, Guard, Body, Operation, Variables}
use Rattle.link_rules.specs.Units.{Source}
use Rattle.type_rules.specs.TypePhrases.{data_found}
use Rattle.type_rules.specs.Scopes.{Scope, Local, locals_of, value_local}
use Rattle.type_rules.specs.declared.names.LocalRole.TheVariants.{ObjectField}
use Rattle.type_rules.specs.Rules.{Found}
use Rattle.type_rules.specs.declared.types.Measured.{Measured}
use Rattle.type_rules.specs.Declarations.{field_locals, fields_view, operation_view}
use Rattle.value_core.specs.Datum.{Datum, Data, data_of, list_of, data_of-list_of}
use Rattle.value_core.specs.Fits.{KeepsState}
use Rattle.value_core.specs.declared.action.Class.TheVariants.{Reads, Writes}
use Rattle.value_core.specs.declared.action.Reply.TheVariants as reply
use Rattle.value_core.specs.declared.meaning.Tried.{Tried}
use Rattle.value_core.specs.declared.meaning.Tried.TheVariants as tried
use Rattle.meaning_rules.specs.Programs.{ObjectType, object_type, operation_scope, operation_variables}
use Rattle.meaning_rules.specs.Operators.{truth_in}
use Rattle.meaning_rules.specs.States.{State, Out, Goes, Stops}
use Rattle.meaning_rules.specs.Loops.{Flow, On, Back}
use Rattle.meaning_rules.specs.Functions.{all_calls, opened}
use Rattle.meaning_rules.specs.Operations.{done, body_ended, body_tried, chosen, guard_tried, guards_tried, alternatives_tried, operation_start, own_count, operation_tried, type_tried}
use Rattle.meaning_rules.specs.Classes.{changes, stmts_change, body_changes, operation_class, type_class, class_of}
use Rattle.meaning_rules.specs.ReadsKeep.{ReadsKeep}
use Rattle.meaning_rules.proofs.Keeping.{Any, Holds, Leaves}
use Rattle.meaning_rules.proofs.KeepingPhrases.{AreFields, Sees, left_no, right_no, calls_keeping, run_all_keeping}

-- ---- fields are fields

fields_more : (xs ys : List Local) → AreFields xs → AreFields ys → AreFields (xs ++ ys)
fields_more [] ys all more = more
fields_more (x ∷ xs) ys all more = (all.0, fields_more xs ys all.1 more)

named_fields : (find_kind : Kind → Found Measured) (kind : Kind) (ns : List Name) →
    AreFields (locals_of ObjectField find_kind (record { names = ns; kind = kind }))
named_fields find_kind kind [] = tt
named_fields find_kind kind (n ∷ ns) = (refl, named_fields find_kind kind ns)

all_fields : (find_kind : Kind → Found Measured) (vs : List Variables) → AreFields (flat_map (locals_of ObjectField find_kind) vs)
all_fields find_kind [] = tt
all_fields find_kind (v ∷ vs) = fields_more _ _ (named_fields find_kind v.kind v.names) (all_fields find_kind vs)

-- ---- what a body leaves

module _ (state : Data) where
  Kept : Tried → Type 0
  Kept t = KeepsState t (λ after. after ≡ state)

  done_keeps : (guard own : ℕ) (x : Option Datum) (s : State) → Holds own (list_of state) s → Kept (done guard own x s)
  unfolding Kept
  done_keeps guard own x s h =
      ap data_of (ap (λ f. drop own f) h.are ∙ (ap (λ n. drop n (h.front ++ list_of state)) (sym h.long) ∙ drop-append_seam h.front (list_of state)))
      ∙ data_of-list_of state

  ended_keeps : (guard own : ℕ) (has_result : Bool) (flow : Flow) (s : State) → Holds own (list_of state) s → Kept (body_ended guard own has_result flow s)
  unfolding Kept
  ended_keeps guard own has_result (Back x) s h = done_keeps guard own x s h
  ended_keeps guard own true On s h = tt
  ended_keeps guard own false On s h = done_keeps guard own None s h

  body_keeps : (guard own : ℕ) (has_result : Bool) (o : Out Flow) → Leaves own (list_of state) Any o → Kept (body_tried guard own has_result o)
  unfolding Kept
  body_keeps guard own has_result (Goes flow s) h = ended_keeps guard own has_result flow s h.0
  body_keeps guard own has_result (Stops why) h = tt

  -- ---- guards

  chosen_keeps : (b : Bool) (body others : Tried) → Kept body → Kept others → Kept (chosen b body others)
  chosen_keeps true body others h i = h
  chosen_keeps false body others h i = i

  guard_keeps : (guard : ℕ) (body others : Tried) (o : Out Datum) → Kept body → Kept others → Kept (guard_tried guard body others o)
  unfolding Kept
  guard_keeps guard body others (Goes x s) h i = chosen_keeps (truth_in x) body others h i
  guard_keeps guard body others (Stops why) h i = tt

  module _ (v : Scope) (test : Expr → Out Datum) (body : ℕ → Stmts → Tried) (keeps : (guard : ℕ) (ss : Stmts) → stmts_change v ss ≡ false → Kept (body guard ss)) where
    guards_keep : (guard : ℕ) (gs : List Guard) → list_any (λ g. changes v g.test || stmts_change v g.body) gs ≡ false →
        Kept (guards_tried test body guard gs)
    unfolding Kept
    guards_keep guard [] still = tt
    guards_keep guard (g ∷ gs) still =
        guard_keeps guard (body guard g.body) (guards_tried test body (guard + 1) gs) (test g.test)
        (keeps guard g.body (right_no _ _ (left_no _ _ still))) (guards_keep (guard + 1) gs (right_no _ _ still))

    alternatives_keep : (b : Body) → body_changes v b ≡ false → Kept (alternatives_tried test body b)
    alternatives_keep (syn.Guarded first others) still = guards_keep 1 (first ∷ others) still
    alternatives_keep (syn.Plain ss) still = keeps 0 ss still

-- ---- operations

pub is_read : (b : Bool) → (if b then Writes else Reads) ≡ Reads → b ≡ false
is_read true is = absurd cc
is_read false is = refl

module _ (us : List Source) (t : ObjectType) (o : Operation) (state args : Data) (given : length (list_of args) ≡ length o.head.parameters)
    (values : length (list_of state) ≡ length (field_locals us t.home t.fields)) where
  abbrev parameters : List Local
  parameters = map (value_local (operation_view us t.home t.fields o)) o.head.parameters

  sees : Sees (field_locals us t.home t.fields) (operation_scope us t o false) (own_count us t o args)
  sees = record {
    front = parameters ++ operation_variables us t o;
    long = length-append parameters (operation_variables us t o)
        ∙ ap (λ n. n + length (operation_variables us t o)) (length-map o.head.parameters (value_local (operation_view us t.home t.fields o)) ∙ sym given);
    are = sym (append_assoc parameters (operation_variables us t o) (field_locals us t.home t.fields));
  }

  starts : Holds (own_count us t o args) (list_of state) (operation_start us t o state args)
  starts = record {
    front = list_of args ++ opened us (operation_variables us t o);
    long = length-append (list_of args) (opened us (operation_variables us t o))
        ∙ ap (λ n. length (list_of args) + n) (length-map (operation_variables us t o) (λ l. opening us l.type));
    are = sym (append_assoc (list_of args) (opened us (operation_variables us t o)) (list_of state));
  }

  operation_keeps : body_changes (operation_scope us t o false) o.body ≡ false → KeepsState (operation_tried us t state args (Some o)) (λ after. after ≡ state)
  unfolding Kept
  operation_keeps still =
      alternatives_keep state (operation_scope us t o false) _ _ (λ guard ss quiet.
      body_keeps state guard (own_count us t o args) (is_some o.head.result) _
      ((run_all_keeping (field_locals us t.home t.fields) (all_fields (data_found (fields_view us t.home t.fields)) t.fields) (list_of state) (omega (arith, values))
      (all_calls us) (calls_keeping (field_locals us t.home t.fields) (all_fields (data_found (fields_view us t.home t.fields)) t.fields) (list_of state) (omega (arith, values)) us 64)
      (operation_scope us t o false) (own_count us t o args) sees ss quiet).keeping (operation_start us t o state args) starts))
      o.body still

-- what a try of an operation of the program is
by_operation : (us : List Source) (t : ObjectType) (op : OpNo) (state args : Data) (o : Operation) → slice_get t.operations op.0 ≡ Some o →
    KeepsState (operation_tried us t state args (Some o)) (λ after. after ≡ state) → KeepsState (type_tried us op state args (Some t)) (λ after. after ≡ state)
by_operation us t op state args o has keeps = subst (λ x. KeepsState (operation_tried us t state args x) (λ after. after ≡ state)) (sym has) keeps

by_kind : (us : List Source) (op : OpNo) (state args : Data) (b : Bool) (t : Option ObjectType) →
    KeepsState (type_tried us op state args t) (λ after. after ≡ state) →
    KeepsState (if b then tried.Did 0 state reply.Done else type_tried us op state args t) (λ after. after ≡ state)
by_kind us op state args true t keeps = refl
by_kind us op state args false t keeps = keeps

-- its class is that of the operation's body
class_is : (us : List Source) (kind : KindNo) (op : OpNo) (t : ObjectType) (o : Operation) → object_type us kind ≡ Some t → slice_get t.operations op.0 ≡ Some o →
    class_of us kind op ≡ operation_class us t o
class_is us kind op t o type has =
    ap (λ x. option_map_or (type_class us op) x Writes) type ∙ ap (λ x. option_map_or (operation_class us t) x Writes) has

pub reads_keep : (us : List Source) → ReadsKeep us
reads_keep us kind op state args call reads =
    let still = is_read (body_changes (operation_scope us call.of call.operation false) call.operation.body)
    (sym (class_is us kind op call.of call.operation call.type call.has) ∙ reads) in
    by_kind us op state args (kind.0 == 0) (object_type us kind)
    (subst (λ x. KeepsState (type_tried us op state args x) (λ after. after ≡ state)) (sym call.type)
    (by_operation us call.of op state args call.operation call.has
    (operation_keeps us call.of call.operation state args call.given call.values still)))
