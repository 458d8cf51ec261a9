-- The code of a program has its functions, its texts and its types, each at its number. So it means the program.
use Rattle.std.proofs.Common.{◌≡◌, ℕ, zero, suc, ◌+◌, ◌≤◌, List, [], length, Option, Some, None, Bool, true, false, refl, sym, ap, ◌∙◌, subst, arith, inr}
use Rattle.std.specs.Prelude.{slice_get, option_map, option_and_then, ◌==◌, if◌then◌else◌}
use Rattle.std.proofs.lemmas.Option.{slice_get-map}
use Rattle.orca_base.specs.declared.ids.KindNo.{KindNo}
use Rattle.orca_base.specs.declared.ids.OpNo.{OpNo}
use Rattle.orca_base.specs.declared.ids.TextNo.{TextNo}
use Rattle.orca_base.specs.declared.ids.ProcessNo.{ProcessNo}
use Rattle.orca_base.specs.declared.limits.TheConstants.{OPERATION_TURNS}
use Rattle.orca_syntax.specs.Syntax.{Operation}
use Rattle.link_rules.specs.Units.{Source}
use Rattle.type_rules.specs.TopLevel.{TopName, top_names}
use Rattle.type_rules.specs.Scopes.{Scope}
use Rattle.value_core.specs.Datum.{Datum, Data, list_of}
use Rattle.value_core.specs.Datum as datum
use Rattle.value_core.specs.declared.action.Reply.{Reply}
use Rattle.value_core.specs.declared.action.Reply.TheVariants as reply
use Rattle.value_core.specs.declared.meaning.Making.TheVariants as making
use Rattle.value_core.specs.declared.meaning.Tried.{Tried}
use Rattle.value_core.specs.declared.meaning.Tried.TheVariants as tried
use Rattle.meaning_rules.specs.States.{State}
use Rattle.meaning_rules.specs.Functions.{opened}
use Rattle.meaning_rules.specs.Processes.{next_doing, text_run, what_run, block_run, doing_of}
use Rattle.meaning_rules.specs.Operations.{type_tried, operation_tried as operation_meant, making_of, type_made as type_meant}
use Rattle.meaning_rules.specs.Programs.{ObjectType, object_type, type_at as meant_at, specified, specifications, process_texts, process_scope, begin_scope}
use Rattle.code_rules.specs.Machine.{Body, BodyNo, OfProcess, OfMaking, OfOperation, OperationCode, flat, type_of, operation_in, operation_of, body_of, body_at, instrs_in, with_spare, exec}
use Rattle.code_rules.specs.Bodies.{block_piece, block_body, process_code, operation_code, making_code, begin_stmts}
use Rattle.code_rules.specs.Program.{function_at, process_at, process_in, type_code, type_at, program_code}
use Rattle.code_rules.specs.Performing.{process_slots, Came, To, ComesTo, does, doing_by, process_begun, first_of, attempt_of, operation_tried, type_made, made_by, begun, nobody}
use Rattle.code_rules.specs.Correct.{IsStart, IsTry, DoesAsMeant, MakesAsMeant, TriesAsMeant, Means}
use Rattle.code_rules.proofs.Lists.{HasAt, has_all}
use Rattle.code_rules.proofs.Knot.{HasFunctions}
use Rattle.code_rules.proofs.Steady.{comes, run_steady, attempted_steady}
use Rattle.code_rules.proofs.Pieces.{From}
use Rattle.code_rules.proofs.Processes.{next_said, block_from, few_parameters}
use Rattle.code_rules.proofs.Operations.{operation_tries}
use Rattle.code_rules.proofs.Makings.{begin_makes, made_is}

-- ---- what is found by its number

flat_map_is : {A B : Type 0} (f : A → Option B) (o : Option A) → flat (option_map f o) ≡ option_and_then f o
flat_map_is f None = refl
flat_map_is f (Some x) = refl

has_functions : (us : List Source) → HasFunctions us (program_code us)
has_functions us = record { functions = λ i. ap flat (slice_get-map (function_at us) (top_names us) i) ∙ flat_map_is (function_at us) (slice_get (top_names us) i) }

-- a type, where it is implemented
type_found : (us : List Source) (o : Option TopName) → option_and_then (type_at us) o ≡ option_map (type_code us) (option_and_then (specified us) o)
type_found us None = refl
type_found us (Some t) = refl

types_are : (us : List Source) (k : ℕ) → type_of (program_code us) k ≡ option_map (type_code us) (meant_at us k)
types_are us zero = refl
types_are us (suc k) =
    ap flat (slice_get-map (type_at us) (specifications us) k) ∙ flat_map_is (type_at us) (slice_get (specifications us) k) ∙ type_found us (slice_get (specifications us) k)

operation_found : (us : List Source) (op : ℕ) (o : Option ObjectType) → option_and_then (operation_in op) (option_map (type_code us) o) ≡ option_and_then (λ t. option_map (operation_code us t) (slice_get t.operations op)) o
operation_found us op None = refl
operation_found us op (Some t) = slice_get-map (operation_code us t) t.operations op

operations_are : (us : List Source) (kind op : ℕ) → operation_of (program_code us) kind op ≡ option_and_then (λ t. option_map (operation_code us t) (slice_get t.operations op)) (meant_at us kind)
operations_are us kind op = ap (option_and_then (operation_in op)) (types_are us kind) ∙ operation_found us op (meant_at us kind)

-- ---- processes

module _ (us : List Source) (text : TextNo) (number : ProcessNo) (args : Data) (replies : List Reply) (turns : ℕ) (start : IsStart us text args) where
  abbrev s : State
  s = record { frame = []; replies = replies; left = turns }

  abbrev part : Body
  part = process_code us start.of.defined.by start.parameters start.block

  found : body_of (program_code us) (OfProcess text.0) ≡ Some part
  found = slice_get-map (process_at us) (process_texts us) text.0 ∙ ap (option_map (process_at us)) start.there ∙ ap (λ w. Some (process_in us start.of w)) start.is

  abbrev v : Scope
  v = process_scope us start.of.defined.by start.parameters start.block

  -- with the arguments in place of the parameters
  n : length (list_of args) ≡ length start.parameters
  n = start.given

  code_is : HasAt (body_at (program_code us) (OfProcess text.0)) 0 (block_piece us (length (list_of args)) v start.block.statements 0)
  code_is =
      subst (λ m. HasAt (body_at (program_code us) (OfProcess text.0)) 0 (block_piece us m v start.block.statements 0)) (sym n)
      (subst (λ o. HasAt (instrs_in o) 0 part.code) (sym found) (has_all part.code []))

  few : length (list_of args) ≤ length v.locals
  few = omega (arith, n, few_parameters us start.of.defined.by start.parameters start.block)

  runs : From (program_code us) next_said number (OfProcess text.0) [] 0 [] (process_slots part args) s (doing_of (block_run us number args v start.block s))
  runs =
      subst (λ m. From (program_code us) next_said number (OfProcess text.0) [] 0 [] (process_slots (block_body us m v start.block.statements) args) s (doing_of (block_run us number args v start.block s))) n
      (block_from us (program_code us) (has_functions us) number (OfProcess text.0) args v start.block few code_is s)

  means : next_doing us text number args replies turns ≡ doing_of (block_run us number args v start.block s)
  means = ap (λ o. doing_of (text_run us number args o s)) start.there ∙ ap (λ w. doing_of (what_run us number args start.of w s)) start.is

  comes_next : (k : ℕ) × (does (program_code us) text number args replies turns k ≡ To (next_doing us text number args replies turns))
  comes_next =
      subst (λ d. (k : ℕ) × (does (program_code us) text number args replies turns k ≡ To d)) (sym means)
      (subst (λ o. (k : ℕ) × (doing_by (exec (program_code us) k (process_begun (program_code us) text number args o) replies 0 turns) ≡ To (doing_of (block_run us number args v start.block s)))) (sym found) (runs.run.by 0))

computes : (us : List Source) → DoesAsMeant us (program_code us)
computes us text number args replies turns start =
    comes (does (program_code us) text number args replies turns) (run_steady doing_by refl (program_code us) (first_of (program_code us) text number args) replies 0 turns)
    (next_doing us text number args replies turns) (comes_next us text number args replies turns start)

-- ---- makings

at_once : {A : Type 0} (x : A) → ComesTo (λ k. To x) x
at_once x = record { enough = (0, refl); stays = λ j k le is. is; only = λ k. inr refl }

module _ (us : List Source) (kind : KindNo) where
  abbrev making_no : BodyNo
  making_no = OfMaking kind.0

  making_is : body_of (program_code us) making_no ≡ option_map (λ t. t.making) (option_map (type_code us) (object_type us kind))
  making_is = ap (option_map (λ t. t.making)) (types_are us kind.0)

  type_makes : (o : Option ObjectType) → body_of (program_code us) making_no ≡ option_map (λ t. t.making) (option_map (type_code us) o) →
      ComesTo (type_made (program_code us) making_no (option_map (λ t. t.making) (option_map (type_code us) o))) (type_meant us o)
  type_makes None is = at_once (making.Made datum.none)
  type_makes (Some t) is =
      comes (type_made (program_code us) making_no (Some (making_code us t)))
      (run_steady (made_by (length (opened us (begin_scope us t).locals))) refl (program_code us) (begun nobody making_no 0 (with_spare (making_code us t) (making_code us t).opens)) [] 0 (OPERATION_TURNS + 1))
      (type_meant us (Some t))
      (subst (λ m. (k : ℕ) × (type_made (program_code us) making_no (Some (making_code us t)) k ≡ To m)) (made_is us t t.begins)
      (begin_makes us (program_code us) (has_functions us) making_no (begin_scope us t) (begin_stmts t.begins) (ap instrs_in is)))

makes_so : (us : List Source) → MakesAsMeant us (program_code us)
makes_so us kind =
    subst (λ o. ComesTo (type_made (program_code us) (OfMaking kind.0) o) (making_of us kind)) (sym (making_is us kind)) (type_makes us kind (object_type us kind) (making_is us kind))

-- ---- tries

module _ (us : List Source) (kind : KindNo) (op : OpNo) (state args : Data) (h : IsTry us kind op state args) where
  abbrev operation_no : BodyNo
  operation_no = OfOperation kind.0 op.0

  abbrev tried_in : Option OperationCode → ℕ → Came Tried
  tried_in = operation_tried (program_code us) operation_no state args

  by_operation : (t : ObjectType) → object_type us kind ≡ Some t → (o : Option Operation) → slice_get t.operations op.0 ≡ o → operation_of (program_code us) kind.0 op.0 ≡ option_map (operation_code us t) o →
      ComesTo (tried_in (option_map (operation_code us t) o)) (operation_meant us t state args o)
  by_operation t type None has is = at_once tried.Blocked
  by_operation t type (Some o) has is =
      comes (tried_in (Some (operation_code us t o))) (attempted_steady (program_code us) (attempt_of operation_no (operation_code us t o).body state args) (operation_code us t o).first)
      (operation_meant us t state args (Some o))
      (operation_tries us (program_code us) (has_functions us) operation_no t o state args (ap (λ x. instrs_in (option_map (λ y. y.body) x)) is) (h.given t o type has) (h.values t o type has))

  by_type : (o : Option ObjectType) → object_type us kind ≡ o → operation_of (program_code us) kind.0 op.0 ≡ option_and_then (λ t. option_map (operation_code us t) (slice_get t.operations op.0)) o →
      ComesTo (tried_in (option_and_then (λ t. option_map (operation_code us t) (slice_get t.operations op.0)) o)) (type_tried us op state args o)
  by_type None type is = at_once tried.Blocked
  by_type (Some t) type is = by_operation t type (slice_get t.operations op.0) refl is

  typed_tries : ComesTo (tried_in (operation_of (program_code us) kind.0 op.0)) (type_tried us op state args (object_type us kind))
  typed_tries =
      subst (λ o. ComesTo (tried_in o) (type_tried us op state args (object_type us kind))) (sym (operations_are us kind.0 op.0))
      (by_type (object_type us kind) refl (operations_are us kind.0 op.0))

  by_kind : (output : Bool) →
      ComesTo (λ k. if output then To (tried.Did 0 state reply.Done) else tried_in (operation_of (program_code us) kind.0 op.0) k)
      (if output then tried.Did 0 state reply.Done else type_tried us op state args (object_type us kind))
  by_kind true = at_once (tried.Did 0 state reply.Done)
  by_kind false = typed_tries

performs : (us : List Source) → TriesAsMeant us (program_code us)
performs us kind op state args h = by_kind us kind op state args h (kind.0 == 0)

pub means_the_source : (us : List Source) → Means us (program_code us)
means_the_source us = record { main = refl; processes = computes us; makings = makes_so us; operations = performs us }
