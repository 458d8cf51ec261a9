-- Operations and makings (docs/LANGUAGE.md, Operations and makings). No text of a program's runs here but that of one implementation and of
-- the functions that it calls, and these hold no action.
use Rattle.std.specs.Prelude.{ℕ, ◌+◌, ◌==◌, Bool, true, false, List, [], ◌∷◌, ◌++◌, length, drop, slice_get, is_some, if◌then◌else◌, Option, Some, None}
use Rattle.orca_base.specs.declared.fault.FaultKind.{FaultKind}
use Rattle.orca_base.specs.declared.fault.FaultKind.TheVariants.{NoReturn, TooLong}
use Rattle.orca_base.specs.declared.ids.KindNo.{KindNo}
use Rattle.orca_base.specs.declared.ids.OpNo.{OpNo}
use Rattle.orca_base.specs.declared.limits.TheConstants.{OPERATION_TURNS}
use Rattle.orca_syntax.specs.Syntax as syn
use Rattle.orca_syntax.specs.Syntax.{Expr, Stmts, Guard, Body, Operation}
use Rattle.link_rules.specs.Units.{Source}
use Rattle.value_core.specs.Datum.{Datum, Data, data_of, list_of}
use Rattle.value_core.specs.Datum as datum
use Rattle.value_core.specs.View as view
use Rattle.value_core.specs.declared.action.Reply.{Reply}
use Rattle.value_core.specs.declared.action.Reply.TheVariants as reply
use Rattle.value_core.specs.declared.meaning.Making.{Making}
use Rattle.value_core.specs.declared.meaning.Making.TheVariants as making
use Rattle.value_core.specs.declared.meaning.Tried.{Tried}
use Rattle.value_core.specs.declared.meaning.Tried.TheVariants as tried
use Rattle.type_rules.specs.Scopes.{Scope}
use Rattle.meaning_rules.specs.Operators.{truth_in}
use Rattle.meaning_rules.specs.Programs.{ObjectType, object_type, operation_scope, operation_variables, begin_scope}
use Rattle.meaning_rules.specs.States.{State, Stop, Out, Goes, Stops, Needs, Faults, Busy}
use Rattle.meaning_rules.specs.Expressions.{eval}
use Rattle.meaning_rules.specs.Loops.{Flow, On, Back}
use Rattle.meaning_rules.specs.Statements.{run_all}
use Rattle.meaning_rules.specs.Functions.{opened, all_calls}

-- a guard, a body and a making may take 10,000 turns each, and have no replies
abbrev pub start : List Datum → State
start frame = record { frame = frame; replies = []; left = OPERATION_TURNS + 1 }

-- one turn too many is a fault
abbrev pub fault_of : Stop → FaultKind
fault_of (Needs action) = TooLong
fault_of (Faults fault) = fault
fault_of Busy = TooLong

-- ---- what a body leaves

-- the reply, by the value that was returned
abbrev pub reply_of : Option Datum → Reply
reply_of None = reply.Done
reply_of (Some x) = reply.Gave (view.value_of x)

-- the object's fields stand behind so many parameters and variables; one that faults leaves the object as it was
abbrev pub done : ℕ → ℕ → Option Datum → State → Tried
done guard own x s = tried.Did guard (data_of (drop own s.frame)) (reply_of x)

abbrev pub body_ended : ℕ → ℕ → Bool → Flow → State → Tried
body_ended guard own has_result (Back x) s = done guard own x s
body_ended guard own true On s = tried.Broke guard NoReturn
body_ended guard own false On s = done guard own None s

abbrev pub body_tried : ℕ → ℕ → Bool → Out Flow → Tried
body_tried guard own has_result (Goes flow s) = body_ended guard own has_result flow s
body_tried guard own has_result (Stops why) = tried.Broke guard (fault_of why)

-- ---- guards, numbered from 1 in text order: the first that is true or faults decides

abbrev pub chosen : Bool → Tried → Tried → Tried
chosen true body others = body
chosen false body others = others

abbrev pub guard_tried : ℕ → Tried → Tried → Out Datum → Tried
guard_tried guard body others (Goes x s) = chosen (truth_in x) body others
guard_tried guard body others (Stops why) = tried.Broke guard (fault_of why)

-- guards and bodies, by what these give
abbrev pub guards_tried : (Expr → Out Datum) → (ℕ → Stmts → Tried) → ℕ → List Guard → Tried
guards_tried test body guard [] = tried.Blocked
guards_tried test body guard (g ∷ gs) = guard_tried guard (body guard g.body) (guards_tried test body (guard + 1) gs) (test g.test)

-- a body without guards counts as guard 0, which is true
abbrev pub alternatives_tried : (Expr → Out Datum) → (ℕ → Stmts → Tried) → Body → Tried
alternatives_tried test body (syn.Guarded first others) = guards_tried test body 1 (first ∷ others)
alternatives_tried test body (syn.Plain ss) = body 0 ss

-- ---- operations

-- a try begins with the arguments, the variables with their opening values, and the object's fields
abbrev pub operation_start : List Source → ObjectType → Operation → Data → Data → State
operation_start us t o state args = start (list_of args ++ (opened us (operation_variables us t o) ++ list_of state))

abbrev pub own_count : List Source → ObjectType → Operation → Data → ℕ
own_count us t o args = length (list_of args) + length (operation_variables us t o)

abbrev pub alternatives : List Source → Scope → Scope → ℕ → Bool → State → Body → Tried
alternatives us in_guard v own has_result s b =
    alternatives_tried (λ e. eval (all_calls us) in_guard e s)
    (λ guard ss. body_tried guard own has_result (run_all (all_calls us) v ss s)) b

abbrev pub operation_tried : List Source → ObjectType → Data → Data → Option Operation → Tried
operation_tried us t state args None = tried.Blocked
operation_tried us t state args (Some o) =
    alternatives us (operation_scope us t o true) (operation_scope us t o false) (own_count us t o args) (is_some o.head.result)
    (operation_start us t o state args) o.body

abbrev pub type_tried : List Source → OpNo → Data → Data → Option ObjectType → Tried
type_tried us op state args None = tried.Blocked
type_tried us op state args (Some t) = operation_tried us t state args (slice_get t.operations op.0)

-- the output object has one operation, `WriteLine`, which changes nothing
abbrev pub tries_of : List Source → KindNo → OpNo → Data → Data → Tried
tries_of us kind op state args =
    if kind.0 == 0 then tried.Did 0 state reply.Done else type_tried us op state args (object_type us kind)

-- ---- makings

abbrev pub begun_with : Out Flow → Making
begun_with (Goes flow s) = making.Made (data_of s.frame)
begun_with (Stops why) = making.Broke (fault_of why)

abbrev pub made : List Source → ObjectType → List Datum → Option Stmts → Making
made us t fields None = making.Made (data_of fields)
made us t fields (Some ss) = begun_with (run_all (all_calls us) (begin_scope us t) ss (start fields))

-- the fields open, and the implementation's `begin` part runs
abbrev pub type_made : List Source → Option ObjectType → Making
type_made us None = making.Made datum.none
type_made us (Some t) = made us t (opened us (begin_scope us t).locals) t.begins

abbrev pub making_of : List Source → KindNo → Making
making_of us kind = type_made us (object_type us kind)
