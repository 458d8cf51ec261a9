-- Processes (docs/LANGUAGE.md, Processes): what one does next, by the replies that it received so far.
use Rattle.std.specs.Prelude.{ℕ, ◌+◌, List, [], ◌∷◌, ◌++◌, length, drop, slice_get, Option, Some, None, option_and_then}
use Rattle.orca_base.specs.declared.ids.TextNo.{TextNo}
use Rattle.orca_base.specs.declared.ids.ProcessNo.{ProcessNo}
use Rattle.orca_base.specs.declared.ids.ObjectId.{ObjectId}
use Rattle.link_rules.specs.Units.{Source}
use Rattle.type_rules.specs.Types.{object_in, outside_of}
use Rattle.type_rules.specs.TopLevel as top
use Rattle.type_rules.specs.TopLevel.{What, TopName}
use Rattle.type_rules.specs.Scopes.{Scope, Local}
use Rattle.value_core.specs.Datum.{Datum, Data, list_of}
use Rattle.value_core.specs.Datum as datum
use Rattle.value_core.specs.declared.action.Action.TheVariants as action
use Rattle.value_core.specs.declared.action.Reply.{Reply}
use Rattle.value_core.specs.declared.meaning.Doing.{Doing}
use Rattle.value_core.specs.declared.meaning.Doing.TheVariants as doing
use Rattle.orca_syntax.specs.Syntax.{Block}
use Rattle.meaning_rules.specs.Openings.{opening}
use Rattle.meaning_rules.specs.Programs.{kind_of, process_texts, process_scope}
use Rattle.meaning_rules.specs.States.{State, Out, Goes, Stops, Needs, Faults, Busy, after, act}
use Rattle.meaning_rules.specs.Loops.{Flow}
use Rattle.meaning_rules.specs.Statements.{run_all}
use Rattle.meaning_rules.specs.Functions.{all_calls}

-- ---- objects

-- the object that a process makes as the how manyeth of its own, from 1
abbrev pub own_object : ProcessNo → ℕ → ObjectId
own_object number count = record { process = number.0; number = count }

abbrev pub make : List Source → ProcessNo → ℕ → ℕ → State → Out Datum
make us number count i s =
    after (act (action.Make (kind_of us i) (own_object number count)) s) (λ _ s1. Goes (datum.object number.0 count) s1)

abbrev pub object_type_of : Local → Option ℕ
object_type_of l = option_and_then (λ t. object_in (outside_of t)) l.type

-- what stands behind a variable: its objects are numbered on from here
abbrev pub behind : Datum → (State → Out (List Datum)) → State → Out (List Datum)
behind x others s = after (others s) (λ xs s1. Goes (x ∷ xs) s1)

-- a variable of an object type makes an object, in order of declaration; another one opens
abbrev pub variable_made : List Source → ProcessNo → ℕ → Local → Option ℕ → (ℕ → State → Out (List Datum)) → State →
    Out (List Datum)
variable_made us number count l None others s = behind (opening us l.type) (others count) s
variable_made us number count l (Some i) others s = after (make us number count i s) (λ x s1. behind x (others (count + 1)) s1)

abbrev pub variables_made : List Source → ProcessNo → List Local → ℕ → State → Out (List Datum)
variables_made us number [] count s = Goes [] s
variables_made us number (l ∷ ls) count s = variable_made us number count l (object_type_of l) (variables_made us number ls) s

-- ---- the next action

-- a process makes its objects, and then runs its statements
abbrev pub block_run : List Source → ProcessNo → Data → Scope → Block → State → Out Flow
block_run us number args v b s =
    after (variables_made us number (drop (length (list_of args)) v.locals) 1 s) (λ xs s1.
    run_all (all_calls us) v b.statements (record s1 { frame = list_of args ++ xs }))

abbrev pub what_run : List Source → ProcessNo → Data → TopName → What → State → Out Flow
what_run us number args t (top.Process ps b) s = block_run us number args (process_scope us t.defined.by ps b) b s
what_run us number args t _ s = Stops Busy

abbrev pub text_run : List Source → ProcessNo → Data → Option TopName → State → Out Flow
text_run us number args None s = Stops Busy
text_run us number args (Some t) s = what_run us number args t t.what s

abbrev pub doing_of : Out Flow → Doing
doing_of (Goes flow s) = doing.At action.Ended
doing_of (Stops (Needs action)) = doing.At action
doing_of (Stops (Faults fault)) = doing.At (action.Faulted fault)
doing_of (Stops Busy) = doing.Busy

-- what a process of this text, with this number and these arguments, does next after these replies, within so many turns
abbrev pub next_doing : List Source → TextNo → ProcessNo → Data → List Reply → ℕ → Doing
next_doing us text number args replies turns =
    doing_of (text_run us number args (slice_get (process_texts us) text.0) (record { frame = []; replies = replies; left = turns }))
