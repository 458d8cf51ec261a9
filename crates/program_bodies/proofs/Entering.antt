-- What a call of a function, and a process, run by its routine.
use Rattle.std.proofs.Common.{◌≡◌, ℕ, ◌++◌, List, length, drop, Option, Some, None, refl}
use Rattle.std.specs.Prelude.{option_and_then, slice_get}
use Rattle.orca_base.specs.declared.fault.FaultKind.TheVariants.{NoReturn}
use Rattle.orca_base.specs.declared.ids.ProcessNo.{ProcessNo}
use Rattle.orca_base.specs.declared.ids.TextNo.{TextNo}
use Rattle.link_rules.specs.Units.{Source}
use Rattle.type_rules.specs.TopLevel as top
use Rattle.type_rules.specs.TopLevel.{TopName, What, top_names}
use Rattle.value_core.specs.Datum.{Data, Datum, list_of}
use Rattle.meaning_rules.specs.Calls.{Calls, Passed}
use Rattle.meaning_rules.specs.Functions.{all_calls, enter, enter_what, own_frame, returned}
use Rattle.meaning_rules.specs.Loops.{Flow}
use Rattle.meaning_rules.specs.Processes.{text_run, variables_made, what_run}
use Rattle.meaning_rules.specs.Programs.{process_texts}
use Rattle.meaning_rules.specs.States.{Busy, Faults, Out, State, Stops, after, turn}
use Rattle.meaning_rules.specs.Statements.{run_all}
use Rattle.program_bodies.specs.Blocks.{Routine, function_at, function_in, function_of, process_at, process_in, process_of}

-- ---- functions

abbrev pub entered : Calls → List Source → Option Routine → List Passed → State → Out (Option Datum)
entered call us None given s = Stops (Faults NoReturn)
entered call us (Some r) given s =
    after (turn s) (λ _ s1.
    after (run_all call r.scope r.statements (record s1 { frame = own_frame us r.scope given })) (λ flow s2.
    returned r.has_result given s1.frame flow s2))

entered_what : (call : Calls) (us : List Source) (t : TopName) (w : What) (given : List Passed) (s : State) →
    enter_what call us t w given s ≡ entered call us (function_in us t w) given s
entered_what call us t (top.Constant b) given s = refl
entered_what call us t (top.TypeName of) given s = refl
entered_what call us t (top.Value of number) given s = refl
entered_what call us t (top.Specified hs) given s = refl
entered_what call us t (top.Implemented os) given s = refl
entered_what call us t (top.Function ps r b) given s = refl
entered_what call us t (top.Process ps b) given s = refl

entered_top : (call : Calls) (us : List Source) (t : Option TopName) (given : List Passed) (s : State) →
    enter call us t given s ≡ entered call us (option_and_then (function_of us) t) given s
entered_top call us None given s = refl
entered_top call us (Some t) given s = entered_what call us t t.what given s

pub enters : (call : Calls) (us : List Source) (i : ℕ) (given : List Passed) (s : State) →
    enter call us (slice_get (top_names us) i) given s ≡ entered call us (function_at us i) given s
enters call us i given s = entered_top call us (slice_get (top_names us) i) given s

-- ---- processes

abbrev pub process_run : List Source → ProcessNo → Data → Option Routine → State → Out Flow
process_run us number args None s = Stops Busy
process_run us number args (Some r) s =
    after (variables_made us number (drop (length (list_of args)) r.scope.locals) 1 s) (λ xs s1.
    run_all (all_calls us) r.scope r.statements (record s1 { frame = list_of args ++ xs }))

process_what : (us : List Source) (number : ProcessNo) (args : Data) (t : TopName) (w : What) (s : State) →
    what_run us number args t w s ≡ process_run us number args (process_in us t w) s
process_what us number args t (top.Constant b) s = refl
process_what us number args t (top.TypeName of) s = refl
process_what us number args t (top.Value of k) s = refl
process_what us number args t (top.Specified hs) s = refl
process_what us number args t (top.Implemented os) s = refl
process_what us number args t (top.Function ps r b) s = refl
process_what us number args t (top.Process ps b) s = refl

process_top : (us : List Source) (number : ProcessNo) (args : Data) (t : Option TopName) (s : State) →
    text_run us number args t s ≡ process_run us number args (option_and_then (process_of us) t) s
process_top us number args None s = refl
process_top us number args (Some t) s = process_what us number args t t.what s

pub runs : (us : List Source) (number : ProcessNo) (args : Data) (text : TextNo) (s : State) →
    text_run us number args (slice_get (process_texts us) text.0) s ≡ process_run us number args (process_at us text) s
runs us number args text s = process_top us number args (slice_get (process_texts us) text.0) s
