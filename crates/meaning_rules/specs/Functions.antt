-- Functions (docs/LANGUAGE.md, Functions): a call goes one level down, of which there are 64.
use Rattle.std.specs.Prelude.{ℕ, zero, suc, Bool, List, [], ◌∷◌, ◌++◌, map, length, drop, slice_get, is_some, true, false, Option, Some, None}
use Rattle.orca_base.specs.declared.fault.FaultKind.TheVariants.{NoReturn, TooDeep}
use Rattle.orca_syntax.specs.Syntax.{Block}
use Rattle.link_rules.specs.Units.{Source}
use Rattle.type_rules.specs.TopLevel as top
use Rattle.type_rules.specs.TopLevel.{What, TopName, top_names}
use Rattle.type_rules.specs.Scopes.{Scope, Local}
use Rattle.value_core.specs.Datum.{Datum}
use Rattle.meaning_rules.specs.Openings.{opening}
use Rattle.meaning_rules.specs.Programs.{function_scope}
use Rattle.meaning_rules.specs.States.{State, Out, Goes, Stops, Faults, after, turn}
use Rattle.meaning_rules.specs.Variables.{store}
use Rattle.meaning_rules.specs.Calls.{Calls, Passed, Given, Lent}
use Rattle.meaning_rules.specs.Loops.{Flow, On, Back}
use Rattle.meaning_rules.specs.Statements.{run_all}

-- the values that variables open with
abbrev pub opened : List Source → List Local → List Datum
opened us ls = map (λ l. opening us l.type) ls

-- and parameters: what is passed, or for `out` the opening value
abbrev pub parameter_values : List Source → List Local → List Passed → List Datum
parameter_values us (l ∷ ls) (Given x ∷ ps) = x ∷ parameter_values us ls ps
parameter_values us (l ∷ ls) (Lent to ∷ ps) = opening us l.type ∷ parameter_values us ls ps
parameter_values us _ _ = []

-- at the return the values of `out` parameters go to their places, one after the other
abbrev pub hand_back : List Passed → List Datum → State → Out (Unit {0})
hand_back (Given x ∷ ps) (y ∷ ys) s = hand_back ps ys s
hand_back (Lent to ∷ ps) (y ∷ ys) s = after (store to y s) (λ _ s1. hand_back ps ys s1)
hand_back _ _ s = Goes tt s

abbrev pub leave : List Passed → Option Datum → List Datum → State → Out (Option Datum)
leave ps x outer s = after (hand_back ps s.frame (record s { frame = outer })) (λ _ s1. Goes x s1)

-- the end of a body: one that has a result may not end without it
abbrev pub returned : Bool → List Passed → List Datum → Flow → State → Out (Option Datum)
returned has_result ps outer (Back x) s = leave ps x outer s
returned true ps outer On s = Stops (Faults NoReturn)
returned false ps outer On s = leave ps None outer s

-- a call takes a turn, and runs the body with variables of its own
abbrev pub own_frame : List Source → Scope → List Passed → List Datum
own_frame us v ps = parameter_values us v.locals ps ++ opened us (drop (length ps) v.locals)

abbrev pub enter_body : Calls → List Source → Scope → Block → Bool → List Passed → State → Out (Option Datum)
enter_body call us v b has_result ps s =
    after (turn s) (λ _ s1.
    after (run_all call v b.statements (record s1 { frame = own_frame us v ps })) (λ flow s2.
    returned has_result ps s1.frame flow s2))

abbrev pub enter_what : Calls → List Source → TopName → What → List Passed → State → Out (Option Datum)
enter_what call us t (top.Function ps r b) given s = enter_body call us (function_scope us t.defined.by ps r b) b (is_some r) given s
enter_what call us t _ given s = Stops (Faults NoReturn)

abbrev pub enter : Calls → List Source → Option TopName → List Passed → State → Out (Option Datum)
enter call us None given s = Stops (Faults NoReturn)
enter call us (Some t) given s = enter_what call us t t.what given s

-- calls where so many levels are left
abbrev pub calls : List Source → ℕ → Calls
calls us zero i given s = Stops (Faults TooDeep)
calls us (suc levels) i given s = enter (calls us levels) us (slice_get (top_names us) i) given s

-- and in a body that no function called
abbrev pub all_calls : List Source → Calls
all_calls us = calls us 64
