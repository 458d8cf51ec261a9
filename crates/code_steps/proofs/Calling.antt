-- Calls of functions, as far as their arguments are taken, and what leaves a body with a value.
use Rattle.std.proofs.Common.{◌≡◌, ◌<◌, ◌≤◌, ℕ, Bool, true, false, List, [], ◌∷◌, Option, Some, length, map, refl, sym, ap, ◌∙◌, arith, ltb-false, ltb-true}
use Rattle.std.specs.Prelude.{nat_lt}
use Rattle.std.proofs.lemmas.List.{length-map, length-reverse}
use Rattle.orca_base.specs.declared.fault.FaultKind.TheVariants.{TooDeep}
use Rattle.value_core.specs.Datum.{Datum, data_of}
use Rattle.meaning_rules.specs.Calls.{Passed, values_in}
use Rattle.meaning_rules.specs.Operators.{fitting, fitting_all}
use Rattle.meaning_rules.specs.States.{State, Goes, gives}
use Rattle.frame_variables.specs.declared.stop.Stop.{Stop}
use Rattle.frame_variables.specs.Gives.{Fails}
use Rattle.code_rules.specs.Instructions as rules
use Rattle.code_rules.specs.Instructions.{Shape}
use Rattle.code_rules.specs.Machine as machine
use Rattle.code_rules.specs.Machine.{Body, Code, Config, Effect, Stuck, act, at_state, enter, entered, function_of, goes_if, leave, on_result, on_top}
use Rattle.code_steps.specs.declared.config.Caller.{Caller}
use Rattle.code_steps.specs.declared.config.Effect.{Effect as Done}
use Rattle.code_steps.specs.Bodies.{caller_of, callers_of, effect_in, told_effect}
use Rattle.code_steps.specs.Passing.{Takes}
use Rattle.code_steps.proofs.Entering.{entered_same}
use Rattle.code_steps.proofs.Stopping.{goes_result, stops_result_effect}

-- ---- how many wait

waiting : (ws : List Caller) → length (callers_of ws) ≡ length ws
waiting ws = length-reverse (map caller_of ws) ∙ length-map ws caller_of

is_less : (n m : ℕ) → n < m → nat_lt n m ≡ true
is_less n m low = by_test (nat_lt n m) refl
  where
    by_test : (b : Bool) → nat_lt n m ≡ b → b ≡ true
    by_test true is = refl
    by_test false is = absurd (omega (arith, low, ltb-false n m is))

is_not_less : (n m : ℕ) → m ≤ n → nat_lt n m ≡ false
is_not_less n m high = by_test (nat_lt n m) refl
  where
    by_test : (b : Bool) → nat_lt n m ≡ b → b ≡ false
    by_test true is = absurd (omega (arith, high, ltb-true n m is))
    by_test false is = refl

module _ (code : Code) (i : ℕ) (ps : List Passed) (c : Config) (stack : List Datum) (ws : List Caller) (frames : c.frames ≡ callers_of ws) where
  pub too_deep : 64 ≤ length ws → enter code i ps c stack ≡ machine.Fails TooDeep
  too_deep many =
      ap (λ b. goes_if b (entered (function_of code i) i ps c stack) (machine.Fails TooDeep)) (is_not_less (length c.frames) 64 (omega (arith, many, ap length frames, waiting ws)))

  pub entered_to : (o : Option Body) → length ws < 64 → function_of code i ≡ o → enter code i ps c stack ≡ entered o i ps c stack
  entered_to o few is =
      ap (λ b. goes_if b (entered (function_of code i) i ps c stack) (machine.Fails TooDeep)) (is_less (length c.frames) 64 (omega (arith, few, ap length frames, waiting ws)))
      ∙ ap (λ x. entered x i ps c stack) is

-- ---- calls

module _ (code : Code) (i : ℕ) (shapes : List Shape) (c : Config) (st : List Datum) (args : List Passed) where
  pub calls_not : Takes shapes c.stack false st args → act code (Some (rules.Call i shapes)) c ≡ Stuck
  calls_not t = t (λ ps stack. on_result (fitting_all (data_of (values_in ps))) (λ all. enter code i ps c stack))

  calls : Takes shapes c.stack true st args → act code (Some (rules.Call i shapes)) c ≡ on_result (fitting_all (data_of (values_in args))) (λ all. enter code i args c st)
  calls t = t (λ ps stack. on_result (fitting_all (data_of (values_in ps))) (λ all. enter code i ps c stack))

  -- what is entered doesn't ask for the operands that stood
  enter_same : enter code i args (record c { stack = st }) st ≡ enter code i args c st
  enter_same = ap (λ e. goes_if (nat_lt (length c.frames) 64) e (machine.Fails TooDeep)) (entered_same (function_of code i) i args c st st)

  pub calls_on : (e : Effect) → Takes shapes c.stack true st args → ((s : State) → gives (fitting_all (data_of (values_in args))) s ≡ Goes (data_of (values_in args)) s) →
      enter code i args (record c { stack = st }) st ≡ e → act code (Some (rules.Call i shapes)) c ≡ e
  calls_on e t fits h =
      calls t ∙ goes_result (fitting_all (data_of (values_in args))) (data_of (values_in args)) (at_state st) (at_state st) (λ all. enter code i args c st) (fits (at_state st))
      ∙ sym enter_same ∙ h

  pub calls_fail : (why : Stop) (e : Done) (d : Config) → Takes shapes c.stack true st args → ((s : State) → Fails why (gives (fitting_all (data_of (values_in args))) s)) → told_effect why ≡ Some e →
      act code (Some (rules.Call i shapes)) c ≡ effect_in e d
  calls_fail why e d t fails is =
      calls t ∙ stops_result_effect why e (fitting_all (data_of (values_in args))) (at_state st) (λ all. enter code i args c st) d (fails (at_state st)) is

-- ---- a result

module _ (code : Code) (c : Config) (st : List Datum) (x : Datum) where
  pub gives_none : c.stack ≡ [] → act code (Some rules.Result) c ≡ Stuck
  gives_none is = ap (λ w. on_top w (λ y stack. on_result (fitting y) (λ z. leave c.process (Some z) c.locals c.frames))) is

  gives_top : c.stack ≡ x ∷ st → act code (Some rules.Result) c ≡ on_result (fitting x) (λ z. leave c.process (Some z) c.locals c.frames)
  gives_top is = ap (λ w. on_top w (λ y stack. on_result (fitting y) (λ z. leave c.process (Some z) c.locals c.frames))) is

  pub gives_on : (e : Effect) → c.stack ≡ x ∷ st → ((s : State) → gives (fitting x) s ≡ Goes x s) → leave c.process (Some x) c.locals c.frames ≡ e → act code (Some rules.Result) c ≡ e
  gives_on e is fits h =
      gives_top is ∙ goes_result (fitting x) x (at_state st) (at_state st) (λ z. leave c.process (Some z) c.locals c.frames) (fits (at_state st)) ∙ h

  pub gives_fail : (why : Stop) (e : Done) (d : Config) → c.stack ≡ x ∷ st → ((s : State) → Fails why (gives (fitting x) s)) → told_effect why ≡ Some e → act code (Some rules.Result) c ≡ effect_in e d
  gives_fail why e d is fails told =
      gives_top is ∙ stops_result_effect why e (fitting x) (at_state st) (λ z. leave c.process (Some z) c.locals c.frames) d (fails (at_state st)) told
