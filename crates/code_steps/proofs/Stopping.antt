-- What stops, and what goes on.
use Rattle.std.proofs.Common.{◌≡◌, List, Ok, Err, Some, refl, ap, ◌∙◌, Result}
use Rattle.orca_base.specs.declared.fault.FaultKind.{FaultKind}
use Rattle.value_core.specs.Datum.{Datum}
use Rattle.meaning_rules.specs.States.{State, Out, Goes, gives}
use Rattle.frame_variables.specs.declared.stop.Stop.{Stop}
use Rattle.frame_variables.specs.declared.stop.Stop.TheVariants as stop
use Rattle.frame_variables.specs.Gives.{Fails}
use Rattle.code_rules.specs.Machine.{Config, Effect, on_out, on_result}
use Rattle.code_steps.specs.declared.advance.Advance.{Advance}
use Rattle.code_steps.specs.declared.advance.Advance.TheVariants as advance
use Rattle.code_steps.specs.declared.config.Effect.{Effect as Done}
use Rattle.code_steps.specs.declared.config.Effect.TheVariants as done
use Rattle.code_steps.specs.Bodies.{effect_in, told_effect}
use Rattle.code_steps.specs.Moves.{effect_of, told}

pub stops_out : {A : Type 0} (why : Stop) (a : Advance) (out : Out A) (go : A → List Datum → Effect) (home : Config) (stack locals : List Datum) →
    Fails why out → told why ≡ Some a → on_out out go ≡ effect_of home a stack locals
stops_out stop.NoMemory a out go home stack locals h is = absurd cc
stops_out (stop.Faults fault) a out go home stack locals h is =
    let same : advance.Fails fault ≡ a = cc in
    ap (λ o. on_out o go) h ∙ ap (λ b. effect_of home b stack locals) same
stops_out (stop.Needs action) a out go home stack locals h is =
    let same : advance.Stuck ≡ a = cc in
    ap (λ o. on_out o go) h ∙ ap (λ b. effect_of home b stack locals) same
stops_out stop.Busy a out go home stack locals h is =
    let same : advance.Stuck ≡ a = cc in
    ap (λ o. on_out o go) h ∙ ap (λ b. effect_of home b stack locals) same

pub stops_effect : {A : Type 0} (why : Stop) (e : Done) (out : Out A) (go : A → List Datum → Effect) (c : Config) →
    Fails why out → told_effect why ≡ Some e → on_out out go ≡ effect_in e c
stops_effect stop.NoMemory e out go c h is = absurd cc
stops_effect (stop.Faults fault) e out go c h is =
    let same : done.Fails fault ≡ e = cc in
    ap (λ o. on_out o go) h ∙ ap (λ b. effect_in b c) same
stops_effect (stop.Needs action) e out go c h is =
    let same : done.Stuck ≡ e = cc in
    ap (λ o. on_out o go) h ∙ ap (λ b. effect_in b c) same
stops_effect stop.Busy e out go c h is =
    let same : done.Stuck ≡ e = cc in
    ap (λ o. on_out o go) h ∙ ap (λ b. effect_in b c) same

pub result_out : {A : Type 0} (r : Result A FaultKind) (s : State) (go : A → Effect) → on_result r go ≡ on_out (gives r s) (λ x _. go x)
result_out (Ok x) s go = refl
result_out (Err fault) s go = refl

pub goes_result : {A : Type 0} (r : Result A FaultKind) (x : A) (s t : State) (go : A → Effect) → gives r s ≡ Goes x t → on_result r go ≡ go x
goes_result r x s t go h = result_out r s go ∙ ap (λ o. on_out o (λ y _. go y)) h

pub stops_result : {A : Type 0} (why : Stop) (a : Advance) (r : Result A FaultKind) (s : State) (go : A → Effect) (home : Config) (stack locals : List Datum) →
    Fails why (gives r s) → told why ≡ Some a → on_result r go ≡ effect_of home a stack locals
stops_result why a r s go home stack locals h is = result_out r s go ∙ stops_out why a (gives r s) (λ x _. go x) home stack locals h is

pub stops_result_effect : {A : Type 0} (why : Stop) (e : Done) (r : Result A FaultKind) (s : State) (go : A → Effect) (c : Config) →
    Fails why (gives r s) → told_effect why ≡ Some e → on_result r go ≡ effect_in e c
stops_result_effect why e r s go c h is = result_out r s go ∙ stops_effect why e (gives r s) (λ x _. go x) c h is
