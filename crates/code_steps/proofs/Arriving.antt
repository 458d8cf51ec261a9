-- What is pushed, or changed, and what it comes to.
use Rattle.std.proofs.Common.{◌≡◌, ◌+◌, List, ◌∷◌, Ok, Err, Option, Result, sym, ap, ◌∙◌, subst}
use Rattle.std.specs.Prelude.{MatchResult, option_map}
use Rattle.std.specs.Borrow.{Bor}
use Rattle.orca_base.specs.declared.fault.FaultKind.{FaultKind}
use Rattle.value_core.specs.Datum.{Datum}
use Rattle.value_core.specs.View.{datum_of}
use Rattle.value_core.specs.declared.value.Value.{Value}
use Rattle.meaning_rules.specs.Expressions.{result}
use Rattle.meaning_rules.specs.States.{State, Out, gives}
use Rattle.frame_variables.specs.declared.stop.Stop.{Stop}
use Rattle.frame_variables.specs.Gives.{Fails, Gives}
use Rattle.code_rules.specs.Machine.{Config, Effect, at_state, next, on_out, on_result, pushes}
use Rattle.code_rules.specs.Machine as machine
use Rattle.code_steps.specs.declared.advance.Advance.{Advance}
use Rattle.code_steps.specs.declared.advance.Advance.TheVariants as advance
use Rattle.code_steps.specs.Moves.{effect_of, holding}
use Rattle.code_steps.specs.Passing.{Changes, Pushes, PushesFound, PushesGiven}
use Rattle.code_steps.proofs.Stopping.{goes_result, stops_out, stops_result}

-- the operands that are left when a value is pushed on them, and the variables then
pub pushed_on : (home : Config) (x : Datum) (old st new locals after : List Datum) (a : Advance) → a ≡ advance.Next → new ≡ x ∷ st →
    pushes (holding home old locals) st x after ≡ effect_of home a new after
pushed_on home x old st new locals after a is top =
    ap (λ w. machine.Steps (record home { pc = home.pc + 1; stack = w; locals = after })) (sym top) ∙ ap (λ b. effect_of home b new after) (sym is)

module _ (home : Config) (old st new locals : List Datum) (a : Advance) where
  -- a value that is made of nothing that changes
  pub made : (make : Result Value Stop) (r : Result Datum FaultKind) → ((s : State) → Gives datum_of make s (gives r s)) → Pushes make st a new →
      on_result r (λ x. pushes (holding home old locals) st x locals) ≡ effect_of home a new locals
  made (Ok v) r h p =
      goes_result r (datum_of v) (at_state locals) (at_state locals) (λ x. pushes (holding home old locals) st x locals) (h (at_state locals))
      ∙ pushed_on home (datum_of v) old st new locals locals a p.0 p.1
  made (Err why) r h p = stops_result why a r (at_state locals) (λ x. pushes (holding home old locals) st x locals) home new locals (h (at_state locals)) p

  -- a value that is found
  pub found : (find : Result (Bor Value) FaultKind) (r : Result Datum FaultKind) → PushesFound find st a new →
      MatchResult find (λ v. r ≡ Ok (datum_of v.now)) (λ fault. r ≡ Err fault) → on_result r (λ x. pushes (holding home old locals) st x locals) ≡ effect_of home a new locals
  found (Ok v) r p h =
      ap (λ q. on_result q (λ x. pushes (holding home old locals) st x locals)) h ∙ pushed_on home (datum_of v.now) old st new locals locals a p.0 p.1
  found (Err fault) r p h =
      ap (λ q. on_result q (λ x. pushes (holding home old locals) st x locals)) h ∙ ap (λ b. effect_of home b new locals) (sym p)

  module _ (s1 s2 : State) (clear : s1 ≡ at_state locals) where
    -- a value that is taken out of variables
    pub taken : (take : Result Value Stop) (out : State → Out Datum) → Gives datum_of take s2 (out s1) → Pushes take st a new →
        on_out (out (at_state locals)) (λ x after. pushes (holding home old locals) st x after) ≡ effect_of home a new s2.frame
    taken (Ok v) out h p =
        let go : Datum → List Datum → Effect = λ x after. pushes (holding home old locals) st x after in
        ap (λ s. on_out (out s) go) (sym clear) ∙ ap (λ o. on_out o go) h ∙ pushed_on home (datum_of v) old st new locals s2.frame a p.0 p.1
    taken (Err why) out h p =
        stops_out why a (out (at_state locals)) (λ x after. pushes (holding home old locals) st x after) home new s2.frame
        (subst (λ s. Fails why (out s)) clear h) p

    -- a value that a change of variables gives, or none
    pub given : (give : Result (Option Value) Stop) (out : State → Out (Option Datum)) → Gives (option_map datum_of) give s2 (out s1) → PushesGiven give st a new →
        on_out (out (at_state locals)) (λ x after. pushes (holding home old locals) st (result x) after) ≡ effect_of home a new s2.frame
    given (Ok v) out h p =
        let go : Option Datum → List Datum → Effect = λ x after. pushes (holding home old locals) st (result x) after in
        ap (λ s. on_out (out s) go) (sym clear) ∙ ap (λ o. on_out o go) h ∙ pushed_on home (result (option_map datum_of v)) old st new locals s2.frame a p.0 p.1
    given (Err why) out h p =
        stops_out why a (out (at_state locals)) (λ x after. pushes (holding home old locals) st (result x) after) home new s2.frame
        (subst (λ s. Fails why (out s)) clear h) p

    -- a change that gives nothing
    pub changed : (change : Result (Unit {0}) Stop) (out : State → Out (Unit {0})) → Gives (λ u. u) change s2 (out s1) → Changes change a →
        on_out (out (at_state locals)) (λ u after. next (holding home old locals) st after) ≡ effect_of home a st s2.frame
    changed (Ok u) out h is =
        let go : Unit {0} → List Datum → Effect = λ u after. next (holding home old locals) st after in
        ap (λ s. on_out (out s) go) (sym clear) ∙ ap (λ o. on_out o go) h ∙ ap (λ b. effect_of home b st s2.frame) (sym is)
    changed (Err why) out h is =
        stops_out why a (out (at_state locals)) (λ u after. next (holding home old locals) st after) home st s2.frame
        (subst (λ s. Fails why (out s)) clear h) is
