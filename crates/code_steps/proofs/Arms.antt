-- What each instruction does that stays in its body.
use Rattle.std.proofs.Common.{◌≡◌, ◌+◌, ℕ, List, [], ◌∷◌, true, false, Some, sym, ap, ◌∙◌}
use Rattle.std.specs.Prelude.{slice_set, int_le, int_lt, ◌+ℤ◌, pos}
use Rattle.value_core.specs.Datum.{Datum, Data, data_of, list_of, data_of-list_of}
use Rattle.value_core.specs.Datum as datum
use Rattle.value_core.specs.declared.action.Action.{Action}
use Rattle.meaning_rules.specs.Operators.{fitting_all, integer_in}
use Rattle.meaning_rules.specs.States.{State, Goes, gives}
use Rattle.code_rules.specs.Instructions.{Mark}
use Rattle.code_rules.specs.Instructions as rules
use Rattle.code_rules.specs.Machine.{Code, Config, Effect, Asks, Steps, Stuck, act, at_state, goes_if, next, on_result, on_top, on_two}
use Rattle.code_steps.specs.declared.advance.Advance.TheVariants as advance
use Rattle.code_steps.specs.Moves.{effect_of, holding}
use Rattle.code_steps.proofs.Stopping.{goes_result}

-- an operand on top, and two
pub top : (old st : List Datum) (x : Datum) (go : Datum → List Datum → Effect) (e : Effect) → old ≡ x ∷ st → go x st ≡ e → on_top old go ≡ e
top old st x go e is h = ap (λ w. on_top w go) is ∙ h

pub no_top : (old : List Datum) (go : Datum → List Datum → Effect) → old ≡ [] → on_top old go ≡ Stuck
no_top old go is = ap (λ w. on_top w go) is

pub two : (old mid st : List Datum) (x y : Datum) (go : Datum → Datum → List Datum → Effect) (e : Effect) → old ≡ y ∷ mid → mid ≡ x ∷ st → go x y st ≡ e → on_two old go ≡ e
two old mid st x y go e is below h = ap (λ w. on_two w go) (is ∙ ap (λ w. y ∷ w) below) ∙ h

pub no_two : (old mid : List Datum) (y : Datum) (go : Datum → Datum → List Datum → Effect) → old ≡ y ∷ mid → mid ≡ [] → on_two old go ≡ Stuck
no_two old mid y go is below = ap (λ w. on_two w go) (is ∙ ap (λ w. y ∷ w) below)

pub none_of_two : (old : List Datum) (go : Datum → Datum → List Datum → Effect) → old ≡ [] → on_two old go ≡ Stuck
none_of_two old go is = ap (λ w. on_two w go) is

-- ---- actions

-- the arguments fit together
pub asked : (home : Config) (args : Data) (values old st locals : List Datum) (ask : Data → Action) → values ≡ list_of args → ((s : State) → gives (fitting_all args) s ≡ Goes args s) →
    on_result (fitting_all (data_of values)) (λ xs. Asks (ask xs) (record (holding home old locals) { pc = home.pc + 1; stack = st })) ≡ effect_of home (advance.Asks (ask args)) st locals
asked home args values old st locals ask is fits =
    let go : Data → Effect = λ xs. Asks (ask xs) (record (holding home old locals) { pc = home.pc + 1; stack = st }) in
    ap (λ v. on_result (fitting_all (data_of v)) go) is ∙ ap (λ d. on_result (fitting_all d) go) (data_of-list_of args)
    ∙ goes_result (fitting_all args) args (at_state locals) (at_state locals) go (fits (at_state locals))

-- ---- ways on

module _ (code : Code) (home : Config) (slot address : ℕ) (old mid st locals : List Datum) (low high : Datum) (first : old ≡ high ∷ mid) (second : mid ≡ low ∷ st) where
  pub counts : (new after : List Datum) → true ≡ int_le (integer_in low) (integer_in high) → new ≡ datum.int (integer_in high) ∷ (datum.int (integer_in low) ∷ st) →
      after ≡ slice_set locals slot (datum.int (integer_in low)) → act code (Some (rules.Count slot address)) (holding home old locals) ≡ effect_of home advance.Next new after
  counts new after most is set =
      two old mid st low high _ _ first second
      (ap (λ b. goes_if b (next home (datum.int (integer_in high) ∷ (datum.int (integer_in low) ∷ st)) (slice_set locals slot (datum.int (integer_in low))))
      (Steps (record home { pc = address; stack = st; locals = locals }))) (sym most)
      ∙ ap (λ w. next home w (slice_set locals slot (datum.int (integer_in low)))) (sym is) ∙ ap (λ w. next home new w) (sym set))

  pub counts_none : false ≡ int_le (integer_in low) (integer_in high) → act code (Some (rules.Count slot address)) (holding home old locals) ≡ effect_of home (advance.To address) st locals
  counts_none most =
      two old mid st low high _ _ first second
      (ap (λ b. goes_if b (next home (datum.int (integer_in high) ∷ (datum.int (integer_in low) ∷ st)) (slice_set locals slot (datum.int (integer_in low))))
      (Steps (record home { pc = address; stack = st; locals = locals }))) (sym most))

  pub counts_on : (new after : List Datum) → int_lt (integer_in low) (integer_in high) ≡ true → new ≡ high ∷ (datum.int (integer_in low +ℤ pos 1) ∷ st) →
      after ≡ slice_set locals slot (datum.int (integer_in low +ℤ pos 1)) → act code (Some (rules.Upto slot address)) (holding home old locals) ≡ effect_of home (advance.To address) new after
  counts_on new after less is set =
      two old mid st low high _ _ first second
      (ap (λ b. goes_if b (Steps (record home { pc = address; stack = high ∷ (datum.int (integer_in low +ℤ pos 1) ∷ st); locals = slice_set locals slot (datum.int (integer_in low +ℤ pos 1)) }))
      (next home st locals)) less
      ∙ ap (λ w. Steps (record home { pc = address; stack = w; locals = slice_set locals slot (datum.int (integer_in low +ℤ pos 1)) })) (sym is)
      ∙ ap (λ w. Steps (record home { pc = address; stack = new; locals = w })) (sym set))

  pub counts_off : int_lt (integer_in low) (integer_in high) ≡ false → act code (Some (rules.Upto slot address)) (holding home old locals) ≡ effect_of home advance.Next st locals
  counts_off less =
      two old mid st low high _ _ first second
      (ap (λ b. goes_if b (Steps (record home { pc = address; stack = high ∷ (datum.int (integer_in low +ℤ pos 1) ∷ st); locals = slice_set locals slot (datum.int (integer_in low +ℤ pos 1)) }))
      (next home st locals)) less)
