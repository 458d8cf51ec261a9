-- Actions that are asked for.
use Rattle.std.proofs.Common.{◌≡◌, ◌+◌, ℕ, zero, suc, Bool, List, [], ◌∷◌, Some, None, Ok, refl, sym, ap, ◌∙◌}
use Rattle.std.specs.Prelude.{◌≢◌, ok_or, slice_get, slice_set}
use Rattle.orca_base.specs.declared.fault.FaultKind.TheVariants.{IndexOutside}
use Rattle.orca_base.specs.declared.ids.KindNo.{KindNo}
use Rattle.orca_base.specs.declared.ids.ObjectId.{ObjectId}
use Rattle.orca_base.specs.declared.ids.OpNo.{OpNo}
use Rattle.orca_base.specs.declared.ids.ProcessNo.{ProcessNo}
use Rattle.orca_base.specs.declared.ids.TextNo.{TextNo}
use Rattle.value_core.specs.Datum.{Data, Datum, data_of, data_of-list_of, list_of}
use Rattle.value_core.specs.Datum as datum
use Rattle.value_core.specs.declared.action.Action.{Action}
use Rattle.value_core.specs.declared.action.Action.TheVariants as action
use Rattle.value_core.specs.History.{output_object}
use Rattle.meaning_rules.specs.Calls.{id_in}
use Rattle.meaning_rules.specs.Processes.{own_object}
use Rattle.meaning_rules.specs.Operators.{fitting_all, integer_in}
use Rattle.meaning_rules.specs.States.{State, Goes, gives}
use Rattle.frame_variables.specs.declared.stop.Stop.{Stop}
use Rattle.frame_variables.specs.Gives.{Fails}
use Rattle.code_rules.specs.Instructions as rules
use Rattle.code_rules.specs.Machine.{Code, Config, Effect, Asks, Stuck, act, at_state, object_at, on_result, on_top, pops}
use Rattle.code_steps.specs.declared.advance.Advance.{Advance}
use Rattle.code_steps.specs.declared.advance.Advance.TheVariants as advance
use Rattle.code_steps.specs.Moves.{effect_of, holding, told}
use Rattle.code_steps.specs.Passing.{Makes}
use Rattle.code_steps.specs.Pops.{Pops, goes_on}
use Rattle.code_steps.proofs.Arms.{asked}
use Rattle.code_steps.proofs.Stopping.{stops_result}

-- what the making of an object asks for, by the process that runs
making : KindNo → ℕ → ℕ → List Datum → List Datum → Config → ProcessNo → Effect
making kind count slot stack locals home process =
    Asks (action.Make kind (own_object process count)) (record home { pc = home.pc + 1; stack = stack; locals = slice_set locals slot (datum.object process.0 count) })

pub made : (process : ProcessNo) (kind : KindNo) (count slot : ℕ) (old new : List Datum) (object : ObjectId) → object ≡ own_object process count →
    new ≡ slice_set old slot (datum.object process.0 count) → (stack : List Datum) → Makes process kind count slot stack old (advance.Asks (action.Make kind object)) new
unfolding making
made process kind count slot old new object same set stack code home is =
    ap (making kind count slot stack old home) is
    ∙ ap (λ (x : List Datum). Asks (action.Make kind (own_object process count)) (record home { pc = home.pc + 1; stack = stack; locals = x })) (sym set)
    ∙ ap (λ (x : ObjectId). Asks (action.Make kind x) (record home { pc = home.pc + 1; stack = stack; locals = new })) (sym same)

-- the object that a process makes
pub named : (process : ProcessNo) (count number : ℕ) (object : ObjectId) → object ≡ record { process = process.0; number = number } → number ≡ count → object ≡ own_object process count
named process count number object is same = is ∙ ap (own_object process) same

-- the object of a slot
pub object_there : (slot : ℕ) (locals : List Datum) (x : Datum) (object : ObjectId) → Some x ≡ slice_get locals slot → object ≡ id_in (Ok x) →
    object ≡ id_in (ok_or (slice_get locals slot) IndexOutside)
object_there slot locals x object is named = named ∙ ap (λ o. id_in (ok_or o IndexOutside)) is

pub object_none : (slot : ℕ) (locals : List Datum) → None ≡ slice_get locals slot → output_object ≡ id_in (ok_or (slice_get locals slot) IndexOutside)
object_none slot locals is = ap (λ o. id_in (ok_or o IndexOutside)) is

-- of a type that isn't the output's
pub other_kind : (kind slot : ℕ) (locals : List Datum) → kind ≢ 0 → object_at kind slot locals ≡ id_in (ok_or (slice_get locals slot) IndexOutside)
other_kind zero slot locals apart = absurd (apart refl)
other_kind (suc k) slot locals apart = refl

-- ---- calls of operations, and forks

-- the arguments fit together, or they don't
abbrev asking : Config → List Datum → List Datum → (Data → Action) → List Datum → List Datum → Effect
asking home old locals ask xs st = on_result (fitting_all (data_of xs)) (λ args. Asks (ask args) (record (holding home old locals) { pc = home.pc + 1; stack = st }))

module _ (home : Config) (old st locals : List Datum) (args : Data) (ask : Data → Action) where
  pub asks : ((s : State) → gives (fitting_all args) s ≡ Goes args s) → asking home old locals ask (list_of args) st ≡ effect_of home (advance.Asks (ask args)) st locals
  asks fits = asked home args (list_of args) old st locals ask refl fits

  pub asks_not : (why : Stop) (a : Advance) → ((s : State) → Fails why (gives (fitting_all args) s)) → told why ≡ Some a → asking home old locals ask (list_of args) st ≡ effect_of home a st locals
  asks_not why a fails is =
      let go : Data → Effect = λ xs. Asks (ask xs) (record (holding home old locals) { pc = home.pc + 1; stack = st }) in
      ap (λ d. on_result (fitting_all d) go) (data_of-list_of args) ∙ stops_result why a (fitting_all args) (at_state locals) go home st locals (fails (at_state locals)) is

module _ (code : Code) (home : Config) (count : ℕ) (old mid st locals : List Datum) (x : Datum) where
  pub forks : (text : TextNo) (done : Bool) (xs : List Datum) → Pops count old [] done st xs →
      act code (Some (rules.Fork text count)) (holding home old locals) ≡ goes_on done (asking home old locals (λ args. action.Fork text args None) xs st)
  forks text done xs p = p (asking home old locals (λ args. action.Fork text args None))

  pub forks_on : (text : TextNo) (done : Bool) (xs : List Datum) → old ≡ x ∷ mid → Pops count mid [] done st xs →
      act code (Some (rules.ForkOn text count)) (holding home old locals) ≡ goes_on done (asking home old locals (λ args. action.Fork text args (Some (integer_in x))) xs st)
  forks_on text done xs is p =
      ap (λ w. on_top w (λ y rest. pops count rest [] (asking home old locals (λ args. action.Fork text args (Some (integer_in y)))))) is
      ∙ p (asking home old locals (λ args. action.Fork text args (Some (integer_in x))))

  pub forks_none : (text : TextNo) → old ≡ [] → act code (Some (rules.ForkOn text count)) (holding home old locals) ≡ Stuck
  forks_none text is = ap (λ w. on_top w (λ y rest. pops count rest [] (asking home old locals (λ args. action.Fork text args (Some (integer_in y)))))) is

  pub invokes : (kind : KindNo) (op : OpNo) (slot : ℕ) (done : Bool) (xs : List Datum) → Pops count old [] done st xs →
      act code (Some (rules.Invoke kind op slot count)) (holding home old locals) ≡
      goes_on done (asking home old locals (λ args. action.Call kind op (object_at kind.0 slot locals) args) xs st)
  invokes kind op slot done xs p = p (asking home old locals (λ args. action.Call kind op (object_at kind.0 slot locals) args))
