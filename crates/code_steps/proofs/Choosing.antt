-- Operators, and the ways on that truths choose, as far as their operands are taken.
use Rattle.std.proofs.Common.{◌≡◌, ◌+◌, ℕ, List, [], ◌∷◌, Some, Bool, true, false, sym, ap, ◌∙◌}
use Rattle.std.specs.Prelude.{if◌then◌else◌}
use Rattle.orca_tree.specs.declared.tree.Operator.{Operator}
use Rattle.value_core.specs.Datum.{Datum}
use Rattle.meaning_rules.specs.Operators.{applied, decides, truth_in}
use Rattle.code_rules.specs.Instructions.{Prefix}
use Rattle.code_rules.specs.Instructions as rules
use Rattle.code_rules.specs.Machine.{Code, Config, Steps, Stuck, Tests, act, goes_if, next, on_result, on_top, on_two, prefixed, pushes, short}
use Rattle.code_steps.specs.declared.advance.Advance.TheVariants as advance
use Rattle.code_steps.specs.Moves.{effect_of, holding}

module _ (home : Config) (operator : Operator) (address : ℕ) (old mid new locals : List Datum) (x : Datum) where
  -- `and` and `or`, where the left operand decides
  pub stays : old ≡ x ∷ mid → new ≡ x ∷ mid → decides operator x ≡ true → short operator address (holding home old locals) ≡ effect_of home (advance.To address) new locals
  stays is put test =
      let c : Config = holding home old locals in
      ap (λ w. on_top w (λ y stack. goes_if (decides operator y) (Steps (record c { pc = address })) (next c stack locals))) is
      ∙ ap (λ b. goes_if b (Steps (record c { pc = address })) (next c mid locals)) test
      ∙ ap (λ w. Steps (record home { pc = address; stack = w; locals = locals })) (is ∙ sym put)

  -- and where it doesn't
  pub goes : old ≡ x ∷ mid → decides operator x ≡ false → short operator address (holding home old locals) ≡ effect_of home advance.Next mid locals
  goes is test =
      let c : Config = holding home old locals in
      ap (λ w. on_top w (λ y stack. goes_if (decides operator y) (Steps (record c { pc = address })) (next c stack locals))) is
      ∙ ap (λ b. goes_if b (Steps (record c { pc = address })) (next c mid locals)) test

  pub decides_none : old ≡ [] → short operator address (holding home old locals) ≡ Stuck
  decides_none is =
      let c : Config = holding home old locals in
      ap (λ w. on_top w (λ y stack. goes_if (decides operator y) (Steps (record c { pc = address })) (next c stack locals))) is

module _ (code : Code) (home : Config) (old mid st locals : List Datum) (x : Datum) where
  pub prefixes : (p : Prefix) → old ≡ x ∷ st → act code (Some (rules.Before p)) (holding home old locals) ≡
      on_result (prefixed p x) (λ y. pushes (holding home old locals) st y locals)
  prefixes p is = ap (λ w. on_top w (λ y stack. on_result (prefixed p y) (λ z. pushes (holding home old locals) stack z locals))) is

  pub prefixes_none : (p : Prefix) → old ≡ [] → act code (Some (rules.Before p)) (holding home old locals) ≡ Stuck
  prefixes_none p is = ap (λ w. on_top w (λ y stack. on_result (prefixed p y) (λ z. pushes (holding home old locals) stack z locals))) is

  -- the right operand stands on top
  pub applies : (operator : Operator) (y : Datum) → old ≡ y ∷ mid → mid ≡ x ∷ st → act code (Some (rules.Apply operator)) (holding home old locals) ≡
      on_result (applied operator x y) (λ z. pushes (holding home old locals) st z locals)
  applies operator y is below =
      ap (λ w. on_two w (λ u v stack. on_result (applied operator u v) (λ z. pushes (holding home old locals) stack z locals))) (is ∙ ap (λ w. y ∷ w) below)

  pub applies_one : (operator : Operator) → old ≡ x ∷ mid → mid ≡ [] → act code (Some (rules.Apply operator)) (holding home old locals) ≡ Stuck
  applies_one operator is below =
      ap (λ w. on_two w (λ u v stack. on_result (applied operator u v) (λ z. pushes (holding home old locals) stack z locals))) (is ∙ ap (λ w. x ∷ w) below)

  pub applies_none : (operator : Operator) → old ≡ [] → act code (Some (rules.Apply operator)) (holding home old locals) ≡ Stuck
  applies_none operator is =
      ap (λ w. on_two w (λ u v stack. on_result (applied operator u v) (λ z. pushes (holding home old locals) stack z locals))) is

  -- a truth is popped
  pub goes_on_true : (address : ℕ) → old ≡ x ∷ st → truth_in x ≡ true → act code (Some (rules.Unless address)) (holding home old locals) ≡ effect_of home advance.Next st locals
  goes_on_true address is test =
      let c : Config = holding home old locals in
      ap (λ w. on_top w (λ y stack. goes_if (truth_in y) (next c stack locals) (Steps (record c { pc = address; stack = stack })))) is
      ∙ ap (λ b. goes_if b (next c st locals) (Steps (record c { pc = address; stack = st }))) test

  pub goes_to : (address : ℕ) → old ≡ x ∷ st → truth_in x ≡ false → act code (Some (rules.Unless address)) (holding home old locals) ≡ effect_of home (advance.To address) st locals
  goes_to address is test =
      let c : Config = holding home old locals in
      ap (λ w. on_top w (λ y stack. goes_if (truth_in y) (next c stack locals) (Steps (record c { pc = address; stack = stack })))) is
      ∙ ap (λ b. goes_if b (next c st locals) (Steps (record c { pc = address; stack = st }))) test

  pub unless_none : (address : ℕ) → old ≡ [] → act code (Some (rules.Unless address)) (holding home old locals) ≡ Stuck
  unless_none address is =
      let c : Config = holding home old locals in
      ap (λ w. on_top w (λ y stack. goes_if (truth_in y) (next c stack locals) (Steps (record c { pc = address; stack = stack })))) is

  pub drops : old ≡ x ∷ st → act code (Some rules.Pop) (holding home old locals) ≡ effect_of home advance.Next st locals
  drops is = ap (λ w. on_top w (λ y stack. next (holding home old locals) stack locals)) is

  pub drops_none : old ≡ [] → act code (Some rules.Pop) (holding home old locals) ≡ Stuck
  drops_none is = ap (λ w. on_top w (λ y stack. next (holding home old locals) stack locals)) is

  pub tests : (address : ℕ) (b : Bool) → old ≡ x ∷ st → b ≡ truth_in x → act code (Some (rules.Guard address)) (holding home old locals) ≡ effect_of home (advance.Tests b address) st locals
  tests address b is test =
      ap (λ w. on_top w (λ y stack. Tests (truth_in y) (if truth_in y then home.pc + 1 else address))) is
      ∙ ap (λ t. Tests t (if t then home.pc + 1 else address)) (sym test)

  pub tests_none : (address : ℕ) → old ≡ [] → act code (Some (rules.Guard address)) (holding home old locals) ≡ Stuck
  tests_none address is = ap (λ w. on_top w (λ y stack. Tests (truth_in y) (if truth_in y then home.pc + 1 else address))) is
