-- What stood at the end of a path, or at a target, is given, and something else stands there.
use Rattle.std.specs.Prelude.{◌≡◌, List, Result, Ok, Err}
use Rattle.value_core.specs.Datum.{Datum}
use Rattle.value_core.specs.View.{datum_of}
use Rattle.value_core.specs.declared.value.Value.{Value}
use Rattle.value_paths.specs.declared.step.Step.{Step as ValueStep}
use Rattle.value_paths.specs.Paths.{part_at, with_part}
use Rattle.meaning_rules.specs.States.{State, gives}
use Rattle.meaning_rules.specs.Variables.{Target, held, stored, whole_at}
use Rattle.frame_variables.specs.declared.stop.Stop.{Stop}
use Rattle.frame_variables.specs.declared.stop.Stop.TheVariants as stop
use Rattle.frame_variables.specs.Gives.{Fails}

-- of a value: x is put at the end of a path
abbrev pub PutsPart : List ValueStep → Datum → Datum → Result Value Stop → Datum → Type 0
PutsPart path x old (Ok part) new = (part_at path old ≡ Ok (datum_of part)) × (new ≡ with_part path old x)
PutsPart path x old (Err why) new = (s : State) → Fails why (gives (part_at path old) s)

-- of variables: old stood at a target, and new stands there
pub record IsPut (to : Target) (old new : Datum) (s s1 : State) : Type 0 where
  pub whole : Datum
  pub is : whole_at to s ≡ Ok whole
  pub stood : part_at to.path whole ≡ Ok old
  pub stands : s1 ≡ stored to.slot (with_part to.path whole new) s

-- x is put at a target
abbrev pub Exchanges : Target → Datum → State → Result Value Stop → State → Type 0
Exchanges to x s (Ok part) s1 = IsPut to (datum_of part) x s s1
Exchanges to x s (Err why) s1 = Fails why (held to s)

-- x is put at a target from which old was taken out for a while: only memory may lack
abbrev pub PutsBack : Target → Datum → Datum → State → Result (Unit {0}) Stop → State → Type 0
PutsBack to old x s (Ok u) s1 = IsPut to old x s s1
PutsBack to old x s (Err why) s1 = why ≡ stop.NoMemory
