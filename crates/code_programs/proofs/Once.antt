-- What code shows is told in one way, so that it may be shown of tables of which it is known that they are a program's.
use Rattle.std.proofs.Common.{◌≡◌, false, refl, Result, Ok, Err}
use Rattle.std.proofs.Props.{props}
use Rattle.std.specs.Prelude.{IfOk}
use Rattle.std.specs.Coded.{Coded, code_by, codes}
use Rattle.value_core.specs.Code.{data_code}
use Rattle.value_core.specs.Datum as datum
use Rattle.value_core.specs.Datum.{Data, Datum}
use Rattle.code_rules.specs.Instructions.{Instr}
use Rattle.code_rules.specs.Machine.{Code}

abbrev first_in : Data → Datum
first_in datum.none = datum.truth false
first_in (datum.more v w) = v

abbrev datum_code : Coded Datum
datum_code = code_by Data data_code (λ v. datum.more v datum.none) first_in (λ v. refl)

instr_code : Coded Instr
instr_code = hlevel (codes, datum_code)

code_code : Coded Code
code_code = hlevel (codes, datum_code, instr_code)

pub shown_once : {A E : Type 0} (r : Result A E) (see : A → Code) (code : Code) → IsProp (IfOk r (λ a. see a ≡ code))
shown_once (Ok a) see code = hlevel (props, code_code)
shown_once (Err e) see code = hlevel
