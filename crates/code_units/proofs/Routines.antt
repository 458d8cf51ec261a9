-- The functions of a program as routines.
use Rattle.std.proofs.Common.{◌≡◌, List, Option, Some, None, refl, subst}
use Rattle.std.specs.Prelude.{false, option_and_then, option_map}
use Rattle.link_rules.specs.Units.{Source}
use Rattle.type_rules.specs.TopLevel as tops
use Rattle.type_rules.specs.TopLevel.{TopName, What}
use Rattle.code_rules.specs.Machine as machine
use Rattle.code_rules.specs.Bodies.{function_body}
use Rattle.code_rules.specs.Program.{function_at, function_in}
use Rattle.program_bodies.specs.Blocks as blocks
use Rattle.program_bodies.specs.Blocks.{Routine}

abbrev pub routine_body : List Source → Routine → machine.Body
routine_body us r = function_body us r.scope r.statements r.has_result

in_what : (us : List Source) (t : TopName) (w : What) → function_in us t w ≡ option_map (routine_body us) (blocks.function_in us t w)
in_what us t (tops.Constant b) = refl
in_what us t (tops.TypeName of) = refl
in_what us t (tops.Value of number) = refl
in_what us t (tops.Specified hs) = refl
in_what us t (tops.Implemented os) = refl
in_what us t (tops.Function ps r b) = refl
in_what us t (tops.Process ps b) = refl

-- the code of a function is that of its routine
pub as_routine : (us : List Source) (o : Option TopName) → option_and_then (function_at us) o ≡ option_map (routine_body us) (option_and_then (blocks.function_of us) o)
as_routine us None = refl
as_routine us (Some t) = in_what us t t.what

-- and a routine is one of the program, and no guard
abbrev IsOf : List Source → Option Routine → Type 0
IsOf us None = Unit {0}
IsOf us (Some r) = (r.scope.program ≡ us) × (r.scope.in_guard ≡ false)

of_what : (us : List Source) (t : TopName) (w : What) → IsOf us (blocks.function_in us t w)
of_what us t (tops.Constant b) = tt
of_what us t (tops.TypeName of) = tt
of_what us t (tops.Value of number) = tt
of_what us t (tops.Specified hs) = tt
of_what us t (tops.Implemented os) = tt
of_what us t (tops.Function ps r b) = (refl, refl)
of_what us t (tops.Process ps b) = tt

of_top : (us : List Source) (o : Option TopName) → IsOf us (option_and_then (blocks.function_of us) o)
of_top us None = tt
of_top us (Some t) = of_what us t t.what

pub routine_program : (us : List Source) (o : Option TopName) (r : Routine) → option_and_then (blocks.function_of us) o ≡ Some r →
    (r.scope.program ≡ us) × (r.scope.in_guard ≡ false)
routine_program us o r is = subst (λ (k : Option Routine). IsOf us k) is (of_top us o)
