-- In an accepted program the numbers of an enumeration's values have 16 bits.
use Rattle.std.proofs.Common.{arith}
use Rattle.link_rules.specs.Units.{Source}
use Rattle.type_rules.specs.declared.types.Base.TheVariants as base
use Rattle.type_rules.specs.Types as types
use Rattle.meaning_rules.specs.Accepted.{IsAccepted}
use Rattle.program_bodies.specs.Codes.{AreFew}
use Rattle.std.specs.Prelude.{List}

pub few_values : (us : List Source) → IsAccepted us → AreFew us
few_values us a = λ i t of number there is.
    let of_it = a.values i t of number there is in
    let few = a.few (types.Bare (base.Enumeration of_it.0)) in
    omega (arith, few, of_it.2)
