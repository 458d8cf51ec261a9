use Rattle.std.proofs.Common.{map}
use Rattle.link_rules.specs.Units.{source}
use Rattle.orca_answers.proofs.program.fits.Goals as goal

pub returns-in-Err-Because-clause-refused : goal.returns-in-Err-Because-clause-refused
returns-in-Err-Because-clause-refused c = λ files accepted.
    rw c.refuse.ensures (map source c.args.program.now.units.items, accepted, rw c.in-Err-Because.field-0-is at c.in-Err-Because.ensures.passed)
