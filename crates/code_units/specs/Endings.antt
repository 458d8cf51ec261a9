-- What comes at the end of a body.
use Rattle.code_rules.specs.Instructions as rules
use Rattle.code_rules.specs.Instructions.{Instr}
use Rattle.code_units.specs.declared.bodies.Ending.{Ending}
use Rattle.code_units.specs.declared.bodies.Ending.TheVariants as ending

abbrev pub last_of : Ending → Instr
last_of ending.Returns = rules.Return
last_of ending.Missing = rules.Missing
last_of ending.Ends = rules.End
