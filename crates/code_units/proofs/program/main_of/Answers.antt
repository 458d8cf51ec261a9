use Rattle.std.proofs.Common.{subst, sym}
use Rattle.program_tables.specs.declared.tables.CodeTables.{CodeTables}
use Rattle.program_tables.specs.Tables.{IsTables}
use Rattle.code_units.proofs.program.main_of.Goals as goal

pub returns : goal.returns
returns c = λ us code. c.main_text.ensures us (subst (λ (t : CodeTables). IsTables us t) (sym c.tables.ensures) code.tables)
