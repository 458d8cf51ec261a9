use Rattle.std.proofs.Common.{List, sym, subst}
use Rattle.program_tables.specs.declared.records.Record.{Record}
use Rattle.program_tables.specs.Listed.{HaveTypes}
use Rattle.program_tables.proofs.tables.CodeTables.opening.Goals as goal

pub returns : goal.returns
returns c = λ us t. c.opening.ensures us (subst (λ (l : List Record). HaveTypes us l) (sym c.deref.ensures.value) t.fields)
