use Rattle.std.proofs.Common.{List, ap, ◌∙◌}
use Rattle.std.specs.Prelude.{slice_get}
use Rattle.program_tables.specs.declared.records.Record.{Record}
use Rattle.program_tables.specs.Listed.{record_types}
use Rattle.program_tables.proofs.tables.CodeTables.field_types.Goals as goal

pub returns : goal.returns
returns c = λ us t. c.types_at.ensures ∙ ap (λ (l : List Record). record_types (slice_get l c.args.number)) c.deref.ensures.value ∙ t.fields c.args.number
