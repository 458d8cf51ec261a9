use Rattle.std.proofs.Common.{zero, List, ap, ◌∙◌}
use Rattle.std.specs.Prelude.{slice_get, unwrap_or}
use Rattle.program_tables.specs.declared.records.Record.{Record}
use Rattle.program_tables.specs.Listed.{record_places}
use Rattle.program_tables.proofs.tables.CodeTables.field.Goals as goal

pub returns : goal.returns
returns c = λ us t.
    c.place_at.ensures
    ∙ ap (λ (l : List Record). unwrap_or (record_places (slice_get l c.args.number) c.args.name.now) zero) c.deref.ensures.value
    ∙ t.places c.args.number c.args.name.now
