use Rattle.std.proofs.Common.{◌∙◌}
use Rattle.type_tables.proofs.Tabled.{field_found}
use Rattle.type_tables.proofs.tables.Tables.field.Goals as goal

pub returns : goal.returns
returns c = λ us t. c.field_in.ensures ∙ field_found us c.args.self.fields.now c.args.number c.args.name.now t.fields
