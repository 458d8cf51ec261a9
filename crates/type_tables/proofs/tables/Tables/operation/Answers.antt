use Rattle.std.proofs.Common.{◌∙◌}
use Rattle.type_tables.proofs.Tabled.{operation_found}
use Rattle.type_tables.proofs.tables.Tables.operation.Goals as goal

pub returns : goal.returns
returns c = λ us t. c.operation_in.ensures ∙ operation_found us c.args.self.operations.now c.args.number c.args.name.now t.operations
