use Rattle.std.proofs.Common.{◌∙◌}
use Rattle.type_tables.proofs.Tabled.{signature_found}
use Rattle.type_tables.proofs.tables.Tables.signature.Goals as goal

pub returns : goal.returns
returns c = λ us t. c.signature_in.ensures ∙ signature_found us c.args.self.signatures.now c.args.number t.signatures
