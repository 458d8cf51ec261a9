use Rattle.std.proofs.Common.{[]}
use Rattle.program_bodies.proofs.operations.field_names.Goals as goal

pub returns : goal.returns
returns c = λ us t. (c.in_ok-add_fields.ensures {u = tt}) us t [] c.new-names.ensures
