use Rattle.group_rows.proofs.OfKind.{kinds, incarnations}
use Rattle.group_rows.proofs.kinds.kinds_law.Goals as goal

pub returns : goal.returns
returns g c = record { kinds = kinds _ _; incarnations = incarnations _ _ }
