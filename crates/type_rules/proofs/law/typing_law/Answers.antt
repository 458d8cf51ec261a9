use Rattle.type_rules.proofs.Alike.{one_type}
use Rattle.type_rules.proofs.Least.{first_is_least}
use Rattle.type_rules.proofs.Ordered.{in_order}
use Rattle.type_rules.proofs.law.typing_law.Goals as goal

pub returns : goal.returns
returns c = record { same = one_type; order = in_order; first = first_is_least }
