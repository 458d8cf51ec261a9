use Rattle.std.proofs.Common.{arith, length, ap}
use Rattle.value_core.proofs.text.TextValue.as_bytes.Goals as goal

pub returns-clause-few : goal.returns-clause-few
returns-clause-few c = omega (arith, c.as_bytes.type_inv, ap length c.as_bytes.ensures, ap length c.deref.ensures, ap length c.self.view_is)
