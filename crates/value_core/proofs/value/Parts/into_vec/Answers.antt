use Rattle.std.proofs.Common.{sym}
use Rattle.value_core.proofs.Lists.{list_in}
use Rattle.value_core.proofs.value.Parts.into_vec.Goals as goal

pub returns : goal.returns
returns c = sym (list_in c.self.inside.items.items c.args.self c.self.view_is)
