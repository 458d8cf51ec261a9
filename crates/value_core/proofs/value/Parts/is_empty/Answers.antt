use Rattle.value_core.proofs.Lists.{none_in}
use Rattle.value_core.proofs.value.Parts.is_empty.Goals as goal

pub returns : goal.returns
returns c = none_in c.self.inside.items.items c.args.self.now c.is_empty.result c.self.inside.items.len c.self.view_is c.self.inside.items.ok.0 c.is_empty.ensures
