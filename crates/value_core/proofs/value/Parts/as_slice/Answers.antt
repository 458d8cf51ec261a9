use Rattle.std.proofs.Common.{map, ap, ◌∙◌, sym}
use Rattle.value_core.specs.View.{datum_of}
use Rattle.value_core.proofs.Lists.{list_in}
use Rattle.value_core.proofs.value.Parts.as_slice.Goals as goal

pub returns : goal.returns
returns c = ap (map datum_of) c.as_slice.ensures.value ∙ sym (list_in c.self.inside.items.items c.args.self.now c.self.view_is)
