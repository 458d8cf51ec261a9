use Rattle.std.proofs.Common.{◌∙◌, Some}
use Rattle.node_core.proofs.Putting.{with_same}
use Rattle.node_core.proofs.places.put_at.Goals as goal

pub returns : goal.returns
returns g c i = c.set_at.ensures.put i ∙ with_same _ _ c.args.place (Some c.args.value) i (c.reach.ensures.same i)
