use Rattle.std.proofs.Common.{ap, ◌∙◌}
use Rattle.value_core.specs.Datum.{list_of}
use Rattle.value_core.specs.View.{datum_of}
use Rattle.value_ops.specs.Elements.{has}
use Rattle.value_ops.proofs.Members.{has-Contains}
use Rattle.value_ops.proofs.elements.contains.Goals as goal

pub returns-clause-there : goal.returns-clause-there
returns-clause-there c =
    let e = datum_of c.args.element.now in
    has-Contains e (list_of c.args.all.now) c.spot_of.result.is_there (c.spot_of.ensures.there ∙ ap (has e) c.as_slice.ensures)
