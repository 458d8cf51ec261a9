use Rattle.std.proofs.Common.{sym, ◌∙◌}
use Rattle.value_core.specs.View.{datum_of}
use Rattle.frame_variables.proofs.Placing.{gone_found, none_found}
use Rattle.frame_variables.proofs.elements.delete_once.Goals as goal

pub returns-in-Some : goal.returns-in-Some
returns-in-Some c =
    gone_found (datum_of c.args.element.now) c.as_slice.result.now c.args.all.now c.remove.new.self c.in-Some.place (sym c.in-Some.is ∙ c.place_of.ensures) c.as_slice.ensures c.remove.ensures.new

pub returns-in-None : goal.returns-in-None
returns-in-None c = none_found (datum_of c.args.element.now) c.as_slice.result.now c.args.all.now (sym c.in-None.is ∙ c.place_of.ensures) c.as_slice.ensures
