use Rattle.std.proofs.lemmas.Result.{on_ok_weaker}
use Rattle.value_core.specs.View.{datum_of}
use Rattle.frame_variables.proofs.Placing.{put_found}
use Rattle.frame_variables.proofs.elements.insert_again.Goals as goal

pub returns : goal.returns
returns c =
    on_ok_weaker c.insert.result
    (put_found (datum_of c.args.element) c.as_slice.result.now c.args.all.now c.insert.new.self c.place_for.result c.len.result c.unwrap_or-place.result c.place_for.ensures c.as_slice.ensures c.len.ensures.len c.unwrap_or-place.ensures)
    c.insert.ensures.ok
