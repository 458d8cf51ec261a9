use Rattle.std.proofs.Common.{arith}
use Rattle.value_core.specs.View.{datum_of}
use Rattle.value_ops.proofs.Spots.{spot_at, spot_behind}
use Rattle.value_ops.proofs.elements.spot_of.Goals as goal

pub returns-in-Some : goal.returns-in-Some
returns-in-Some c =
    let found = (c.in-Some.ensures {u = tt}).lookup in
    spot_at (datum_of c.args.element.now) c.args.values.now c.place_of-place.result c.in-Some.value.now c.compare.result c.is_eq-is_there.result
    c.requires c.place_of-place.ensures.parted found.3.0 found.1 c.compare.ensures c.is_eq-is_there.ensures

pub returns-in-None : goal.returns-in-None
returns-in-None c =
    let gone = (c.in-None.ensures {u = tt}).lookup in
    spot_behind (datum_of c.args.element.now) c.args.values.now c.place_of-place.result c.requires c.place_of-place.ensures.parted c.place_of-place.ensures.within (omega (arith, gone))
