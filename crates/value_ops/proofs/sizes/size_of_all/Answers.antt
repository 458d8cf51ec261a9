use Rattle.std.proofs.Common.{◌≡◌, ap, arith}
use Rattle.value_core.specs.Size.{size_of_all}
use Rattle.value_core.specs.View.{data_in}
use Rattle.value_ops.proofs.Shown.{data_shown}
use Rattle.value_ops.proofs.sizes.size_of_all.Goals as goal

pub returns : goal.returns
returns c =
    let same : size_of_all (data_in c.as_slice.result.now) ≡ size_of_all c.args.values.now = ap size_of_all (data_shown c.as_slice.result.now c.args.values.now c.as_slice.ensures) in
    omega (arith, same, c.room_beside_all.ensures)
