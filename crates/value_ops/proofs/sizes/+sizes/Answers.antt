use Rattle.std.proofs.Common.{◌≡◌, ap, ◌∙◌, arith}
use Rattle.value_core.specs.Size.{size_of_all}
use Rattle.value_core.specs.View.{data_in}
use Rattle.value_ops.proofs.Shown.{data_shown, size_with_parts}
use Rattle.value_ops.proofs.sizes.+sizes.Goals as goal

pub room_beside-returns-in-Array : goal.room_beside-returns-in-Array
room_beside-returns-in-Array t c =
    let same : size_of_all (data_in c.as_slice.result.now) ≡ size_of_all c.in-Array.parts =
    ap size_of_all (data_shown c.as_slice.result.now c.as_parts.result.now c.as_slice.ensures ∙ c.as_parts.ensures) in
    omega (arith, same, size_with_parts c.args.value.now c.in-Array.parts c.in-Array.is, c.room_beside_all.ensures)
