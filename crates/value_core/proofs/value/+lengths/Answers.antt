use Rattle.std.proofs.Common.{◌≤◌, length, arith}
use Rattle.value_core.proofs.Lengthening.{all_told}
use Rattle.value_core.proofs.value.+lengths.Goals as goal

pub Parts::byte_length-returns : goal.Parts::byte_length-returns
Parts::byte_length-returns t c =
    let items = c.deref-value-items.result.now in
    let past : length items ≤ c.loop-value.value-index = omega (arith, c.loop-value-test.false) in
    all_told c.self.inside.items.items items c.args.self.now c.loop-value.value-index c.loop-value.length c.self.view_is c.deref-value-items.ensures.value past c.loop-value.invariant.small c.loop-value.invariant.told
