use Rattle.std.proofs.Common.{arith}
use Rattle.value_texts.proofs.Printing.{begun, parts_shallow}
use Rattle.value_texts.proofs.writing.+writes.Goals as goal

pub put_parts-loop-index-init : goal.put_parts-loop-index-init
put_parts-loop-index-init t c =
    begun c.args.out.now.items c.args.opens c.push.new.self.items c.as_slice-part-items.result.now c.args.parts.now c.in_ok-push.ensures.items c.as_slice-part-items.ensures

pub put_parts-put_value-requires : goal.put_parts-put_value-requires
put_parts-put_value-requires t c =
    let one = parts_shallow c.args.levels c.as_slice-part-items.result.now c.args.parts.now c.as_slice-part-items.ensures c.requires c.loop-index.index _ c.loop-index-test.true in
    rw c.part-item.is (omega arith, one)
