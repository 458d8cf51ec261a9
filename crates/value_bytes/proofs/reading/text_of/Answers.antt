use Rattle.std.proofs.Common.{arith}
use Rattle.value_bytes.proofs.Facts.{chars_ascii}
use Rattle.value_bytes.proofs.reading.text_of.Goals as goal

pub text_from-requires : goal.text_from-requires
text_from-requires c =
    chars_ascii c.args.end c.args.bytes.now (c.in_ok-count.count, c.in_ok-count.rest.now) (c.in_ok-chars.chars.items, c.in_ok-chars.rest.now) (λ i. omega (arith, c.type_inv.bytes i)) c.in_ok-count.ensures c.in_ok-chars.ensures
