use Rattle.std.proofs.Common.{arith}
use Rattle.history_text.proofs.Pieces.{arguments_read}
use Rattle.history_text.proofs.lines.arguments.Goals as goal

pub returns : goal.returns
returns c = arguments_read c.args.text.now c.in_ok-args.args c.in_ok-args.rest.now c.in_ok-args.ensures.exact (omega (arith, c.if-len.false, c.len.ensures.len))
