use Rattle.std.proofs.Common.{◌++◌, List, ℕ, ap, ◌∙◌}
use Rattle.refusal_notes.proofs.Fills.{filled_all, put_next}
use Rattle.refusal_notes.proofs.whole.put_text.Goals as goal

pub bytes-preserved : goal.bytes-preserved
bytes-preserved c = put_next c.args.spoken.now c.args.text.now c.args.out.now.items c.bytes.out.items c.put_byte.new.out.items c.bytes.byte-index c.bytes-test.true c.bytes.invariant c.in_ok-put_byte.ensures

pub returns : goal.returns
returns c = c.bytes.invariant ∙ ap (λ (l : List ℕ). c.args.out.now.items ++ l) (filled_all c.args.spoken.now c.args.text.now c.bytes.byte-index c.bytes-test.false)
