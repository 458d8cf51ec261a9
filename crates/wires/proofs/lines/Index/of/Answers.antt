use Rattle.std.proofs.Common.{[], ◌∷◌, length, length-append, ap, ◌∙◌, arith}
use Rattle.wires.proofs.Noting.{one_kind}
use Rattle.wires.proofs.lines.Index.of.Goals as goal

pub kinds-preserved : goal.kinds-preserved
kinds-preserved c = record {
  len = omega (arith, c.in_ok-push.ensures.len, c.kinds.invariant.len);
  items = ap length c.in_ok-push.ensures.items ∙ length-append c.kinds.kinds.items (c.in_ok-of.field-0 ∷ []) ∙ omega (arith, c.kinds.invariant.items);
  any = c.kinds.invariant.any;
  kinds = one_kind c.args.lines.now c.kinds.kinds.items c.push.new.self.items c.in_ok-of.field-0 c.kinds.number c.in_ok-push.ensures.items c.kinds.invariant.items c.kinds.invariant.kinds c.in_ok-of.ensures;
}
