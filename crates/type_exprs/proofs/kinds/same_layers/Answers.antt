use Rattle.std.proofs.Common.{◌≡◌, ℕ, zero, drop, sym, ap, ◌∙◌, arith}
use Rattle.type_rules.specs.Types.{same_layers}
use Rattle.type_exprs.proofs.Layers.{layers_apart}
use Rattle.type_exprs.proofs.kinds.same_layers.Goals as goal

pub returns : goal.returns
returns c =
    let none : c.layers.left ≡ zero = omega (arith, c.layers-test.false) in
    c.layers.invariant.2 ∙ ap (λ (k : ℕ). same_layers (drop k c.args.one.now) (drop k c.args.other.now)) none

pub returns-then-one-other : goal.returns-then-one-other
returns-then-one-other c =
    sym (layers_apart c.args.one.now c.args.other.now (λ e. let t = c.if-one-other.true in omega (arith, e, t)))
