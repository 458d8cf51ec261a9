use Rattle.std.proofs.Common.{ℕ, ◌+◌, ◌-◌, cond, nat_lt, length, ap, ◌∙◌}
use Rattle.code_exprs.proofs.Slots.{far, near}
use Rattle.code_exprs.proofs.code_site.spot_of.Goals as goal

pub returns-then-place-depth : goal.returns-then-place-depth
returns-then-place-depth c =
    let depth = length c.args.loops.now in
    let k = c.args.place in
    ap (λ (n : ℕ). depth + n - 1 - k) (c.len-own.ensures ∙ c.args.names.now.types.ok.0) ∙ near depth (length c.args.names.now.types.items) c.args.beyond k c.if-place-depth.true

pub returns : goal.returns
returns c =
    let depth = length c.args.loops.now in
    let k = c.args.place in
    c.named_slot.ensures
    ∙ ap (λ (n : ℕ). cond (nat_lt (k - depth) n) (k - depth) c.args.beyond) (c.len-own.ensures ∙ c.args.names.now.types.ok.0)
    ∙ far depth (length c.args.names.now.types.items) c.args.beyond k c.if-place-depth.false
