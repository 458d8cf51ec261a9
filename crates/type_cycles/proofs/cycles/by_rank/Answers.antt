use Rattle.std.proofs.Common.{ℕ, arith}
use Rattle.type_cycles.specs.Components.{on_cycle_at}
use Rattle.type_cycles.proofs.Marked.{everywhere}
use Rattle.type_cycles.proofs.Ranked.{no_cycle}
use Rattle.type_cycles.proofs.cycles.by_rank.Goals as goal

pub returns : goal.returns
returns c =
    let long = c.numbers.invariant.0 in
    everywhere c.numbers.on_cycle.items (on_cycle_at c.args.parts.now c.args.members.now) c.numbers.invariant.1
    (λ (i : ℕ) le. no_cycle c.args.parts.now c.args.members.now i (let past = c.numbers-test.false in omega (arith, long, past, le)))
