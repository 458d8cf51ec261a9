use Rattle.std.proofs.Common.{ℕ, arith}
use Rattle.type_rules.specs.TypePhrases.{holds_itself}
use Rattle.type_cycles.proofs.Marked.{everywhere}
use Rattle.type_cycles.proofs.Ways.{holds_none}
use Rattle.type_cycles.proofs.levels.by_levels.Goals as goal

pub returns : goal.returns
returns c us are =
    let long = c.numbers.invariant.0 in
    everywhere c.numbers.on_cycle.items (holds_itself us) (c.numbers.invariant.1 us are)
    (λ (i : ℕ) le. holds_none us c.args.parts.now are i (let past = c.numbers-test.false in omega (arith, long, past, le)))
