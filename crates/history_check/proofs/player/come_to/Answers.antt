use Rattle.std.proofs.Common.{◌≡◌, ◌-◌, true, refl, sym, ◌∙◌}
use Rattle.value_core.specs.History.{most_turns}
use Rattle.history_check.proofs.Playing.{all_left, comes_by, comes_elsewhere}
use Rattle.history_check.proofs.player.come_to.Goals as goal

pub returns-then-is_at-clause-comes : goal.returns-then-is_at-clause-comes
returns-then-is_at-clause-comes g c =
    let m = c.args.program.now in
    let stands = g.P.Processor.stands m in
    let goes = (c.in_ok-after.ensures {u = tt}).goes in
    comes_by g.row.P-State.Denot stands (g.P.Processor.computes m) c.args.state c.in_ok-after.after (most_turns - c.turns.result) c.args.action.now c.in_ok-after.halt (g.met.P.Processor.settled m)
    (all_left g.row.P-State.Denot stands c.args.state c.turns.result (most_turns - c.turns.result) c.requires c.turns.ensures refl) goes (c.is_at.ensures.0 c.if-is_at.true)

pub returns-else-is_at-clause-comes : goal.returns-else-is_at-clause-comes
returns-else-is_at-clause-comes g c =
    let m = c.args.program.now in
    let stands = g.P.Processor.stands m in
    let goes = (c.in_ok-after.ensures {u = tt}).goes in
    comes_elsewhere g.row.P-State.Denot stands (g.P.Processor.computes m) c.args.state c.in_ok-after.after (most_turns - c.turns.result) c.args.action.now c.in_ok-after.halt (g.met.P.Processor.settled m)
    (all_left g.row.P-State.Denot stands c.args.state c.turns.result (most_turns - c.turns.result) c.requires c.turns.ensures refl) goes
    (λ is. let yes : c.is_at.result ≡ true = c.is_at.ensures.1 is in let e = sym c.if-is_at.false ∙ yes in absurd (cc e))
