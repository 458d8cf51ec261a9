use Rattle.std.proofs.Common.{inl, inr}
use Rattle.join_command.specs.Wired.{wire_of}
use Rattle.join_command.proofs.Wiring.{on_err, on_ok, own_was}
use Rattle.join_command.proofs.running.load_both.Goals as goal

pub returns-in_err-load-clause-maybe : goal.returns-in_err-load-clause-maybe
returns-in_err-load-clause-maybe g c =
    on_err c.from_residual.result _
    (inl (own_was (wire_of g.W.Wire.told g.W.Wire.rule g.W.Wire.loaded c.args.own.now) (wire_of g.W.Wire.told g.W.Wire.rule g.W.Wire.loaded c.load.new.self) c.load.ensures.told c.in_err-load.ensures.unchanged c.in_err-load.ensures.as_before))

pub returns-clause-own : goal.returns-clause-own
returns-clause-own g c = on_ok c.load_group.result _ (record { rule = c.in_ok-load.ensures.loaded; since = c.in_ok-load.ensures.since })

pub returns-clause-maybe : goal.returns-clause-maybe
returns-clause-maybe g c = on_err c.load_group.result _ (inr (record { rule = c.in_ok-load.ensures.loaded; since = c.in_ok-load.ensures.since }))
