use Rattle.std.proofs.Common.{◌≡◌, List, ap, subst, sym}
use Rattle.std.specs.Prelude.{OnErr}
use Rattle.accepted_law.specs.Limits.{IsWithinLimits}
use Rattle.program_bodies.specs.Codes.{sources}
use Rattle.link_rules.specs.Units.{Source}
use Rattle.orca_answers.specs.Choosing.{WasAskedFirst, chooser_of}
use Rattle.orca_cli.proofs.top.settings_of.Goals as goal

pub run_settings-requires-clause-within : goal.run_settings-requires-clause-within
run_settings-requires-clause-within g c = subst IsWithinLimits (ap sources (sym c.checked.ensures)) c.args.machine.now.within

pub returns-clause-first : goal.returns-clause-first
returns-clause-first g c =
    subst
    (λ (us : List Source). OnErr c.run_settings.result ((c.args.options.group.resilience ≡ 0) × WasAskedFirst (chooser_of g.P.Policy.rule g.P.Policy.told c.args.policy.now) c.args.options.group.nodes us (g.P.Policy.told c.run_settings.new.policy)))
    (ap sources c.checked.ensures) c.run_settings.ensures.first
