use Rattle.std.proofs.Common.{[], ◌∷◌, ap, inr, map, refl, subst}
use Rattle.link_rules.specs.Units.{source}
use Rattle.orca_front.specs.Sources.{AreUnits, file_of}
use Rattle.orca_io.specs.Files.{File}
use Rattle.world_rules.specs.declared.settings.Settings.{Settings}
use Rattle.run_choices.proofs.Resilience.{asked_some}
use Rattle.orca_answers.specs.Choosing.{chooser_of}
use Rattle.orca_answers.specs.Programs.{units_of}
use Rattle.orca_cli.specs.declared.printing.Printing.TheVariants.{Summary}
use Rattle.orca_cli.proofs.HeadlineLemmas.{none_as, run_of_words, untouched_run}
use Rattle.orca_cli.proofs.MadeRuns.{made_asked, made_named}
use Rattle.orca_cli.proofs.making.run_made.Goals as goal

pub made_program-requires : goal.made_program-requires
made_program-requires g c = (c.args.number, c.in-Ok.ensures.source)

pub made_machine-requires : goal.made_machine-requires
made_machine-requires g c = (c.args.number, subst (λ (f : File). AreUnits (f ∷ []) (map source c.in-Ok-made_program.program.units.items)) c.in-Ok.ensures.source c.in-Ok-made_program.ensures)

pub returns-in-Err-settings_of-clause-refused : goal.returns-in-Err-settings_of-clause-refused
returns-in-Err-settings_of-clause-refused g c = λ words told before now reads asked.
    let policy = chooser_of g.P.Policy.rule g.P.Policy.told c.args.policy.now in
    let job = c.in-Ok.job in
    let machine = c.in-Ok-made_machine.machine in
    let accepted = c.in-Ok-made_machine.ensures.accepted (file_of job.source ∷ []) c.in-Ok-made_program.ensures in
    rw c.unkept-in-Err-settings_of.ensures (inr (refl, refl, made_asked words told reads c.args.options c.args.number job.options (file_of job.source) job.script _ (units_of machine) asked c.in-Ok.ensures.source c.in-Ok.ensures.script c.in-Ok.ensures.options c.in-Ok-made_machine.ensures.of accepted machine.within policy _ (inr c.in-Err-settings_of.ensures.first)))

pub returns-clause-refused : goal.returns-clause-refused
returns-clause-refused g c = λ words told before now reads asked.
    let policy = chooser_of g.P.Policy.rule g.P.Policy.told c.args.policy.now in
    let job = c.in-Ok.job in
    let machine = c.in-Ok-made_machine.machine in
    let accepted = c.in-Ok-made_machine.ensures.accepted (file_of job.source ∷ []) c.in-Ok-made_program.ensures in
    let first = asked_some policy.rule job.options (units_of machine) policy.told _ c.in-Ok-settings_of.ensures.told in
    none_as c.run_program.result.kept
    (λ lacked. inr (lacked.0, lacked.1, made_asked words told reads c.args.options c.args.number job.options (file_of job.source) job.script _ (units_of machine) asked c.in-Ok.ensures.source c.in-Ok.ensures.script c.in-Ok.ensures.options c.in-Ok-made_machine.ensures.of accepted machine.within policy _ first))
    c.run_program.ensures.none

pub returns-clause-kept : goal.returns-clause-kept
returns-clause-kept g c = λ words told reads asked.
    let policy = chooser_of g.P.Policy.rule g.P.Policy.told c.args.policy.now in
    let job = c.in-Ok.job in
    let machine = c.in-Ok-made_machine.machine in
    let accepted = c.in-Ok-made_machine.ensures.accepted (file_of job.source ∷ []) c.in-Ok-made_program.ensures in
    run_of_words g.W.Wire.told g.W.Wire.rule g.W.Wire.loaded c.args.wires.now c.run_program.new.wires policy words told reads reads (units_of machine) job.options (Summary c.args.number) c.in-Ok-settings_of.settings job.script c.run_program.result.kept c.run_program.result.status _ _ _
    (made_named words told reads c.args.options c.args.number job.options (file_of job.source) job.script _ (units_of machine) asked c.in-Ok.ensures.source c.in-Ok.ensures.script c.in-Ok.ensures.options c.in-Ok-made_machine.ensures.of accepted machine.within)
    c.in-Ok-settings_of.ensures.settings c.in-Ok-settings_of.ensures.told c.run_program.ensures.kept c.run_program.ensures.loaded

pub returns-clause-untouched : goal.returns-clause-untouched
returns-clause-untouched g c = λ words told reads asked.
    let policy = chooser_of g.P.Policy.rule g.P.Policy.told c.args.policy.now in
    let job = c.in-Ok.job in
    let machine = c.in-Ok-made_machine.machine in
    let accepted = c.in-Ok-made_machine.ensures.accepted (file_of job.source ∷ []) c.in-Ok-made_program.ensures in
    untouched_run _ g.W.Wire.told g.W.Wire.rule g.W.Wire.loaded c.args.wires.now c.run_program.new.wires policy words told reads reads (units_of machine) job.options (Summary c.args.number) c.in-Ok-settings_of.settings job.script c.run_program.result.kept c.run_program.result.status _
    (made_named words told reads c.args.options c.args.number job.options (file_of job.source) job.script _ (units_of machine) asked c.in-Ok.ensures.source c.in-Ok.ensures.script c.in-Ok.ensures.options c.in-Ok-made_machine.ensures.of accepted machine.within)
    c.in-Ok-settings_of.ensures.settings c.in-Ok-settings_of.ensures.told c.run_program.ensures.none c.run_program.ensures.untouched

pub run_program-requires-clause-turns : goal.run_program-requires-clause-turns
run_program-requires-clause-turns g c = ap (λ (s : Settings). s.turns) c.in-Ok-settings_of.ensures.settings

pub run_program-requires-clause-wires : goal.run_program-requires-clause-wires
run_program-requires-clause-wires g c = ap (λ (s : Settings). s.wires) c.in-Ok-settings_of.ensures.settings
