use Rattle.std.proofs.Common.{◌≡◌, ⊎_elim, inr, map, ap, arith, refl, subst, sym}
use Rattle.orca_front.specs.Sources.{IsAccepted, file_of}
use Rattle.orca_io.specs.Reading.{had}
use Rattle.command_files.specs.Stopped.{StoppedAt}
use Rattle.orca_answers.specs.Scripts.{IsUnreadable}
use Rattle.command_files.proofs.AskedFiles.{asked_behind, asked_more}
use Rattle.command_files.proofs.ReadFiles.{stopped_since, only_left, since_then}
use Rattle.orca_answers.specs.Programs.{units_of}
use Rattle.orca_answers.proofs.AnswerLemmas.{files_run, has_script, script_map, unscripted_run}
use Rattle.world_rules.specs.declared.settings.Settings.{Settings}
use Rattle.run_choices.proofs.Resilience.{asked_some}
use Rattle.orca_answers.specs.Choosing.{chooser_of}
use Rattle.orca_cli.specs.declared.printing.Printing.TheVariants.{Output}
use Rattle.orca_cli.specs.Made.{by_run}
use Rattle.orca_cli.proofs.HeadlineLemmas.{none_as, run_asked, run_of_words, untouched_run}
use Rattle.orca_cli.proofs.top.run_files.Goals as goal

pub returns-in-Err-Because-clause-refused : goal.returns-in-Err-Because-clause-refused
returns-in-Err-Because-clause-refused g c = λ words asked.
    let policy = chooser_of g.P.Policy.rule g.P.Policy.told c.args.policy.now in
    rw c.unkept.ensures (c.said_unread.ensures.said policy words (g.F.Shelf.told c.args.shelf.now) (g.F.Shelf.faults c.args.shelf.now) (g.F.Shelf.faults c.sources.new.shelf) (g.F.Shelf.reads c.args.shelf.now) (g.F.Shelf.reads c.sources.new.shelf) (map (λ f. f.now) c.args.files.now)
    (files_run words _ c.args.options _ asked) (rw c.in-Err-Because.field-0-is (rw c.in-Err-Because.field-0-is at c.in-Err-Because.ensures.refused)))

pub returns-in-Err-Because-script_of-clause-refused : goal.returns-in-Err-Because-script_of-clause-refused
returns-in-Err-Because-script_of-clause-refused g c = λ words asked.
    let policy = chooser_of g.P.Policy.rule g.P.Policy.told c.args.policy.now in
    let told = g.F.Shelf.told c.args.shelf.now in
    let before = g.F.Shelf.faults c.args.shelf.now in
    let mid = g.F.Shelf.faults c.sources.new.shelf in
    let now = g.F.Shelf.faults c.script_of.new.shelf in
    let old = g.F.Shelf.reads c.args.shelf.now in
    let between = g.F.Shelf.reads c.sources.new.shelf in
    let new = g.F.Shelf.reads c.script_of.new.shelf in
    let quiet = only_left c.in-Ok.ensures.quiet in
    rw c.unkept-in-Err-Because-script_of.ensures (unscripted_run words _ c.args.options _ told between new (StoppedAt mid now between new) c.in-Err-Because-script_of.cause _ asked
    (rw (c.sources.ensures.same, c.in-Err-Because-script_of.field-0-is) at c.in-Err-Because-script_of.ensures.refused)
    (λ name named fault. c.said_unscripted.ensures.said policy words told before now old new between (map (λ f. f.now) c.args.files.now) (map file_of c.in-Ok.sources.items) name (files_run words _ c.args.options _ asked) c.in-Ok.ensures.read c.in-Ok.ensures.had named
    (rw c.in-Err-Because-script_of.field-0-is (script_map told between new (StoppedAt mid now between new) (StoppedAt before now old new) name c.in-Err-Because-script_of.cause (stopped_since before mid now old between new _ name quiet c.in-Ok.ensures.had) fault))))

pub returns-in-Err-Because-script_of-clause-read_fault : goal.returns-in-Err-Because-script_of-clause-read_fault
returns-in-Err-Because-script_of-clause-read_fault g c = λ rose.
    let quiet = only_left c.in-Ok.ensures.quiet in
    rw c.unkept-in-Err-Because-script_of.ensures (⊎_elim
    (λ (same : g.F.Shelf.faults c.script_of.new.shelf ≡ g.F.Shelf.faults c.sources.new.shelf). absurd (omega (arith, rose, same, quiet)))
    (λ (failed : IsUnreadable c.in-Err-Because-script_of.cause). c.said_unscripted.ensures.status (rw c.in-Err-Because-script_of.field-0-is failed))
    (rw c.in-Err-Because-script_of.field-0-is at c.in-Err-Because-script_of.ensures.quiet))

pub returns-in-Err-Because-linked_program-clause-refused : goal.returns-in-Err-Because-linked_program-clause-refused
returns-in-Err-Because-linked_program-clause-refused g c = λ words asked.
    let policy = chooser_of g.P.Policy.rule g.P.Policy.told c.args.policy.now in
    let told = g.F.Shelf.told c.args.shelf.now in
    rw c.unkept-in-Err-Because-linked_program.ensures (c.said_refused.ensures.said policy words told (g.F.Shelf.faults c.args.shelf.now) (g.F.Shelf.faults c.script_of.new.shelf) (g.F.Shelf.reads c.args.shelf.now) (g.F.Shelf.reads c.script_of.new.shelf) (map (λ f. f.now) c.args.files.now) (map file_of c.in-Ok.sources.items)
    (files_run words _ c.args.options _ asked) c.in-Ok.ensures.read (has_script words _ _ c.args.options _ c.in-Ok-script_of.script (map file_of c.in-Ok.sources.items) _ (g.F.Shelf.reads c.sources.new.shelf) _ asked c.in-Ok.ensures.had (rw c.sources.ensures.same at c.in-Ok-script_of.ensures.had))
    (rw c.in-Err-Because-linked_program.field-0-is (rw (c.deref.ensures.value, c.in-Err-Because-linked_program.field-0-is) at c.in-Err-Because-linked_program.ensures.refused)))

pub returns-in-Err-Because-machine_of-clause-refused : goal.returns-in-Err-Because-machine_of-clause-refused
returns-in-Err-Because-machine_of-clause-refused g c = λ words asked.
    let policy = chooser_of g.P.Policy.rule g.P.Policy.told c.args.policy.now in
    let told = g.F.Shelf.told c.args.shelf.now in
    rw c.unkept-in-Err-Because-machine_of.ensures (c.said_refused-in-Err-Because-machine_of.ensures.said policy words told (g.F.Shelf.faults c.args.shelf.now) (g.F.Shelf.faults c.script_of.new.shelf) (g.F.Shelf.reads c.args.shelf.now) (g.F.Shelf.reads c.script_of.new.shelf) (map (λ f. f.now) c.args.files.now) (map file_of c.in-Ok.sources.items)
    (files_run words _ c.args.options _ asked) c.in-Ok.ensures.read (has_script words _ _ c.args.options _ c.in-Ok-script_of.script (map file_of c.in-Ok.sources.items) _ (g.F.Shelf.reads c.sources.new.shelf) _ asked c.in-Ok.ensures.had (rw c.sources.ensures.same at c.in-Ok-script_of.ensures.had))
    (rw c.in-Err-Because-machine_of.field-0-is (rw c.in-Err-Because-machine_of.field-0-is at c.in-Err-Because-machine_of.ensures.refused (map file_of c.in-Ok.sources.items) (rw c.deref.ensures.value at c.in-Ok-linked_program.ensures.program))))

pub returns-in-Err-clause-refused : goal.returns-in-Err-clause-refused
returns-in-Err-clause-refused g c = λ words asked.
    let policy = chooser_of g.P.Policy.rule g.P.Policy.told c.args.policy.now in
    let told = g.F.Shelf.told c.args.shelf.now in
    let old = g.F.Shelf.reads c.args.shelf.now in
    let between = g.F.Shelf.reads c.sources.new.shelf in
    let new = g.F.Shelf.reads c.script_of.new.shelf in
    let sources = map file_of c.in-Ok.sources.items in
    let machine = c.in-Ok-machine_of.machine in
    let are = rw c.deref.ensures.value at c.in-Ok-linked_program.ensures.program in
    let accepted = subst (IsAccepted sources) (sym c.in-Ok-machine_of.ensures.of) (c.in-Ok-machine_of.ensures.accepted sources are) in
    let script = rw c.sources.ensures.same at c.in-Ok-script_of.ensures.had in
    let had_script = has_script words _ _ c.args.options _ c.in-Ok-script_of.script sources old between new asked c.in-Ok.ensures.had script in
    rw c.unkept-in-Err.ensures (inr (refl, refl, run_asked policy words _ c.args.options _ told sources (units_of machine) old new _ asked c.in-Ok.ensures.read accepted machine.within had_script (inr c.in-Err.ensures.first)))

pub returns-clause-refused : goal.returns-clause-refused
returns-clause-refused g c = λ words asked.
    let policy = chooser_of g.P.Policy.rule g.P.Policy.told c.args.policy.now in
    let told = g.F.Shelf.told c.args.shelf.now in
    let old = g.F.Shelf.reads c.args.shelf.now in
    let between = g.F.Shelf.reads c.sources.new.shelf in
    let new = g.F.Shelf.reads c.script_of.new.shelf in
    let sources = map file_of c.in-Ok.sources.items in
    let machine = c.in-Ok-machine_of.machine in
    let are = rw c.deref.ensures.value at c.in-Ok-linked_program.ensures.program in
    let accepted = subst (IsAccepted sources) (sym c.in-Ok-machine_of.ensures.of) (c.in-Ok-machine_of.ensures.accepted sources are) in
    let script = rw c.sources.ensures.same at c.in-Ok-script_of.ensures.had in
    let had_script = has_script words _ _ c.args.options _ c.in-Ok-script_of.script sources old between new asked c.in-Ok.ensures.had script in
    let first = asked_some policy.rule c.args.options (units_of machine) policy.told _ c.in-Ok-settings_of.ensures.told in
    none_as c.run_program.result.kept (λ lacked. inr (lacked.0, lacked.1, run_asked policy words _ c.args.options _ told sources (units_of machine) old new _ asked c.in-Ok.ensures.read accepted machine.within had_script first)) c.run_program.ensures.none

pub returns-clause-kept : goal.returns-clause-kept
returns-clause-kept g c = λ words asked.
    let policy = chooser_of g.P.Policy.rule g.P.Policy.told c.args.policy.now in
    let told = g.F.Shelf.told c.args.shelf.now in
    let old = g.F.Shelf.reads c.args.shelf.now in
    let between = g.F.Shelf.reads c.sources.new.shelf in
    let new = g.F.Shelf.reads c.script_of.new.shelf in
    let sources = map file_of c.in-Ok.sources.items in
    let machine = c.in-Ok-machine_of.machine in
    let are = rw c.deref.ensures.value at c.in-Ok-linked_program.ensures.program in
    let accepted = subst (IsAccepted sources) (sym c.in-Ok-machine_of.ensures.of) (c.in-Ok-machine_of.ensures.accepted sources are) in
    let script = rw c.sources.ensures.same at c.in-Ok-script_of.ensures.had in
    run_of_words g.W.Wire.told g.W.Wire.rule g.W.Wire.loaded c.args.wires.now c.run_program.new.wires policy words told old new (units_of machine) c.args.options Output c.in-Ok-settings_of.settings c.in-Ok-script_of.script c.run_program.result.kept c.run_program.result.status _ _ _
    (by_run (record {
      options = c.args.options;
      script = _;
      files = _;
      asked = asked;
      program = record { loaded = (sources, c.in-Ok.ensures.read, accepted); within = machine.within };
      script_has = script.0;
      read = since_then old between new (map had sources) _ c.in-Ok.ensures.had script.1;
    }))
    c.in-Ok-settings_of.ensures.settings c.in-Ok-settings_of.ensures.told c.run_program.ensures.kept c.run_program.ensures.loaded

pub returns-clause-untouched : goal.returns-clause-untouched
returns-clause-untouched g c = λ words asked.
    let policy = chooser_of g.P.Policy.rule g.P.Policy.told c.args.policy.now in
    let told = g.F.Shelf.told c.args.shelf.now in
    let old = g.F.Shelf.reads c.args.shelf.now in
    let between = g.F.Shelf.reads c.sources.new.shelf in
    let new = g.F.Shelf.reads c.script_of.new.shelf in
    let sources = map file_of c.in-Ok.sources.items in
    let machine = c.in-Ok-machine_of.machine in
    let are = rw c.deref.ensures.value at c.in-Ok-linked_program.ensures.program in
    let accepted = subst (IsAccepted sources) (sym c.in-Ok-machine_of.ensures.of) (c.in-Ok-machine_of.ensures.accepted sources are) in
    let script = rw c.sources.ensures.same at c.in-Ok-script_of.ensures.had in
    untouched_run _ g.W.Wire.told g.W.Wire.rule g.W.Wire.loaded c.args.wires.now c.run_program.new.wires policy words told old new (units_of machine) c.args.options Output c.in-Ok-settings_of.settings c.in-Ok-script_of.script c.run_program.result.kept c.run_program.result.status _
    (by_run (record {
      options = c.args.options;
      script = _;
      files = _;
      asked = asked;
      program = record { loaded = (sources, c.in-Ok.ensures.read, accepted); within = machine.within };
      script_has = script.0;
      read = since_then old between new (map had sources) _ c.in-Ok.ensures.had script.1;
    }))
    c.in-Ok-settings_of.ensures.settings c.in-Ok-settings_of.ensures.told c.run_program.ensures.none c.run_program.ensures.untouched

pub run_program-requires-clause-turns : goal.run_program-requires-clause-turns
run_program-requires-clause-turns g c = ap (λ (s : Settings). s.turns) c.in-Ok-settings_of.ensures.settings

pub run_program-requires-clause-wires : goal.run_program-requires-clause-wires
run_program-requires-clause-wires g c = ap (λ (s : Settings). s.wires) c.in-Ok-settings_of.ensures.settings

pub returns-in-Err-Because-clause-asked : goal.returns-in-Err-Because-clause-asked
returns-in-Err-Because-clause-asked g c = asked_more _ _ _ _ _ c.sources.ensures.asked

pub returns-in-Err-NoMemory-clause-asked : goal.returns-in-Err-NoMemory-clause-asked
returns-in-Err-NoMemory-clause-asked g c = asked_more _ _ _ _ _ c.sources.ensures.asked

pub returns-in-Err-Because-script_of-clause-asked : goal.returns-in-Err-Because-script_of-clause-asked
returns-in-Err-Because-script_of-clause-asked g c =
    asked_behind _ _ _ _ _ (map file_of c.in-Ok.sources.items) _ _ _ c.sources.ensures.may c.in-Ok.ensures.read c.in-Ok.ensures.had c.script_of.ensures.asked

pub returns-in-Err-NoMemory-script_of-clause-asked : goal.returns-in-Err-NoMemory-script_of-clause-asked
returns-in-Err-NoMemory-script_of-clause-asked g c =
    asked_behind _ _ _ _ _ (map file_of c.in-Ok.sources.items) _ _ _ c.sources.ensures.may c.in-Ok.ensures.read c.in-Ok.ensures.had c.script_of.ensures.asked

pub returns-in-Err-Because-linked_program-clause-asked : goal.returns-in-Err-Because-linked_program-clause-asked
returns-in-Err-Because-linked_program-clause-asked g c =
    asked_behind _ _ _ _ _ (map file_of c.in-Ok.sources.items) _ _ _ c.sources.ensures.may c.in-Ok.ensures.read c.in-Ok.ensures.had c.script_of.ensures.asked

pub returns-in-Err-NoMemory-linked_program-clause-asked : goal.returns-in-Err-NoMemory-linked_program-clause-asked
returns-in-Err-NoMemory-linked_program-clause-asked g c =
    asked_behind _ _ _ _ _ (map file_of c.in-Ok.sources.items) _ _ _ c.sources.ensures.may c.in-Ok.ensures.read c.in-Ok.ensures.had c.script_of.ensures.asked

pub returns-in-Err-Because-machine_of-clause-asked : goal.returns-in-Err-Because-machine_of-clause-asked
returns-in-Err-Because-machine_of-clause-asked g c =
    asked_behind _ _ _ _ _ (map file_of c.in-Ok.sources.items) _ _ _ c.sources.ensures.may c.in-Ok.ensures.read c.in-Ok.ensures.had c.script_of.ensures.asked

pub returns-in-Err-NoMemory-machine_of-clause-asked : goal.returns-in-Err-NoMemory-machine_of-clause-asked
returns-in-Err-NoMemory-machine_of-clause-asked g c =
    asked_behind _ _ _ _ _ (map file_of c.in-Ok.sources.items) _ _ _ c.sources.ensures.may c.in-Ok.ensures.read c.in-Ok.ensures.had c.script_of.ensures.asked

pub returns-in-Err-clause-asked : goal.returns-in-Err-clause-asked
returns-in-Err-clause-asked g c =
    asked_behind _ _ _ _ _ (map file_of c.in-Ok.sources.items) _ _ _ c.sources.ensures.may c.in-Ok.ensures.read c.in-Ok.ensures.had c.script_of.ensures.asked

pub returns-clause-asked : goal.returns-clause-asked
returns-clause-asked g c =
    asked_behind _ _ _ _ _ (map file_of c.in-Ok.sources.items) _ _ _ c.sources.ensures.may c.in-Ok.ensures.read c.in-Ok.ensures.had c.script_of.ensures.asked
