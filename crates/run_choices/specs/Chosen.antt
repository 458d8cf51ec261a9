-- The settings of a run: where its objects are kept, as a policy chooses, and what that was asked (docs/RUNTIME.md, Choice of copies).
use Rattle.std.specs.Prelude.{◌==◌, ◌++◌, ℕ, List, [], if◌then◌else◌}
use Rattle.command_line.specs.declared.request.RunOptions.{RunOptions}
use Rattle.orca_base.specs.declared.what.Choice.{Choice}
use Rattle.link_rules.specs.Units.{Source}
use Rattle.estimate_rules.specs.Estimates.{estimates}
use Rattle.replica_choice.specs.declared.policy.Asked.{Asked}
use Rattle.replica_choice.specs.Asking.{Rule, questions}
use Rattle.choice_command.specs.Lines.{choices_by_text, program_choices}
use Rattle.world_rules.specs.declared.settings.Settings.{Settings}

-- where the objects are kept: where no member may be lost, as the rule chooses among so many members, if it was told of these questions
-- before; else each is at every member
abbrev pub run_choices : Rule → List Asked → RunOptions → List Source → List (List Choice)
run_choices rule told options us =
    if options.group.resilience == 0 then choices_by_text rule options.group.nodes told us else []

-- what the policy tells when the run begins: where no member may be lost it was asked about each site of the program, in order; else it
-- was asked nothing
abbrev pub told_by_run : Rule → List Asked → RunOptions → List Source → List Asked
told_by_run rule told options us =
    if options.group.resilience == 0
    then told ++ questions options.group.nodes (estimates us) (program_choices rule options.group.nodes told us)
    else told

-- by the numbers of the words, over so many wires, with each object where that keeps it
abbrev pub run_settings : Rule → List Asked → RunOptions → List Source → ℕ → Settings
run_settings rule told options us wires = record {
  nodes = options.group.nodes;
  resilience = options.group.resilience;
  turns = options.turns;
  events = options.events;
  wires = wires;
  choices = run_choices rule told options us;
}
