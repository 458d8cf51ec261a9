-- What a policy chooses for the sites of a program, and what `choice` prints of that (docs/RUNTIME.md, Choice of copies; docs/FORMATS.md,
-- Choices).
use Rattle.std.specs.Prelude.{ℕ, List}
use Rattle.orca_base.specs.declared.what.Choice.{Choice}
use Rattle.link_rules.specs.Units.{Source}
use Rattle.estimate_rules.specs.Estimates.{estimates}
use Rattle.estimate_rules.specs.Sites.{choices_of, estimates_by_text}
use Rattle.replica_choice.specs.declared.policy.Asked.{Asked}
use Rattle.replica_choice.specs.Asking.{Rule, choices_by}
use Rattle.replica_choice.specs.Printed.{choice_text}

-- what a policy with this rule chooses for a program's sites, among so many members, if it was told of these questions before
abbrev pub program_choices : Rule → ℕ → List Asked → List Source → List Choice
program_choices rule nodes told us = choices_by rule nodes told (estimates us)

-- the same text by text: a run's choices
abbrev pub choices_by_text : Rule → ℕ → List Asked → List Source → List (List Choice)
choices_by_text rule nodes told us = choices_of (estimates_by_text us) (program_choices rule nodes told us)

-- a line for each site, with its estimate, and what is chosen for it
abbrev pub choice_lines : Rule → ℕ → List Asked → List Source → List ℕ
choice_lines rule nodes told us = choice_text (estimates us) (program_choices rule nodes told us)
