use Rattle.std.proofs.Common.{Option, None, Some, refl}
use Rattle.std.specs.Str.Iter.{HasSubslice}
use Rattle.command_line.specs.Help.{help_of}
use Rattle.command_line.specs.declared.request.CommandName.{CommandName}
use Rattle.command_line.specs.declared.request.CommandName.TheVariants.{Check, Run, Code, Choice, Replay, Make, Join}
use Rattle.top_tests.specs.Words.{help_line, usage}
use Rattle.top_tests.proofs.Places.{stands}
use Rattle.top_tests.proofs.rows.help_rows.Goals as goal

has_line : (name : CommandName) → HasSubslice (help_of None) (help_line name)
unfolding help_of
has_line Check = stands (help_of None) (help_line Check) refl
has_line Run = stands (help_of None) (help_line Run) refl
has_line Code = stands (help_of None) (help_line Code) refl
has_line Choice = stands (help_of None) (help_line Choice) refl
has_line Replay = stands (help_of None) (help_line Replay) refl
has_line Make = stands (help_of None) (help_line Make) refl
has_line Join = stands (help_of None) (help_line Join) refl

has_usage : (of : Option CommandName) → HasSubslice (help_of of) (usage of)
unfolding help_of
has_usage None = stands (help_of None) (usage None) refl
has_usage (Some Check) = stands (help_of (Some Check)) (usage (Some Check)) refl
has_usage (Some Run) = stands (help_of (Some Run)) (usage (Some Run)) refl
has_usage (Some Code) = stands (help_of (Some Code)) (usage (Some Code)) refl
has_usage (Some Choice) = stands (help_of (Some Choice)) (usage (Some Choice)) refl
has_usage (Some Replay) = stands (help_of (Some Replay)) (usage (Some Replay)) refl
has_usage (Some Make) = stands (help_of (Some Make)) (usage (Some Make)) refl
has_usage (Some Join) = stands (help_of (Some Join)) (usage (Some Join)) refl

pub returns-clause-commands : goal.returns-clause-commands
returns-clause-commands c = has_line

pub returns-clause-usage : goal.returns-clause-usage
returns-clause-usage c = has_usage
