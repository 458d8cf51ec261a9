-- The texts that are printed where help or the version is asked for (docs/FORMATS.md, The program).
use Rattle.std.specs.Prelude.{ℕ, List, [], ◌∷◌, ◌++◌, Option, Some, None, codes}
use Rattle.command_line.specs.declared.texts.TheConstants.{HELP, CHECK_HELP, RUN_HELP, CODE_HELP, CHOICE_HELP, REPLAY_HELP, MAKE_HELP, JOIN_HELP}
use Rattle.command_line.specs.declared.request.CommandName.{CommandName}
use Rattle.command_line.specs.declared.request.CommandName.TheVariants.{Check, Run, Code, Choice, Replay, Make, Join}

-- the help on a command, or on all
unfoldable pub help_of : Option CommandName → List ℕ
help_of None = HELP.now
help_of (Some Check) = CHECK_HELP.now
help_of (Some Run) = RUN_HELP.now
help_of (Some Code) = CODE_HELP.now
help_of (Some Choice) = CHOICE_HELP.now
help_of (Some Replay) = REPLAY_HELP.now
help_of (Some Make) = MAKE_HELP.now
help_of (Some Join) = JOIN_HELP.now

-- the name and the version, on one line
unfoldable pub version_line : List ℕ
version_line = codes "orca 0.1.0" ++ 10 ∷ []
