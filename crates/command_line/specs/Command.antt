-- What the words of a command line ask for. What isn't said here is no command.
use Rattle.std.specs.Prelude.{◌||◌, List, [], ◌∷◌, Bool, Option, Some, None, option_and_then, slice_get, codes, if◌then◌else◌}
use Rattle.std.specs.List.{list_any}
use Rattle.std.specs.Str.{bytes_eq}
use Rattle.clap.specs.Words.{Kinds, Row, Text, fault_of, matches_of}
use Rattle.command_line.specs.declared.request.CommandName.{CommandName}
use Rattle.command_line.specs.declared.request.CommandName.TheVariants.{Check, Run, Code, Choice, Replay, Make, Join}
use Rattle.command_line.specs.Asked.{Asked, asked_by}
use Rattle.command_line.specs.Asked as ask
use Rattle.command_line.specs.Rules.{app, word_of}

abbrev pub is_help : Text → Bool
is_help word = bytes_eq word (codes "--help") || bytes_eq word (codes "-h")

abbrev pub is_version : Text → Bool
is_version word = bytes_eq word (codes "--version") || bytes_eq word (codes "-V")

-- the command that a first word names
abbrev pub name_of : Text → Option CommandName
name_of word =
    if bytes_eq word (word_of Check) then Some Check
    else (if bytes_eq word (word_of Run) then Some Run
    else (if bytes_eq word (word_of Code) then Some Code
    else (if bytes_eq word (word_of Choice) then Some Choice
    else (if bytes_eq word (word_of Replay) then Some Replay
    else (if bytes_eq word (word_of Make) then Some Make
    else (if bytes_eq word (word_of Join) then Some Join
    else None))))))

-- matches, where there is no fault
abbrev pub unfaulted : Kinds → List Row → Option (List Row)
unfaulted [] rows = Some rows
unfaulted (kind ∷ kinds) rows = None

-- what `clap` finds in the words of this command, the first among them, where it takes them
unfoldable pub found_in : CommandName → List Text → Option (List Row)
found_in name words = unfaulted (fault_of (app name) words) (matches_of (app name) words)

-- what the words of this command ask for, where they don't ask for help
abbrev pub asked_in : CommandName → List Text → Option Asked
asked_in name words = option_and_then (asked_by name) (found_in name words)

-- Help comes before all else: as the first word it is that of all commands, behind a command's name it is that command's
unfoldable pub Command : List Text → Option Asked
Command words = option_and_then (λ first.
    if is_help first then Some (ask.help None)
    else (if is_version first then Some ask.version
    else option_and_then (λ name. if list_any is_help words then Some (ask.help (Some name))
    else asked_in name words) (name_of first))) (slice_get words 0)
