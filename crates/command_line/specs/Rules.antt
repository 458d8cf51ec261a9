-- The arguments of each command, as `clap` sees them.
use Rattle.std.specs.Prelude.{List, [], ◌∷◌, ◌++◌, Some, true, codes}
use Rattle.clap.specs.Words.{App, Rule, Text, new_app, new_rule, with_rule}
use Rattle.clap.specs.declared.builder.action.ArgAction.TheVariants.{Append, SetTrue}
use Rattle.command_line.specs.declared.request.CommandName.{CommandName}
use Rattle.command_line.specs.declared.request.CommandName.TheVariants.{Check, Run, Code, Choice, Replay, Make, Join}

-- an option of this name, which takes a value
abbrev pub named : Text → Rule
named name = record (new_rule name) { long = Some name }

-- the same, with the value that it has where it isn't used
abbrev pub defaulted : Text → Text → Rule
defaulted name value = record (named name) { defaults = value ∷ [] }

-- an option of this name, which takes no value
abbrev pub flag : Text → Rule
flag name = record (named name) { action = Some SetTrue }

-- a word that must be there
abbrev pub needed : Text → Rule
needed id = record (new_rule id) { required = true }

-- the files, one or more
abbrev pub files : Rule
files = record (needed (codes "file")) { action = Some Append }

-- a command of this name with arguments of these rules
abbrev pub with_rules : App → List Rule → App
with_rules app [] = app
with_rules app (rule ∷ rules) = with_rules (with_rule app rule) rules

abbrev pub nodes : Rule
nodes = defaulted (codes "nodes") (codes "3")

abbrev pub resilience : Rule
resilience = defaulted (codes "resilience") (codes "0")

abbrev pub workers : Rule
workers = defaulted (codes "workers") (codes "4")

-- the options of a group
abbrev pub group : List Rule
group = nodes ∷ resilience ∷ []

-- what a run may use up
abbrev pub budgets : List Rule
budgets = workers ∷ defaulted (codes "turns") (codes "1000000") ∷ defaulted (codes "events") (codes "1000000") ∷ []

abbrev pub rules_of : CommandName → List Rule
rules_of Check = files ∷ []
rules_of Run = group ++ budgets ++ named (codes "script") ∷ flag (codes "history") ∷ flag (codes "explain") ∷ files ∷ []
rules_of Code = flag (codes "source") ∷ files ∷ []
rules_of Choice = nodes ∷ files ∷ []
rules_of Replay = needed (codes "history") ∷ files ∷ []
rules_of Make = group ++ workers ∷ defaulted (codes "lose") (codes "0") ∷ flag (codes "source") ∷ needed (codes "number") ∷ []
rules_of Join = group ++ defaulted (codes "at") (codes "0") ∷ named (codes "script") ∷ files ∷ []

abbrev pub word_of : CommandName → Text
word_of Check = codes "check"
word_of Run = codes "run"
word_of Code = codes "code"
word_of Choice = codes "choice"
word_of Replay = codes "replay"
word_of Make = codes "make"
word_of Join = codes "join"

-- the command
unfoldable pub app : CommandName → App
app name = with_rules (new_app (word_of name)) (rules_of name)
