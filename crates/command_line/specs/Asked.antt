-- What words may ask for, and what a command's matches ask for.
use Rattle.std.specs.Prelude.{ℕ, ◌*◌, ◌<◌, ◌≤◌, List, [], Bool, false, Option, Some, None, option_and_then, option_map, unwrap_or, map, nat_lt, codes, if◌then◌else◌}
use Rattle.std.specs.Str.{bytes_eq}
use Rattle.std.specs.Option.{option_map_or}
use Rattle.clap.specs.Words.{Row, Text, all_of, first_of}
use Rattle.orca_base.specs.declared.limits.TheConstants.{EVENTS, NODES, RESILIENCE, TURNS, WORKERS}
use Rattle.command_line.specs.Numbers.{number_of, number_in}
use Rattle.command_line.specs.declared.options.TheConstants.{PACKETS_LOST}
use Rattle.command_line.specs.declared.request.CommandName.{CommandName}
use Rattle.command_line.specs.declared.request.CommandName.TheVariants as names
use Rattle.command_line.specs.declared.request.GroupSize.{GroupSize}
use Rattle.command_line.specs.declared.request.RunOptions.{RunOptions}
use Rattle.command_line.specs.declared.request.MakeOptions.{MakeOptions}
use Rattle.command_line.specs.declared.request.JoinOptions.{JoinOptions}
use Rattle.command_line.specs.declared.request.Request.{Request}
use Rattle.command_line.specs.declared.request.Request.TheVariants as requests

-- what words ask for
pub data Asked : Type 0 where
  help : Option CommandName → Asked
  version : Asked
  check : List Text → Asked
  run : RunOptions → Option Text → List Text → Asked
  code : Bool → List Text → Asked
  choice : ℕ → List Text → Asked
  replay : Text → List Text → Asked
  make : MakeOptions → ℕ → Asked
  join : JoinOptions → Option Text → List Text → Asked

-- what a request asks for
abbrev pub asked_of : Request → Asked
asked_of (requests.Help of) = help of
asked_of requests.Version = version
asked_of (requests.Check files) = check (map (λ s. s.now) files.items)
asked_of (requests.Run options script files) = run options (option_map (λ s. s.now) script) (map (λ s. s.now) files.items)
asked_of (requests.Code source files) = code source (map (λ s. s.now) files.items)
asked_of (requests.Choice nodes files) = choice nodes (map (λ s. s.now) files.items)
asked_of (requests.Replay history files) = replay history.now (map (λ s. s.now) files.items)
asked_of (requests.Make options number) = make options number
asked_of (requests.Join options script files) = join options (option_map (λ s. s.now) script) (map (λ s. s.now) files.items)

-- the members of a group are from 1 to NODES, and twice as many as may crash are fewer
pub record IsGroup (group : GroupSize) : Type 0 where
  pub some : 1 ≤ group.nodes
  pub most : group.nodes ≤ NODES
  pub fewer : 2 * group.resilience < group.nodes

-- a number is from 1 to this one
abbrev pub IsUpTo : ℕ → ℕ → Type 0
IsUpTo most n = (1 ≤ n) × (n ≤ most)

-- the numbers of the options of a run are in their ranges; and so of the other commands
pub record IsRunWithin (options : RunOptions) : Type 0 where
  pub group : IsGroup options.group
  pub workers : IsUpTo WORKERS options.workers
  pub turns : IsUpTo TURNS options.turns
  pub events : IsUpTo EVENTS options.events

pub record IsMakeWithin (options : MakeOptions) : Type 0 where
  pub group : IsGroup options.group
  pub workers : IsUpTo WORKERS options.workers
  pub lose : options.lose ≤ PACKETS_LOST

pub record IsJoinWithin (options : JoinOptions) : Type 0 where
  pub group : IsGroup options.group
  pub at : options.at ≤ EVENTS

-- the numbers are in their ranges
abbrev pub IsWithin : Asked → Type 0
IsWithin (choice nodes files) = IsUpTo NODES nodes
IsWithin (run options script files) = IsRunWithin options
IsWithin (make options number) = IsMakeWithin options
IsWithin (join options script files) = IsJoinWithin options
IsWithin _ = Unit {0}

-- ---- what matches ask for

-- the number of an argument, where it is one in the range
abbrev pub number_at : Text → ℕ → ℕ → List Row → Option ℕ
number_at id least most rows = option_and_then (number_in least most) (first_of id rows)

-- whether a flag is among the words
abbrev pub is_set : Text → List Row → Bool
is_set id rows = option_map_or (λ t. bytes_eq t (codes "true")) (first_of id rows) false

-- the files, in the order of the words
abbrev pub files_of : List Row → List Text
files_of rows = unwrap_or (all_of (codes "file") rows) []

abbrev pub nodes_of : List Row → Option ℕ
nodes_of = number_at (codes "nodes") 1 NODES

-- the group: twice as many members as may crash are fewer than the members
abbrev pub group_of : List Row → Option GroupSize
group_of rows =
    option_and_then (λ n. option_and_then (λ r. if nat_lt (2 * r) n then Some (record { nodes = n; resilience = r }) else None)
    (number_at (codes "resilience") 0 RESILIENCE rows)) (nodes_of rows)

abbrev pub workers_of : List Row → Option ℕ
workers_of = number_at (codes "workers") 1 WORKERS

abbrev pub run_options_of : List Row → Option RunOptions
run_options_of rows =
    option_and_then (λ g. option_and_then (λ w. option_and_then (λ t. option_map (λ e. record {
      group = g;
      workers = w;
      turns = t;
      events = e;
      history = is_set (codes "history") rows;
      explain = is_set (codes "explain") rows;
    }) (number_at (codes "events") 1 EVENTS rows)) (number_at (codes "turns") 1 TURNS rows)) (workers_of rows)) (group_of rows)

abbrev pub make_options_of : List Row → Option MakeOptions
make_options_of rows =
    option_and_then (λ g. option_and_then (λ w. option_map (λ l. record {
      group = g;
      workers = w;
      lose = l;
      source = is_set (codes "source") rows;
    }) (number_at (codes "lose") 0 PACKETS_LOST rows)) (workers_of rows)) (group_of rows)

abbrev pub join_options_of : List Row → Option JoinOptions
join_options_of rows =
    option_and_then (λ g. option_map (λ a. record { group = g; at = a }) (number_at (codes "at") 0 EVENTS rows)) (group_of rows)

-- what the matches of a command ask for, where each number is in its range
abbrev pub asked_by : CommandName → List Row → Option Asked
asked_by names.Check rows = Some (check (files_of rows))
asked_by names.Run rows = option_map (λ o. run o (first_of (codes "script") rows) (files_of rows)) (run_options_of rows)
asked_by names.Code rows = Some (code (is_set (codes "source") rows) (files_of rows))
asked_by names.Choice rows = option_map (λ n. choice n (files_of rows)) (nodes_of rows)
asked_by names.Replay rows = option_map (λ h. replay h (files_of rows)) (first_of (codes "history") rows)
asked_by names.Make rows = option_and_then (λ o. option_map (λ n. make o n) (option_and_then number_of (first_of (codes "number") rows)))
    (make_options_of rows)
asked_by names.Join rows = option_map (λ o. join o (first_of (codes "script") rows) (files_of rows)) (join_options_of rows)
