-- Which run the command `join` does, and the line of its follower (docs/FORMATS.md, The program).
use Rattle.std.specs.Prelude.{ℕ, List, [], ◌∷◌, ◌++◌, codes}
use Rattle.std.specs.Fmt.{decimal}
use Rattle.command_line.specs.declared.request.JoinOptions.{JoinOptions}
use Rattle.value_core.specs.Meaning.{Computes, Performs}
use Rattle.world_rules.specs.declared.settings.Settings.{Settings}
use Rattle.world_rules.specs.Frame.{Frame}
use Rattle.run_loop.specs.Left.{run_of}
use Rattle.join_command.specs.declared.settings.TheConstants.{USUAL_EVENTS, USUAL_TURNS}

-- by the numbers of the words, over one wire, with as many turns and events as a run has that states none, and each object at every member
abbrev pub join_settings : JoinOptions → Settings
join_settings options = record {
  nodes = options.group.nodes;
  resilience = options.group.resilience;
  turns = USUAL_TURNS;
  events = USUAL_EVENTS;
  wires = 1;
  choices = [];
}

abbrev pub joined_run : Performs → Computes → JoinOptions → Frame
joined_run p q options = run_of p q (join_settings options)

-- a follower applied so many entries of so many
abbrev pub follower_line : ℕ → ℕ → List ℕ
follower_line applied last = codes "follower applied " ++ decimal applied ++ (codes " of " ++ decimal last ++ 10 ∷ [])
