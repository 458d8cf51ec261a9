-- The options of runs on three members, for the settings that are computed.
use Rattle.std.specs.Prelude.{ℕ, false}
use Rattle.command_line.specs.declared.request.RunOptions.{RunOptions}

-- where so many of them may be lost
abbrev pub on_three : ℕ → RunOptions
on_three lost = record {
  group = record { nodes = 3; resilience = lost };
  workers = 1;
  turns = 9000;
  events = 500;
  history = false;
  explain = false;
}
