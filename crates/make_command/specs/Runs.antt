-- Which run `make` is: as `run` of the generated program would be, with the turns and the events of a `run` whose words name none, and
-- without its history (docs/FORMATS.md, The generated program).
use Rattle.std.specs.Prelude.{false}
use Rattle.command_line.specs.declared.request.MakeOptions.{MakeOptions}
use Rattle.command_line.specs.declared.request.RunOptions.{RunOptions}

abbrev pub run_options : MakeOptions → RunOptions
run_options options = record {
  group = options.group;
  workers = options.workers;
  turns = 1000000;
  events = 1000000;
  history = false;
  explain = false;
}
