use Rattle.std.proofs.Common.{[], Some}
use Rattle.world_tests.proofs.calls.four_events.Given as goal

-- the run that is tried
abbrev pub ghosts-out_of_events_as : goal.ghosts-out_of_events_as
ghosts-out_of_events_as g a = record { machine = Some a.machine.now; settings = a.settings; told = []; scripts = [] }
