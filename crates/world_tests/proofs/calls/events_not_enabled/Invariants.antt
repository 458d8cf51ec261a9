use Rattle.std.proofs.Common.{[], Some}
use Rattle.world_tests.proofs.calls.events_not_enabled.Given as goal

-- the run that is tried
abbrev pub ghosts-refusals_as : goal.ghosts-refusals_as
ghosts-refusals_as g a = record { machine = Some a.machine.now; settings = a.settings; told = []; scripts = [] }
