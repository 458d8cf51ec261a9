use Rattle.std.proofs.Common.{[], Some}
use Rattle.world_tests.proofs.calls.computed_at_once.Given as goal

-- the run that is tried
abbrev pub ghosts-at_once_as : goal.ghosts-at_once_as
ghosts-at_once_as g a = record { machine = Some a.machine.now; settings = a.settings; told = []; scripts = [] }
