use Rattle.std.proofs.Common.{[], Some}
use Rattle.world_tests.proofs.calls.tasks_come_back_once.Given as goal

-- the run that is tried
abbrev pub ghosts-tasks_as : goal.ghosts-tasks_as
ghosts-tasks_as g a = record { machine = Some a.machine.now; settings = a.settings; told = []; scripts = [] }
