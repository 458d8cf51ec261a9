use Rattle.std.proofs.Common.{[], Some}
use Rattle.world_tests.proofs.calls.crash_ends_tasks.Given as goal

-- the run that is tried, the same for both
abbrev pub ghosts-crashed_as : goal.ghosts-crashed_as
ghosts-crashed_as g a = record { machine = Some a.machine.now; settings = a.settings; told = []; scripts = [] }
