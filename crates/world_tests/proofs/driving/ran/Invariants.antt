use Rattle.std.proofs.Common.{[], Some}
use Rattle.world_tests.proofs.driving.ran.Given as goal

-- the run that begins
abbrev pub ghosts-ran_as : goal.ghosts-ran_as
ghosts-ran_as g a = record { machine = Some a.machine.now; settings = a.settings; told = []; scripts = [] }
