use Rattle.std.proofs.Common.{[], Some}
use Rattle.world_tests.proofs.calls.steps_that_need_no_room.Given as goal

-- the run that is tried
abbrev pub ghosts-alone_as : goal.ghosts-alone_as
ghosts-alone_as g a = record { machine = Some a.machine.now; settings = a.settings; told = []; scripts = [] }
