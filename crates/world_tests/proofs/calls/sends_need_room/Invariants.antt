use Rattle.std.proofs.Common.{[], Some}
use Rattle.world_tests.proofs.calls.sends_need_room.Given as goal

-- the run that is tried
abbrev pub ghosts-room_as : goal.ghosts-room_as
ghosts-room_as g a = record { machine = Some a.machine.now; settings = a.settings; told = []; scripts = [] }
