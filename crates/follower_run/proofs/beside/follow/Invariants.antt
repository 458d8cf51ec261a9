use Rattle.std.proofs.Common.{Some, map}
use Rattle.follower_run.proofs.beside.follow.Given as goal

-- the run that begins
abbrev pub ghosts-follow_as : goal.ghosts-follow_as
ghosts-follow_as g a = record { machine = Some a.machine.now; settings = a.settings; told = map g.W.Wire.told a.wires.now; scripts = map (λ w. (g.W.Wire.rule w).script) a.wires.now }
