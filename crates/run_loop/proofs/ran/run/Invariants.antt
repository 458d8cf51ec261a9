use Rattle.std.proofs.Common.{Some, map}
use Rattle.run_loop.proofs.ran.run.Given as goal

-- the run that begins
abbrev pub ghosts-run_as : goal.ghosts-run_as
ghosts-run_as g a = record { machine = Some a.machine.now; settings = a.settings; told = map g.W.Wire.told a.wires.now; scripts = map (λ w. (g.W.Wire.rule w).script) a.wires.now }
