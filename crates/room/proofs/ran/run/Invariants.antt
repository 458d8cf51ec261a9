use Rattle.std.proofs.Common.{Some, map}
use Rattle.room.proofs.ran.run.Given as goal

-- the run that begins, and its wires
abbrev pub ghosts-run_as-T-RunName : goal.ghosts-run_as-T-RunName
ghosts-run_as-T-RunName g a = record {
  machine = Some a.machine.now;
  settings = a.settings;
  told = map g.W.Wire.told a.wires.now.items;
  scripts = map (λ w. (g.W.Wire.rule w).script) a.wires.now.items;
}

abbrev pub ghosts-run_as-T-WireNames : goal.ghosts-run_as-T-WireNames
ghosts-run_as-T-WireNames g a = record { rules = map g.W.Wire.rule a.wires.now.items; loaded = map g.W.Wire.loaded a.wires.now.items }
