use Rattle.std.proofs.Common.{◌≡◌, take, map}
use Rattle.orca_syntax.specs.Shown.{head}
use Rattle.program_names.proofs.tables.names_of.Given as goal

abbrev pub invariant-heads : goal.invariant-heads
invariant-heads l = l.names.items ≡ map (λ h. h.name.text) (map head (take l.head-index l.heads))
