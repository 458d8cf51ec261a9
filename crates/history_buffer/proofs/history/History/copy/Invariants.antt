use Rattle.std.proofs.Common.{◌≡◌, take}
use Rattle.orca_base.specs.declared.limits.TheConstants.{WINDOW}
use Rattle.history_buffer.proofs.history.History.copy.Given as goal

-- the copy has the base, and so many of the entries
abbrev pub invariant-entries : goal.invariant-entries
invariant-entries g l = (l.copied-inside.base ≡ l.self-inside.base) × (l.copied-inside.kept.capacity ≡ WINDOW) × (l.copied-inside.kept.items ≡ take l.index l.self-inside.kept.items)
