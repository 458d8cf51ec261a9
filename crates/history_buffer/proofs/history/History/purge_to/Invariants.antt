use Rattle.std.proofs.Common.{◌≡◌, ◌≤◌, ◌-◌, max, drop}
use Rattle.orca_base.specs.declared.limits.TheConstants.{WINDOW}
use Rattle.history_buffer.proofs.history.History.purge_to.Given as goal

-- the entries up to the base are gone
abbrev pub invariant-entries : goal.invariant-entries
invariant-entries g l =
    (l.initial.self-inside.base ≤ l.self-inside.base) × (l.self-inside.base ≤ max l.initial.self-inside.base l.number)
    × (l.self-inside.kept.items ≡ drop (l.self-inside.base - l.initial.self-inside.base) l.initial.self-inside.kept.items)
    × (l.self-inside.kept.capacity ≡ WINDOW)

abbrev pub decreases-entries : goal.decreases-entries
decreases-entries g l = l.number - l.self-inside.base
