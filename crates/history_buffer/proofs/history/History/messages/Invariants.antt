use Rattle.std.proofs.Common.{◌≡◌, take}
use Rattle.history_buffer.proofs.history.History.messages.Given as goal

-- so many of the entries
abbrev pub invariant-entries : goal.invariant-entries
invariant-entries g l = l.messages.items ≡ take l.index l.self-inside.kept.items
