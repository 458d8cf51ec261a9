use Rattle.std.proofs.Common.{◌≡◌, drop, map}
use Rattle.fault_scripts.specs.Words.{entry_of}
use Rattle.fault_scripts.proofs.table.entry.Given as goal

abbrev pub invariant-rows : goal.invariant-rows
invariant-rows g l = entry_of (map (λ e. (e.0.now, e.1)) (drop l.text-index l.table)) l.word ≡ entry_of (map (λ e. (e.0.now, e.1)) l.table) l.word
