use Rattle.std.proofs.Common.{◌≡◌, ◌++◌, drop, take}
use Rattle.history_text.specs.Sound.{AreLines}
use Rattle.history_text.specs.Spelling.{history_text}
use Rattle.history_text.proofs.printing.put_lines.Given as goal

abbrev pub invariant-lines : goal.invariant-lines
invariant-lines l = (l.out.items ++ history_text l.names (drop l.line-index l.lines) ≡ l.initial.out.items ++ history_text l.names l.lines) × AreLines l.names (take l.line-index l.lines)
