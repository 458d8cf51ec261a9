use Rattle.std.proofs.Common.{◌≡◌, ◌++◌, take}
use Rattle.book_law.specs.Performed.{placed}
use Rattle.run_ends.proofs.telling.copy_lines.Given as goal

abbrev pub invariant-lines : goal.invariant-lines
invariant-lines l = l.performed.items ≡ l.fn.performed.items ++ placed l.place (take l.line-index l.lines)
