use Rattle.std.proofs.Common.{◌≡◌, map, take}
use Rattle.std.specs.Prelude.{string_bytes}
use Rattle.generated_program.specs.Program.{text_of}
use Rattle.generated_program.proofs.program.joined.Given as goal

abbrev pub invariant-lines : goal.invariant-lines
invariant-lines l = l.text.items ≡ text_of (map string_bytes (take l.line-index l.lines))
