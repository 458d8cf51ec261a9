use Rattle.std.proofs.Common.{◌≡◌, ◌≤◌, ◌+◌, ◌++◌, drop, map}
use Rattle.std.specs.Prelude.{string_bytes}
use Rattle.stack_code.specs.Printed.{notes_of}
use Rattle.stack_code.specs.Text.{lines_from, texts_in}
use Rattle.stack_code.specs.Packed.{code_in}
use Rattle.stack_code.specs.Views.{instr_in}
use Rattle.stack_code.proofs.print.put_lines.Given as goal

abbrev pub invariant-words : goal.invariant-words
invariant-words l =
    (string_bytes l.out ++ lines_from (notes_of l.notes) l.first l.n l.texts (map (instr_in l.body.longs.items) (drop l.n l.body.words.items)) ≡ string_bytes l.initial.out ++ lines_from (notes_of l.notes) l.first 0 l.before (code_in l.body))
    × (texts_in l.texts (map (instr_in l.body.longs.items) (drop l.n l.body.words.items)) ≡ texts_in l.before (code_in l.body)) × (l.texts ≤ l.before + l.n)
