use Rattle.std.proofs.Common.{List, ◌++◌, ◌∙◌, ap, append_assoc, map}
use Rattle.std.specs.Prelude.{string_bytes, ℕ}
use Rattle.generated_program.specs.Program.{pool_lines, total_lines}
use Rattle.generated_program.proofs.program.add_objects.Goals as goal

pub returns : goal.returns
returns c =
    c.in_ok-add_lines-2.ensures ∙ ap (λ (l : List (List ℕ)). l ++ pool_lines) c.in_ok-add_lines.ensures
    ∙ append_assoc (map string_bytes c.args.lines.now.items) total_lines pool_lines
