use Rattle.std.proofs.Common.{◌∙◌, sym}
use Rattle.std.specs.List.{list_all}
use Rattle.std.proofs.lemmas.List.Folds.{list_all-map}
use Rattle.code_command.specs.Lines.{is_line}
use Rattle.code_command.proofs.notes.notes_of.Goals as goal

pub returns-then-are_lines : goal.returns-then-are_lines
returns-then-are_lines c =
    list_all-map (list_all is_line) (λ own. own.items) c.add_types.new.notes.rows.items
    ∙ sym (rw c.deref-7.ensures.value at c.are_lines.ensures) ∙ c.if-are_lines.true
