use Rattle.std.proofs.Common.{List, ◌++◌, ◌∙◌, ap}
use Rattle.std.specs.Prelude.{ℕ}
use Rattle.value_core.specs.declared.action.Line.{Line}
use Rattle.value_core.specs.History.{output_by}
use Rattle.make_command.proofs.Loops.{text_more}
use Rattle.make_command.proofs.summary.output.Goals as goal

pub lines-preserved : goal.lines-preserved
lines-preserved c =
    c.in_ok-extend_from_slice.ensures.items
    ∙ ap (λ (l : List ℕ). c.lines.text.items ++ l) (c.deref.ensures.value ∙ c.in_ok-piece.ensures)
    ∙ text_more (λ (line : Line). output_by line.action) c.lines.text.items c.args.book.now c.lines.line-index c.line-item.result
    c.lines-test.true c.line-item.is c.lines.invariant
