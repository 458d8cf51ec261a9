use Rattle.std.proofs.Common.{◌+◌, ◌∙◌, ◌++◌, List, ap, sym, length, refl, arith, append-nil}
use Rattle.std.proofs.lemmas.List.{take_all}
use Rattle.std.proofs.lemmas.Option.{slice_get_read}
use Rattle.value_core.specs.declared.action.Line.{Line}
use Rattle.book_law.specs.Performed.{placed}
use Rattle.run_ends.proofs.Books.{lines_next}
use Rattle.run_ends.proofs.telling.copy_lines.Goals as goal

pub lines-init : goal.lines-init
lines-init c = sym (append-nil c.args.performed.now.items)

pub lines-preserved : goal.lines-preserved
lines-preserved c =
    lines_next c.args.place c.args.lines.now c.lines.line-index (c.lines.line-index + 1) c.line-item.result c.args.performed.now.items c.lines.performed.items c.copy_line.new.performed.items (omega arith)
    (slice_get_read c.args.lines.now (length c.args.lines.now) c.lines.line-index c.line-item.result refl c.lines-test.true c.line-item.is) (c.in_ok-copy_line.ensures {u = tt}) c.lines.invariant

pub returns : goal.returns
returns c = c.lines.invariant ∙ ap (λ (l : List Line). c.args.performed.now.items ++ placed c.args.place l) (take_all c.lines.line-index c.args.lines.now (omega arith))
