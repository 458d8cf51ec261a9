use Rattle.std.proofs.Common.{◌++◌, ◌∙◌, ap, subst}
use Rattle.std.proofs.lemmas.List.{take_all}
use Rattle.std.proofs.lemmas.List.Elements.{All-more}
use Rattle.value_core.specs.declared.action.Line.{Line}
use Rattle.history_text.specs.Sound.{AreLines, IsLine}
use Rattle.history_text.specs.Spelling.{history_text, line_text}
use Rattle.history_text.proofs.Histories.{one_put}
use Rattle.history_text.proofs.printing.put_lines.Goals as goal

pub lines-preserved : goal.lines-preserved
lines-preserved c =
    let names = c.args.names.now in
    let lines = c.args.lines.now in
    let d = c.line-item.result in
    let put = c.in_ok-put_line.ensures.put ∙ ap (λ (l : Line). c.lines.out.items ++ line_text names l) c.line-item.is in (
      one_put names lines c.lines.line-index d c.lines.out.items c.put_line.new.out.items (c.args.out.now.items ++ history_text names lines) c.lines-test.true put c.lines.invariant.0,
      All-more (IsLine names) lines c.lines.line-index d c.lines-test.true c.lines.invariant.1 (subst (IsLine names) c.line-item.is c.in_ok-put_line.ensures.is),
    )

pub returns-clause-are : goal.returns-clause-are
returns-clause-are c = subst (AreLines c.args.names.now) (take_all c.lines.line-index c.args.lines.now c.lines-test.false) c.lines.invariant.1
