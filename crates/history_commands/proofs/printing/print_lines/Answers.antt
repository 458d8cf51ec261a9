use Rattle.std.proofs.Common.{◌∙◌, subst}
use Rattle.std.proofs.lemmas.List.{take_all}
use Rattle.std.proofs.lemmas.List.Elements.{All-more}
use Rattle.std.proofs.lemmas.Result.{err_from_is_err_and}
use Rattle.history_text.specs.Sound.{AreLines, IsLine}
use Rattle.history_text.specs.Spelling.{line_text}
use Rattle.command_output.proofs.Putting.{grew_item, grew_item_fault}
use Rattle.history_commands.proofs.printing.print_lines.Goals as goal

pub returns-in_err-put-clause-wrote : goal.returns-in_err-put-clause-wrote
returns-in_err-put-clause-wrote g c =
    let p = err_from_is_err_and c.from_residual-in_err-put.result c.from_residual-in_err-put.ensures.1 in
    rw (p.1, p.2) (grew_item_fault (line_text c.args.names.now) _ _ _ c.args.lines.now c.lines.line-index c.line-item.result _ _ c.lines-test.true c.line-item.is (c.as_bytes.ensures.value ∙ c.in_ok-text.ensures.text) c.lines.invariant.told c.in_err-put.ensures.puts)

pub lines-preserved : goal.lines-preserved
lines-preserved g c = record {
  told = grew_item (line_text c.args.names.now) _ _ _ c.args.lines.now c.lines.line-index c.line-item.result _ c.lines-test.true c.line-item.is (c.as_bytes.ensures.value ∙ c.in_ok-text.ensures.text) c.lines.invariant.told c.in_ok-put.ensures.puts;
  are = All-more (IsLine c.args.names.now) c.args.lines.now c.lines.line-index c.line-item.result c.lines-test.true c.lines.invariant.are (subst (IsLine c.args.names.now) c.line-item.is c.in_ok-text.ensures.is);
  quiet = c.put.ensures.quiet (λ h. absurd (cc (c.in_ok-put.was {u = tt}, h))) ∙ c.lines.invariant.quiet;
}

pub returns-clause-are : goal.returns-clause-are
returns-clause-are g c = subst (AreLines c.args.names.now) (take_all c.lines.line-index c.args.lines.now c.lines-test.false) c.lines.invariant.are
