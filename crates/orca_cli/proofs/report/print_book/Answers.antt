use Rattle.std.proofs.Common.{◌∙◌}
use Rattle.std.proofs.lemmas.Result.{err_from_is_err_and}
use Rattle.orca_cli.proofs.PrintLemmas.{grew_line, grew_line_fault}
use Rattle.orca_cli.proofs.report.print_book.Goals as goal

pub returns-in_err-put_some-clause-wrote : goal.returns-in_err-put_some-clause-wrote
returns-in_err-put_some-clause-wrote g c =
    let p = err_from_is_err_and c.from_residual-in_err-put_some.result c.from_residual-in_err-put_some.ensures.1 in
    rw (p.1, p.2) (grew_line_fault _ _ _ c.args.book.now c.lines.line-index c.line-item.result _ _ c.lines-test.true c.line-item.is (c.deref.ensures.value ∙ c.in_ok-text.ensures) c.lines.invariant.told c.in_err-put_some.ensures.puts)

pub lines-preserved : goal.lines-preserved
lines-preserved g c = record {
  told = grew_line _ _ _ c.args.book.now c.lines.line-index c.line-item.result _ c.lines-test.true c.line-item.is (c.deref.ensures.value ∙ c.in_ok-text.ensures) c.lines.invariant.told c.in_ok-put_some.ensures.puts;
  quiet = c.in_ok-put_some.ensures.quiet ∙ c.lines.invariant.quiet;
}
