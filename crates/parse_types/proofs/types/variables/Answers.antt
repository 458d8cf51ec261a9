use Rattle.std.proofs.Common.{sym, ◌∙◌}
use Rattle.std.proofs.lemmas.Result.{err_from_is_err_and}
use Rattle.orca_grammar.specs.Rules.{names, variable_line}
use Rattle.parse_exprs.proofs.Loops.{row_more, row_ends, row_stops, shorter}
use Rattle.parse_types.proofs.Decisions.{variable_lines_decided}
use Rattle.parse_types.proofs.types.variables.Goals as goal

pub returns-in_err-line : goal.returns-in_err-line
unfolding names variable_line
returns-in_err-line c =
    let p = err_from_is_err_and c.from_residual.result c.from_residual.ensures.1 in
    rw (p.1, p.2) (row_stops c.in_err-line.field-0.0 (sym c.comes_name.ensures ∙ c.lines-test.true) c.in_err-line.ensures c.lines.invariant)

pub lines-smaller : goal.lines-smaller
lines-smaller c = shorter c.args.depth variable_line _ c.lines.rest.now c.in_ok-line.after.now variable_lines_decided c.in_ok-line.ensures

pub lines-preserved : goal.lines-preserved
unfolding names variable_line
lines-preserved c =
    rw c.in_ok-push.ensures.items (row_more c.in_ok-line.line c.in_ok-line.after.now variable_lines_decided (sym c.comes_name.ensures ∙ c.lines-test.true) c.in_ok-line.ensures c.lines.invariant)

pub returns : goal.returns
unfolding names variable_line
returns c = row_ends (sym c.comes_name.ensures ∙ c.lines-test.false) c.lines.invariant
