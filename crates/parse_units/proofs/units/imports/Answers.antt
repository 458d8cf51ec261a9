use Rattle.std.proofs.Common.{sym, ◌∙◌}
use Rattle.std.proofs.lemmas.Result.{err_from_is_err_and}
use Rattle.orca_grammar.specs.Rules as rules
use Rattle.parse_exprs.proofs.Loops.{row_begins, row_more, row_ends, row_stops, shorter}
use Rattle.parse_units.proofs.Decisions.{import_lines_decided}
use Rattle.parse_units.proofs.units.imports.Goals as goal

pub returns-in_err-part : goal.returns-in_err-part
unfolding rules.import_line
returns-in_err-part c =
    let p = err_from_is_err_and c.from_residual.result c.from_residual.ensures.1 in
    rw (p.1, p.2) (row_stops c.in_err-part.field-0.0 (sym c.comes_key.ensures ∙ c.parts-test.true) c.in_err-part.ensures c.parts.invariant)

pub parts-smaller : goal.parts-smaller
parts-smaller c = shorter 0 rules.import_line _ c.parts.rest.now c.in_ok-part.after.now import_lines_decided c.in_ok-part.ensures

pub parts-preserved : goal.parts-preserved
unfolding rules.import_line
parts-preserved c =
    rw c.in_ok-push.ensures.items (row_more c.in_ok-part.part c.in_ok-part.after.now import_lines_decided (sym c.comes_key.ensures ∙ c.parts-test.true) c.in_ok-part.ensures c.parts.invariant)

pub returns : goal.returns
unfolding rules.import_line
returns c = row_ends (sym c.comes_key.ensures ∙ c.parts-test.false) c.parts.invariant

pub parts-init : goal.parts-init
unfolding rules.imports
parts-init c = rw c.new-parts.ensures.items (row_begins c.args.tokens.now)
