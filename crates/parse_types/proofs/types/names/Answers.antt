use Rattle.std.proofs.lemmas.Result.{err_from_is_err_and}
use Rattle.orca_grammar.specs.Rules.{name, sign}
use Rattle.orca_lexer.specs.declared.token.Symbol.TheVariants.{Comma}
use Rattle.orca_grammar.specs.Forms.{◌⨾◌}
use Rattle.parse_exprs.proofs.Readings.{both_read}
use Rattle.parse_exprs.proofs.Loops.{listed_more, listed_ends, listed_stops, shorter}
use Rattle.parse_types.proofs.Decisions.{names_decided}
use Rattle.parse_types.proofs.types.names.Goals as goal

pub returns-in_err-name : goal.returns-in_err-name
returns-in_err-name c =
    let p = err_from_is_err_and c.from_residual-in_err-name.result c.from_residual-in_err-name.ensures.1 in
    rw (p.1, p.2) (listed_stops c.in_err-name.field-0.0 c.in-Some.ensures.0 c.in-Some.ensures.1 c.in_err-name.ensures c.names.invariant)

pub names-smaller : goal.names-smaller
names-smaller c = shorter 0 (sign Comma ⨾ name) _ c.names.rest.now c.in_ok-name.next.now names_decided (both_read 0 (sign Comma) name c.names.rest.now _ c.in-Some.after.now c.in-Some.ensures.1 _ c.in_ok-name.next.now c.in_ok-name.ensures)

pub names-preserved : goal.names-preserved
names-preserved c =
    rw c.in_ok-push.ensures.items (listed_more c.in_ok-name.name c.in_ok-name.next.now names_decided c.in-Some.ensures.0 c.in-Some.ensures.1 c.in_ok-name.ensures c.names.invariant)

pub returns : goal.returns
returns c = listed_ends c.in_default.ensures c.names.invariant
