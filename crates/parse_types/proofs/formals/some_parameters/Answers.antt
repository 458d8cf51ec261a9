use Rattle.std.proofs.lemmas.Result.{err_from_is_err_and}
use Rattle.orca_lexer.specs.declared.token.Symbol.TheVariants.{Semicolon}
use Rattle.orca_grammar.specs.Forms.{◌⨾◌}
use Rattle.orca_grammar.specs.Rules as rules
use Rattle.parse_exprs.proofs.Readings.{both_read}
use Rattle.parse_exprs.proofs.Loops.{listed_begins, listed_more, listed_ends, listed_stops, shorter}
use Rattle.parse_types.proofs.Decisions.{parameters_decided}
use Rattle.parse_types.proofs.formals.some_parameters.Goals as goal

pub parts-init : goal.parts-init
parts-init c = rw c.in_ok-parts.ensures.items (listed_begins c.in_ok-first.first c.args.tokens.now c.in_ok-first.rest.now c.in_ok-first.ensures)

pub returns-in_err-part : goal.returns-in_err-part
returns-in_err-part c =
    let p = err_from_is_err_and c.from_residual-in_err-part.result c.from_residual-in_err-part.ensures.1 in
    rw (p.1, p.2) (listed_stops c.in_err-part.field-0.0 c.in-Some.ensures.0 c.in-Some.ensures.1 c.in_err-part.ensures c.parts.invariant)

pub parts-smaller : goal.parts-smaller
parts-smaller c =
    shorter c.args.depth (rules.sign Semicolon ⨾ rules.parameter) _ c.parts.rest.now c.in_ok-part.next.now parameters_decided (both_read c.args.depth (rules.sign Semicolon) rules.parameter c.parts.rest.now _ c.in-Some.after.now c.in-Some.ensures.1 _ c.in_ok-part.next.now c.in_ok-part.ensures)

pub parts-preserved : goal.parts-preserved
parts-preserved c =
    rw c.in_ok-push.ensures.items (listed_more c.in_ok-part.part c.in_ok-part.next.now parameters_decided c.in-Some.ensures.0 c.in-Some.ensures.1 c.in_ok-part.ensures c.parts.invariant)

pub returns : goal.returns
returns c = listed_ends c.in_default.ensures c.parts.invariant
