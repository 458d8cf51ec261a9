use Rattle.std.proofs.Common.{List, Ok, ap, sym, ◌∙◌, arith}
use Rattle.std.proofs.lemmas.Result.{err_from_is_err_and}
use Rattle.orca_grammar.specs.Forms.{Mark, Statement as StatementPhrase}
use Rattle.orca_grammar.specs.Reading.{Read}
use Rattle.orca_grammar.specs.Rules as rules
use Rattle.orca_grammar.specs.Sets.{statement_firsts}
use Rattle.orca_tree.specs.declared.tree.Arm.{When}
use Rattle.orca_tree.specs.Marks as marks
use Rattle.orca_tree.proofs.Rows.{when_is}
use Rattle.parse_exprs.proofs.Readings.{nested_none, nested_read}
use Rattle.parse_exprs.proofs.Loops.{row_more, row_ends, row_stops, shorter}
use Rattle.parse_statements.proofs.Decisions.{statement_lines_decided, elsif_arms_decided}
use Rattle.parse_statements.proofs.ArmLemmas.{arms_begin, arms_more, arms_end, arms_stop, no_last, last_fails, with_last}
use Rattle.parse_statements.proofs.nested.+statements.Goals as goal

pub statements-returns-in_err-line : goal.statements-returns-in_err-line
unfolding rules.statement_line statement_firsts
statements-returns-in_err-line t c =
    let p = err_from_is_err_and c.from_residual.result c.from_residual.ensures.1 in
    rw (p.1, p.2) (row_stops c.in_err-line.field-0.0 (sym c.begins_statement.ensures ∙ c.lines-test.true) c.in_err-line.ensures c.lines.invariant)

pub statements-lines-smaller : goal.statements-lines-smaller
statements-lines-smaller t c = shorter c.args.depth rules.statement_line _ c.lines.rest.now c.in_ok-line.after.now statement_lines_decided c.in_ok-line.ensures

pub statements-lines-preserved : goal.statements-lines-preserved
unfolding rules.statement_line statement_firsts
statements-lines-preserved t c =
    rw c.in_ok-push.ensures.items (row_more c.in_ok-line.line c.in_ok-line.after.now statement_lines_decided (sym c.begins_statement.ensures ∙ c.lines-test.true) c.in_ok-line.ensures c.lines.invariant)

pub statements-returns : goal.statements-returns
unfolding rules.statement_line statement_firsts
statements-returns t c = row_ends (sym c.begins_statement.ensures ∙ c.lines-test.false) c.lines.invariant

pub statement-returns-then-depth-eq0 : goal.statement-returns-then-depth-eq0
statement-returns-then-depth-eq0 t c = nested_none c.too_nested.result c.args.depth StatementPhrase c.args.tokens.now c.begins_statement.result c.if-depth-eq0.true c.begins_statement.ensures c.too_nested.ensures.why

pub statement-returns : goal.statement-returns
statement-returns t c = nested_read marks.statement c.alternative.result c.args.depth StatementPhrase c.args.tokens.now (omega arith) c.alternative.ensures

pub when_arms-arms-init : goal.when_arms-arms-init
when_arms-arms-init t c =
    rw c.in_ok-arms.ensures.items (arms_begin c.args.depth (When c.in_ok-test.test c.in_ok-test.body) c.args.tokens.now c.in_ok-test.rest.now
    (c.in_ok-test.ensures ∙ ap (λ (ms : List Mark). let r : Read = Ok (ms, c.in_ok-test.rest.now) in r) (sym (when_is c.in_ok-test.test c.in_ok-test.body))))

pub when_arms-arms-smaller : goal.when_arms-arms-smaller
when_arms-arms-smaller t c = shorter c.args.depth rules.elsif_arm _ c.arms.rest.now c.in_ok-arm.after.now elsif_arms_decided c.in_ok-arm.ensures

pub when_arms-arms-preserved : goal.when_arms-arms-preserved
when_arms-arms-preserved t c =
    rw c.in_ok-push.ensures.items (arms_more c.in_ok-arm.arm c.in_ok-arm.after.now (sym c.comes_key.ensures ∙ c.arms-test.true) c.in_ok-arm.ensures c.arms.invariant)

pub when_arms-returns-in_err-arm : goal.when_arms-returns-in_err-arm
when_arms-returns-in_err-arm t c =
    let p = err_from_is_err_and c.from_residual-in_err-arm.result c.from_residual-in_err-arm.ensures.1 in
    record {
      arms = rw (p.1, p.2) (arms_stop c.in_err-arm.field-0.0 (sym c.comes_key.ensures ∙ c.arms-test.true) c.in_err-arm.ensures c.arms.invariant);
      some = rw p.1 tt;
    }

pub when_arms-returns : goal.when_arms-returns
when_arms-returns t c = record { arms = arms_end (sym c.comes_key.ensures ∙ c.arms-test.false) c.arms.invariant; some = c.arms.invariant.some }

pub arms-returns-then-not-comes_key : goal.arms-returns-then-not-comes_key
arms-returns-then-not-comes_key t c =
    no_last c.args.depth c.in_ok-arms.arms.items c.args.tokens.now c.in_ok-arms.rest.now c.in_ok-arms.ensures.arms (sym c.comes_key.ensures ∙ c.if-not-comes_key.true)

pub arms-returns-in_err-last : goal.arms-returns-in_err-last
arms-returns-in_err-last t c =
    let p = err_from_is_err_and c.from_residual-in_err-last.result c.from_residual-in_err-last.ensures.1 in
    rw (p.1, p.2) (last_fails c.args.depth c.in_ok-arms.arms.items c.args.tokens.now c.in_ok-arms.rest.now c.in_ok-arms.ensures.arms (sym c.comes_key.ensures ∙ c.if-not-comes_key.false) c.in_err-last.field-0.0 c.in_err-last.ensures)

pub arms-returns : goal.arms-returns
arms-returns t c =
    rw c.in_ok-push.ensures.items (with_last c.args.depth c.in_ok-arms.arms.items c.in_ok-last.last c.args.tokens.now c.in_ok-arms.rest.now c.in_ok-last.rest.now c.in_ok-arms.ensures.some c.in_ok-arms.ensures.arms (sym c.comes_key.ensures ∙ c.if-not-comes_key.false) c.in_ok-last.ensures)
