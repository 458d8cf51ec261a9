use Rattle.std.proofs.Common.{◌+◌, ◌∙◌, sym, subst, arith, List}
use Rattle.value_core.specs.declared.action.Line.{Line}
use Rattle.history_text.specs.Reading.{line_at}
use Rattle.history_text.proofs.Histories.{IsRead, all_first, bad_first, is_none, left_shorter, more_read, next_none, next_some, some_left}
use Rattle.history_text.proofs.reading.read_lines.Goals as goal

pub returns-in-None-clause-first : goal.returns-in-None-clause-first
returns-in-None-clause-first c =
    let read = line_at c.args.names.now c.loop-rest.rest.now in
    let none = next_none (λ rest. rest.now) c.in_ok-next_line.field-0 read c.in_ok-next_line.ensures c.in-None.is in
    bad_first c.args.names.now c.requires.tables c.args.text.now c.loop-rest.lines.items c.loop-rest.number c.loop-rest.rest.now (some_left _ c.loop-rest-test.ensures) none c.loop-rest.invariant

pub loop-rest-smaller : goal.loop-rest-smaller
loop-rest-smaller c =
    let read = line_at c.args.names.now c.loop-rest.rest.now in
    let some = next_some (λ rest. rest.now) c.in_ok-next_line.field-0 read c.in-Some.line c.in-Some.after c.in_ok-next_line.ensures c.in-Some.is in
    left_shorter c.args.names.now c.args.text.now c.loop-rest.lines.items c.loop-rest.number c.loop-rest.rest.now c.in-Some.line c.in-Some.after.now (omega (arith, c.requires.fits)) some c.loop-rest.invariant

pub loop-rest-preserved : goal.loop-rest-preserved
loop-rest-preserved c =
    let read = line_at c.args.names.now c.loop-rest.rest.now in
    let some = next_some (λ rest. rest.now) c.in_ok-next_line.field-0 read c.in-Some.line c.in-Some.after c.in_ok-next_line.ensures c.in-Some.is in
    subst (λ (lines : List Line). IsRead c.args.names.now c.args.text.now lines (c.loop-rest.number + 1) c.in-Some.after.now) (sym c.in_ok-push-in-Some.ensures.items)
    (more_read c.args.names.now c.args.text.now c.loop-rest.lines.items c.loop-rest.number c.loop-rest.rest.now c.in-Some.line c.in-Some.after.now (omega (arith, c.requires.fits)) some c.loop-rest.invariant)

pub returns-clause-first : goal.returns-clause-first
returns-clause-first c =
    all_first c.args.names.now c.args.text.now c.loop-rest.lines.items c.loop-rest.number c.loop-rest.rest.now (is_none _ (sym c.is_empty.ensures ∙ c.loop-rest-test.false)) c.loop-rest.invariant
