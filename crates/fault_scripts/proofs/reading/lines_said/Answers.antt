use Rattle.std.proofs.Common.{Vec, Global}
use Rattle.net_rules.specs.declared.line.ScriptLine.{ScriptLine}
use Rattle.std.proofs.lemmas.Result.{err_from_is_err_and}
use Rattle.fault_scripts.proofs.Loops.{goes_on, ends, no_line, passes}
use Rattle.fault_scripts.proofs.reading.lines_said.Goals as goal

pub returns-in_err-one : goal.returns-in_err-one
returns-in_err-one c =
    let p = err_from_is_err_and c.from_residual.result c.from_residual.ensures.1 in
    rw (p.1, p.2) (passes c.in_err-one.field-0.0 c.lines.said.items c.lines.seeded c.lines.index c.args.lines.now no_line _ c.lines-test.true c.in_err-one.ensures c.lines.invariant (λ (v : Vec ScriptLine Global). v.items))

pub lines-preserved : goal.lines-preserved
lines-preserved c =
    goes_on c.lines.said.items c.note.new.said.items c.lines.seeded c.in_ok-seeded.seeded c.lines.index c.args.lines.now no_line c.in_ok-one.one _
    c.lines-test.true c.in_ok-one.ensures c.in_ok-seeded.ensures.said c.in_ok-seeded.ensures.seeded c.lines.invariant

pub returns : goal.returns
returns c = ends c.lines.said.items c.lines.seeded c.lines.index c.args.lines.now _ c.lines-test.false c.lines.invariant
