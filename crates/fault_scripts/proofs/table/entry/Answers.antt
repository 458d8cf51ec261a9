use Rattle.fault_scripts.proofs.Rows.{entry_of-drop}
use Rattle.fault_scripts.proofs.table.entry.Goals as goal

pub returns-then-eq : goal.returns-then-eq
returns-then-eq g c =
    let step = entry_of-drop c.args.table.now c.rows.text-index c.rows-item.result c.args.word.now c.rows-test.true c.rows-item.is in
    let e = c.if-eq.ensures in
    rw (← c.rows.invariant, step, ← e)

pub rows-preserved : goal.rows-preserved
rows-preserved g c =
    let step = entry_of-drop c.args.table.now c.rows.text-index c.rows-item.result c.args.word.now c.rows-test.true c.rows-item.is in
    let e = c.if-eq.ensures in
    rw (← c.rows.invariant, step, ← e)
