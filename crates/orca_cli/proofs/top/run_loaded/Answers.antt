use Rattle.std.proofs.Common.{map}
use Rattle.meaning_rules.specs.Meanings.{computes_of, performs_of}
use Rattle.run_loop.specs.Left.{HasRun, run_of}
use Rattle.orca_answers.specs.Programs.{units_of}
use Rattle.orca_cli.specs.Made.{said}
use Rattle.orca_cli.specs.Standings.{awaited_name}
use Rattle.orca_cli.proofs.HeadlineLemmas.{book_back, book_printable, is_run_by, some_is}
use Rattle.orca_cli.proofs.top.run_loaded.Goals as goal

pub lines_fit-requires : goal.lines_fit-requires
lines_fit-requires g c =
    let units = units_of c.args.machine.now in
    let before = map g.W.Wire.told c.args.wires.now in
    let after = map g.W.Wire.told c.run-ran.new.wires in
    rw c.deref.ensures.value
    (book_printable (performs_of units) (computes_of units) c.args.settings c.args.names.now c.run-ran.result.standing before after c.in-Some.end (some_is c.run-ran.result.end c.in-Some.end (HasRun (run_of (performs_of units) (computes_of units) c.args.settings) c.run-ran.result.standing before after) c.in-Some.is
    c.run-ran.ensures.run)
    c.laws_of_runs.ensures.sound c.requires.ranges c.requires.named)

pub report-status-requires-clause-lines : goal.report-status-requires-clause-lines
report-status-requires-clause-lines g c =
    let units = units_of c.args.machine.now in
    let before = map g.W.Wire.told c.args.wires.now in
    let after = map g.W.Wire.told c.run-ran.new.wires in
    book_printable (performs_of units) (computes_of units) c.args.settings c.args.names.now c.run-ran.result.standing before after c.in-Some.end (some_is c.run-ran.result.end c.in-Some.end (HasRun (run_of (performs_of units) (computes_of units) c.args.settings) c.run-ran.result.standing before after) c.in-Some.is
    c.run-ran.ensures.run)
    c.laws_of_runs.ensures.sound c.requires.ranges c.requires.named

pub returns-clause-back : goal.returns-clause-back
returns-clause-back g c =
    let units = units_of c.args.machine.now in
    let before = map g.W.Wire.told c.args.wires.now in
    let after = map g.W.Wire.told c.run-ran.new.wires in
    book_back (performs_of units) (computes_of units) c.args.settings c.args.names.now c.run-ran.result.standing before after c.in-Some.end (some_is c.run-ran.result.end c.in-Some.end (HasRun (run_of (performs_of units) (computes_of units) c.args.settings) c.run-ran.result.standing before after) c.in-Some.is
    c.run-ran.ensures.run)
    (rw c.deref.ensures.value at c.lines_fit.ensures)

pub returns-clause-kept : goal.returns-clause-kept
returns-clause-kept g c =
    let units = units_of c.args.machine.now in
    let before = map g.W.Wire.told c.args.wires.now in
    let after = map g.W.Wire.told c.run-ran.new.wires in
    let says = c.report-status.ensures in
    is_run_by (performs_of units) (computes_of units) c.args.options.turns c.args.settings (awaited_name c.args.names.now) (said c.args.printing c.args.options c.args.names.now) c.in-Some.end c.run-ran.result.standing c.report-status.result
    (g.K.Sink.told c.args.out.now) (g.K.Sink.told c.report-status.new.out) before after
    c.laws_of_runs.ensures c.requires.turns c.requires.ranges
    (some_is c.run-ran.result.end c.in-Some.end (HasRun (run_of (performs_of units) (computes_of units) c.args.settings) c.run-ran.result.standing before after) c.in-Some.is
    c.run-ran.ensures.run) c.run-ran.ensures.told
    (record { ends = says.ends; lacked = says.lacked; printed = says.printed })
