use Rattle.std.proofs.Common.{List, ap, map, subst, sym}
use Rattle.accepted_law.specs.Limits.{IsWithinLimits}
use Rattle.program_bodies.specs.Codes.{sources}
use Rattle.link_rules.specs.Units.{Source}
use Rattle.meaning_rules.specs.Meanings.{computes_of, performs_of}
use Rattle.program_names.specs.Naming.{AreNamesOf, CallsNamed, HistoriesNamed}
use Rattle.run_loop.proofs.Ending.{asked_nothing}
use Rattle.run_loop.proofs.Telling.{tells_itself}
use Rattle.run_loop.specs.Left.{run_of}
use Rattle.orca_answers.specs.Programs.{units_of}
use Rattle.orca_cli.specs.Made.{said}
use Rattle.orca_cli.proofs.HeadlineLemmas.{program_run}
use Rattle.orca_cli.proofs.top.run_named.Goals as goal

pub run_loaded-requires-clause-tables : goal.run_loaded-requires-clause-tables
run_loaded-requires-clause-tables g c = c.in-Ok.ensures.tables (subst IsWithinLimits (ap sources (sym c.checked.ensures)) c.args.machine.now.within)

pub run_loaded-requires-clause-named : goal.run_loaded-requires-clause-named
run_loaded-requires-clause-named g c =
    subst (λ (us : List Source). HistoriesNamed us c.in-Ok.names) (ap sources c.checked.ensures) (c.in-Ok.ensures.histories (subst IsWithinLimits (ap sources (sym c.checked.ensures)) c.args.machine.now.within))

pub returns-in-Ok-clause-kept : goal.returns-in-Ok-clause-kept
returns-in-Ok-clause-kept g c =
    let lent = ap sources c.checked.ensures in
    program_run (units_of c.args.machine.now) (said c.args.printing c.args.options) c.args.settings c.in-Ok.names c.run_loaded.result.kept c.run_loaded.result.status _ _ (map g.W.Wire.told c.args.wires.now) (map g.W.Wire.told c.run_loaded.new.wires)
    (subst (λ (us : List Source). AreNamesOf us c.in-Ok.names) lent c.in-Ok.ensures.are)
    (subst (λ (us : List Source). CallsNamed us c.in-Ok.names) lent (c.in-Ok.ensures.calls (subst IsWithinLimits (sym lent) c.args.machine.now.within)))
    c.run_loaded.ensures.kept c.run_loaded.ensures.back

pub returns-in-Err-clause-told : goal.returns-in-Err-clause-told
returns-in-Err-clause-told g c = tells_itself (map g.W.Wire.told c.args.wires.now)

pub returns-in-Err-clause-asked : goal.returns-in-Err-clause-asked
returns-in-Err-clause-asked g c =
    let units = units_of c.args.machine.now in
    asked_nothing (run_of (performs_of units) (computes_of units) c.args.settings) (map g.W.Wire.told c.args.wires.now)
