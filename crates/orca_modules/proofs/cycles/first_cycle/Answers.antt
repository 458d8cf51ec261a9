use Rattle.std.proofs.Common.{List, map, Some, sym, ap, ◌∙◌, subst, get_or}
use Rattle.std.specs.Prelude.{filter}
use Rattle.link_rules.specs.Units.{Import}
use Rattle.link_rules.specs.Rules.{at_import, first, is_on_cycle}
use Rattle.orca_modules.specs.Seen.{import_line}
use Rattle.orca_modules.specs.Leading.{IsLeading}
use Rattle.orca_modules.proofs.Firsts.{first_one, none_more}
use Rattle.orca_modules.proofs.Cyclic.{on_cycle}
use Rattle.orca_modules.proofs.cycles.first_cycle.Goals as goal

pub returns-then-holds : goal.returns-then-holds
returns-then-holds c = λ us same.
    let cyclic = on_cycle us (map import_line c.args.lines.now) c.in_ok-last.last.names (import_line (get_or c.args.lines.now c.imports.line-index _)) same c.in_ok-last.ensures.0 ∙ sym c.holds.ensures ∙ c.if-holds.true in
    rw c.refuse.ensures
    (ap (λ (is : List Import). first (map (at_import 3) (filter (is_on_cycle us) is))) same
    ∙ first_one import_line (is_on_cycle us) c.args.lines.now (at_import 3) c.imports.line-index _ c.imports-test.true cyclic (c.imports.invariant.1 us same)
    ∙ ap Some (sym c.in_ok-cause.ensures))

pub imports-preserved : goal.imports-preserved
imports-preserved c = (
  subst (λ t. IsLeading (map import_line c.args.lines.now) t c.in_ok-last.last.names) (sym c.in_ok-last.ensures.1) c.in_ok-last.ensures.0,
  λ us same.
      let cyclic = on_cycle us (map import_line c.args.lines.now) c.in_ok-last.last.names (import_line (get_or c.args.lines.now c.imports.line-index _)) same c.in_ok-last.ensures.0 ∙ sym c.holds.ensures ∙ c.if-holds.false in
      none_more import_line (is_on_cycle us) c.args.lines.now c.imports.line-index _ c.imports-test.true cyclic (c.imports.invariant.1 us same),
)
