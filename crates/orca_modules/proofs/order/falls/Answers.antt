use Rattle.orca_modules.specs.Seen.{import_line}
use Rattle.orca_modules.proofs.Ranked.{falls_more}
use Rattle.orca_modules.proofs.order.falls.Goals as goal

pub imports-preserved : goal.imports-preserved
imports-preserved c =
    falls_more import_line c.args.ranks.now c.args.lines.now c.imports.line-index _ c.imports-test.true (c.is_lower.ensures c.if-not-is_lower.false) c.imports.invariant
