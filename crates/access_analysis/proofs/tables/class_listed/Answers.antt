use Rattle.access_analysis.proofs.Listed.{class_read}
use Rattle.access_analysis.proofs.tables.class_listed.Goals as goal

pub returns : goal.returns
returns c =
    class_read _ c.args.table.now c.args.kind c.args.op c.from.result c.from-2.result c.row_at-row.result.now c.entry_at.result c.from.ensures c.from-2.ensures
    c.row_at-row.ensures c.entry_at.ensures
