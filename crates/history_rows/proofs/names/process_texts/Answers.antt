use Rattle.std.proofs.Common.{sym, subst, refl, arith}
use Rattle.history_text.specs.Sound.{IsTable}
use Rattle.history_rows.proofs.NameTables.{table}
use Rattle.history_rows.proofs.names.process_texts.Goals as goal

pub returns : goal.returns
returns c = subst IsTable (sym c.in_ok-names.ensures) (table _ refl refl (omega arith))
