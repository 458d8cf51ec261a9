use Rattle.std.proofs.Common.{refl, arith}
use Rattle.history_rows.proofs.NameTables.{table, three_tables}
use Rattle.history_rows.proofs.names.of_scripts.Goals as goal

pub of_others-requires : goal.of_others-requires
of_others-requires c = table _ refl refl (omega arith)

pub of_others-requires-2 : goal.of_others-requires-2
of_others-requires-2 c = table _ refl refl (omega arith)

pub returns : goal.returns
returns c = record {
  kinds = c.in_ok-kinds.ensures;
  operations = λ kind.
      three_tables c.new-operations.result.items c.push.new.self.items c.push-2.new.self.items c.push-3.new.self.items c.in_ok-output.output c.in_ok-pool.pool (record { names = c.in_ok-of_flag.field-0 })
      c.new-operations.ensures.items c.in_ok-push.ensures.items c.in_ok-push-2.ensures.items c.in_ok-push-3.ensures.items c.in_ok-output.ensures c.in_ok-pool.ensures c.in_ok-of_flag.ensures kind;
  texts = c.in_ok-texts.ensures;
}
