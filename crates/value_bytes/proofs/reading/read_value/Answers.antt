use Rattle.std.proofs.Common.{arith}
use Rattle.value_bytes.proofs.Facts.{is_found, is_only, is_refused}
use Rattle.value_bytes.proofs.reading.read_value.Goals as goal

pub returns-clause-found : goal.returns-clause-found
returns-clause-found c = is_found c.args.bytes.now c.args.at c.find.result (λ i. omega (arith, c.type_inv.bytes i)) c.find.ensures

pub returns-clause-only : goal.returns-clause-only
returns-clause-only c = λ v end sound stands. is_only c.args.bytes.now c.args.at c.find.result c.find.ensures v end sound stands

pub returns-clause-refused : goal.returns-clause-refused
returns-clause-refused c = is_refused c.args.bytes.now c.args.at c.find.result c.find.ensures
