use Rattle.std.proofs.Common.{ℕ, zero, suc, Option, ap}
use Rattle.std.specs.Prelude.{unwrap_or}
use Rattle.program_tables.proofs.Reading.{op_found, place_found, types_found}
use Rattle.program_tables.proofs.tables.CodeTables.new.Goals as goal

pub returns : goal.returns
returns c = λ us t coded.
    let kinds = (c.in_ok-kinds.ensures {u = tt}) us t.forms.names in
    let operations = (c.in_ok-operations.ensures {u = tt}) us t.forms.names in
    let texts = (c.in_ok-texts.ensures {u = tt}) us t.forms.names in
    let records = (c.in_ok-records.ensures {u = tt}) us t in
    record {
      coded = coded;
      specifications = kinds.specifications;
      kinds = λ i. ap (λ (k : ℕ). suc k) (kinds.before i);
      operations = λ i n. op_found us c.in_ok-operations.operations.items i n operations;
      processes = texts.processes;
      texts = λ n. ap (λ (o : Option ℕ). unwrap_or o zero) (texts.places n);
      constants = (c.in_ok-constants.ensures {u = tt}) us t.forms.constants coded.constants;
      fields = λ i. types_found us c.in_ok-records.records.items i records;
      places = λ i n. place_found us c.in_ok-records.records.items i n records;
    }
