use Rattle.std.proofs.Common.{sym, ap, ◌∙◌}
use Rattle.value_core.specs.Datum.{data_of, data_of-list_of}
use Rattle.program_tables.proofs.openings.nothing.Goals as goal

pub returns : goal.returns
returns c = (c.in_ok-new.ensures {u = tt}) ∙ sym (data_of-list_of c.new-none.result) ∙ ap data_of c.new-none.ensures
