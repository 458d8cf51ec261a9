use Rattle.value_core.specs.View.{datum_of}
use Rattle.value_bytes.proofs.Facts.{spelled_length}
use Rattle.value_bytes.proofs.writing.write_value.Goals as goal

pub returns-clause-length : goal.returns-clause-length
returns-clause-length c = rw (c.in_ok-put_value.ensures, c.new-out.ensures.items) (spelled_length (datum_of c.args.value.now))
