use Rattle.orca_syntax.proofs.TextOnce.{text_syntax}
use Rattle.orca_front.proofs.TextLemmas.{unit_shallow}
use Rattle.orca_front.proofs.reading.unit_of.Goals as goal

pub returns-in-Ok-parse : goal.returns-in-Ok-parse
returns-in-Ok-parse c =
    let parsed = rw c.deref.ensures.value at c.in-Ok-parse.ensures.found in
    record {
      has = text_syntax c.in-Ok-parse.unit c.args.text.now c.in-Ok.found.items c.in-Ok.ensures.tokens parsed;
      nests = c.in-Ok-parse.ensures.nests;
      shallow = unit_shallow c.args.text.now c.in-Ok.found.items _ c.in-Ok.ensures.tokens parsed c.in-Ok-parse.ensures.nests;
    }
