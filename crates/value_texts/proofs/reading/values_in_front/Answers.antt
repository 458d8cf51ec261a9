use Rattle.value_texts.proofs.Facts.{are_found, are_only}
use Rattle.value_texts.proofs.reading.values_in_front.Goals as goal

pub returns-clause-found : goal.returns-clause-found
returns-clause-found c = λ fits. are_found (λ rest. rest.now) c.args.text.now c.values_in.result fits c.values_in.ensures

pub returns-clause-only : goal.returns-clause-only
returns-clause-only c = λ values behind sound is. are_only (λ rest. rest.now) c.args.text.now c.values_in.result c.values_in.ensures values behind sound is
