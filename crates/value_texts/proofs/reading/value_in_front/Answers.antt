use Rattle.value_texts.proofs.Facts.{is_found, is_only}
use Rattle.value_texts.proofs.reading.value_in_front.Goals as goal

pub returns-clause-found : goal.returns-clause-found
returns-clause-found c = λ fits. is_found (λ rest. rest.now) c.args.text.now c.value_in.result fits c.value_in.ensures

pub returns-clause-only : goal.returns-clause-only
returns-clause-only c = λ v behind sound ends is. is_only (λ rest. rest.now) c.args.text.now c.value_in.result c.value_in.ensures v behind sound ends is
