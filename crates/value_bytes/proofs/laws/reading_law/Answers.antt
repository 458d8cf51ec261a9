use Rattle.value_bytes.proofs.Facts.{read_sound, read_again}
use Rattle.value_bytes.proofs.laws.reading_law.Goals as goal

pub returns-clause-found : goal.returns-clause-found
returns-clause-found c = λ end bytes x fits e. read_sound end bytes x fits e

pub returns-clause-again : goal.returns-clause-again
returns-clause-again c = λ end v behind sound. read_again end v behind sound
