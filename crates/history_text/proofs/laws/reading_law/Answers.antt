use Rattle.history_text.proofs.LineLaws.{line_again, line_spells}
use Rattle.history_text.proofs.laws.reading_law.Goals as goal

pub returns-clause-found : goal.returns-clause-found
returns-clause-found c = λ names text x fits e. let t = line_spells names text x fits e in (t.1, t.0)

pub returns-clause-again : goal.returns-clause-again
returns-clause-again c = λ names line behind tables is. line_again names tables line behind is
