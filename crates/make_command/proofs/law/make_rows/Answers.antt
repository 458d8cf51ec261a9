-- The lines are computed.
use Rattle.std.proofs.Common.{◌≡◌, ℕ, List, [], ◌∷◌, ◌++◌, length, take, refl, ◌∙◌}
use Rattle.std.specs.Prelude.{◌-◌, codes}
use Rattle.std.specs.Fmt.{digits}
use Rattle.make_command.specs.Summary.{counts_text}
use Rattle.make_command.proofs.law.make_rows.Goals as goal

pub returns-clause-text : goal.returns-clause-text
unfolding digits
returns-clause-text c = refl

abbrev told : ℕ → List ℕ → List ℕ
told lines output = counts_text 42 6 728 lines ++ take (length output - 1) output ++ 10 ∷ []

whole : told 1439 (codes "152295" ++ 10 ∷ []) ≡ codes "make 42: processes 6, entries 728, lines 1439, output 152295" ++ 10 ∷ []
unfolding digits
whole = refl

pub returns-clause-summary : goal.returns-clause-summary
returns-clause-summary c book lines output = (λ i. told (lines i) (output i)) ∙ whole
