-- Histories, one line on.
use Rattle.std.proofs.Common.{◌≡◌, List, [], ◌∷◌, ◌++◌, refl, sym}
use Rattle.std.proofs.lemmas.List.{flat_map_more}
use Rattle.value_core.specs.declared.action.Line.{Line}
use Rattle.value_core.specs.Meaning.{Performs, Computes}
use Rattle.value_core.specs.History.{Configuration, IsStep, LegalFrom, after_line, after_lines, output_by, output_of}

-- the configuration behind one line more
pub after_lines-push : (p : Performs) (c : Configuration) (lines : List Line) (line : Line) → after_lines p c (lines ++ line ∷ []) ≡ after_line p (after_lines p c lines) line
after_lines-push p c [] line = refl
after_lines-push p c (l ∷ lines) line = after_lines-push p (after_line p c l) lines line

-- a line that may come next makes a longer history
pub LegalFrom-push : (p : Performs) (q : Computes) (c : Configuration) (lines : List Line) (line : Line) → LegalFrom p q c lines → IsStep p q (after_lines p c lines) line → LegalFrom p q c (lines ++ line ∷ [])
LegalFrom-push p q c [] line legal step = (step, tt)
LegalFrom-push p q c (l ∷ lines) line legal step = (legal.0, LegalFrom-push p q (after_line p c l) lines line legal.1 step)

-- what it writes is written behind the others
pub output_of-push : (lines : List Line) (line : Line) → output_of (lines ++ line ∷ []) ≡ output_of lines ++ output_by line.action
output_of-push lines line = sym (flat_map_more (λ (l : Line). output_by l.action) [] lines line)
