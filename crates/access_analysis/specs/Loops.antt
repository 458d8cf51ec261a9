-- The variables of the loops that are open.
use Rattle.std.specs.Prelude.{ℕ, List, [], ◌∷◌}
use Rattle.access_analysis.specs.declared.loops.Loops.{Loops}
use Rattle.access_analysis.specs.declared.loops.Loops.TheVariants.{Outside, Inside'}

-- the innermost first
abbrev pub variables_of : Loops → List (List ℕ)
variables_of Outside = []
variables_of (Inside' variable p outer) = variable.now ∷ variables_of outer
