-- That the generated program is accepted.
use Rattle.std.specs.Prelude.{ℕ, List, [], ◌∷◌}
use Rattle.link_rules.specs.Units.{Source}
use Rattle.accepted_law.specs.Limits.{IsWithinLimits}
use Rattle.orca_front.specs.Sources.{IsAccepted}
use Rattle.generated_program.specs.Program.{program_file}

-- the text of this number's program, by itself, is these units: they link, break no rule of typing, and keep within the limits
pub record IsGenerated (number : ℕ) : Type 0 where
  pub units : List Source
  pub accepted : IsAccepted (program_file number ∷ []) units
  pub within : IsWithinLimits units
