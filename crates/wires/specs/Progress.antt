-- What a wire keeps of what its script counted, drew and gave.
use Rattle.std.specs.Prelude.{◌≡◌, ℕ, List, Option, None, Some}
use Rattle.std.specs.List.{AllByRecursion}
use Rattle.net_rules.specs.declared.asked.Asked.{Asked}
use Rattle.net_rules.specs.declared.line.ScriptLine.{ScriptLine}
use Rattle.net_rules.specs.Script.{drawn, left, seed_of}
use Rattle.net_rules.specs.Words.{behind, generator}
use Rattle.wires.specs.declared.chance.Chance.{Chance}
use Rattle.wires.specs.Counts.{AreCounts}
use Rattle.wires.specs.Due.{IsFar}
use Rattle.wires.specs.declared.progress.Progress.{Progress}

-- the words of the script's seed, behind so many; without one no word drops anything
abbrev pub IsChance : Option (ℕ × ℕ) → ℕ → Chance → Type 0
IsChance None n chance = chance.percent ≡ 0
IsChance (Some (seed, percent)) n chance = (chance.percent ≡ percent) × (chance.source ≡ behind n (generator seed))

-- all of it
pub record IsProgress (lines : List ScriptLine) (asked : List Asked) (progress : Progress) : Type 0 where
  pub counts : AreCounts asked progress.counts
  pub chance : IsChance (seed_of lines) (drawn lines asked) progress.chance
  pub left : progress.left.items ≡ left lines asked
  pub quiet : AllByRecursion (IsFar asked progress.quiet) progress.left.items
