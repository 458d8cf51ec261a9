-- The script of losses (docs/FORMATS.md, The generated program): the 50th packet that the wire is asked about is lost, and the 100th, and
-- so on, so many.
use Rattle.std.specs.Prelude.{ℕ, zero, suc, ◌*◌, List, [], ◌∷◌, ◌++◌, codes}
use Rattle.std.specs.Fmt.{decimal}
use Rattle.net_rules.specs.declared.fate.Fate.TheVariants.{Drop}
use Rattle.net_rules.specs.declared.line.Kinds.TheVariants.{Any}
use Rattle.net_rules.specs.declared.line.Which.TheVariants.{Nth}
use Rattle.net_rules.specs.declared.line.ScriptLine.{ScriptLine}
use Rattle.net_rules.specs.declared.line.ScriptLine.TheVariants.{Fate}

-- the n-th loss
abbrev pub loss : ℕ → ScriptLine
loss n = Fate Any (Nth (50 * n)) Drop

-- so many losses, in order
abbrev pub losses : ℕ → List ScriptLine
losses zero = []
losses (suc n) = losses n ++ loss (suc n) ∷ []

-- the text of that script: a line `drop any N` for each
abbrev pub loss_line : ℕ → List ℕ
loss_line n = codes "drop any " ++ decimal (50 * n)

abbrev pub losses_text : ℕ → List ℕ
losses_text zero = []
losses_text (suc n) = losses_text n ++ (loss_line (suc n) ++ 10 ∷ [])
