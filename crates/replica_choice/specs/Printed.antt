-- What is printed of the choices (docs/FORMATS.md, Choices).
use Rattle.std.specs.Prelude.{ℕ, List, ◌∷◌, [], ◌++◌, codes, flat_map}
use Rattle.std.specs.Fmt.{decimal}
use Rattle.std.specs.List.{zip}
use Rattle.orca_base.specs.declared.what.Choice.{Choice}
use Rattle.orca_base.specs.declared.what.Choice.TheVariants.{Replicated, Single}
use Rattle.site_estimates.specs.declared.estimate.Estimate.{Estimate}

abbrev pub choice_word : Choice → List ℕ
choice_word Replicated = codes "replicated"
choice_word Single = codes "single"

-- PROCESS VARIABLE reads R writes W replicated, or single; a line feed ends it
abbrev pub site_line : Estimate → Choice → List ℕ
site_line e c =
    (e.process ++ 32 ∷ e.variable) ++ ((codes " reads " ++ (decimal e.reads ++ (codes " writes " ++ decimal e.writes)))
    ++ 32 ∷ (choice_word c ++ 10 ∷ []))

-- a line for each site, in the order of both lists, as far as both go
abbrev pub choice_text : List Estimate → List Choice → List ℕ
choice_text es cs = flat_map (λ p. site_line p.0 p.1) (zip es cs)
