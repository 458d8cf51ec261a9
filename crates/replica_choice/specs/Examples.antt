-- The sites of a program, whose choices are computed (docs/RUNTIME.md, Choice of copies).
use Rattle.std.specs.Prelude.{List, [], ◌∷◌, codes}
use Rattle.site_estimates.specs.declared.estimate.Estimate.{Estimate}

-- the program that `make --source 42` is to print: OrcaMain forks workers in a loop, each of which adds to T and reads it in a loop, and
-- puts into P; then it takes from P in a loop, and reads T
abbrev pub sites_of_42 : List Estimate
sites_of_42 =
    record { process = codes "OrcaMain"; variable = codes "T"; reads = 101; writes = 100 }
    ∷ record { process = codes "OrcaMain"; variable = codes "P"; reads = 0; writes = 20 } ∷ []
