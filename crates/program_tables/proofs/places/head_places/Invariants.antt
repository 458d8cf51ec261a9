use Rattle.std.proofs.Common.{◌≡◌, ℕ, List, map, take}
use Rattle.std.specs.Prelude.{bytes_eq, position}
use Rattle.orca_syntax.specs.Shown.{head}
use Rattle.type_tables.specs.Entries.{entry}
use Rattle.program_tables.proofs.places.head_places.Given as goal

abbrev pub invariant-heads : goal.invariant-heads
invariant-heads l = (n : List ℕ) → entry l.places n ≡ position (λ f. bytes_eq f.name.text n) (map head (take l.place l.heads))
