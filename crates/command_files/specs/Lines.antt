-- The lines that tell why a file wasn't read (docs/FORMATS.md, Statuses).
use Rattle.std.specs.Prelude.{ℕ, List, [], ◌∷◌, ◌++◌, codes}

abbrev pub absent_line : List ℕ → List ℕ
absent_line file = codes "orca: no file " ++ file ++ 10 ∷ []

abbrev pub unread_line : List ℕ → List ℕ
unread_line file = codes "orca: cannot read " ++ file ++ 10 ∷ []
