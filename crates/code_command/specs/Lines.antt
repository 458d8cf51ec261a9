-- Notes are lines: a line feed stands in none, so that what a listing with notes has behind `; ` ends where its line ends.
use Rattle.std.specs.Prelude.{ℕ, ◌==◌, not, Bool, List}
use Rattle.std.specs.List.{list_all, list_any}

abbrev pub is_line : List ℕ → Bool
is_line text = not (list_any (λ c. c == 10) text)

abbrev pub are_lines : List (List (List ℕ)) → Bool
are_lines notes = list_all (λ own. list_all is_line own) notes
