-- The declared types that declared types name, as a table by numbers.
use Rattle.std.specs.Prelude.{◌≡◌, ℕ, List, [], map, slice_get, Option, Some, None}
use Rattle.orca_tree.specs.declared.tree.Name.{Name}
use Rattle.link_rules.specs.Units.{Source}
use Rattle.type_rules.specs.TopLevel.{TopName, stands_for, top_names}
use Rattle.type_rules.specs.TypePhrases.{declared_number, types_within}

-- the number of the declared type that a name stands for in a module
abbrev pub part_named : List Source → List ℕ → Name → Option ℕ
part_named us m n = declared_number (stands_for us m n.text)

-- the declared types that a name of the top level names
abbrev pub parts_at : List Source → TopName → List ℕ
parts_at us t = types_within us t.defined.by t.what

-- this is the table of those that each name of the top level names
abbrev pub AreParts : List Source → List (List ℕ) → Type 0
AreParts us parts = parts ≡ map (parts_at us) (top_names us)

abbrev pub listed_at : Option (List ℕ) → List ℕ
listed_at None = []
listed_at (Some js) = js

-- what a table has for a number
abbrev pub parts_in : List (List ℕ) → ℕ → List ℕ
parts_in parts i = listed_at (slice_get parts i)
