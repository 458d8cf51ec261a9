-- The lines that tell why sources are no program (docs/FORMATS.md, Statuses).
use Rattle.std.specs.Prelude.{ℕ, ◌==◌, List, [], ◌∷◌, ◌++◌, codes, if◌then◌else◌}
use Rattle.std.specs.Fmt.{decimal}
use Rattle.orca_base.specs.declared.place.Place.{Place}
use Rattle.orca_base.specs.declared.limits.TheConstants.{NESTING}
use Rattle.link_rules.specs.declared.link_error.LinkError.{LinkError}
use Rattle.type_rules.specs.declared.type_error.TypeError.{TypeError}
use Rattle.orca_front.specs.declared.fault.FrontFault.{FrontFault}
use Rattle.orca_front.specs.declared.fault.FrontFault.TheVariants.{Faulty, TooNested, Unlinked, Mistyped}

-- a source that is refused, at this place, for what is said of it
abbrev pub refused_line : List ℕ → Place → List ℕ → List ℕ
refused_line file at text =
    codes "orca: " ++ file ++ (codes ":" ++ decimal at.line ++ (codes ":" ++ decimal at.column ++ (codes ": " ++ (text ++ 10 ∷ []))))

-- what is said of a name that breaks a rule of linking; rule 4 is of no name
abbrev pub link_words : ℕ → List ℕ → List ℕ
link_words rule name =
    if rule == 1 then name ++ codes " defined twice"
    else (if rule == 2 then codes "unknown module " ++ name
    else (if rule == 3 then codes "import cycle through " ++ name else name ++ codes " has no implementation"))

abbrev pub link_line : LinkError → List ℕ
link_line error = if error.rule == 4 then codes "orca: no OrcaMain" ++ 10 ∷ [] else refused_line error.file error.at (link_words error.rule error.name)

-- a rule of typing is broken
abbrev pub type_line : TypeError → List ℕ
type_line error = refused_line error.file error.at (codes "type rule " ++ decimal error.rule)

-- there is more of this than the number
abbrev pub limit_line : List ℕ → ℕ → List ℕ
limit_line what number = codes "orca: limit of " ++ what ++ (codes ": " ++ decimal number ++ 10 ∷ [])

-- the line that tells why sources are no program
abbrev pub fault_line : FrontFault → List ℕ
fault_line (Faulty file at said) = refused_line file at said.items
fault_line TooNested = limit_line (codes "nesting") NESTING
fault_line (Unlinked error) = link_line error
fault_line (Mistyped error) = type_line error
