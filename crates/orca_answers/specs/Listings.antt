-- What is listed of a program, and when two texts that words may have printed are the same (docs/LANGUAGE.md, The listing).
use Rattle.std.specs.Prelude.{◌≡◌, ◌⊎◌, ℕ, true, List, Some}
use Rattle.link_rules.specs.Units.{Source}
use Rattle.code_rules.specs.Machine as machine
use Rattle.code_rules.specs.Program.{program_code}
use Rattle.code_command.specs.Listings.{IsListing}
use Rattle.command_files.specs.Sources.{Word}
use Rattle.orca_answers.specs.Job.{deed_in, lists}
use Rattle.orca_answers.specs.declared.listing.Listed.{Listed}
use Rattle.orca_answers.specs.declared.listing.Listed.TheVariants.{Code}

-- the text is this of the program with these units: the listing of the code that the definitions have of it
abbrev pub IsListed : Listed → List Source → List ℕ → Type 0
IsListed (Code with_source) units text = IsListing with_source (program_code units) text

-- one text; or both are listings of one code with notes, where the words ask for these
abbrev pub IsSameText : List Word → List ℕ → List ℕ → Type 0
IsSameText words one other =
    (one ≡ other)
    ⊎ ((files : List Word) × (code : machine.Code) × (deed_in words ≡ Some (lists (Code true) files)) × IsListing true code one
    × IsListing true code other)
