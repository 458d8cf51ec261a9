-- The listing of code that `code` prints (docs/LANGUAGE.md, The listing).
use Rattle.std.specs.Prelude.{◌≡◌, ℕ, Bool, true, false, List}
use Rattle.code_rules.specs.Machine.{Code}
use Rattle.stack_code.specs.Text.{code_text, noted_text}
use Rattle.code_command.specs.Lines.{are_lines}

-- the listing alone; or, where the source's lines are asked for, with notes in front of its lines, each on a line of its own behind `; `
abbrev pub IsListing : Bool → Code → List ℕ → Type 0
IsListing false code text = text ≡ code_text code
IsListing true code text = (notes : List (List (List ℕ))) × (are_lines notes ≡ true) × (text ≡ noted_text notes code)
