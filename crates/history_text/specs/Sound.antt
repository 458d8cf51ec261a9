-- What has a text: sound lines, whose numbers fit their types and stand in the tables of names.
use Rattle.std.specs.Prelude.{◌≡◌, ℕ, ℤ, ◌+◌, ◌<◌, ◌≤◌, ◌^◌, ◌||◌, ◌==◌, Bool, true, List, ◌++◌, length, Option, None, Some, slice_get, All, FitsSigned, if◌then◌else◌}
use Rattle.std.specs.Char.{is_ascii_alphanumeric}
use Rattle.std.specs.Int.{w64}
use Rattle.std.specs.List.{list_all}
use Rattle.orca_base.specs.declared.ids.ObjectId.{ObjectId}
use Rattle.value_core.specs.Sound.{IsSoundLine}
use Rattle.value_core.specs.declared.action.Action.{Action}
use Rattle.value_core.specs.declared.action.Action.TheVariants as action
use Rattle.value_core.specs.declared.action.Line.{Line}
use Rattle.history_text.specs.declared.names.Names.{Names}
use Rattle.history_text.specs.Spelling.{history_text, line_text, operation_names}

-- a byte of a name: a letter, a digit or `_`
abbrev pub is_name_byte : ℕ → Bool
is_name_byte c = is_ascii_alphanumeric c || c == 95

-- a table: its names have such bytes alone and differ from each other, and each number fits 16 bits
pub record IsTable (names : List (List ℕ)) : Type 0 where
  pub named : (number : ℕ) (name : List ℕ) → slice_get names number ≡ Some name → list_all is_name_byte name ≡ true
  pub apart : (one two : ℕ) (name : List ℕ) → slice_get names one ≡ Some name → slice_get names two ≡ Some name → one ≡ two
  pub few : length names ≤ 2 ^ 16

-- the tables of a program
pub record AreTables (names : Names) : Type 0 where
  pub kinds : IsTable names.kinds.items
  pub operations : (kind : ℕ) → IsTable (operation_names names kind)
  pub texts : IsTable names.texts.items

-- an object's numbers, and the member that a fork names
abbrev pub ObjectFits : ObjectId → Type 0
ObjectFits object = (object.process < 2 ^ 16) × (object.number < 2 ^ 32)

abbrev pub PlaceFits : Option ℤ → Type 0
PlaceFits None = Unit {0}
PlaceFits (Some place) = FitsSigned w64 place

-- an action whose names are known, and whose numbers fit, but for its values
abbrev pub IsNamed : Names → Action → Type 0
IsNamed names (action.Make kind object) = (kind.0 < length names.kinds.items) × ObjectFits object
IsNamed names (action.Call kind op object args) = (kind.0 < length names.kinds.items) × (op.0 < length (operation_names names kind.0)) × ObjectFits object
IsNamed names (action.Fork process args place_on) = (process.0 < length names.texts.items) × PlaceFits place_on
IsNamed names action.Ended = Unit {0}
IsNamed names (action.Faulted fault) = Unit {0}

-- what a printer asks of an action: its names are known
abbrev pub HasNames : Names → Action → Type 0
HasNames names (action.Make kind object) = kind.0 < length names.kinds.items
HasNames names (action.Call kind op object args) = (kind.0 < length names.kinds.items) × (op.0 < length (operation_names names kind.0))
HasNames names (action.Fork process args place_on) = process.0 < length names.texts.items
HasNames names action.Ended = Unit {0}
HasNames names (action.Faulted fault) = Unit {0}

-- and of a line: its values are sound, too
abbrev pub IsPrintable : Names → Line → Type 0
IsPrintable names line = IsSoundLine line × HasNames names line.action

-- a line that has a text
pub record IsLine (names : Names) (line : Line) : Type 0 where
  pub sound : IsSoundLine line
  pub process : line.process.0 < 2 ^ 16
  pub call : line.call.0 < 2 ^ 64
  pub guard : line.guard < 2 ^ 16
  pub action : IsNamed names line.action

abbrev pub AreLines : Names → List Line → Type 0
AreLines names lines = All (IsLine names) lines

-- these are the lines in front of a text, up to the first that isn't one, and that one's number, from 1; or all the text is theirs
pub record AreFirst (names : Names) (text : List ℕ) (lines : List Line) (bad : Option ℕ) : Type 0 where
  pub are : AreLines names lines
  pub rest : List ℕ
  pub parts : text ≡ history_text names lines ++ rest
  pub none_ : (line : Line) (more : List ℕ) → IsLine names line → rest ≡ line_text names line ++ more → ⊥
  pub told : bad ≡ (if length rest == 0 then None else Some (length lines + 1))

-- the line with this number is the first that isn't one
abbrev pub BreaksAt : Names → List ℕ → ℕ → Type 0
BreaksAt names text number = (lines : List Line) × AreFirst names text lines (Some number)
