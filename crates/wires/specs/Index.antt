-- The lines of a script that say fates, found by kind and number.
use Rattle.std.specs.Prelude.{◌≡◌, ℕ, ◌+◌, ◌<◌, Bool, true, false, ◌&&◌, ◌==◌, nat_le, List, [], ◌∷◌, Option, None, Some, if◌then◌else◌, slice_index_or}
use Rattle.std.specs.BTreeMap.{get}
use Rattle.std.specs.Ordering.{nat_cmp}
use Rattle.net_rules.specs.declared.line.Kinds.{Kinds}
use Rattle.net_rules.specs.declared.line.Kinds.TheVariants.{Any, Only}
use Rattle.net_rules.specs.declared.line.Which.TheVariants.{All, Nth}
use Rattle.net_rules.specs.declared.line.ScriptLine.{ScriptLine}
use Rattle.net_rules.specs.declared.line.ScriptLine.TheVariants.{Fate, Act, Seed}
use Rattle.net_rules.specs.Asked.{kind_number}
use Rattle.net_rules.specs.Script.{fate_of, is_one}
use Rattle.wires.specs.declared.lines.Found.{Found}
use Rattle.wires.specs.declared.lines.KindLines.{KindLines}
use Rattle.wires.specs.declared.lines.Index.{Index as Lines}

-- a line counts exactly these: one kind, by its number, or all
abbrev pub counts : Option ℕ → Kinds → Bool
counts None Any = true
counts None (Only kind) = false
counts (Some number) Any = false
counts (Some number) (Only kind) = kind_number kind == number

-- the line counts these, and says the fate of the one with this number among them
abbrev pub says_fate : Option ℕ → ℕ → ScriptLine → Bool
says_fate wanted number (Fate kinds which fate) = counts wanted kinds && is_one which number
says_fate wanted number (Act kinds count act) = false
says_fate wanted number (Seed seed percent) = false

-- the same of a line that says it of all
abbrev pub says_of_all : Option ℕ → ScriptLine → Bool
says_of_all wanted (Fate kinds All fate) = counts wanted kinds
says_of_all wanted (Fate kinds (Nth n) fate) = false
says_of_all wanted (Act kinds count act) = false
says_of_all wanted (Seed seed percent) = false

-- and of one that says it of this one alone
abbrev pub says_of_one : Option ℕ → ℕ → ScriptLine → Bool
says_of_one wanted number (Fate kinds All fate) = false
says_of_one wanted number (Fate kinds (Nth n) fate) = counts wanted kinds && (n == number)
says_of_one wanted number (Act kinds count act) = false
says_of_one wanted number (Seed seed percent) = false

-- the first line that passes, where the first of these has this place, and its fate
abbrev pub first_from : (ScriptLine → Bool) → ℕ → List ScriptLine → Option Found
first_from p place [] = None
first_from p place (line ∷ lines) = if p line then Some (record { line = place; fate = fate_of line }) else first_from p (place + 1) lines

-- the one that stands first
abbrev pub lesser : Option Found → Option Found → Option Found
lesser None other = other
lesser (Some one) None = Some one
lesser (Some one) (Some other) = if nat_le one.line other.line then Some one else Some other

-- what is kept of the lines that count these
pub record IsKindLines (wanted : Option ℕ) (place : ℕ) (lines : List ScriptLine) (kept : KindLines) : Type 0 where
  pub all : kept.all ≡ first_from (says_of_all wanted) place lines
  pub numbered : (number : ℕ) → get nat_cmp kept.numbered number ≡ first_from (says_of_one wanted number) place lines

-- what is kept of all lines
pub record IsIndex (lines : List ScriptLine) (index : Lines) : Type 0 where
  pub any : IsKindLines None 0 lines index.any
  pub kinds : (number : ℕ) (d : KindLines) → number < 13 → IsKindLines (Some number) 0 lines (slice_index_or index.kinds.items number d)
