-- Declared types, one of them more settled after the other: a type is settled once all declared types that it names are.
use Rattle.std.specs.Prelude.{◌≡◌, ℕ, ◌+◌, ◌≤◌, Bool, true, false, List, [], ◌∷◌, length, slice_get, if◌then◌else◌, Option, Some, None}
use Rattle.std.specs.List.{list_all}
use Rattle.link_rules.specs.Units.{Source}
use Rattle.type_rules.specs.declared.types.Measured.{Measured}
use Rattle.type_rules.specs.TopLevel.{top_names}
use Rattle.type_rules.specs.TypePhrases.{declared_type, declared_within, parts_of}
use Rattle.type_forms.specs.declared.settled.Known.{Known}
use Rattle.type_forms.specs.Seen.{has}
use Rattle.type_forms.specs.Indexed.{Indexes}
use Rattle.type_forms.specs.Chains.{AreChains}
use Rattle.type_forms.specs.Parts.{AreParts}
use Rattle.type_forms.specs.Measures.{declared_in}

-- the names, the constants and the parts of types are those of these sources; and no name is a body's
pub record IsKnown (us : List Source) (k : Known) : Type 0 where
  pub names : Indexes k.index.now us
  pub constants : AreChains us k.chains.now
  pub parts : AreParts us k.parts.now
  pub none : (n : List ℕ) → has k.none.now n ≡ false

abbrev pub or_false : Option Bool → Bool
or_false None = false
or_false (Some b) = b

abbrev pub is_settled : List Bool → ℕ → Bool
is_settled settled i = or_false (slice_get settled i)

abbrev pub open_count : List Bool → ℕ
open_count [] = 0
open_count (b ∷ settled) = (if b then 0 else 1) + open_count settled

-- what is settled is right, and goes through no more declarations than there are settled ones; of any other nothing is said yet
pub record AreSettled (us : List Source) (types : List (Option Measured)) (settled : List Bool) : Type 0 where
  pub long : length settled ≡ length (top_names us)
  pub as_long : length types ≡ length settled
  pub right : (i k : ℕ) → is_settled settled i ≡ true → length settled ≤ k + open_count settled →
      declared_within us k i ≡ declared_in types i
  pub others : (i : ℕ) → is_settled settled i ≡ false → declared_in types i ≡ None

-- a type that isn't settled names another such
abbrev pub IsOpen : List Source → List Bool → ℕ → Type 0
IsOpen us settled i = is_settled settled i ≡ false → list_all (is_settled settled) (parts_of us i) ≡ false

-- this is the table of the declared types
abbrev pub AreTypes : List Source → List (Option Measured) → Type 0
AreTypes us types = (i : ℕ) → declared_in types i ≡ declared_type us i
