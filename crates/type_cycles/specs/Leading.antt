-- Types that hold themselves, over a table of the types that each names.
use Rattle.std.specs.Prelude.{◌≡◌, ℕ, Bool, true, ◌==◌, List, slice_get}
use Rattle.std.specs.List.{list_any}
use Rattle.link_rules.specs.Units.{Source}
use Rattle.type_rules.specs.TypePhrases.{holds_itself}
use Rattle.type_forms.specs.Parts.{parts_in}
use Rattle.type_forms.specs.Settled.{or_false}

abbrev pub is_in : ℕ → List ℕ → Bool
is_in k js = list_any (λ h. h == k) js

-- a type leads to itself, and where it names another, to whatever that leads to
pub data Leads (parts : List (List ℕ)) : ℕ → ℕ → Type 0 where
  itself : (i j : ℕ) → i ≡ j → Leads parts i j
  by_part : (i h j : ℕ) → is_in h (parts_in parts i) ≡ true → Leads parts h j → Leads parts i j

-- a type names one that leads to it
abbrev pub IsOnCycle : List (List ℕ) → ℕ → Type 0
IsOnCycle parts i = (h : ℕ) × (is_in h (parts_in parts i) ≡ true) × Leads parts h i

abbrev pub is_marked : List Bool → ℕ → Bool
is_marked marks i = or_false (slice_get marks i)

-- the table tells of each type whether it holds itself
abbrev pub AreRound : List Source → List Bool → Type 0
AreRound us on_cycle = (i : ℕ) → is_marked on_cycle i ≡ holds_itself us i
