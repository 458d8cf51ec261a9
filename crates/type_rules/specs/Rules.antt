-- What it means to break a rule, and what a phrase is in which one is broken.
use Rattle.std.specs.Prelude.{ℕ, Bool, true, false, not, List, [], ◌∷◌, ◌++◌, Option, Some, None, bytes_eq}
use Rattle.std.specs.List.{list_any}
use Rattle.orca_base.specs.declared.place.Place.{Place}
use Rattle.orca_tree.specs.declared.tree.Name.{Name}
pub use Rattle.type_rules.specs.declared.breach.Breach.{Breach}
use Rattle.type_rules.specs.Types.{DataType, same_type}

-- a rule asks that a test holds, at a place
abbrev pub asks : ℕ → Place → Bool → List Breach
asks rule at true = []
asks rule at false = record { rule = rule; at = at } ∷ []

abbrev pub breaks : ℕ → Place → List Breach
breaks rule at = asks rule at false

-- what was found of a phrase: what it is, where that is known, and the breaches inside
pub record Found (X : Type 0) : Type 0 where
  pub is : Option X
  pub breaches : List Breach

abbrev pub found : {X : Type 0} → Option X → Found X
found x = record { is = x; breaches = [] }

-- a phrase with a breach inside has no type
abbrev pub unless : {X : Type 0} → List Breach → Option X → Found X
unless [] x = record { is = x; breaches = [] }
unless (b ∷ bs) x = record { is = None; breaches = b ∷ bs }

-- no rule that needs the type of a phrase is broken where it has none
abbrev pub fits : {X : Type 0} → (X → Bool) → Option X → Bool
fits p None = true
fits p (Some x) = p x

abbrev pub agree : Option DataType → Option DataType → Bool
agree None u = true
agree (Some t) u = fits (same_type t) u

-- ---- names

abbrev pub is_among : List (List ℕ) → List ℕ → Bool
is_among ns n = list_any (bytes_eq n) ns

-- a rule asks that behind these each of a list is new; the place is the later name's
abbrev pub each_new : ℕ → List (List ℕ) → List Name → List Breach
each_new rule before [] = []
each_new rule before (n ∷ ns) = asks rule n.at (not (is_among before n.text)) ++ each_new rule (n.text ∷ before) ns

-- 3. No name is declared twice.
abbrev pub are_new : List Name → List Breach
are_new ns = each_new 3 [] ns
