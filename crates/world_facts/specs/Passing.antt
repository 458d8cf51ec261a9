-- Fates that pass whatever packet they come to. A list of steps has fates, and not the lengths of their packets, so a Cut is none of them: one
-- that leaves its packet whole passes that packet (`passes` of net_rules), and cuts a longer one short.
use Rattle.std.specs.Prelude.{◌≡◌, ◌==◌, ℕ, Bool, true, false, List, [], ◌∷◌}
use Rattle.net_rules.specs.declared.fate.Fate.{Fate}
use Rattle.net_rules.specs.declared.fate.Fate.TheVariants as fate
use Rattle.net_rules.specs.Passing.{passes}

abbrev pub always_passes : Fate → Bool
always_passes fate.Pass = true
always_passes fate.Drop = false
always_passes fate.Twice = false
always_passes (fate.Hold ticks) = ticks == 0
always_passes (fate.Cut length) = false

abbrev pub AllPass : List Fate → Type 0
AllPass [] = Unit {0}
AllPass (one ∷ fates) = (always_passes one ≡ true) × AllPass fates

-- the test holds of just those that pass at every length
pub record IsTestOfPassing : Type 0 where
  pub sound : (one : Fate) → always_passes one ≡ true → (bytes : ℕ) → passes bytes one ≡ true
  pub complete : (one : Fate) → ((bytes : ℕ) → passes bytes one ≡ true) → always_passes one ≡ true
