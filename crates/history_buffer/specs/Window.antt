-- A window over a list: how many entries are purged, and those behind them.
use Rattle.std.specs.Prelude.{ℕ, List, [], ◌∷◌, ◌++◌, ◌+◌, ◌-◌, max, length, drop, refl}
use Rattle.std.specs.Coded.{Coded, code_by, coded×, coded_list, coded_ℕ}

pub record Window (B : Type 0) : Type 0 where
  pub base : ℕ
  pub items : List B

abbrev pub window : {B : Type 0} → ℕ → List B → Window B
window base items = record { base = base; items = items }

-- nothing was appended yet
abbrev pub opening_window : {B : Type 0} → Window B
opening_window = window 0 []

-- the number of the last entry: entries are numbered from 1
abbrev pub last_number : {B : Type 0} → Window B → ℕ
last_number w = w.base + length w.items

-- with one entry more
abbrev pub pushed : {B : Type 0} → B → Window B → Window B
pushed body w = window w.base (w.items ++ body ∷ [])

-- without the entries up to this number
abbrev pub purged_to : {B : Type 0} → ℕ → Window B → Window B
purged_to number w = window (max w.base number) (drop (number - w.base) w.items)

-- a window is stored as the pair of its parts
abbrev pub window_code : {B : Type 0} → Coded B → Coded (Window B)
window_code {B} code = code_by (ℕ × List B) (coded× coded_ℕ (coded_list code)) (λ w. (w.base, w.items)) (λ p. window p.0 p.1) (λ _. refl)
