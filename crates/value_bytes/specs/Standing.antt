-- Where a value's spelling stands in bytes.
use Rattle.std.specs.Prelude.{◌≡◌, ℕ, ◌-◌, ◌≤◌, List, length, take, drop}
use Rattle.value_core.specs.Datum.{Datum}
use Rattle.value_bytes.specs.Spelling.{spelling}

-- the bytes from one place up to the other are the value's spelling
pub record StandsAt (bytes : List ℕ) (from end : ℕ) (v : Datum) : Type 0 where
  pub behind : from ≤ end
  pub within : end ≤ length bytes
  pub spelled : take (end - from) (drop from bytes) ≡ spelling v
