-- The numbers of estimates (docs/RUNTIME.md, Choice of copies): all stop at 1,000,000,000.
use Rattle.std.specs.Prelude.{ℕ, ◌+◌, ◌*◌, nat_lt, if◌then◌else◌}
pub use Rattle.site_estimates.specs.declared.counts.Counts.{Counts}
use Rattle.site_estimates.specs.declared.counts.TheConstants.{ESTIMATE_LIMIT}

abbrev pub capped : ℕ → ℕ
capped n = if nat_lt n ESTIMATE_LIMIT then n else ESTIMATE_LIMIT

abbrev pub sum : ℕ → ℕ → ℕ
sum m n = capped (m + n)

abbrev pub product : ℕ → ℕ → ℕ
product m n = capped (m * n)

-- ---- reads and writes

abbrev pub zero : Counts
zero = record { reads = 0; writes = 0 }

abbrev pub one_read : Counts
one_read = record { reads = 1; writes = 0 }

abbrev pub one_write : Counts
one_write = record { reads = 0; writes = 1 }

abbrev pub plus : Counts → Counts → Counts
plus a b = record { reads = sum a.reads b.reads; writes = sum a.writes b.writes }

abbrev pub times : ℕ → Counts → Counts
times n a = record { reads = product n a.reads; writes = product n a.writes }
