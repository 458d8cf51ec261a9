-- Modules with ranks, and imports that lead to lower ones.
use Rattle.std.specs.Prelude.{ℕ, ◌<◌, List, unwrap_or}
use Rattle.std.specs.List.{Contains}
use Rattle.std.specs.Borrow.{Bor}
use Rattle.std.specs.BTreeMap.{BTreeMap, get_by}
use Rattle.std.specs.Cmp.Lexicographic.{slice_cmp}
use Rattle.std.specs.Ordering.{nat_cmp}
use Rattle.link_rules.specs.Units.{Import}

-- the rank of a module
abbrev pub rank : BTreeMap (Bor (List ℕ)) ℕ → List ℕ → ℕ
rank ranks n = unwrap_or (get_by (λ k. slice_cmp nat_cmp n k.now) ranks) 0

-- each import leads to a module of a lower rank
abbrev pub Falls : BTreeMap (Bor (List ℕ)) ℕ → List Import → Type 0
Falls ranks is = (i : Import) → Contains is i → rank ranks i.name.text < rank ranks i.by
