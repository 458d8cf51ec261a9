-- The size of a value, which limits what a variable holds (docs/LANGUAGE.md, Faults).
use Rattle.std.specs.Prelude.{ℕ, ◌+◌, length}
use Rattle.value_core.specs.Datum.{Datum, Data}
use Rattle.value_core.specs.Datum as datum

-- 1 for a number, a truth, a char or a name; for a string 1 and its length; else 1 and the sizes of its parts
abbrev mutual
  pub size_of : Datum → ℕ
  size_of (datum.int z) = 1
  size_of (datum.truth b) = 1
  size_of (datum.char c) = 1
  size_of (datum.enumerated n) = 1
  size_of (datum.text t) = length t + 1
  size_of (datum.array w) = size_of_all w + 1
  size_of (datum.fields w) = size_of_all w + 1
  size_of (datum.set w) = size_of_all w + 1
  size_of (datum.bag w) = size_of_all w + 1
  size_of (datum.object p n) = 1

  pub size_of_all : Data → ℕ
  size_of_all datum.none = 0
  size_of_all (datum.more v w) = size_of v + size_of_all w
