-- How many values and lists stand in a value: the measure of recursion over values.
use Rattle.std.specs.Prelude.{ℕ, ◌+◌}
use Rattle.value_core.specs.Datum.{Datum, Data}
use Rattle.value_core.specs.Datum as datum

-- how many values there are, also inside; a list in a value counts as one more
abbrev mutual
  pub count_of : Datum → ℕ
  count_of (datum.int z) = 1
  count_of (datum.truth b) = 1
  count_of (datum.char c) = 1
  count_of (datum.enumerated n) = 1
  count_of (datum.text t) = 1
  count_of (datum.array w) = count_of_all w + 2
  count_of (datum.fields w) = count_of_all w + 2
  count_of (datum.set w) = count_of_all w + 2
  count_of (datum.bag w) = count_of_all w + 2
  count_of (datum.object p n) = 1

  pub count_of_all : Data → ℕ
  count_of_all datum.none = 0
  count_of_all (datum.more v w) = count_of v + count_of_all w
