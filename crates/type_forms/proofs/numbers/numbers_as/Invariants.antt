use Rattle.std.proofs.Common.{◌≡◌, ℕ, List, take, map}
use Rattle.std.specs.List.{position_from}
use Rattle.type_rules.specs.TopLevel.{is_as}
use Rattle.type_forms.specs.Seen.{number_in, top}
use Rattle.type_forms.proofs.numbers.numbers_as.Given as goal

abbrev pub invariant-tops : goal.invariant-tops
invariant-tops l = (n : List ℕ) → number_in l.numbers n ≡ position_from (is_as l.role n) 0 (map top (take l.number l.tops))
