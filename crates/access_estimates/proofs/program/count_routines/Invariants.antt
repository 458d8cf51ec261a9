use Rattle.std.proofs.Common.{◌≡◌, ◌≤◌, length, map, take, filter}
use Rattle.type_forms.specs.Seen.{top}
use Rattle.estimate_rules.specs.Routines.{is_routine}
use Rattle.access_estimates.proofs.program.count_routines.Given as goal

abbrev pub invariant-tops : goal.invariant-tops
invariant-tops l = (l.count ≡ length (filter is_routine (map top (take l.item-index l.tops)))) × (l.count ≤ l.item-index)
