use Rattle.std.proofs.Common.{◌≡◌, ◌≤◌, drop, map, length}
use Rattle.std.specs.Cmp.Lexicographic.{slice_cmp}
use Rattle.value_core.specs.View.{datum_of}
use Rattle.value_core.specs.Order.{datum_cmp}
use Rattle.value_core.proofs.value.+compares.Given as goal

-- the lists are as long so far, and what is left decides
abbrev pub invariant-Parts::compare-loop-index : goal.invariant-Parts::compare-loop-index
invariant-Parts::compare-loop-index l = record {
  within : l.index ≤ length l.other-inside.items.items;
  left : slice_cmp datum_cmp (map datum_of l.self-inside.items.items) (map datum_of l.other-inside.items.items) ≡ slice_cmp datum_cmp (map datum_of (drop l.index l.self-inside.items.items)) (map datum_of (drop l.index l.other-inside.items.items));
}
