use Rattle.std.proofs.Common.{◌≡◌, ◌+◌, ◌<◌, ◌^◌, drop}
use Rattle.value_core.specs.Lengths.{told_length, values_length}
use Rattle.value_core.specs.View.{data_in}
use Rattle.value_core.proofs.value.+lengths.Given as goal

-- with the values that are left it comes to the length of all
abbrev pub invariant-Parts::byte_length-loop-value : goal.invariant-Parts::byte_length-loop-value
invariant-Parts::byte_length-loop-value l = record {
  small : l.length < 2 ^ 32;
  told : told_length (l.length + values_length (data_in (drop l.value-index l.value-items))) ≡ told_length (values_length (data_in l.value-items));
}
