-- The kinds before this one are noted.
use Rattle.std.proofs.Common.{◌≡◌, ℕ, ◌<◌, get_or, length, vec_len}
use Rattle.std.specs.Prelude.{None, Some}
use Rattle.wires.specs.declared.lines.KindLines.{KindLines}
use Rattle.wires.specs.Index.{IsKindLines}
use Rattle.wires.proofs.lines.Index.of.Given as goal

abbrev pub invariant-kinds : goal.invariant-kinds
invariant-kinds l = record {
  len : vec_len l.kinds ≡ l.number;
  items : length l.kinds.items ≡ l.number;
  any : IsKindLines None 0 l.lines l.any;
  kinds : (n : ℕ) (d : KindLines) → n < l.number → IsKindLines (Some n) 0 l.lines (get_or l.kinds.items n d);
}
