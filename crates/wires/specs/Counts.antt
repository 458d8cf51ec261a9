-- What a wire counted.
use Rattle.std.specs.Prelude.{◌≡◌, List, slice_index}
use Rattle.group_packets.specs.declared.packet.PacketKind.{PacketKind}
use Rattle.net_rules.specs.declared.asked.Asked.{Asked}
use Rattle.net_rules.specs.declared.line.Kinds.TheVariants.{Any, Only}
use Rattle.net_rules.specs.Asked.{count, kind_number}
use Rattle.wires.specs.declared.counts.Counts.{Counts as Counted}

-- how many packets were asked about, in all and of each kind
pub record AreCounts (asked : List Asked) (counts : Counted) : Type 0 where
  pub all : counts.all ≡ count Any asked
  pub kinds : (kind : PacketKind) → slice_index counts.kinds (kind_number kind) ≡ count (Only kind) asked
