-- Scripts and what they answer, computed.
use Rattle.std.specs.Prelude.{List, [], ◌∷◌, Option}
use Rattle.group_packets.specs.declared.packet.PacketKind.{PacketKind}
use Rattle.group_packets.specs.declared.packet.PacketKind.TheVariants.{Entry, Accept}
use Rattle.net_rules.specs.declared.fate.Fate.TheVariants.{Pass, Drop, Twice, Hold}
use Rattle.net_rules.specs.declared.fate.WireAct.{WireAct}
use Rattle.net_rules.specs.declared.fate.WireAct.TheVariants.{Crash, Suspect, Swap}
use Rattle.net_rules.specs.declared.asked.Asked.{Asked}
use Rattle.net_rules.specs.declared.asked.Asked.TheVariants.{Packet, Act}
use Rattle.net_rules.specs.declared.line.Kinds.TheVariants.{Any, Only}
use Rattle.net_rules.specs.declared.line.Which.TheVariants.{All, Nth}
use Rattle.net_rules.specs.declared.line.ScriptLine.{ScriptLine}
use Rattle.net_rules.specs.declared.line.ScriptLine.TheVariants as says

-- a packet of this kind was asked about
abbrev pub packet : PacketKind → Asked
packet kind = Packet (record { packet = 1; kind = kind; from = 0; to = 1; length = 64 }) Pass

-- the wire was asked what it does, and did this
abbrev pub act : Option WireAct → Asked
act done = Act 1 done

-- `drop entry 2`, `hold any 3 2`, `twice accept all`
abbrev pub faults : List ScriptLine
faults = says.Fate (Only Entry) (Nth 2) Drop ∷ says.Fate Any (Nth 3) (Hold 2) ∷ says.Fate (Only Accept) All Twice ∷ []

-- `crash 0 entry 2`, `swap any 1`, `suspect 1 any 1`
abbrev pub acts : List ScriptLine
acts = says.Act (Only Entry) 2 (Crash 0) ∷ says.Act Any 1 Swap ∷ says.Act Any 1 (Suspect 1) ∷ []

-- `seed 7 100`, and `seed 7 0`
abbrev pub all_lost : List ScriptLine
all_lost = says.Fate (Only Entry) All Twice ∷ says.Seed 7 100 ∷ []

abbrev pub none_lost : List ScriptLine
none_lost = says.Seed 7 0 ∷ []
