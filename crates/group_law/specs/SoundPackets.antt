-- What travels in a group are sound packets, whose messages were submitted: docs/RUNTIME.md, Packets.
use Rattle.std.specs.Prelude.{List, ◌≤◌, ◌<◌, ◌*◌}
use Rattle.orca_base.specs.declared.limits.TheConstants.{NODES}
use Rattle.group_packets.specs.Sound.{IsSoundPacket}
use Rattle.group_rules.specs.Sets.{In}
use Rattle.group_rules.specs.Messages.{Group}
use Rattle.group_rules.specs.Member.{Packet}
use Rattle.group_rules.specs.OnWire.{on_wire}
use Rattle.group_rules.specs.World.{GroupWorld, Event, Sent, run, opening}

-- the message was submitted by its process
abbrev pub IsSubmitted : {M : Type 0} → Group M → GroupWorld M → M → Type 0
IsSubmitted g w x = In x (w.past.submitted (g.process x))

-- no packet of the group has a reply
abbrev pub IsReply : {R : Type 0} → R → Type 0
IsReply reply = ⊥

-- so a packet is sound by whatever holds of each message that was submitted
abbrev pub SoundLaw : Type 0 → Type 0 → Type 0
SoundLaw M R =
    (g : Group M) → 2 * g.resilience < g.nodes → g.nodes ≤ NODES → (events : List (Event M)) (q : Packet M) →
    Sent (run g opening events).past.letters q
    → IsSoundPacket {R = R} (IsSubmitted g (run g opening events)) IsReply (on_wire g.nodes q.inc q.kind)
