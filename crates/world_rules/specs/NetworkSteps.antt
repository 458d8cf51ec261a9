-- Single steps of the network: packets that are held, repeated or cut, an exchange of the wire, a crash, a suspicion.
use Rattle.std.specs.Prelude.{◌≡◌, ℕ, true, false, List, [], ◌∷◌, length, map}
use Rattle.group_packets.specs.declared.packet.PacketKind.TheVariants as kind
use Rattle.group_packets.specs.declared.packet.Packet.TheVariants as packet
use Rattle.net_rules.specs.declared.flight.Flight.{Flight}
use Rattle.net_rules.specs.declared.fate.Fate.{Fate}
use Rattle.net_rules.specs.declared.fate.Fate.TheVariants as fate
use Rattle.group_rules.specs.OnWire.{Posted}
use Rattle.value_core.specs.declared.action.Reply.{Reply}
use Rattle.value_core.specs.declared.message.Message.{Message}
use Rattle.world_rules.specs.Mail.{Carried, posted}
use Rattle.world_rules.specs.Nodes.{Node, NodeWork, mails_of}
use Rattle.world_rules.specs.OneCell.{at_place, one_cell, passes}
use Rattle.world_rules.specs.Parts.{suspects}
use Rattle.world_rules.specs.Programs.{make}
use Rattle.world_rules.specs.Scenes.{Scene, Unfolds, act, both, burst, crash, deliver, one, second_copy, suspect, swap, tick, world_after}
use Rattle.world_rules.specs.Standings.{is_quiet}
use Rattle.world_rules.specs.Steps.{asked_of, lives_in, may_deliver, may_swap}
use Rattle.world_rules.specs.Worlds.{World, opening_world}

-- the run of one cell up to its first message, whose two packets have these fates, and on
abbrev pub begun : List Fate → List Scene → List Scene
begun fates more = burst 0 0 [] (at_place [] 0 make) ∷ act 0 fates ∷ more

abbrev pub world_with : List Fate → List Scene → World
world_with fates more = world_after one_cell (opening_world one_cell) (begun fates more)

abbrev pub goes : List Fate → List Scene → Type 0
goes fates more = Unfolds one_cell (opening_world one_cell) (begun fates more)

-- number, copy and ticks of what is in flight
abbrev pub in_flight : World → List (ℕ × ℕ × ℕ)
in_flight w = map (λ (f : Flight Carried). (f.number, f.copy, f.ticks)) w.flights

-- how many entries a member's log has
abbrev pub entries_at : World → ℕ → ℕ
entries_at w m = length (w.nodes m).member.log

-- ---- the first packet is held for two ticks, the second comes twice

abbrev pub held_and_twice : List Fate
held_and_twice = fate.Hold 2 ∷ fate.Twice ∷ []

abbrev pub drops : List Fate
drops = fate.Drop ∷ fate.Drop ∷ fate.Drop ∷ fate.Drop ∷ []

-- at a tick the sequencer tells the others what is accepted, and they tell it how far they are; all that is lost here
abbrev pub until_ready : List Scene
until_ready = deliver 2 [] ∷ second_copy 2 [] ∷ tick drops ∷ tick drops ∷ deliver 1 one ∷ []

pub record HeldAndRepeated : Type 0 where
  pub flights : in_flight (world_with held_and_twice []) ≡ (1, 0, 2) ∷ (2, 0, 0) ∷ (2, 1, 0) ∷ []
  -- the held one can't be delivered, and either copy of the other can
  pub held : may_deliver (world_with held_and_twice []) 1 0 ≡ false
  pub first : may_deliver (world_with held_and_twice []) 2 0 ≡ true
  pub second : may_deliver (world_with held_and_twice []) 2 1 ≡ true
  -- a repeat adds no entry
  pub once : entries_at (world_with held_and_twice (deliver 2 [] ∷ [])) 2 ≡ 1
  pub again : entries_at (world_with held_and_twice (deliver 2 [] ∷ second_copy 2 [] ∷ [])) 2 ≡ 1
  -- then the moment is quiet, though a packet is held; after two ticks that one comes, and is acknowledged
  pub quiet : is_quiet one_cell (world_with held_and_twice (deliver 2 [] ∷ second_copy 2 [] ∷ [])) ≡ true
  pub busy : is_quiet one_cell (world_with held_and_twice (deliver 2 [] ∷ [])) ≡ false
  pub ticked : in_flight (world_with held_and_twice (deliver 2 [] ∷ second_copy 2 [] ∷ tick drops ∷ [])) ≡ (1, 0, 1) ∷ []
  pub goes : goes held_and_twice until_ready
  pub came : entries_at (world_with held_and_twice until_ready) 1 ≡ 1
  pub answered : in_flight (world_with held_and_twice until_ready) ≡ (11, 0, 0) ∷ []
  -- a packet that is held for no tick passes
  pub at_once : in_flight (world_with (fate.Hold 0 ∷ fate.Drop ∷ []) []) ≡ (1, 0, 0) ∷ []

-- ---- the first packet has 52 bytes: cut to 51 it is lost, cut to 52 it is whole

abbrev pub cuts : List Fate
cuts = fate.Cut 51 ∷ fate.Cut 52 ∷ []

pub record CutShort : Type 0 where
  pub goes : goes cuts (deliver 1 [] ∷ deliver 2 [] ∷ [])
  pub lost : entries_at (world_with cuts (deliver 1 [] ∷ deliver 2 [] ∷ [])) 1 ≡ 0
  pub whole : entries_at (world_with cuts (deliver 1 [] ∷ deliver 2 [] ∷ [])) 2 ≡ 1
  pub none : in_flight (world_with cuts (deliver 1 [] ∷ deliver 2 [] ∷ [])) ≡ []

-- ---- of two wires the second takes over after a swap, and there is no other

pub record Exchanged : Type 0 where
  pub goes : goes both (swap ∷ deliver 1 one ∷ [])
  pub first_wire : asked_of 0 (world_with both (swap ∷ deliver 1 one ∷ [])).told ≡ passes 1 kind.Entry 0 1 52 ∷
      passes 2 kind.Entry 0 2 52 ∷ []
  pub second_wire : asked_of 1 (world_with both (swap ∷ deliver 1 one ∷ [])).told ≡ passes 3 kind.Ack 1 0 25 ∷ []
  pub one : may_swap one_cell (world_with both []) ≡ true
  pub no_other : may_swap one_cell (world_with both (swap ∷ [])) ≡ false

-- ---- member 1 crashes: it crashes once, a packet to it comes and changes nothing on members, and others go on

pub record Crashed : Type 0 where
  pub goes : goes both (crash 1 ∷ deliver 1 [] ∷ deliver 2 [] ∷ [])
  pub before : lives_in one_cell (world_with both []) 1 ≡ true
  pub after : lives_in one_cell (world_with both (crash 1 ∷ [])) 1 ≡ false
  pub stays : (world_with both (crash 1 ∷ deliver 1 [] ∷ [])).nodes 1 ≡ (world_with both []).nodes 1
  pub gone : in_flight (world_with both (crash 1 ∷ deliver 1 [] ∷ [])) ≡ (2, 0, 0) ∷ []
  pub other : entries_at (world_with both (crash 1 ∷ deliver 1 [] ∷ deliver 2 [] ∷ [])) 2 ≡ 1
  -- no member has a number of N or more
  pub nobody : lives_in one_cell (world_with both []) 3 ≡ false

-- ---- member 1 is suspected: it coordinates incarnation 4, and invites the others. An outside member does nothing

abbrev pub invites : List (Posted Message Reply)
invites = record { from = 1; to = 0; packet = packet.Invite 4 } ∷ record { from = 1; to = 2; packet = packet.Invite 4 } ∷ []

abbrev pub suspecting : NodeWork
suspecting = suspects one_cell 1 ((opening_world one_cell).nodes 1)

abbrev pub outside_node : Node
outside_node =
    record ((opening_world one_cell).nodes 1) { member = record ((opening_world one_cell).nodes 1).member { outside = true } }

pub record Suspected : Type 0 where
  pub goes : goes both (suspect 1 both ∷ [])
  pub promised : suspecting.node.member.promised ≡ 4
  pub posts : map (posted 3) (mails_of suspecting.deeds) ≡ invites
  pub outside : (suspects one_cell 1 outside_node).deeds ≡ []
