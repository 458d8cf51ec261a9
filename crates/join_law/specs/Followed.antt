-- What a member that joins late does beside a run (docs/RUNTIME.md, A member that joins late). Its packets may be lost, repeated and
-- reordered, and come at any time.
use Rattle.std.specs.Prelude.{◌≡◌, ◌<◌, ℕ, List, [], ◌∷◌, Some}
use Rattle.object_manager.specs.After.{Copied, opening_copies}
use Rattle.book_law.specs.Events.{In}
use Rattle.group_join.specs.declared.packet.JoinPacket.{JoinPacket}
use Rattle.group_join.specs.declared.packet.JoinPacket.TheVariants.{Seek}
use Rattle.group_join.specs.Seeking.{answer_of}
use Rattle.group_join.specs.Following.{follows}
use Rattle.world_rules.specs.declared.event.Step.{Step}
use Rattle.world_rules.specs.Frame.{Frame}
use Rattle.world_rules.specs.Steps.{Next}
use Rattle.world_rules.specs.Worlds.{World, opening_world}

-- the world of the run, the follower's copies, and the join packets that were ever sent, the last first
pub record Joining : Type 0 where
  pub world : World
  pub copies : Copied
  pub sent : List JoinPacket

abbrev pub opening_joining : Frame → Joining
opening_joining f = record { world = opening_world f; copies = opening_copies; sent = [] }

-- the run does a step; the follower asks for the entry behind so many; a member answers that; a packet comes to the follower
pub data Move : Type 0 where
  Happens : (step : Step) → Move
  Seeks : (applied : ℕ) → Move
  Responds : (member applied : ℕ) (packet : JoinPacket) → Move
  Comes : (packet : JoinPacket) → Move

abbrev pub sends : JoinPacket → Joining → Joining
sends packet u = record { world = u.world; copies = u.copies; sent = packet ∷ u.sent }

abbrev pub receives : Frame → JoinPacket → Joining → Joining
receives f packet u = record { world = u.world; copies = follows f.performs u.copies packet; sent = u.sent }

-- any step that is possible may happen; any number may be asked for; any member, also one that crashed or is outside, may answer any Seek
-- that was ever sent; any packet that was ever sent may come, again and in any order
abbrev pub Moves : Frame → Joining → Move → Joining → Type 0
Moves f u (Happens step) v = (w : World) × Next f u.world step w × (v ≡ record { world = w; copies = u.copies; sent = u.sent })
Moves f u (Seeks applied) v = v ≡ sends (Seek applied) u
Moves f u (Responds member applied packet) v =
    (member < f.settings.nodes)
    × In (Seek applied) u.sent
    × (answer_of (u.world.nodes member).member (u.world.nodes member).copies applied ≡ Some packet)
    × (v ≡ sends packet u)
Moves f u (Comes packet) v = In packet u.sent × (v ≡ receives f packet u)

-- one move after the other
abbrev pub Followed : Frame → Joining → List Move → Joining → Type 0
Followed f u [] v = v ≡ u
Followed f u (move ∷ moves) v = (t : Joining) × Moves f u move t × Followed f t moves v
