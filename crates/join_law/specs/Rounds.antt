-- The rounds that the command does beside a run, and what its second wire is asked (docs/RUNTIME.md, A member that joins late). The
-- follower has the number behind the members'. What travels between it and them, and when, is said by net_rules' definitions of packets in
-- flight, whose ticks are rounds here.
use Rattle.std.specs.Prelude.{◌≡◌, ◌+◌, ◌*◌, ◌%◌, ◌&&◌, not, nat_le, nat_lt, if◌then◌else◌, ℕ, zero, suc, Bool, true, List, [], ◌∷◌, ◌++◌, length, Option, None, Some, slice_get}
use Rattle.std.specs.List.{filter}
use Rattle.object_manager.specs.After.{Copied, opening_copies}
use Rattle.group_packets.specs.Packet.{stopped}
use Rattle.group_packets.specs.declared.packet.PacketKind.{PacketKind}
use Rattle.group_packets.specs.declared.packet.PacketKind.TheVariants as kind
use Rattle.net_rules.specs.Asked.{packet_asked}
use Rattle.net_rules.specs.Flights.{copies, is_ready, joined, ticked}
use Rattle.net_rules.specs.Passing.{passes}
use Rattle.net_rules.specs.declared.asked.Asked.{Asked}
use Rattle.net_rules.specs.declared.asked.Asked.TheVariants as asked
use Rattle.net_rules.specs.declared.fate.Fate.{Fate}
use Rattle.net_rules.specs.declared.fate.Fate.TheVariants.{Pass}
use Rattle.net_rules.specs.declared.flight.Flight.{Flight}
use Rattle.group_join.specs.declared.packet.JoinPacket.{JoinPacket}
use Rattle.group_join.specs.declared.packet.JoinPacket.TheVariants.{Seek, State, Next as Gives}
use Rattle.group_join.specs.Following.{follows}
use Rattle.group_join.specs.Seeking.{answer_of}
use Rattle.group_join.specs.Spelling.{join_spelling}
use Rattle.world_rules.specs.declared.event.Step.{Step}
use Rattle.world_rules.specs.Frame.{Frame}
use Rattle.world_rules.specs.Mail.{is_whole_at}
use Rattle.world_rules.specs.Steps.{Next, lives_in}
use Rattle.world_rules.specs.Worlds.{World, agreed, opening_world}

-- ---- what travels

-- a packet, and to how many bytes it was cut, if it was
pub record Carried : Type 0 where
  pub packet : JoinPacket
  pub cut : Option ℕ

abbrev pub carried : JoinPacket → Carried
carried packet = record { packet = packet; cut = None }

abbrev pub cut_to : ℕ → Carried → Carried
cut_to length one = record one { cut = Some length }

-- as which kind the wire is told of it, and the number of its bytes, as a wire is told it
abbrev pub kind_of : JoinPacket → PacketKind
kind_of (Seek applied) = kind.Status
kind_of (State state) = kind.Result
kind_of (Gives number message) = kind.Entry

abbrev pub bytes_in : JoinPacket → ℕ
bytes_in packet = stopped (length (join_spelling packet))

-- it is whole where it wasn't cut, or to no fewer bytes than it has
abbrev pub is_whole : Carried → Bool
is_whole one = is_whole_at (bytes_in one.packet) one.cut

-- it is held back
abbrev pub is_held : Flight Carried → Bool
is_held one = not (is_ready one)

-- ---- how far the follower came: its copies; what is held back, and what the wire was asked, both in order of number; how many states it
-- took; and how many rounds it did
pub record Rounding : Type 0 where
  pub copies : Copied
  pub held : List (Flight Carried)
  pub asked : List Asked
  pub states : ℕ
  pub rounds : ℕ

abbrev pub opening_rounding : Rounding
opening_rounding = record { copies = opening_copies; held = []; asked = []; states = 0; rounds = 0 }

-- ---- fates: the n-th question is answered by the n-th

abbrev pub or_passes : Option Fate → Fate
or_passes None = Pass
or_passes (Some fate) = fate

abbrev pub fate_in : List Fate → ℕ → Fate
fate_in fates n = or_passes (slice_get fates n)

-- the packet that was asked about passes; no acts are asked for
abbrev pub has_passed : Asked → Bool
has_passed (asked.Packet question fate) = passes question.length fate
has_passed (asked.Act event_number act) = true

-- ---- a packet is sent. Packets are numbered from 1

-- its copies
abbrev pub flights_of : ℕ → ℕ → JoinPacket → Fate → Rounding → List (Flight Carried)
flights_of from to packet fate u = copies cut_to (suc (length u.asked)) from to (carried packet) fate

-- the wire is asked about it, and what is held back of it joins what was
abbrev pub asks : ℕ → ℕ → JoinPacket → Fate → Rounding → Rounding
asks from to packet fate u = record u {
  held = joined (suc (length u.asked)) (filter is_held (flights_of from to packet fate u)) u.held;
  asked = u.asked ++ packet_asked (suc (length u.asked)) (kind_of packet) from to (bytes_in packet) fate ∷ [];
}

-- these come one after the other, each to its receiver; one that was cut is lost
abbrev pub come_to : (ℕ → JoinPacket → Rounding → Rounding) → List (Flight Carried) → Rounding → Rounding
come_to reach [] u = u
come_to reach (one ∷ more) u = come_to reach more (if is_whole one.packet then reach one.to one.packet.packet u else u)

-- what isn't held back comes at once
abbrev pub posts_as : Fate → ℕ → ℕ → JoinPacket → (ℕ → JoinPacket → Rounding → Rounding) → Rounding → Rounding
posts_as fate from to packet reach u = come_to reach (filter is_ready (flights_of from to packet fate u)) (asks from to packet fate u)

abbrev pub posts : List Fate → ℕ → ℕ → JoinPacket → (ℕ → JoinPacket → Rounding → Rounding) → Rounding → Rounding
posts fates from to packet reach u = posts_as (fate_in fates (length u.asked)) from to packet reach u

-- ---- a packet comes

-- to the follower, which counts the states that it takes
abbrev pub takes_state : Copied → JoinPacket → ℕ
takes_state c (Seek applied) = 0
takes_state c (State state) = if nat_lt c.applied state.applied then 1 else 0
takes_state c (Gives number message) = 0

abbrev pub comes : Frame → JoinPacket → Rounding → Rounding
comes f packet u = record u { copies = follows f.performs u.copies packet; states = u.states + takes_state u.copies packet }

-- a Seek to a member, which answers at once where it lives and isn't outside
abbrev pub can_answer : Frame → World → ℕ → Bool
can_answer f w m = lives_in f w m && not (w.nodes m).member.outside

abbrev pub posts_answer : Frame → List Fate → ℕ → Option JoinPacket → Rounding → Rounding
posts_answer f fates m None u = u
posts_answer f fates m (Some packet) u = posts fates m f.settings.nodes packet (λ to one. comes f one) u

abbrev pub is_sought : Frame → List Fate → World → ℕ → ℕ → Rounding → Rounding
is_sought f fates w m applied u =
    if can_answer f w m then posts_answer f fates m (answer_of (w.nodes m).member (w.nodes m).copies applied) u else u

-- either
abbrev pub arrives : Frame → List Fate → World → ℕ → JoinPacket → Rounding → Rounding
arrives f fates w to (Seek applied) u = is_sought f fates w to applied u
arrives f fates w to (State state) u = comes f (State state) u
arrives f fates w to (Gives number message) u = comes f (Gives number message) u

-- ---- a round: what is held back comes nearer by one, and what is ready then comes, in order of number; then the follower asks a member

abbrev pub still : Rounding → List (Flight Carried)
still u = filter is_held (ticked u.held)

abbrev pub due : Rounding → List (Flight Carried)
due u = filter is_ready (ticked u.held)

abbrev pub releases : Frame → List Fate → World → Rounding → Rounding
releases f fates w u = come_to (arrives f fates w) (due u) (record u { held = still u })

abbrev pub seeks : Frame → List Fate → World → ℕ → Rounding → Rounding
seeks f fates w m u = posts fates f.settings.nodes m (Seek u.copies.applied) (arrives f fates w) u

abbrev pub round : Frame → List Fate → World → ℕ → Rounding → Rounding
round f fates w m u = record (seeks f fates w m (releases f fates w u)) { rounds = suc u.rounds }

-- ---- beside a run: after each event from this one on a round with the next member in turn

abbrev pub turns : Frame → List Fate → ℕ → World → ℕ → Rounding → Rounding
turns f fates start w n u = if nat_le start n then round f fates w (u.rounds % f.settings.nodes) u else u

-- the steps, of which the first has this number, lead on, and the follower comes so far
abbrev pub Alongside : Frame → List Fate → ℕ → ℕ → World → List Step → Rounding → World → Rounding → Type 0
Alongside f fates start n w [] u v z = (v ≡ w) × (z ≡ u)
Alongside f fates start n w (step ∷ steps) u v z =
    (x : World) × Next f w step x × Alongside f fates start (suc n) x steps (turns f fates start x n u) v z

-- ---- when the run has ended

-- the living member that isn't outside with the greatest applied number, the lowest such one
abbrev pub further : World → ℕ → Option ℕ → ℕ
further w m None = m
further w m (Some k) = if nat_lt (w.nodes k).member.applied (w.nodes m).member.applied then m else k

abbrev pub ahead : Frame → World → ℕ → Option ℕ
ahead f w zero = None
ahead f w (suc m) = if can_answer f w m then Some (further w m (ahead f w m)) else ahead f w m

-- rounds go to it until the follower has applied as much, at most so many
abbrev pub catches_up : Frame → List Fate → World → ℕ → ℕ → Rounding → Rounding
catches_up f fates w m zero u = u
catches_up f fates w m (suc n) u =
    if nat_le (w.nodes m).member.applied u.copies.applied then u else catches_up f fates w m n (round f fates w m u)

abbrev pub most_rounds : World → ℕ → ℕ
most_rounds w m = 2 * (w.nodes m).member.applied + 64

abbrev pub ends_with : Frame → List Fate → World → Option ℕ → Rounding → Rounding
ends_with f fates w None u = u
ends_with f fates w (Some m) u = catches_up f fates w m (most_rounds w m) u

-- the number that is printed behind the follower's own
abbrev pub last_number : Frame → World → Option ℕ → ℕ
last_number f w None = length (agreed f w)
last_number f w (Some m) = (w.nodes m).member.applied

-- ---- the two halves: beside the run of these steps, which leads to this world, and behind it

abbrev pub BesideRun : Frame → ℕ → List Fate → List Step → World → Rounding → Type 0
BesideRun f start fates steps w u = Alongside f fates start 1 (opening_world f) steps opening_rounding w u

abbrev pub BehindRun : Frame → List Fate → World → Rounding → Rounding → Type 0
BehindRun f fates w u z = z ≡ ends_with f fates w (ahead f w f.settings.nodes) u

-- all rounds, with a fate for each question
pub record Rounds (f : Frame) (start : ℕ) (fates : List Fate) (steps : List Step) (w : World) (z : Rounding) : Type 0 where
  pub before : Rounding
  pub along : BesideRun f start fates steps w before
  pub end : BehindRun f fates w before z
  pub fates_are : length fates ≡ length z.asked
