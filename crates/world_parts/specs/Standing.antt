-- How a run in code stands for a world.
use Rattle.std.specs.Prelude.{◌≡◌, ◌≤◌, ◌<◌, ◌^◌, ◌-◌, ◌*◌, ℕ, Bool, true, false, List, map, length, take, Option, None, Some, slice_get, is_some, option_map}
use Rattle.std.specs.List.{AllByRecursion as Each}
use Rattle.value_core.specs.Meaning.{Computes, Performs}
use Rattle.book_law.specs.Performed.{Performed}
use Rattle.net_rules.specs.Flights.{seen}
use Rattle.net_rules.specs.declared.flight.Flight.{Flight}
use Rattle.packet_bytes.specs.Sound.{IsPacket}
use Rattle.packet_bytes.specs.Spelling.{packet_spelling}
use Rattle.world_rules.specs.Frame.{AreSettings, Frame}
use Rattle.world_rules.specs.Mail.{Carried, Mail, bytes_in, posted}
use Rattle.world_rules.specs.Steps.{Replays, objects_after}
use Rattle.world_rules.specs.Worlds.{World, agreed, singles_in}
use Rattle.object_manager.specs.Viewed.{Viewed}
use Rattle.world_book.specs.Holding.{RunsGoOn, RunsHold}
use Rattle.world_book.specs.Promise.{ReplaysAreOne, RunsAreKept, RunsEndStuck}
use Rattle.world_book.specs.Sounding.{RunsSound}
use Rattle.world_book.specs.Submitting.{ProcessesMaySubmit}
use Rattle.world_facts.specs.Counted.{AllCounted}
use Rattle.world_facts.specs.Ends.{EndsMean}
use Rattle.world_facts.specs.Processes.{AllBegin, AllStand, HomesAreMembers}
use Rattle.world_facts.specs.Rows.{AllRead}
use Rattle.world_law.specs.Counts.{AllCount}
use Rattle.world_law.specs.Homes.{AllHome}
use Rattle.world_law.specs.Lists.{AllGrow}
use Rattle.world_law.specs.Packets.{AllNumber}
use Rattle.world_law.specs.SoundPackets.{AllLettersSound}
use Rattle.world_places.specs.Explained.{RunsHavePlaces}
use Rattle.world_places.specs.Told.{RunsTellPlaces}
use Rattle.run_law.specs.Growing.{EventsGrow}
use Rattle.run_law.specs.Limits.{AllStopBefore}
use Rattle.run_law.specs.Parts.{AllTicksApart, InAllParts}
use Rattle.run_law.specs.Replies.{RepliesOffBooks}
use Rattle.run_law.specs.Sending.{SendsOwn}
use Rattle.node_core.specs.Pieces.{resident_at}
use Rattle.node_parts.specs.Shown.{Left, Stood}
use Rattle.node_core.specs.Stands.{StandsAs}
use Rattle.node_core.specs.declared.node.Node.{Node}
use Rattle.node_parts.specs.declared.resident.Resident.{Resident}
use Rattle.node_parts.specs.declared.resident.Stage.TheVariants.{Computing}
use Rattle.world_rules.specs.declared.settings.Settings.{Settings}
use Rattle.world_parts.specs.declared.parts.Numbers.{Numbers}
use Rattle.world_parts.specs.declared.parts.Parts.{Parts}
use Rattle.world_parts.specs.Seen.{Out, Seen, tasks_out}

-- ---- packets on their way

-- bytes, but for those that were cut off
abbrev pub cut_at : Option ℕ → List ℕ → List ℕ
cut_at None bytes = bytes
cut_at (Some length) bytes = take length bytes

-- a letter as it travels
abbrev pub spelled : ℕ → Carried → List ℕ
spelled nodes one = cut_at one.cut (packet_spelling (posted nodes one.mail).packet)

-- a letter can be read where it is whole, and a wire was told its length
pub record CanBeRead (nodes : ℕ) (mail : Mail) : Type 0 where
  pub packet : IsPacket (posted nodes mail).packet
  pub short : bytes_in (posted nodes mail).packet < 2 ^ 32 - 1

-- ---- tasks

abbrev pub has_out : {S : Type 0} → Option (Resident S) → Bool
has_out None = false
has_out (Some s) = is_some s.out

-- its task that is out, as contracts see it
abbrev pub out_of : {S : Type 0} → Option (Resident S) → Option (Out S)
out_of None = None
out_of (Some s) = option_map (λ view. record { start = s.state; calls = s.calls; view = view }) s.out

abbrev pub outs_of : {P S : Type 0} → Node P S → List (Option (Out S))
outs_of s = map out_of s.residents.items

-- a process of member m, which lives, computes, and its task is over this view: of the member's objects at a place that it applied, which
-- isn't before the process's
pub record IsTask {S : Type 0} (f : Frame) (w : World) (m : ℕ) (s : Resident S) (view : Viewed) : Type 0 where
  pub lives : w.lives m ≡ true
  pub computing : s.stage ≡ Computing
  pub after : s.place ≤ view.place
  pub before : view.place ≤ (w.nodes m).member.applied
  pub objects : view.objects ≡ objects_after f (w.nodes m) view.place

-- ---- a run

-- as contracts see it
abbrev pub seen_of : {P S : Type 0} → Parts P S → Seen S
seen_of s = record { steps = s.ledger.steps; out = map outs_of s.nodes.items }

-- it is this world, to which its steps lead
pub record IsWorld {P S : Type 0} (stood : Stood S) (left : Left S) (f : Frame) (s : Parts P S) (w : World) : Type 0 where
  pub replays : Replays f s.ledger.steps w
  pub members : length s.nodes.items ≡ f.settings.nodes
  pub nodes : (m : ℕ) (node : Node P S) → slice_get s.nodes.items m ≡ Some node → StandsAs stood left f m node (w.nodes m)
  pub all : length s.lives.items ≡ f.settings.nodes
  pub living : (m : ℕ) (b : Bool) → slice_get s.lives.items m ≡ Some b → b ≡ w.lives m
  pub flights : s.net.flights ≡ map (seen (spelled f.settings.nodes)) w.flights
  pub read : Each (λ (flight : Flight Carried). CanBeRead f.settings.nodes flight.packet.mail) w.flights
  pub entries : s.ledger.entries ≡ agreed f w
  pub performed : Performed (singles_in f w) f.performs (agreed f w) w.aside s.ledger.performed
  pub sent : s.sent ≡ w.sent
  pub swaps : s.swaps ≡ w.swaps
  pub idle : s.idle ≡ w.idle
  -- an event sends less than 2^32 packets, and is at most one idle tick
  pub few : s.sent ≤ 2 ^ 32 * length s.ledger.steps
  pub ticks : s.idle ≤ length s.ledger.steps
  -- each task that is out can be checked in, and there is room for it
  pub tasks :
      (m i : ℕ) (node : Node P S) (r : Resident S) (view : Viewed) → slice_get s.nodes.items m ≡ Some node →
      resident_at node i ≡ Some r → r.out ≡ Some view → IsTask f w m r view
  pub step_room : tasks_out (seen_of s) ≤ s.ledger.step_room
  pub piece_room : tasks_out (seen_of s) ≤ s.ledger.piece_room

-- whichever world it is, this is so of it
abbrev pub Is : {P S : Type 0} → Stood S → Left S → Frame → Parts P S → (World → Type 0) → Type 0
Is stood left f s says = (w : World) → IsWorld stood left f s w → says w

-- what is so of each run of a program with these meanings
pub record Laws (p : Performs) (q : Computes) : Type 0 where
  pub kept : RunsAreKept p q
  pub hold : RunsHold p q
  pub go : RunsGoOn p q
  pub sound : RunsSound p q
  pub stuck : RunsEndStuck p q
  pub may : ProcessesMaySubmit p q
  pub one : ReplaysAreOne q
  pub mean : EndsMean q
  pub stops : AllStopBefore p q
  pub own : InAllParts p q SendsOwn
  pub apart : AllTicksApart
  pub grow : EventsGrow p q
  pub replies : RepliesOffBooks p q
  pub lists : AllGrow
  pub numbers : AllNumber
  pub letters : AllLettersSound
  pub home : AllHome
  pub count : AllCount
  pub read : AllRead
  pub counted : AllCounted
  pub begin : AllBegin
  pub stand : AllStand
  pub homes : HomesAreMembers
  pub places : RunsHavePlaces p q
  pub told : RunsTellPlaces p q

-- the numbers of a run's settings
pub record HasNumbers (s : Numbers) (settings : Settings) : Type 0 where
  pub nodes : s.nodes ≡ settings.nodes
  pub resilience : s.resilience ≡ settings.resilience
  pub turns : s.turns ≡ settings.turns
  pub events : s.events ≡ settings.events
  pub wires : s.wires ≡ settings.wires

-- it is some world of a run of this program
pub record Stands {P S : Type 0} (stood : Stood S) (left : Left S) (f : Frame) (s : Parts P S) : Type 0 where
  pub numbers : HasNumbers s.numbers f.settings
  pub settings : AreSettings f.settings
  pub laws : Laws f.performs f.computes
  pub world : World
  pub is : IsWorld stood left f s world
