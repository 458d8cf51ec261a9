-- How an event that was drafted is done: what each call changes of the parts of a run.
use Rattle.std.specs.Prelude.{◌≡◌, ◌≤◌, ◌<◌, ◌+◌, ◌-◌, ◌^◌, ◌++◌, ◌∷◌, [], ℕ, suc, Bool, false, List, length, take, is_some, true, Some, slice_get, slice_set}
use Rattle.net_rules.specs.Asked.{packet_asked}
use Rattle.net_rules.specs.Flights.{copies, joined, ready_copy, ticked, without}
use Rattle.net_rules.specs.declared.asked.Asked.{Asked}
use Rattle.net_rules.specs.declared.fate.Fate.{Fate}
use Rattle.net_rules.specs.declared.flight.Flight.{Flight}
use Rattle.world_rules.specs.declared.event.Event.{Event}
use Rattle.world_rules.specs.declared.event.Event.TheVariants as event
use Rattle.node_core.specs.CheckingIn.{HasRecalled}
use Rattle.node_parts.specs.Shown.{Left, Stood}
use Rattle.node_core.specs.Stands.{StandsAlike}
use Rattle.node_core.specs.declared.node.Node.{Node}
use Rattle.world_parts.specs.Recorded.{of_pieces}
use Rattle.world_parts.specs.declared.parts.Parts.{Parts}
use Rattle.world_core.specs.Drafting.{taken}
use Rattle.world_core.specs.declared.draft.Draft.{Draft}
use Rattle.letter_bytes.specs.declared.letters.Outgoing.{Outgoing}

-- ---- room

-- room was made, and nothing else changed; room that there was stays
pub record HasRoomMade {P S : Type 0} (old new : Parts P S) : Type 0 where
  pub numbers : new.numbers ≡ old.numbers
  pub nodes : new.nodes.items ≡ old.nodes.items
  pub lives : new.lives.items ≡ old.lives.items
  pub flights : new.net.flights ≡ old.net.flights
  pub steps : new.ledger.steps ≡ old.ledger.steps
  pub entries : new.ledger.entries ≡ old.ledger.entries
  pub performed : new.ledger.performed ≡ old.ledger.performed
  pub step_room : old.ledger.step_room ≤ new.ledger.step_room
  pub piece_room : old.ledger.piece_room ≤ new.ledger.piece_room
  pub sent : new.sent ≡ old.sent
  pub swaps : new.swaps ≡ old.swaps
  pub idle : new.idle ≡ old.idle

-- ---- the network, and who lives

-- what an event does to packets in flight
abbrev pub flights_after : {X : Type 0} → Event → List (Flight X) → List (Flight X)
flights_after (event.Deliver packet copy) flights = without packet copy flights
flights_after event.Tick flights = ticked flights
flights_after (event.Burst process place turns) flights = flights
flights_after (event.Act process) flights = flights
flights_after (event.Crash node) flights = flights
flights_after (event.Suspect node) flights = flights
flights_after event.Swap flights = flights

-- the copy is there that comes, the member that crashes, and a wire behind the one in use
abbrev pub MayLeave : {P S : Type 0} → Event → Parts P S → Type 0
MayLeave (event.Deliver packet copy) s = is_some (ready_copy packet copy s.net.flights) ≡ true
MayLeave (event.Crash node) s = node < length s.lives.items
MayLeave event.Swap s = s.swaps + 1 < 2 ^ 16
MayLeave event.Tick s = Unit {0}
MayLeave (event.Burst process place turns) s = Unit {0}
MayLeave (event.Act process) s = Unit {0}
MayLeave (event.Suspect node) s = Unit {0}

abbrev pub lives_after : Event → List Bool → List Bool
lives_after (event.Crash node) lives = slice_set lives node false
lives_after (event.Deliver packet copy) lives = lives
lives_after event.Tick lives = lives
lives_after (event.Burst process place turns) lives = lives
lives_after (event.Act process) lives = lives
lives_after (event.Suspect node) lives = lives
lives_after event.Swap lives = lives

abbrev pub swaps_after : Event → ℕ → ℕ
swaps_after event.Swap swaps = swaps + 1
swaps_after (event.Crash node) swaps = swaps
swaps_after (event.Deliver packet copy) swaps = swaps
swaps_after event.Tick swaps = swaps
swaps_after (event.Burst process place turns) swaps = swaps
swaps_after (event.Act process) swaps = swaps
swaps_after (event.Suspect node) swaps = swaps

-- that is so, and nothing else changed
pub record HasLeft {P S : Type 0} (event : Event) (old new : Parts P S) : Type 0 where
  pub others : new ≡ record old { net = new.net; lives = new.lives; swaps = new.swaps }
  pub flights : new.net.flights ≡ flights_after event old.net.flights
  pub spare : new.net.spare ≡ old.net.spare
  pub lives : new.lives.items ≡ lives_after event old.lives.items
  pub swaps : new.swaps ≡ swaps_after event old.swaps

-- ---- the tasks of a crashed member

abbrev pub MayEnd : {P S : Type 0} → Event → Parts P S → Type 0
MayEnd (event.Crash node) s = node < length s.nodes.items
MayEnd (event.Deliver packet copy) s = Unit {0}
MayEnd event.Tick s = Unit {0}
MayEnd (event.Burst process place turns) s = Unit {0}
MayEnd (event.Act process) s = Unit {0}
MayEnd (event.Suspect node) s = Unit {0}
MayEnd event.Swap s = Unit {0}

-- this member has no task out, and nothing else changed
pub record HasLost {P S : Type 0} (stood : Stood S) (left : Left S) (member : ℕ) (old new : Parts P S) : Type 0 where
  pub others : new ≡ record old { nodes = new.nodes }
  pub before : Node P S
  pub after : Node P S
  pub here : slice_get old.nodes.items member ≡ Some before
  pub nodes : new.nodes.items ≡ slice_set old.nodes.items member after
  pub recalled : HasRecalled before after
  pub alike : StandsAlike stood left before after

abbrev pub HasEnded : {P S : Type 0} → Stood S → Left S → Event → Parts P S → Parts P S → Type 0
HasEnded stood left (event.Crash node) old new = HasLost stood left node old new
HasEnded stood left (event.Deliver packet copy) old new = new ≡ old
HasEnded stood left event.Tick old new = new ≡ old
HasEnded stood left (event.Burst process place turns) old new = new ≡ old
HasEnded stood left (event.Act process) old new = new ≡ old
HasEnded stood left (event.Suspect node) old new = new ≡ old
HasEnded stood left event.Swap old new = new ≡ old

-- ---- packets

-- packets in flight, once these were sent, with the numbers behind `sent`
abbrev pub sent_all : ℕ → List Outgoing → List Fate → List (Flight (List ℕ)) → List (Flight (List ℕ))
sent_all sent (one ∷ more) (fate ∷ fates) flights =
    sent_all (suc sent) more fates (joined (suc sent) (copies take (suc sent) one.from one.to one.bytes fate) flights)
sent_all sent [] fates flights = flights
sent_all sent (one ∷ more) [] flights = flights

-- what a wire is asked of them
abbrev pub asked_all : ℕ → List Outgoing → List Fate → List Asked
asked_all sent (one ∷ more) (fate ∷ fates) =
    packet_asked (suc sent) one.kind one.from one.to one.length fate ∷ asked_all (suc sent) more fates
asked_all sent [] fates = []
asked_all sent (one ∷ more) [] = []

-- the draft is done, with these fates of its packets
pub record HasClosed {P S : Type 0} (draft : Draft P S) (old : Parts P S) (fates : List Fate) (new : Parts P S) : Type 0 where
  pub numbers : new.numbers ≡ old.numbers
  pub nodes : new.nodes.items ≡ taken draft.parts.items old.nodes.items
  pub lives : new.lives.items ≡ old.lives.items
  pub flights : new.net.flights ≡ sent_all old.sent draft.outgoing.items fates old.net.flights
  pub count : length fates ≡ length draft.outgoing.items
  pub steps : new.ledger.steps ≡ old.ledger.steps
  pub entries : new.ledger.entries ≡ old.ledger.entries ++ draft.entries.items
  pub performed : new.ledger.performed ≡ old.ledger.performed ++ of_pieces draft.pieces.items
  pub step_room : new.ledger.step_room ≡ old.ledger.step_room
  pub piece_room : new.ledger.piece_room ≡ old.ledger.piece_room - length draft.pieces.items
  pub sent : new.sent ≡ old.sent + length draft.outgoing.items
  pub swaps : new.swaps ≡ old.swaps
  pub idle : new.idle ≡ old.idle
