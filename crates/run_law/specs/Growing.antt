-- What an event adds to the list of a run and to what was performed.
use Rattle.std.specs.Prelude.{◌≡◌, ◌<◌, ◌≤◌, ◌+◌, ◌-◌, ◌&&◌, ℕ, zero, suc, max, if◌then◌else◌, All, List, [], ◌∷◌, ◌++◌, length, take, drop, Option, None, Some, slice_get}
use Rattle.value_core.specs.Meaning.{Computes, Performs}
use Rattle.value_core.specs.declared.action.Line.{Line}
use Rattle.value_core.specs.declared.message.Message.{Message}
use Rattle.book_law.specs.Book.{aside_at, copies_at}
use Rattle.book_law.specs.Events.{In}
use Rattle.book_law.specs.Passes.{lines_after}
use Rattle.book_law.specs.Performed.{Performed, placed}
use Rattle.book_law.specs.declared.placing.Placed.{Placed}
use Rattle.net_rules.specs.declared.flight.Flight.{Flight}
use Rattle.net_rules.specs.Flights.{ready_copy}
use Rattle.world_rules.specs.declared.event.Event.{Event}
use Rattle.world_rules.specs.declared.event.Event.TheVariants as event
use Rattle.world_rules.specs.declared.event.Step.{Step}
use Rattle.world_rules.specs.declared.standing.Standing.TheVariants.{Going}
use Rattle.world_rules.specs.Frame.{AreSettings, Frame}
use Rattle.world_rules.specs.Mail.{Carried, is_whole, receiver_of}
use Rattle.world_rules.specs.Nodes.{aside_of, entries_of}
use Rattle.world_rules.specs.Standings.{standing}
use Rattle.world_rules.specs.Steps.{Known, Possible, Replays, happens, lives_in}
use Rattle.world_rules.specs.Worlds.{World, agreed, home_of, singles_in}
use Rattle.node_rules.specs.Entries.{told_lines}
use Rattle.node_rules.specs.Starts.{Start, part}
use Rattle.node_rules.specs.Starts.Start.{Acts as ActsOf, Comes, Ticks, Suspects}
use Rattle.run_law.specs.Parts.{InParts}

-- ---- the list

-- from w to u it grows at its end; a member's entries, as its copies applied them, begin it, and some member applied all of it; and nothing
-- beside it has a place behind it
pub record ListGrows (f : Frame) (w u : World) : Type 0 where
  pub more : List Message
  pub grew : agreed f u ≡ agreed f w ++ more
  pub begin : (m : ℕ) → m < f.settings.nodes → entries_of (u.nodes m) ≡ take (u.nodes m).copies.applied (agreed f u)
  pub within : (m : ℕ) → m < f.settings.nodes → (u.nodes m).copies.applied ≤ length (agreed f u)
  pub some : (m : ℕ) × (m < f.settings.nodes) × ((u.nodes m).copies.applied ≡ length (agreed f u))
  pub beside : (r : Placed) → In r u.aside → r.place ≤ length (agreed f u)

-- ---- what a member's part tells

-- the lines of the entry behind n entries of the list, if that is x
abbrev pub lines_at : Frame → World → ℕ → Message → List Line
lines_at f u n x = lines_after (singles_in f u) f.performs (copies_at (singles_in f u) f.performs (agreed f u) n) x

-- member m, which stood in w, did its part in an event that left u: it told just the lines that the list has of the entries that it
-- applied now, and what it performed beside the list has places up to what it applied
pub record TellsPart (f : Frame) (w u : World) (m : ℕ) (start : Start) : Type 0 where
  pub node : u.nodes m ≡ (part f m start (w.nodes m)).node
  pub count : (w.nodes m).copies.applied + length (told_lines (part f m start (w.nodes m)).deeds) ≡ (u.nodes m).copies.applied
  pub lines :
      (k : ℕ) (x : Message) → k < length (told_lines (part f m start (w.nodes m)).deeds) →
      slice_get (agreed f u) ((w.nodes m).copies.applied + k) ≡ Some x →
      slice_get (told_lines (part f m start (w.nodes m)).deeds) k ≡ Some (lines_at f u ((w.nodes m).copies.applied + k) x)
  pub beside : All (λ (r : Placed). r.place ≤ (u.nodes m).copies.applied) (aside_of (part f m start (w.nodes m)).deeds)

-- ---- what was performed

-- place by place this is what is new from w to u: at the place of an entry that is new to the list the entry's lines, and behind these, as
-- at every other place, what is new beside the list
pub record IsNew (f : Frame) (w u : World) (more : List Placed) : Type 0 where
  pub beside : List Placed
  pub grew : u.aside ≡ w.aside ++ beside
  pub old : (n : ℕ) → n ≤ length (agreed f w) → aside_at n more ≡ aside_at n beside
  pub entries :
      (n : ℕ) (x : Message) → length (agreed f w) ≤ n → slice_get (agreed f u) n ≡ Some x →
      aside_at (suc n) more ≡ lines_at f u n x ++ aside_at (suc n) beside
  pub above : (n : ℕ) → length (agreed f u) < n → aside_at n more ≡ []

-- put behind what was performed until w, it is what was performed until u
abbrev pub PerformedGrows : Frame → World → World → Type 0
PerformedGrows f w u =
    (performed more : List Placed) → Performed (singles_in f w) f.performs (agreed f w) w.aside performed → IsNew f w u more →
    Performed (singles_in f u) f.performs (agreed f u) u.aside (performed ++ more)

-- ---- what an event adds, in order

-- lines of entries at the places behind n, one group for each
abbrev pub placed_from : ℕ → List (List Line) → List Placed
placed_from n [] = []
placed_from n (lines ∷ more) = placed (suc n) lines ++ placed_from (suc n) more

-- what member m's part adds where so many entries were known: the lines of those behind them, and then what it performed beside the list
abbrev pub adds : Frame → World → ℕ → ℕ → Start → List Placed
adds f w known m start =
    let v = part f m start (w.nodes m) in
    placed_from known (drop (known - (w.nodes m).copies.applied) (told_lines v.deeds)) ++ aside_of v.deeds

-- at a tick the living members below n, one after the other: how many entries are known then, and what they added
abbrev pub tick_knows : Frame → World → ℕ → ℕ
tick_knows f w zero = length (agreed f w)
tick_knows f w (suc m) =
    if w.lives m then max (tick_knows f w m) (part f m Ticks (w.nodes m)).node.copies.applied else tick_knows f w m

abbrev pub tick_adds : Frame → World → ℕ → List Placed
tick_adds f w zero = []
tick_adds f w (suc m) = if w.lives m then tick_adds f w m ++ adds f w (tick_knows f w m) m Ticks else tick_adds f w m

-- a copy that comes
abbrev pub come_adds : Frame → World → Option (Flight Carried) → List Placed
come_adds f w None = []
come_adds f w (Some flight) =
    if is_whole f.settings.nodes flight.packet && lives_in f w (receiver_of flight.packet.mail)
    then adds f w (length (agreed f w)) (receiver_of flight.packet.mail) (Comes flight.packet.mail)
    else []

abbrev pub event_adds : Frame → World → (event : Event) → Known event → List Placed
event_adds f w (event.Burst process place turns) burst = placed place burst.reads
event_adds f w (event.Act process) nothing = adds f w (length (agreed f w)) (home_of f w process.0) (ActsOf process.0)
event_adds f w (event.Deliver packet copy) nothing = come_adds f w (ready_copy packet copy w.flights)
event_adds f w event.Tick nothing = tick_adds f w f.settings.nodes
event_adds f w (event.Crash node) nothing = []
event_adds f w (event.Suspect node) nothing = adds f w (length (agreed f w)) node Suspects
event_adds f w event.Swap nothing = []

-- ---- an event

-- in w, which leaves u; `new`, what it adds is what is new
pub record EventGrows (f : Frame) (w : World) (event : Event) (given : Known event) (u : World) : Type 0 where
  pub list : ListGrows f w u
  pub parts : InParts f w (TellsPart f w u) event
  pub performed : PerformedGrows f w u
  pub new : IsNew f w u (event_adds f w event given)

-- so it is of each possible event while a run of a program with these meanings is going, by settings that a run may have
abbrev pub EventsGrow : Performs → Computes → Type 0
EventsGrow p q =
    (f : Frame) → f.performs ≡ p → f.computes ≡ q → AreSettings f.settings → (steps : List Step) (w : World) →
    Replays f steps w → standing f w ≡ Going → (event : Event) (given : Known event) → Possible f w event given →
    EventGrows f w event given (happens f w event given).world
