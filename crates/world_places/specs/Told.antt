-- How what is kept of a run tells where an operation was performed, once its number is known: an entry's lines are of messages of the list;
-- a call on a single object is on one that some member keeps beside its replicated ones; all others are reads.
use Rattle.std.specs.Prelude.{◌≡◌, ◌==◌, ◌&&◌, if◌then◌else◌, ℕ, Bool, false, List, map, is_some}
use Rattle.std.specs.List.{list_any}
use Rattle.std.specs.List.Sorted.{IsPermutation}
use Rattle.orca_base.specs.declared.ids.ObjectId.{ObjectId}
use Rattle.value_core.specs.declared.action.Action.{Action}
use Rattle.value_core.specs.declared.action.Action.TheVariants as action
use Rattle.value_core.specs.declared.action.Line.{Line}
use Rattle.value_core.specs.declared.message.Message.{Message}
use Rattle.value_core.specs.Meaning.{Computes, Performs}
use Rattle.value_core.specs.History.{object_at}
use Rattle.book_law.specs.Performed.{Performed}
use Rattle.book_law.specs.declared.placing.Placed.{Placed}
use Rattle.world_rules.specs.declared.event.Step.{Step}
use Rattle.world_rules.specs.declared.standing.PlaceNote.{PlaceNote}
use Rattle.world_rules.specs.declared.standing.PlaceNote.TheVariants as note
use Rattle.world_rules.specs.Frame.{AreSettings, Frame}
use Rattle.world_rules.specs.Standings.{any_below}
use Rattle.world_rules.specs.Steps.{Replays}
use Rattle.world_rules.specs.Worlds.{Book, World, agreed, places, singles_in}

-- some member keeps the object as a single one
abbrev pub some_keeps : Frame → World → ObjectId → Bool
some_keeps f w o = any_below f.settings.nodes (λ m. is_some (object_at (w.nodes m).copies.own o))

-- the action is a call on an object of which this is so
abbrev pub calls_such : (ObjectId → Bool) → Action → Bool
calls_such such (action.Call kind op object args) = such object
calls_such such (action.Make kind object) = false
calls_such such (action.Fork process args place_on) = false
calls_such such action.Ended = false
calls_such such (action.Faulted fault) = false

-- the message has the line's process and number
abbrev pub has_number : Message → Line → Bool
has_number x l = (x.process.0 == l.process.0) && (x.call.0 == l.call.0)

-- one of these messages has
abbrev pub is_among : List Message → Line → Bool
is_among messages l = list_any (λ x. has_number x l) messages

abbrev pub note_by : Bool → Bool → ℕ → PlaceNote
note_by single listed n = if single then note.Single n else (if listed then note.Entry n else note.Read n)

-- where the operation was performed
abbrev pub note_told : Frame → World → Placed → PlaceNote
note_told f w r = note_by (calls_such (some_keeps f w) r.line.action) (is_among (agreed f w) r.line) r.place

-- what was performed, in whatever order in which its lines are the book, tells the places of these
abbrev pub RunsTellPlaces : Performs → Computes → Type 0
RunsTellPlaces p q =
    (f : Frame) → f.performs ≡ p → f.computes ≡ q → AreSettings f.settings → (steps : List Step) (w : World) →
    Replays f steps w → (performed sorted : List Placed) →
    Performed (singles_in f w) f.performs (agreed f w) w.aside performed → IsPermutation performed sorted →
    map (λ (r : Placed). r.line) sorted ≡ Book f w → map (note_told f w) sorted ≡ places f w
