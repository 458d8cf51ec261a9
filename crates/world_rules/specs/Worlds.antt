-- The world of a run: its members, the network, and what was performed.
use Rattle.std.specs.Prelude.{ℕ, zero, suc, ◌+◌, ◌==◌, nat_lt, if◌then◌else◌, Bool, true, List, [], ◌∷◌, ◌++◌, length, map, take, Option}
use Rattle.value_core.specs.declared.action.Action.{Action}
use Rattle.value_core.specs.declared.action.Action.TheVariants as action
use Rattle.value_core.specs.declared.action.Line.{Line}
use Rattle.value_core.specs.declared.message.Message.{Message}
use Rattle.object_manager.specs.After.{Copied, opening_copies}
use Rattle.book_law.specs.Book.{book}
use Rattle.book_law.specs.Passes.{Test, after, lines_after}
use Rattle.book_law.specs.declared.placing.Placed.{Placed}
use Rattle.net_rules.specs.declared.asked.Question.{Question}
use Rattle.net_rules.specs.declared.fate.Fate.{Fate}
use Rattle.net_rules.specs.declared.flight.Flight.{Flight}
use Rattle.group_rules.specs.World.{GroupWorld, Past, opening_past}
use Rattle.world_rules.specs.declared.standing.PlaceNote.{PlaceNote}
use Rattle.world_rules.specs.declared.standing.PlaceNote.TheVariants as note
use Rattle.world_rules.specs.Frame.{Frame}
use Rattle.world_rules.specs.Mail.{Carried}
use Rattle.world_rules.specs.Nodes.{Node, opening_node}
use Rattle.world_rules.specs.Played.{Played}
use Rattle.world_rules.specs.Processes.{Begun, home_in, processes_in, singles_of}

-- a question that a wire was asked, with its answer: the wires are numbered from 0, in their order
pub record Told : Type 0 where
  pub wire : ℕ
  pub question : Question
  pub fate : Fate

-- its members, and which of them live; what the group remembers; what was performed beside the list of entries, in order of events;
-- the packets in flight; how many packets were sent, how many steps and how many swaps there were; how many ticks followed each other
-- without a burst, a performed operation, or a change of any member's applied number or installed incarnation; and what the wires were
-- asked, in order
pub record World : Type 0 where
  pub nodes : ℕ → Node
  pub lives : ℕ → Bool
  pub past : Past Message
  pub aside : List Placed
  pub flights : List (Flight Carried)
  pub sent : ℕ
  pub steps : ℕ
  pub swaps : ℕ
  pub idle : ℕ
  pub told : List Told

abbrev pub opening_world : Frame → World
opening_world f = record {
  nodes = opening_node f;
  lives = λ m. true;
  past = opening_past;
  aside = [];
  flights = [];
  sent = 0;
  steps = 0;
  swaps = 0;
  idle = 0;
  told = [];
}

-- its group
abbrev pub group_world : World → GroupWorld Message
group_world w = record { members = λ m. (w.nodes m).member; lives = w.lives; past = w.past }

-- ---- the list of entries, and the processes

-- what a member applied
abbrev pub applied_at : World → ℕ → List Message
applied_at w m = take (w.nodes m).member.applied (w.nodes m).member.log

-- the entries that any member applied, crashed ones too: those of the first that applied most
abbrev pub longer_of : List Message → List Message → List Message
longer_of xs ys = if nat_lt (length xs) (length ys) then ys else xs

abbrev pub longest : ℕ → World → List Message
longest zero w = []
longest (suc m) w = longer_of (longest m w) (applied_at w m)

abbrev pub agreed : Frame → World → List Message
agreed f w = longest f.settings.nodes w

-- the processes that exist: a fork's from the moment when the first member applied it
abbrev pub processes_of : Frame → World → List Begun
processes_of f w = processes_in f (agreed f w)

abbrev pub home_of : Frame → World → ℕ → ℕ
home_of f w i = home_in (processes_of f w) i

-- what its member knows of a process, none where it didn't apply its fork
abbrev pub played_in : Frame → World → ℕ → Option Played
played_in f w i = (w.nodes (home_of f w i)).played i

-- ---- the book

-- which objects are single
abbrev pub singles_in : Frame → World → Test
singles_in f w = singles_of f (processes_of f w)

-- the performed operations by place. Within a place the lines of its entry come first, in the order in which they ran, then all others in
-- order of events and of their burst
abbrev pub Book : Frame → World → List Line
Book f w = book (singles_in f w) f.performs (agreed f w) w.aside

-- where each line of the book was performed
abbrev pub called_note : Bool → ℕ → PlaceNote
called_note single place = if single then note.Single place else note.Read place

abbrev pub aside_note : Test → ℕ → Action → PlaceNote
aside_note single place (action.Call kind op object args) = called_note (single object) place
aside_note single place (action.Make kind object) = note.Read place
aside_note single place (action.Fork text args place_on) = note.Read place
aside_note single place action.Ended = note.Read place
aside_note single place (action.Faulted fault) = note.Read place

abbrev pub aside_notes : Test → ℕ → List Placed → List PlaceNote
aside_notes single n [] = []
aside_notes single n (r ∷ rs) =
    if r.place == n then aside_note single n r.line.action ∷ aside_notes single n rs else aside_notes single n rs

abbrev pub notes_from : Frame → Test → Copied → List Message → List Placed → List PlaceNote
notes_from f single c [] aside = []
notes_from f single c (x ∷ xs) aside =
    (map (λ (line : Line). note.Entry (c.applied + 1)) (lines_after single f.performs c x) ++ aside_notes single (c.applied + 1) aside)
    ++ notes_from f single (after single f.performs c x) xs aside

abbrev pub places : Frame → World → List PlaceNote
places f w =
    aside_notes (singles_in f w) 0 w.aside ++ notes_from f (singles_in f w) opening_copies (agreed f w) w.aside
