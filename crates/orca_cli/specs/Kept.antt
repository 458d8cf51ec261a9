-- What is kept of a run, in plain words: of its history, its processes and its members.
use Rattle.std.specs.Prelude.{◌≡◌, ℕ, List, Some, None, MatchOption, true, false, slice_get}
use Rattle.orca_base.specs.declared.ids.ProcessNo.{ProcessNo}
use Rattle.value_core.specs.History.{Legal, Process, processes_of}
use Rattle.value_core.specs.Lawful.{next_of}
use Rattle.value_core.specs.Meaning.{Computes, Performs}
use Rattle.value_core.specs.declared.action.Line.{Line}
use Rattle.book_law.specs.Promise.{AtMostOneMore}
use Rattle.world_rules.specs.Frame.{Frame}
use Rattle.world_rules.specs.Steps.{Replays}
use Rattle.world_rules.specs.Worlds.{Book, World, places}
use Rattle.world_facts.specs.Ends.{StandsBy}
use Rattle.world_places.specs.Explained.{AreItsPlaces}
use Rattle.run_ends.specs.Telling.{AreNodeEnds, AreProcessEnds, on_standing}
use Rattle.run_ends.specs.declared.ends.NodeEnd.{NodeEnd}
use Rattle.run_ends.specs.declared.ends.ProcessEnd.{ProcessEnd}
use Rattle.run_ends.specs.declared.ends.ProcessStanding.TheVariants as standing
use Rattle.kept_copies.specs.Copies.{HasCopies}
use Rattle.orca_cli.specs.declared.kept.Kept.{Kept}

-- the kept events lead to this world, and the book, the places of its lines, the members and the processes are this world's
pub record IsEndOf (f : Frame) (w : World) (k : Kept) : Type 0 where
  pub replays : Replays f k.events.items w
  pub book : k.book.items ≡ Book f w
  pub places : k.places.items ≡ places f w
  pub nodes : AreNodeEnds f w k.nodes.items
  pub processes : AreProcessEnds f w k.processes.items

-- a kept process is one of the history: the replies that it received are the history's, or all of these but the last; and it ended, or
-- faulted, or waits for the reply to an action, by what it does next after those that it received
pub record IsProcess (p : Performs) (q : Computes) (book : List Line) (number : ProcessNo) (end : ProcessEnd) : Type 0 where
  pub process : Process
  pub exists : slice_get (processes_of p q book) number.0 ≡ Some process
  pub replies : AtMostOneMore end.replies process.replies
  pub stands : StandsBy (next_of q process.text number process.args end.replies) (on_standing end.standing)

-- its member is kept too: that crashed where the process crashed with it, and lives where the process computes
pub record IsHome (nodes : List NodeEnd) (end : ProcessEnd) : Type 0 where
  pub node : NodeEnd
  pub there : slice_get nodes end.node ≡ Some node
  pub crashed : end.standing ≡ standing.Crashed → node.crashed ≡ true
  pub busy : end.standing ≡ standing.Busy → node.crashed ≡ false

-- The kept book is a history of the program. The kept processes are the history's, one by one. Each member's copies are what the history
-- left of its objects: of a replicated one what the front left that the member applied, of a single one that it owns, once it applied its
-- make, what the whole history left. Each line was performed at its kept place, and the lines stand in the order of these
pub record IsHistory (f : Frame) (w : World) (k : Kept) : Type 0 where
  pub legal : Legal f.performs f.computes k.book.items
  pub processes : (number : ProcessNo) → MatchOption (slice_get k.processes.items number.0)
      (slice_get (processes_of f.performs f.computes k.book.items) number.0 ≡ None) (IsProcess f.performs f.computes k.book.items number)
  pub homes : (i : ℕ) (end : ProcessEnd) → slice_get k.processes.items i ≡ Some end → IsHome k.nodes.items end
  pub copies : (m : ℕ) (end : NodeEnd) → slice_get k.nodes.items m ≡ Some end → HasCopies f w k.book.items k.processes.items m end
  pub places : AreItsPlaces f w k.places.items
