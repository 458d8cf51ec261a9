-- The processes of a run are those of its book, one by one.
use Rattle.std.specs.Prelude.{◌≡◌, ℕ, Bool, true, false, [], length, Option, None, Some, slice_get}
use Rattle.value_core.specs.History as history
use Rattle.value_core.specs.History.{Process}
use Rattle.book_law.specs.Promise.{AtMostOneMore}
use Rattle.world_rules.specs.Frame.{Frame}
use Rattle.world_rules.specs.Nodes.{known}
use Rattle.world_rules.specs.Played.{Played, Stage}
use Rattle.world_rules.specs.Played.Stage.{Computing, Acting, Submitted, Reading, Asking, Over}
use Rattle.world_rules.specs.Processes.{Begun}
use Rattle.world_rules.specs.Standings.{process_count}
use Rattle.world_rules.specs.Worlds.{Book, World, played_in, processes_of}

-- its message was submitted, or it asks an owner
abbrev pub has_out : Stage → Bool
has_out Computing = false
has_out (Acting act) = false
has_out (Submitted act) = true
has_out (Reading act) = false
has_out (Asking act) = true
has_out (Over act) = false

-- a process of the book, as its member knows it: it lacks one reply at most, and none where it has nothing out
pub record IsPlayedAs (process : Process) (r : Played) : Type 0 where
  pub text : r.text ≡ process.text
  pub args : r.args ≡ process.args
  pub replies : AtMostOneMore r.replies process.replies
  pub whole : has_out r.stage ≡ false → process.replies ≡ r.replies

-- one that its member hasn't begun has no line
abbrev pub IsKnownAs : Process → Option Played → Type 0
IsKnownAs process None = process.replies ≡ []
IsKnownAs process (Some r) = IsPlayedAs process r

-- process i, which began so, is process i of the book
pub record IsOfBook (f : Frame) (w : World) (i : ℕ) (b : Begun) : Type 0 where
  pub process : Process
  pub exists : slice_get (history.processes_of f.performs f.computes (Book f w)) i ≡ Some process
  pub text : process.text ≡ b.text
  pub args : process.args ≡ b.args
  pub here : IsKnownAs process (played_in f w i)

-- the book has the processes that the list began, and no others; `begun`, a member that applied the fork of a process of its own knows it
pub record AreOfBook (f : Frame) (w : World) : Type 0 where
  pub count : length (history.processes_of f.performs f.computes (Book f w)) ≡ process_count f w
  pub each : (i : ℕ) (b : Begun) → slice_get (processes_of f w) i ≡ Some b → IsOfBook f w i b
  pub begun :
      (m i : ℕ) (b : Begun) → slice_get (known f (w.nodes m)) i ≡ Some b → b.home ≡ m →
      (r : Played) × ((w.nodes m).played i ≡ Some r)
