-- What is promised of every run: its book is legal, and its copies and replies are the book's.
use Rattle.std.specs.Prelude.{◌≡◌, ℕ, ◌<◌, ◌≤◌, ◌⊎◌, true, false, List, [], ◌∷◌, ◌++◌, length, leb, Option, Some, None, slice_get, if◌then◌else◌}
use Rattle.orca_base.specs.declared.ids.ObjectId.{ObjectId}
use Rattle.value_core.specs.declared.action.Line.{Line}
use Rattle.value_core.specs.declared.action.Reply.{Reply}
use Rattle.value_core.specs.declared.message.Message.{Message}
use Rattle.value_core.specs.Meaning.{Performs, Computes}
use Rattle.value_core.specs.History.{Legal, Process, object_at, objects_of, processes_of, replies_of}
use Rattle.value_core.specs.declared.action.Action.TheVariants as action
use Rattle.guard_queue.specs.declared.queue.Suspended.{Suspended}
use Rattle.object_manager.specs.After.{Copied}
use Rattle.book_law.specs.Book.{Placed, book, copies_at, up_to}
use Rattle.book_law.specs.Course.{Came, Course}
use Rattle.book_law.specs.Events.{Asks, In, Runner}
use Rattle.book_law.specs.Passes.{Test, after, entry, lines_after}
use Rattle.object_manager.specs.State.{message_of}
use Rattle.book_law.specs.Singles.{Single}

-- the copies have what a history left: each replicated object, and the number of processes
pub record Follows (single : Test) (p : Performs) (q : Computes) (lines : List Line) (c : Copied) : Type 0 where
  pub objects : (o : ObjectId) → single o ≡ false → object_at (objects_of p q lines) o ≡ object_at c.objects o
  pub processes : length (processes_of p q lines) ≡ c.processes

-- the replies of the book begin with those that were received, and are longer by at most one
abbrev pub AtMostOneMore : List Reply → List Reply → Type 0
AtMostOneMore received replies = (more : List Reply) × (replies ≡ received ++ more) × (length more ≤ 1)

-- the book is a history of the program
abbrev pub LegalBook : Type 0
LegalBook = (single : Test) (p : Performs) (q : Computes) (w : Course) → Came single p q w → Legal p q (book single p w.list w.aside)

-- the replicated objects and the processes of the book up to place n are those of a member's copies that applied n entries
abbrev pub CopiesFollow : Type 0
CopiesFollow =
    (single : Test) (p : Performs) (q : Computes) (w : Course) → Came single p q w → (n : ℕ) →
    Follows single p q (up_to single p w.list w.aside n) (copies_at single p w.list n)

-- each single copy is its object after all lines of the book
abbrev pub SinglesFollow : Type 0
SinglesFollow =
    (single : Test) (p : Performs) (q : Computes) (w : Course) → Came single p q w →
    (i : ℕ) (x : Single) → slice_get w.owned i ≡ Some x → object_at (objects_of p q (book single p w.list w.aside)) x.object ≡ Some x.kept

-- runner j is process j of these lines, but for at most one reply that it hasn't received; a message that it has out is its next action
pub record IsProcess (p : Performs) (q : Computes) (lines : List Line) (j : ℕ) (x : Runner) : Type 0 where
  pub process : Process
  pub exists : slice_get (processes_of p q lines) j ≡ Some process
  pub text : process.text ≡ x.text
  pub args : process.args ≡ x.args
  pub replies : AtMostOneMore x.replies process.replies
  pub asks : (m : Message) → x.message ≡ Some m → Asks q j x m

-- the processes that run are those of the lines, one by one
pub record AreProcesses (p : Performs) (q : Computes) (lines : List Line) (runners : ℕ → Option Runner) : Type 0 where
  pub each : (j : ℕ) (x : Runner) → runners j ≡ Some x → IsProcess p q lines j x
  pub all : (j : ℕ) → j < length (processes_of p q lines) → (x : Runner) × (runners j ≡ Some x)

-- the processes that run are those of the book
abbrev pub ProcessesRun : Type 0
ProcessesRun =
    (single : Test) (p : Performs) (q : Computes) (w : Course) → Came single p q w →
    AreProcesses p q (book single p w.list w.aside) w.runners

-- the reply of an answer on the way, where its place is at most n
abbrev pub arrived : ℕ → Option Placed → List Reply
arrived n None = []
arrived n (Some r) = if leb r.place n then r.line.reply ∷ [] else []

-- a process received just what the book has for it up to its member's number, but for an answer on the way with a place up to there
abbrev pub RepliesReceived : Type 0
RepliesReceived =
    (single : Test) (p : Performs) (q : Computes) (w : Course) → Came single p q w → (j : ℕ) (x : Runner) → w.runners j ≡ Some x →
    replies_of p q (up_to single p w.list w.aside (w.applied x.member)) j ≡ x.replies ++ arrived (w.applied x.member) x.answer

-- the call waits on its object's single copy, or a line of it stands beside the list
abbrev pub IsTaken : List Single → List Placed → Suspended → Type 0
IsTaken owned aside call =
    ((i : ℕ) × (x : Single) × (slice_get owned i ≡ Some x) × (x.object ≡ call.object) × In call x.queue)
    ⊎ ((r : Placed) × In r aside × (r.line.process ≡ call.process) × (r.line.call ≡ call.call)
    × (r.line.action ≡ action.Call call.kind call.op call.object call.args))

-- a message that entered is in the list, or it is a call on a single object that waits on its copy or was performed there. So an
-- owner that takes no call again that waits on that copy or that it performed there takes none twice
abbrev pub EnteredStands : Type 0
EnteredStands =
    (single : Test) (p : Performs) (q : Computes) (w : Course) → Came single p q w → (m : Message) → In m w.entered →
    In m w.list ⊎ ((call : Suspended) × (m ≡ message_of call) × (single call.object ≡ true) × IsTaken w.owned w.aside call)

-- a message that was ever submitted entered, or is the one that its process has out
abbrev pub AskedStands : Type 0
AskedStands =
    (single : Test) (p : Performs) (q : Computes) (w : Course) → Came single p q w → (m : Message) → In m w.asked →
    In m w.entered ⊎ ((x : Runner) × (w.runners m.process.0 ≡ Some x) × (x.message ≡ Some m))

-- each entry entered, each message that entered was submitted, and so was one that a process has out
pub record WereAsked (w : Course) : Type 0 where
  pub listed : (y : Message) → In y w.list → In y w.entered
  pub entered : (m : Message) → In m w.entered → In m w.asked
  pub out : (j : ℕ) (x : Runner) (m : Message) → w.runners j ≡ Some x → x.message ≡ Some m → In m w.asked

abbrev pub EnteredAsked : Type 0
EnteredAsked = (single : Test) (p : Performs) (q : Computes) (w : Course) → Came single p q w → WereAsked w

-- a call on a single object that was submitted and that no owner took hasn't entered, and its process has it out
abbrev pub UntakenOut : Type 0
UntakenOut =
    (single : Test) (p : Performs) (q : Computes) (w : Course) → Came single p q w → (call : Suspended) →
    In (message_of call) w.asked → single call.object ≡ true → (IsTaken w.owned w.aside call → ⊥) →
    (In (message_of call) w.entered → ⊥)
    × (r : Runner) × (w.runners call.process.0 ≡ Some r) × (r.message ≡ Some (message_of call))

-- each line of an entry, and each operation beside the list, is in the book
pub record IsInBook (single : Test) (p : Performs) (w : Course) : Type 0 where
  pub entries :
      (n : ℕ) (y : Message) (l : Line) → slice_get w.list n ≡ Some y → In l (lines_after single p (copies_at single p w.list n) y) →
      In l (book single p w.list w.aside)
  pub beside : (r : Placed) → In r w.aside → In r.line (book single p w.list w.aside)

abbrev pub AllInBook : Type 0
AllInBook = (single : Test) (p : Performs) (q : Computes) (w : Course) → Came single p q w → IsInBook single p w

-- the copies after an entry are those after a make of a single object that is kept elsewhere, or after an entry that is applied
abbrev pub EntriesStand : Type 0
EntriesStand = (single : Test) (p : Performs) (c : Copied) (x : Message) → after single p c x ≡ entry single p c x
