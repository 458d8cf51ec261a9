-- What a run keeps from event to event of its list, of what stands beside it, of its single copies and its processes, so that its
-- book is legal.
use Rattle.std.specs.Prelude.{◌+◌, true, false, ◌≡◌, ℕ, ◌<◌, ◌≤◌, ◌⊎◌, ◌==◌, List, [], ◌∷◌, ◌++◌, length, map, take, Option, Some, None, slice_get, if◌then◌else◌}
use Rattle.std.specs.List.{Contains}
use Rattle.orca_base.specs.declared.ids.ObjectId.{ObjectId}
use Rattle.value_core.specs.declared.action.Instance.{Instance}
use Rattle.value_core.specs.declared.action.Line.{Line}
use Rattle.value_core.specs.declared.message.Message.{Message}
use Rattle.value_core.specs.declared.action.Action.TheVariants as action
use Rattle.value_core.specs.declared.meaning.Doing.TheVariants as doing
use Rattle.value_core.specs.declared.meaning.Making.TheVariants as making
use Rattle.value_core.specs.Meaning.{Performs, Computes}
use Rattle.value_core.specs.History.{Configuration, Legal, Process, after_lines, most_turns, object_at, objects_of, opening, processes_of, replies_of}
use Rattle.guard_queue.specs.declared.queue.Suspended.{Suspended}
use Rattle.object_manager.specs.After.{opening_copies}
use Rattle.book_law.specs.Passes.{Test, after_all, counted}
use Rattle.book_law.specs.Singles.{Single, waiting, waits}
use Rattle.book_law.specs.Book.{Placed, aside_at, behind, book, copies_at, up_to}
use Rattle.book_law.specs.Events.{Asks, Calls, In, Makes, Runner, lines_by, replies_to}
use Rattle.book_law.specs.Promise.{AtMostOneMore, Follows}

-- no line calls or makes the object
abbrev pub Spares : ObjectId → List Line → Type 0
Spares o lines = (l : Line) → In l lines → Calls l.action o ⊎ Makes l.action o → ⊥

-- where the message of a process stands: w of its calls are suspended, it hasn't received these lines of entries, nor this
-- answer of a single copy. Entered are the messages that the list has or that an owner took
pub data Stage (entered : List Message) (message : Option Message) (answer : Option Placed) (w : ℕ) (awaited : List Line) : Type 0 where
  Free : message ≡ None → answer ≡ None → w ≡ 0 → awaited ≡ [] → Stage entered message answer w awaited
  Sent : (m : Message) → message ≡ Some m → answer ≡ None → (In m entered → ⊥) → w ≡ 0 → awaited ≡ [] → Stage entered message answer w awaited
  Waits : (m : Message) → message ≡ Some m → answer ≡ None → In m entered → w ≡ 1 → awaited ≡ [] → Stage entered message answer w awaited
  Ran : (m : Message) (line : Line) → message ≡ Some m → answer ≡ None → In m entered → w ≡ 0 → awaited ≡ line ∷ [] → Stage entered message answer w awaited
  Told : (m : Message) (r : Placed) → message ≡ Some m → answer ≡ Some r → In m entered → w ≡ 0 → awaited ≡ [] → Stage entered message answer w awaited

abbrev pub answer_lines : Option Placed → List Line
answer_lines None = []
answer_lines (Some r) = r.line ∷ []

-- at its place
abbrev pub answer_at : ℕ → Option Placed → List Line
answer_at n None = []
answer_at n (Some r) = if r.place == n then r.line ∷ [] else []

-- its place is between the process's and the list's end
abbrev pub AnswerStands : ℕ → ℕ → Option Placed → Type 0
AnswerStands place most None = Unit {0}
AnswerStands place most (Some r) = (place ≤ r.place) × (r.place ≤ most)

-- the process as the book has it
abbrev pub as_process : Runner → List Line → Process
as_process x awaited = record { text = x.text; args = x.args; replies = (x.replies ++ replies_to (answer_lines x.answer)) ++ replies_to awaited }

-- a process j against the list and what stands beside it, where its member applied so many entries
pub record Stands (single : Test) (p : Performs) (q : Computes) (list : List Message) (aside : List Placed) (owned : List Single) (entered : List Message) (applied : ℕ) (j : ℕ) (x : Runner) : Type 0 where
  pub awaited : List Line
  pub process : slice_get (processes_of p q (book single p list aside)) j ≡ Some (as_process x awaited)
  pub since : lines_by j (behind single p list [] x.place) ≡ awaited
  pub unseen : lines_by j (behind single p list [] applied) ≡ awaited
  pub quiet : (n : ℕ) → (x.place < n) ⊎ (applied < n) → lines_by j (aside_at n aside) ≡ answer_at n x.answer
  pub answer : AnswerStands x.place (length list) x.answer
  pub there : j < (copies_at single p list x.place).processes
  pub early : x.place ≤ length list
  pub asks : (m : Message) → x.message ≡ Some m → Asks q j x m
  pub earlier : (y : Message) → In y entered → y.process.0 ≡ j → (y.call.0 < length x.replies) ⊎ (x.message ≡ Some y)
  pub stage : Stage entered x.message x.answer (waiting j (after_all single p opening_copies list).queue + waits j owned) awaited

-- a suspended call is its process's next action
pub record IsNext (q : Computes) (c : Configuration) (call : Suspended) : Type 0 where
  pub process : Process
  pub exists : slice_get c.processes call.process.0 ≡ Some process
  pub number : call.call.0 ≡ length process.replies
  pub next : q.doing process.text call.process process.args process.replies most_turns ≡ doing.At (action.Call call.kind call.op call.object call.args)

abbrev pub AllNext : Computes → Configuration → List Suspended → Type 0
AllNext q c queue = (call : Suspended) → In call queue → IsNext q c call

-- each call is on an object of these
abbrev pub AllOn : (ObjectId → Type 0) → List Suspended → Type 0
AllOn sees queue = (call : Suspended) → In call queue → sees call.object

-- the process stands at a place that its owner reached
abbrev pub Reached : (ℕ → Option Runner) → ℕ → ℕ → Type 0
Reached runners applied j = (r : Runner) × (runners j ≡ Some r) × (r.place ≤ applied)

-- a single copy against the book, where its owner applied so many entries: it is what all of the book's lines left of its
-- object; no line behind its owner's number is on it; and before its owner applied its make nothing was done to it
pub record Owns (single : Test) (p : Performs) (q : Computes) (list : List Message) (aside : List Placed) (runners : ℕ → Option Runner) (applied : ℕ) (x : Single) : Type 0 where
  pub is : single x.object ≡ true
  pub state : object_at (objects_of p q (book single p list aside)) x.object ≡ Some x.kept
  pub next : AllNext q (after_lines p (opening q) (book single p list aside)) x.queue
  pub its : AllOn (λ o. o ≡ x.object) x.queue
  pub place : x.place ≤ length list
  pub last : (n : ℕ) → x.place ≤ n → applied ≤ n → Spares x.object (behind single p list aside n)
  pub ready : (call : Suspended) → In call x.queue → Reached runners applied call.process.0
  pub listed : (n : ℕ) → x.place ≤ n → Contains (counted single p (take n list)) (x.object, x.kept.kind)
  pub unused : applied < x.place → (x.queue ≡ []) × (p.made x.kept.kind ≡ making.Made x.kept.state)

-- there is a single copy of this object, made at this place or before
abbrev pub IsKept : List Single → ℕ → ObjectId → Type 0
IsKept owned n o = (i : ℕ) × (x : Single) × (slice_get owned i ≡ Some x) × (x.object ≡ o) × (x.place ≤ n)

-- what a run keeps: its list of messages, what stands beside it, its single copies, the messages that the list has or an owner
-- took, how many entries each member applied, its processes
pub record Kept (single : Test) (p : Performs) (q : Computes) (list : List Message) (aside : List Placed) (owned : List Single) (entered : List Message) (applied : ℕ → ℕ) (runners : ℕ → Option Runner) : Type 0 where
  pub legal : Legal p q (book single p list aside)
  pub follows : (n : ℕ) → Follows single p q (up_to single p list aside n) (copies_at single p list n)
  pub next : AllNext q (after_lines p (opening q) (book single p list aside)) (after_all single p opening_copies list).queue
  pub shared : AllOn (λ o. single o ≡ false) (after_all single p opening_copies list).queue
  pub once : (j : ℕ) → waiting j (after_all single p opening_copies list).queue + waits j owned ≤ 1
  pub within : (m : ℕ) → applied m ≤ length list
  pub held : (n : ℕ) → length list < n → aside_at n aside ≡ []
  pub unborn : (j n : ℕ) → (after_all single p opening_copies list).processes ≤ j → lines_by j (aside_at n aside) ≡ []
  pub listed : (y : Message) → In y entered → y.process.0 < (after_all single p opening_copies list).processes
  pub counts : map (λ (x : Single). (x.object, x.kept.kind)) owned ≡ counted single p list
  pub distinct : (i k : ℕ) (x y : Single) → slice_get owned i ≡ Some x → slice_get owned k ≡ Some y → x.object ≡ y.object → i ≡ k
  pub known : (n : ℕ) (o : ObjectId) (kept : Instance) → single o ≡ true → object_at (objects_of p q (up_to single p list aside n)) o ≡ Some kept → IsKept owned n o
  pub owns : (i : ℕ) (x : Single) → slice_get owned i ≡ Some x → Owns single p q list aside runners (applied x.owner) x
  pub stands : (j : ℕ) (x : Runner) → runners j ≡ Some x → Stands single p q list aside owned entered (applied x.member) j x

-- each message that was ever submitted stands in the list, or is the one that its process has out
abbrev pub Accounted : List Message → (ℕ → Option Runner) → List Message → Type 0
Accounted list runners asked = (m : Message) → In m asked → In m list ⊎ ((x : Runner) × (runners m.process.0 ≡ Some x) × (x.message ≡ Some m))

-- the book is legal; after each place its replicated objects and its processes are the copies'; each single copy is its object
-- after all lines; and each process received what the book says, but for at most one reply. A process that no answer of a single
-- copy is on the way to received just what the book says up to the place that its member applied
pub record Promised (single : Test) (p : Performs) (q : Computes) (list : List Message) (aside : List Placed) (owned : List Single) (applied : ℕ → ℕ) (runners : ℕ → Option Runner) : Type 0 where
  pub legal : Legal p q (book single p list aside)
  pub copies : (n : ℕ) → Follows single p q (up_to single p list aside n) (copies_at single p list n)
  pub singles : (i : ℕ) (x : Single) → slice_get owned i ≡ Some x → object_at (objects_of p q (book single p list aside)) x.object ≡ Some x.kept
  pub replies : (j : ℕ) (x : Runner) → runners j ≡ Some x → AtMostOneMore x.replies (replies_of p q (book single p list aside) j)
  pub received : (j : ℕ) (x : Runner) → runners j ≡ Some x → x.answer ≡ None → replies_of p q (up_to single p list aside (applied x.member)) j ≡ x.replies
