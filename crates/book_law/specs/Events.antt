-- The processes of a run, as they run at their members, and what events ask of them and do to them.
use Rattle.std.specs.Prelude.{◌≡◌, ℕ, ◌≤◌, ◌⊎◌, ◌==◌, false, List, [], ◌∷◌, ◌++◌, length, map, Option, Some, None, slice_get, if◌then◌else◌}
use Rattle.orca_base.specs.declared.ids.TextNo.{TextNo}
use Rattle.orca_base.specs.declared.ids.KindNo.{KindNo}
use Rattle.orca_base.specs.declared.ids.OpNo.{OpNo}
use Rattle.orca_base.specs.declared.ids.ObjectId.{ObjectId}
use Rattle.value_core.specs.Datum.{Data}
use Rattle.value_core.specs.declared.action.Line.{Line}
use Rattle.value_core.specs.declared.message.Message.{Message}
use Rattle.value_core.specs.declared.action.Action.{Action}
use Rattle.value_core.specs.declared.action.Action.TheVariants as action
use Rattle.value_core.specs.declared.action.Reply.{Reply}
use Rattle.value_core.specs.declared.meaning.Doing.TheVariants as doing
use Rattle.value_core.specs.Meaning.{Performs, Computes}
use Rattle.value_core.specs.History.{Objects, Performed, most_turns, object_at, objects_after}
use Rattle.guard_queue.specs.declared.queue.Suspended.{Suspended}
use Rattle.book_law.specs.Passes.{Test}
use Rattle.book_law.specs.Book.{Placed, copies_at}
use Rattle.object_manager.specs.State.{message_of}
use Rattle.book_law.specs.Singles.{Single}

-- a process as it runs at its member: the replies that it received; its place, which is that of the last line whose reply it has, or of
-- the fork that made it, or 0; its message that isn't answered yet; and that message's line, with its place, where it was performed on a single
-- copy and the answer is on its way
pub record Runner : Type 0 where
  pub member : ℕ
  pub text : TextNo
  pub args : Data
  pub replies : List Reply
  pub place : ℕ
  pub message : Option Message
  pub answer : Option Placed

-- the lines of a process, in their order
abbrev pub lines_by : ℕ → List Line → List Line
lines_by j [] = []
lines_by j (l ∷ ls) = if l.process.0 == j then l ∷ lines_by j ls else lines_by j ls

-- the replies of lines
abbrev pub replies_to : List Line → List Reply
replies_to lines = map (λ (l : Line). l.reply) lines

-- it is one of these
abbrev pub In : {A : Type 0} → A → List A → Type 0
In x [] = ⊥
In x (y ∷ ys) = (x ≡ y) ⊎ In x ys

-- the action is a call on this object
abbrev pub Calls : Action → ObjectId → Type 0
Calls (action.Call kind op object args) o = o ≡ object
Calls (action.Make kind object) o = ⊥
Calls (action.Fork process args place_on) o = ⊥
Calls action.Ended o = ⊥
Calls (action.Faulted fault) o = ⊥

-- or a make of it
abbrev pub Makes : Action → ObjectId → Type 0
Makes (action.Make kind object) o = o ≡ object
Makes (action.Call kind op object args) o = ⊥
Makes (action.Fork process args place_on) o = ⊥
Makes action.Ended o = ⊥
Makes (action.Faulted fault) o = ⊥

-- ---- what events ask

-- the message is the next action of process j, which is x
pub record Asks (q : Computes) (j : ℕ) (x : Runner) (m : Message) : Type 0 where
  pub process : m.process.0 ≡ j
  pub call : m.call.0 ≡ length x.replies
  pub next : q.doing x.text m.process x.args x.replies most_turns ≡ doing.At m.action

-- a line that a read of a replicated object may perform on these objects: a call that leaves its object as it is
pub record IsRead (single : Test) (p : Performs) (objects : Objects) (line : Line) : Type 0 where
  pub kind : KindNo
  pub op : OpNo
  pub object : ObjectId
  pub args : Data
  pub is : line.action ≡ action.Call kind op object args
  pub performed : Performed p objects line.action line.guard line.reply
  pub shared : single object ≡ false
  pub keeps : object_at (objects_after p objects line.action) object ≡ object_at objects object

-- a read is the next action of a process without a message, at a place between its own and its member's number
pub record Reads (single : Test) (p : Performs) (q : Computes) (list : List Message) (applied : ℕ → ℕ) (j : ℕ) (x : Runner)
    (n : ℕ) (line : Line) : Type 0 where
  pub free : x.message ≡ None
  pub after : x.place ≤ n
  pub before : n ≤ applied x.member
  pub process : line.process.0 ≡ j
  pub call : line.call.0 ≡ length x.replies
  pub next : q.doing x.text line.process x.args x.replies most_turns ≡ doing.At line.action
  pub is_read : IsRead single p (copies_at single p list n).objects line

-- the owner of single copy i, which is x, takes a call: the call is the message that its process r has out, and it has neither
-- entered the list nor been taken; the owner applied the copy's make, and as many entries as the caller's place says. In a lawful
-- program the first of these two follows from the second (`calls` of Fitness.antt)
pub record Takes (owned : List Single) (entered : List Message) (applied : ℕ → ℕ) (runners : ℕ → Option Runner) (i : ℕ) (x : Single)
    (r : Runner) (call : Suspended) : Type 0 where
  pub copy : slice_get owned i ≡ Some x
  pub runner : runners call.process.0 ≡ Some r
  pub out : r.message ≡ Some (message_of call)
  pub new : In (message_of call) entered → ⊥
  pub object : call.object ≡ x.object
  pub kept : x.place ≤ applied x.owner
  pub after : r.place ≤ applied x.owner

-- ---- what events do

-- the process with the reply to this line of its own, which stands at this place
abbrev pub told : ℕ → Line → Runner → Runner
told place line x = record x { replies = x.replies ++ line.reply ∷ []; place = place; message = None; answer = None }

-- after its member applied an entry, by the entry's lines of that process
abbrev pub took : ℕ → List Line → Runner → Runner
took place [] x = x
took place (l ∷ ls) x = told place l x

-- where member m applied the entry of this place, with these lines
abbrev pub handed : ℕ → ℕ → List Line → ℕ → Runner → Runner
handed m place lines j x = if x.member == m then took place (lines_by j lines) x else x

-- after it submitted a message
abbrev pub asking : Message → Runner → Runner
asking m x = record x { message = Some m }

-- a process that the entry of this place forked
abbrev pub newborn : ℕ → TextNo → Data → ℕ → Runner
newborn member text args place = record {
  member = member;
  text = text;
  args = args;
  replies = [];
  place = place;
  message = None;
  answer = None;
}

-- a line of its message was performed on a single copy, at this place
abbrev pub answering : ℕ → List Line → Runner → Runner
answering place [] x = x
answering place (l ∷ ls) x = record x { answer = Some (record { place = place; line = l }) }
