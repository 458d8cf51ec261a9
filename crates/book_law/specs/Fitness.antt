-- What calls on copies ask, and that every run of a lawful program meets it: the conditions of `apply`, `pass_make`, `read` and
-- `call_single` (docs/RUNTIME.md, One member's copies).
use Rattle.std.specs.Prelude.{◌≡◌, ◌⊎◌, ◌≤◌, true, false, ℕ, List, length, Option, Some, None, slice_get}
use Rattle.orca_base.specs.declared.ids.KindNo.{KindNo}
use Rattle.orca_base.specs.declared.ids.OpNo.{OpNo}
use Rattle.orca_base.specs.declared.ids.TextNo.{TextNo}
use Rattle.orca_base.specs.declared.ids.ProcessNo.{ProcessNo}
use Rattle.orca_base.specs.declared.ids.ObjectId.{ObjectId}
use Rattle.value_core.specs.Datum.{Data}
use Rattle.value_core.specs.Fits.{Kinds}
use Rattle.value_core.specs.declared.action.Class.TheVariants.{Reads}
use Rattle.value_core.specs.declared.action.Instance.{Instance}
use Rattle.value_core.specs.declared.action.Line.{Line}
use Rattle.value_core.specs.declared.action.Reply.{Reply}
use Rattle.value_core.specs.declared.message.Message.{Message}
use Rattle.value_core.specs.declared.action.Action.TheVariants as action
use Rattle.value_core.specs.declared.meaning.Doing.TheVariants as doing
use Rattle.value_core.specs.declared.meaning.Tried.TheVariants as tried
use Rattle.value_core.specs.Meaning.{Performs, Computes}
use Rattle.value_core.specs.History.{Answers, IsStuck, most_turns, object_at}
use Rattle.guard_queue.specs.Fitting.{Fitting}
use Rattle.guard_queue.specs.Settles.{tried_on}
use Rattle.guard_queue.specs.declared.queue.Suspended.{Suspended}
use Rattle.object_manager.specs.After.{Copied}
use Rattle.object_manager.specs.Applies.{Applies}
use Rattle.object_manager.specs.Singles.{kinds_at}
use Rattle.object_manager.specs.Viewed.{ReadFits}
use Rattle.book_law.specs.Passes.{Test}
use Rattle.book_law.specs.Book.{book, copies_at}
use Rattle.book_law.specs.Course.{Came, Course}
use Rattle.book_law.specs.Events.{In, IsRead, Makes, Runner}
use Rattle.book_law.specs.Singles.{Single}

-- a state fits its object type, and arguments fit an operation
abbrev pub StateFits : Type 1
StateFits = Kinds → KindNo → Data → Type 0

abbrev pub ArgsFit : Type 1
ArgsFit = Kinds → KindNo → OpNo → Data → Type 0

-- arguments fit a text of the program, and a reply an operation
abbrev pub TextFits : Type 1
TextFits = Kinds → TextNo → Data → Type 0

abbrev pub ReplyFits : Type 1
ReplyFits = KindNo → OpNo → Reply → Type 0

-- over the types of all objects, what copies hold of the replicated ones fits: each state its type, each suspended call its object
abbrev pub SharedFit : StateFits → ArgsFit → Copied → Type 0
SharedFit fits_state fits_args c = Fitting fits_state fits_args (kinds_at c) c.objects c.queue

-- a call may be tried on a single copy where n entries were applied: the copy is there, made by one of them, by its type, and the
-- arguments fit over these types
pub record MayCall (fits_args : ArgsFit) (kinds : Kinds) (owned : List Single) (n : ℕ) (kind : KindNo) (op : OpNo) (object : ObjectId)
    (args : Data) : Type 0 where
  pub at : ℕ
  pub copy : Single
  pub there : slice_get owned at ≡ Some copy
  pub is : copy.object ≡ object
  pub place : copy.place ≤ n
  pub of_kind : copy.kept.kind ≡ kind
  pub fits : fits_args kinds kind op args

-- a process whose message hasn't entered
abbrev pub IsOut : List Message → Runner → Type 0
IsOut entered x = (x.message ≡ None) ⊎ ((m : Message) × (x.message ≡ Some m) × (In m entered → ⊥))

-- the next action of a process is this call
abbrev pub CallsNext : Computes → ProcessNo → Runner → KindNo → OpNo → ObjectId → Data → Type 0
CallsNext q number x kind op object args =
    q.doing x.text number x.args x.replies most_turns ≡ doing.At (action.Call kind op object args)

-- the next action of this process, which is x, is this call, and n is at or behind its place
pub record IsAtCall (q : Computes) (runners : ℕ → Option Runner) (number : ProcessNo) (x : Runner) (n : ℕ) (kind : KindNo) (op : OpNo)
    (object : ObjectId) (args : Data) : Type 0 where
  pub here : runners number.0 ≡ Some x
  pub place : x.place ≤ n
  pub next : CallsNext q number x kind op object args

-- a line of this call, which a try on the copies gave
pub record IsLineOf (p : Performs) (c : Copied) (kind : KindNo) (op : OpNo) (object : ObjectId) (args : Data) (line : Line) : Type 0 where
  pub kept : Instance
  pub is : line.action ≡ action.Call kind op object args
  pub there : object_at c.objects object ≡ Some kept
  pub answers : Answers (p.tries kind op kept.state args) line.guard line.reply

-- what a run's calls ask is met:
-- `entries`, each entry may be applied, or passed, at the copies that it meets; `shared`, what the copies hold after each number of
-- entries fits; `singles` and `suspended`, so does what a single copy holds whose owner applied its make; `reads` and `calls`, the
-- next call of a process whose message hasn't entered may be tried at each number of entries from the process's place on, on a view
-- or on the single copy, which is there; `lines`, what the try of a read by its class gives is a line of a read; `unmade`, no message
-- that was submitted and isn't in the list makes a single object again. The copies of the list keep no single object: those that a
-- member keeps stand beside them, and no condition of entries and reads asks about them
pub record Callable (single : Test) (p : Performs) (q : Computes) (fits_state : StateFits) (fits_args : ArgsFit) (w : Course) :
    Type 0 where
  pub entries : (n : ℕ) (y : Message) → slice_get w.list n ≡ Some y → Applies fits_args (copies_at single p w.list n) y.action
  pub shared : (n : ℕ) → SharedFit fits_state fits_args (copies_at single p w.list n)
  pub singles :
      (i : ℕ) (x : Single) → slice_get w.owned i ≡ Some x → x.place ≤ w.applied x.owner →
      fits_state (kinds_at (copies_at single p w.list (w.applied x.owner))) x.kept.kind x.kept.state
  pub suspended :
      (i : ℕ) (x : Single) (call : Suspended) → slice_get w.owned i ≡ Some x → In call x.queue →
      MayCall fits_args (kinds_at (copies_at single p w.list (w.applied x.owner))) w.owned (w.applied x.owner)
      call.kind call.op call.object call.args
  pub reads :
      (number : ProcessNo) (x : Runner) (n : ℕ) (kind : KindNo) (op : OpNo) (object : ObjectId) (args : Data) →
      IsAtCall q w.runners number x n kind op object args → x.message ≡ None → single object ≡ false →
      ReadFits fits_state fits_args (copies_at single p w.list n).objects kind op object args
  pub lines :
      (number : ProcessNo) (x : Runner) (n : ℕ) (kind : KindNo) (op : OpNo) (object : ObjectId) (args : Data) (line : Line) →
      IsAtCall q w.runners number x n kind op object args → x.message ≡ None → single object ≡ false →
      p.class_of kind op ≡ Reads → IsLineOf p (copies_at single p w.list n) kind op object args line →
      IsRead single p (copies_at single p w.list n).objects line
  pub calls :
      (number : ProcessNo) (x : Runner) (n : ℕ) (kind : KindNo) (op : OpNo) (object : ObjectId) (args : Data) →
      IsAtCall q w.runners number x n kind op object args → IsOut w.entered x → single object ≡ true →
      MayCall fits_args (kinds_at (copies_at single p w.list n)) w.owned n kind op object args
  pub unmade :
      (x : Message) (o : ObjectId) → In x w.asked → (In x w.list → ⊥) → Makes x.action o → (i : ℕ) (s : Single) →
      slice_get w.owned i ≡ Some s → s.object ≡ o → ⊥

-- so it is in every run, whichever objects are single
abbrev pub CallsFit : Performs → Computes → StateFits → ArgsFit → Type 0
CallsFit p q fits_state fits_args =
    (single : Test) (w : Course) → Came single p q w → Callable single p q fits_state fits_args w

-- who waits at the end of a run is stuck: a process whose call is suspended on the copies after the whole list, or, at any moment, on
-- a single copy; so where its member applied the whole list and no answer is on the way, a process whose message entered; and one
-- whose next call is a read that is blocked on the copies after the whole list
pub record StuckAtEnd (single : Test) (p : Performs) (q : Computes) (w : Course) : Type 0 where
  pub shared :
      (call : Suspended) → In call (copies_at single p w.list (length w.list)).queue →
      IsStuck p q (book single p w.list w.aside) call.process
  pub singles :
      (i : ℕ) (x : Single) (call : Suspended) → slice_get w.owned i ≡ Some x → In call x.queue →
      IsStuck p q (book single p w.list w.aside) call.process
  pub waits :
      (number : ProcessNo) (x : Runner) (m : Message) → w.runners number.0 ≡ Some x → x.message ≡ Some m → In m w.entered →
      x.answer ≡ None → length w.list ≤ w.applied x.member → IsStuck p q (book single p w.list w.aside) number
  pub reads :
      (number : ProcessNo) (x : Runner) (kind : KindNo) (op : OpNo) (object : ObjectId) (args : Data) →
      w.runners number.0 ≡ Some x → x.message ≡ None → single object ≡ false → CallsNext q number x kind op object args →
      tried_on p (copies_at single p w.list (length w.list)).objects kind op object args ≡ tried.Blocked →
      IsStuck p q (book single p w.list w.aside) number

-- so it is in every run, whichever objects are single
abbrev pub EndsStuck : Performs → Computes → Type 0
EndsStuck p q = (single : Test) (w : Course) → Came single p q w → StuckAtEnd single p q w
