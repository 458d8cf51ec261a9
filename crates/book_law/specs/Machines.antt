-- What processes hold, what they submit, and what was performed, fits, in every run of a lawful program. So by the laws of the two
-- traits it is sound where the ids of objects have numbers that fit; a machine may be started, and given a reply. And who makes an object
-- is the process that its id names.
use Rattle.std.specs.Prelude.{◌≡◌, ◌+◌, ◌<◌, ◌≤◌, ℕ, Some, length, slice_get}
use Rattle.std.specs.List.{Contains}
use Rattle.orca_base.specs.declared.ids.KindNo.{KindNo}
use Rattle.orca_base.specs.declared.ids.ProcessNo.{ProcessNo}
use Rattle.orca_base.specs.declared.ids.ObjectId.{ObjectId}
use Rattle.value_core.specs.Fits.{AreNumbered, ExtendsKinds, Kinds}
use Rattle.value_core.specs.Lawful.{FitsAction, RepliesFit, own_objects}
use Rattle.value_core.specs.Sound.{IsSoundLine, IsSoundMessage}
use Rattle.value_core.specs.declared.action.Line.{Line}
use Rattle.value_core.specs.declared.action.Action.{Action}
use Rattle.value_core.specs.declared.action.Action.TheVariants as action
use Rattle.value_core.specs.declared.message.Message.{Message}
use Rattle.value_core.specs.declared.meaning.Doing.TheVariants as doing
use Rattle.value_core.specs.Meaning.{Performs, Computes}
use Rattle.object_manager.specs.Singles.{kinds_at}
use Rattle.book_law.specs.Passes.{Test}
use Rattle.book_law.specs.Book.{book, copies_at}
use Rattle.book_law.specs.Singles.{Single}
use Rattle.book_law.specs.Course.{Came, Course}
use Rattle.book_law.specs.Events.{In, Makes, Runner}
use Rattle.book_law.specs.Fitness.{ArgsFit, ReplyFits, TextFits}

-- this process, which is x, fits where objects of these types exist: its arguments fit its text, its replies are ones that its actions
-- can get, and the objects that it made are there
pub record MachineFits (q : Computes) (fits_text : TextFits) (fits_reply : ReplyFits) (kinds : Kinds) (number : ProcessNo) (x : Runner) :
    Type 0 where
  pub text : fits_text kinds x.text x.args
  pub replies : RepliesFit q fits_reply x.text number x.args x.replies
  pub own : ExtendsKinds (own_objects q x.text number x.args x.replies) kinds

-- the arguments that an action hands over fit, over these types
abbrev pub ActionFits : ArgsFit → TextFits → Kinds → Action → Type 0
ActionFits fits_args fits_text kinds (action.Call kind op object args) = fits_args kinds kind op args
ActionFits fits_args fits_text kinds (action.Fork process args place_on) = fits_text kinds process args
ActionFits fits_args fits_text kinds (action.Make kind object) = Unit {0}
ActionFits fits_args fits_text kinds action.Ended = Unit {0}
ActionFits fits_args fits_text kinds (action.Faulted fault) = Unit {0}

-- an object's process is one that the list has, and its number is no greater than the number of entries
pub record IsNumbered (single : Test) (p : Performs) (w : Course) (object : ObjectId) : Type 0 where
  pub process : object.process < (copies_at single p w.list (length w.list)).processes
  pub number : object.number ≤ length w.list

-- `processes`, each process fits over the types of the objects that were made in as many entries as any from its place on; `asked`, a
-- message that was ever submitted hands over what fits, over the types after some number of entries; `performed`, so does each line of
-- the book, and its reply is one that its action can get; `makes`, who makes an object is the process that its id names; `numbers`, it is
-- the next object of its process; `objects`, each object that exists after as many entries as any is numbered; `owners`, a single
-- object's owner is the member of that process
pub record AllFit (single : Test) (p : Performs) (q : Computes) (fits_args : ArgsFit) (fits_text : TextFits) (fits_reply : ReplyFits)
    (w : Course) : Type 0 where
  pub processes :
      (number : ProcessNo) (x : Runner) (n : ℕ) → w.runners number.0 ≡ Some x → x.place ≤ n →
      MachineFits q fits_text fits_reply (kinds_at (copies_at single p w.list n)) number x
  pub asked :
      (m : Message) → In m w.asked →
      (n : ℕ) × (n ≤ length w.list) × ActionFits fits_args fits_text (kinds_at (copies_at single p w.list n)) m.action
  pub performed :
      (l : Line) → In l (book single p w.list w.aside) →
      (n : ℕ) × (n ≤ length w.list) × ActionFits fits_args fits_text (kinds_at (copies_at single p w.list n)) l.action
      × FitsAction fits_reply (doing.At l.action) l.reply
  pub makes : (m : Message) (o : ObjectId) → In m w.asked → Makes m.action o → o.process ≡ m.process.0
  pub numbers :
      (number : ProcessNo) (x : Runner) (m : Message) (o : ObjectId) → w.runners number.0 ≡ Some x → x.message ≡ Some m →
      Makes m.action o → o.number ≡ length (own_objects q x.text number x.args x.replies) + 1
  pub objects :
      (n : ℕ) (entry : ObjectId × KindNo) → n ≤ length w.list → Contains (kinds_at (copies_at single p w.list n)) entry →
      IsNumbered single p w entry.0
  pub owners :
      (i : ℕ) (s : Single) → slice_get w.owned i ≡ Some s →
      (r : Runner) × (w.runners s.object.process ≡ Some r) × (r.member ≡ s.owner)

-- so it is in every run, whichever objects are single
abbrev pub RunsFit : Performs → Computes → ArgsFit → TextFits → ReplyFits → Type 0
RunsFit p q fits_args fits_text fits_reply =
    (single : Test) (w : Course) → Came single p q w → AllFit single p q fits_args fits_text fits_reply w

-- each message that was ever submitted is sound, and each line of the book
pub record AllSound (single : Test) (p : Performs) (w : Course) : Type 0 where
  pub messages : (m : Message) → In m w.asked → IsSoundMessage m
  pub lines : (l : Line) → In l (book single p w.list w.aside) → IsSoundLine l

-- so it is in every run in which the ids of the objects that exist after each number of entries have numbers that fit
abbrev pub RunsSound : Performs → Computes → Type 0
RunsSound p q =
    (single : Test) (w : Course) → Came single p q w →
    ((n : ℕ) → n ≤ length w.list → AreNumbered (kinds_at (copies_at single p w.list n))) → AllSound single p w
