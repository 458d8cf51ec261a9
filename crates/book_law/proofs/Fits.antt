-- What fits in a configuration of a lawful program, and in the copies of a run.
use Rattle.std.specs.Prelude.{◌≡◌, ◌⊎◌, ◌≤◌, ℕ, List, ◌++◌, length, take, Some, None, slice_get}
use Rattle.std.specs.List.{Contains}
use Rattle.orca_base.specs.declared.ids.KindNo.{KindNo}
use Rattle.orca_base.specs.declared.ids.OpNo.{OpNo}
use Rattle.orca_base.specs.declared.ids.TextNo.{TextNo}
use Rattle.orca_base.specs.declared.ids.ProcessNo.{ProcessNo}
use Rattle.orca_base.specs.declared.ids.ObjectId.{ObjectId}
use Rattle.value_core.specs.Datum.{Data}
use Rattle.value_core.specs.Datum as datum
use Rattle.value_core.specs.Fits.{ExtendsKinds, IfMade, KeepsState, Kinds, RepliesWell}
use Rattle.value_core.specs.Lawful.{IsLawful, RepliesFit, own_objects}
use Rattle.value_core.specs.declared.action.Class.TheVariants.{Reads}
use Rattle.value_core.specs.declared.action.Instance.{Instance}
use Rattle.value_core.specs.declared.action.Reply.{Reply}
use Rattle.value_core.specs.declared.message.Message.{Message}
use Rattle.value_core.specs.declared.action.Action.{Action}
use Rattle.value_core.specs.declared.action.Action.TheVariants as action
use Rattle.value_core.specs.Meaning.{Performs, Computes}
use Rattle.value_core.specs.History.{Configuration, Objects, Process, object_at, output_kind, output_object}
use Rattle.guard_queue.specs.Fitting.{OperationFits, kind_at, kinds_of}
use Rattle.guard_queue.specs.declared.queue.Suspended.{Suspended}
use Rattle.object_manager.specs.After.{Copied}
use Rattle.guard_queue.specs.Shown.{Rises}
use Rattle.book_law.specs.Passes.{Test, counted}
use Rattle.book_law.specs.Book.{copies_at}
use Rattle.book_law.specs.Events.{In}
use Rattle.book_law.specs.Fitness.{ArgsFit, StateFits}
pub use Rattle.book_law.specs.Fitness.{ReplyFits, TextFits}

-- the laws of a performer and a processor, of their meanings alone
pub record Laws (p : Performs) (q : Computes) (fits_state : StateFits) (fits_args : ArgsFit) (fits_text : TextFits) (fits_reply : ReplyFits) : Type 0 where
  pub output_fits : (kinds : Kinds) → fits_state kinds output_kind datum.none
  pub main_fits : (kinds : Kinds) → fits_text kinds q.main datum.none
  pub made_fits : (kinds : Kinds) (kind : KindNo) → IfMade (p.made kind) (fits_state kinds kind)
  pub keeps_fit : (kinds : Kinds) (kind : KindNo) (op : OpNo) (state args : Data) → fits_state kinds kind state → fits_args kinds kind op args → KeepsState (p.tries kind op state args) (fits_state kinds kind)
  pub replies_fit : (kinds : Kinds) (kind : KindNo) (op : OpNo) (state args : Data) → fits_state kinds kind state → fits_args kinds kind op args → RepliesWell (p.tries kind op state args) (fits_reply kind op)
  pub reads_keep : (kinds : Kinds) (kind : KindNo) (op : OpNo) (state args : Data) → p.class_of kind op ≡ Reads → fits_state kinds kind state → fits_args kinds kind op args → KeepsState (p.tries kind op state args) (λ after. after ≡ state)
  pub state_stays_fit : (kinds more : Kinds) (kind : KindNo) (state : Data) → ExtendsKinds kinds more → fits_state kinds kind state → fits_state more kind state
  pub text_stays_fit : (kinds more : Kinds) (text : TextNo) (args : Data) → ExtendsKinds kinds more → fits_text kinds text args → fits_text more text args
  pub lawful : (kinds : Kinds) (text : TextNo) (number : ProcessNo) (args : Data) (replies : List Reply) → fits_text kinds text args → RepliesFit q fits_reply text number args replies → IsLawful q fits_args fits_text kinds text number args replies

-- a process fits: its arguments, its replies, and each object that it made is there
pub record ProcessFits (q : Computes) (fits_text : TextFits) (fits_reply : ReplyFits) (objects : Objects) (number : ProcessNo) (x : Process) : Type 0 where
  pub text : fits_text (kinds_of objects) x.text x.args
  pub replies : RepliesFit q fits_reply x.text number x.args x.replies
  pub own : (object : ObjectId) (kind : KindNo) → Contains (own_objects q x.text number x.args x.replies) (object, kind) → kind_at objects object ≡ Some kind

-- it is the output object, or was made by the process that its id names, as one of those that it made so far
abbrev pub IsMade : Computes → Configuration → ObjectId → Type 0
IsMade q c object = (object ≡ output_object) ⊎ ((x : Process) × (slice_get c.processes object.process ≡ Some x) × (object.number ≤ length (own_objects q x.text (record { 0 = object.process }) x.args x.replies)))

-- all fits in a configuration
pub record Fit (q : Computes) (fits_state : StateFits) (fits_text : TextFits) (fits_reply : ReplyFits) (c : Configuration) : Type 0 where
  pub order : Rises c.objects
  pub output : kind_at c.objects output_object ≡ Some output_kind
  pub states : (object : ObjectId) (kept : Instance) → object_at c.objects object ≡ Some kept → fits_state (kinds_of c.objects) kept.kind kept.state
  pub made : (object : ObjectId) (kept : Instance) → object_at c.objects object ≡ Some kept → IsMade q c object
  pub processes : (number : ProcessNo) (x : Process) → slice_get c.processes number.0 ≡ Some x → ProcessFits q fits_text fits_reply c.objects number x

-- the types of all objects that the first n entries made, wherever they are kept
abbrev pub kinds_at : Test → Performs → List Message → ℕ → Kinds
kinds_at single p list n = kinds_of (copies_at single p list n).objects ++ counted single p (take n list)

-- what a member's copies ask of an entry: a make's object is neither there nor counted as single; a call's is there, by its type,
-- and its arguments fit among all objects that were made
abbrev pub MayApply : ArgsFit → Kinds → Kinds → Copied → Action → Type 0
MayApply fits_args kinds singles c (action.Make kind object) = (object_at c.objects object ≡ None) × ((k : KindNo) → Contains singles (object, k) → ⊥)
MayApply fits_args kinds singles c (action.Call kind op object args) = OperationFits fits_args kinds c.objects kind op object args
MayApply fits_args kinds singles c (action.Fork process args place_on) = Unit {0}
MayApply fits_args kinds singles c action.Ended = Unit {0}
MayApply fits_args kinds singles c (action.Faulted fault) = Unit {0}

-- each message of the list may be applied to the copies that its entry meets
abbrev pub AllApply : Test → Performs → ArgsFit → List Message → Type 0
AllApply single p fits_args list = (n : ℕ) (y : Message) → slice_get list n ≡ Some y → MayApply fits_args (kinds_at single p list n) (counted single p (take n list)) (copies_at single p list n) y.action

-- each call that waits on a replicated object fits, at each number of entries
abbrev pub AllQueued : Test → Performs → ArgsFit → List Message → Type 0
AllQueued single p fits_args list = (n : ℕ) (call : Suspended) → In call (copies_at single p list n).queue → OperationFits fits_args (kinds_at single p list n) (copies_at single p list n).objects call.kind call.op call.object call.args

-- each object's state fits its type, among these
abbrev pub AllStatesFit : StateFits → Kinds → Objects → Type 0
AllStatesFit fits_state kinds objects = (object : ObjectId) (kept : Instance) → object_at objects object ≡ Some kept → fits_state kinds kept.kind kept.state

-- a read may be tried on these objects
pub record MayRead (fits_state : StateFits) (fits_args : ArgsFit) (kinds : Kinds) (objects : Objects) (kind : KindNo) (op : OpNo) (object : ObjectId) (args : Data) : Type 0 where
  pub states : AllStatesFit fits_state kinds objects
  pub operation : OperationFits fits_args kinds objects kind op object args
