-- The law of processes: which objects a process names (docs/LANGUAGE.md, Processes).
use Rattle.std.specs.Prelude.{◌≡◌, ◌+◌, List, [], ◌∷◌, ◌++◌, length}
use Rattle.std.specs.List.{Contains}
use Rattle.std.proofs.Common.{append-nil, append_assoc, subst, sym}
use Rattle.orca_base.specs.declared.ids.KindNo.{KindNo}
use Rattle.orca_base.specs.declared.ids.OpNo.{OpNo}
use Rattle.orca_base.specs.declared.ids.TextNo.{TextNo}
use Rattle.orca_base.specs.declared.ids.ProcessNo.{ProcessNo}
use Rattle.orca_base.specs.declared.ids.ObjectId.{ObjectId}
use Rattle.value_core.specs.Datum.{Datum, Data, list_of}
use Rattle.value_core.specs.Datum as datum
use Rattle.value_core.specs.declared.action.Action.TheVariants as action
use Rattle.value_core.specs.declared.action.Reply.{Reply}
use Rattle.value_core.specs.declared.action.Reply.TheVariants as answer
use Rattle.value_core.specs.declared.meaning.Doing.{Doing}
use Rattle.value_core.specs.declared.meaning.Doing.TheVariants as doing
use Rattle.value_core.specs.Meaning.{Computes}
use Rattle.value_core.specs.History.{most_turns, output_kind, output_object}
use Rattle.value_core.specs.Fits.{Kinds, ExtendsKinds}

-- what a process does next after these replies, once it isn't busy
abbrev pub next_of : Computes → TextNo → ProcessNo → Data → List Reply → Doing
next_of q text number args replies = q.doing text number args replies most_turns

-- a reply is one that the action can get: no value or a fault for a make, no value for a fork, and what fits the operation for
-- a call; whoever has ended gets none
abbrev pub FitsAction : (KindNo → OpNo → Reply → Type 0) → Doing → Reply → Type 0
FitsAction fits_reply doing.Busy reply = ⊥
FitsAction fits_reply (doing.At (action.Make kind object)) answer.Done = Unit {0}
FitsAction fits_reply (doing.At (action.Make kind object)) (answer.Gave value) = ⊥
FitsAction fits_reply (doing.At (action.Make kind object)) (answer.Broke fault) = Unit {0}
FitsAction fits_reply (doing.At (action.Call kind op object args)) reply = fits_reply kind op reply
FitsAction fits_reply (doing.At (action.Fork process args place_on)) reply = reply ≡ answer.Done
FitsAction fits_reply (doing.At action.Ended) reply = ⊥
FitsAction fits_reply (doing.At (action.Faulted fault)) reply = ⊥

-- each reply behind these is one that its action can get
abbrev pub RepliesFitFrom : Computes → (KindNo → OpNo → Reply → Type 0) → TextNo → ProcessNo → Data → List Reply → List Reply → Type 0
RepliesFitFrom q fits_reply text number args before [] = Unit {0}
RepliesFitFrom q fits_reply text number args before (reply ∷ replies) =
    FitsAction fits_reply (next_of q text number args before) reply ×
    RepliesFitFrom q fits_reply text number args (before ++ reply ∷ []) replies

abbrev pub RepliesFit : Computes → (KindNo → OpNo → Reply → Type 0) → TextNo → ProcessNo → Data → List Reply → Type 0
RepliesFit q fits_reply text number args replies = RepliesFitFrom q fits_reply text number args [] replies

-- the object that an action made, by its reply
abbrev pub made_by : Doing → Reply → Kinds
made_by (doing.At (action.Make kind object)) answer.Done = (object, kind) ∷ []
made_by _ reply = []

-- the objects that a process made, with their types, by the replies behind these
abbrev pub own_from : Computes → TextNo → ProcessNo → Data → List Reply → List Reply → Kinds
own_from q text number args before [] = []
own_from q text number args before (reply ∷ replies) =
    made_by (next_of q text number args before) reply ++ own_from q text number args (before ++ reply ∷ []) replies

abbrev pub own_objects : Computes → TextNo → ProcessNo → Data → List Reply → Kinds
own_objects q text number args replies = own_from q text number args [] replies

-- the object is an argument
abbrev pub IsArgumentOf : Data → ObjectId → Type 0
IsArgumentOf args object = Contains (list_of args) (datum.object object.process object.number)

-- the process knows the object with its type: the output object, one that it made, or an argument by the type that it has
-- among the objects that exist
pub data IsKnownObject (q : Computes) (kinds : Kinds) (text : TextNo) (number : ProcessNo) (args : Data) (replies : List Reply) : ObjectId →
    KindNo → Type 0 where
  output : IsKnownObject q kinds text number args replies output_object output_kind
  own : (object : ObjectId) (kind : KindNo) → Contains (own_objects q text number args replies) (object, kind) →
      IsKnownObject q kinds text number args replies object kind
  argument : (object : ObjectId) (kind : KindNo) → IsArgumentOf args object → Contains kinds (object, kind) →
      IsKnownObject q kinds text number args replies object kind

-- the objects that exist, and those that the process made, among more
abbrev pub KnowsIn : Computes → Kinds → TextNo → ProcessNo → Data → List Reply → Kinds → Type 0
KnowsIn q kinds text number args replies more = ExtendsKinds kinds more × ExtendsKinds (own_objects q text number args replies) more

-- what a process does next names only what it knows: it makes the object behind its earlier ones, calls an object that it
-- knows by its type and with arguments that fit, and forks with arguments that fit and hold only such objects
abbrev pub IsLawfulDoing : Computes → (Kinds → KindNo → OpNo → Data → Type 0) → (Kinds → TextNo → Data → Type 0) → Kinds → TextNo →
    ProcessNo → Data → List Reply → Doing → Type 0
IsLawfulDoing q fits_args fits_text kinds text number args replies doing.Busy = Unit {0}
IsLawfulDoing q fits_args fits_text kinds text number args replies (doing.At (action.Make kind object)) =
    (object.process ≡ number.0) × (object.number ≡ length (own_objects q text number args replies) + 1)
IsLawfulDoing q fits_args fits_text kinds text number args replies (doing.At (action.Call kind op object given)) =
    IsKnownObject q kinds text number args replies object kind ×
    ((more : Kinds) → KnowsIn q kinds text number args replies more → fits_args more kind op given)
IsLawfulDoing q fits_args fits_text kinds text number args replies (doing.At (action.Fork process given place_on)) =
    ((object : ObjectId) → IsArgumentOf given object → (kind : KindNo) × IsKnownObject q kinds text number args replies object kind)
    × ((more : Kinds) → KnowsIn q kinds text number args replies more → fits_text more process given)
IsLawfulDoing q fits_args fits_text kinds text number args replies (doing.At action.Ended) = Unit {0}
IsLawfulDoing q fits_args fits_text kinds text number args replies (doing.At (action.Faulted fault)) = Unit {0}

abbrev pub IsLawful : Computes → (Kinds → KindNo → OpNo → Data → Type 0) → (Kinds → TextNo → Data → Type 0) → Kinds → TextNo → ProcessNo →
    Data → List Reply → Type 0
IsLawful q fits_args fits_text kinds text number args replies =
    IsLawfulDoing q fits_args fits_text kinds text number args replies (next_of q text number args replies)

-- and one reply more, that the next action can get
replied_from : (q : Computes) (fits_reply : KindNo → OpNo → Reply → Type 0) (text : TextNo) (number : ProcessNo) (args : Data)
    (before replies : List Reply) (reply : Reply) → RepliesFitFrom q fits_reply text number args before replies →
    FitsAction fits_reply (next_of q text number args (before ++ replies)) reply →
    RepliesFitFrom q fits_reply text number args before (replies ++ reply ∷ [])
replied_from q fits_reply text number args before [] reply fits last =
    (subst (λ (rs : List Reply). FitsAction fits_reply (next_of q text number args rs) reply) (append-nil before) last, tt)
replied_from q fits_reply text number args before (r ∷ replies) reply fits last = (
  fits.0,
  replied_from q fits_reply text number args (before ++ r ∷ []) replies reply fits.1
      (subst (λ (rs : List Reply). FitsAction fits_reply (next_of q text number args rs) reply)
      (sym (append_assoc before (r ∷ []) replies)) last),
)

pub replied_fit : (q : Computes) (fits_reply : KindNo → OpNo → Reply → Type 0) (text : TextNo) (number : ProcessNo) (args : Data)
    (replies : List Reply) (reply : Reply) → RepliesFit q fits_reply text number args replies →
    FitsAction fits_reply (next_of q text number args replies) reply →
    RepliesFit q fits_reply text number args (replies ++ reply ∷ [])
replied_fit q fits_reply text number args replies reply = replied_from q fits_reply text number args [] replies reply
