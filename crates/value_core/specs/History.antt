-- Histories of a program: one list of whole operations over one map of objects (Bal, Kaashoek, Tanenbaum 1992, sections 2
-- and 3; docs/LANGUAGE.md, Histories). A program is given by its meanings p and q.
use Rattle.std.specs.Prelude.{◌≡◌, ℕ, ◌==◌, ◌&&◌, List, [], ◌∷◌, ◌++◌, length, Option, None, Some, slice_get, slice_set, if◌then◌else◌}
use Rattle.std.specs.List.{flat_map}
use Rattle.std.specs.declared.cmp.Ordering.{Ordering}
use Rattle.std.specs.Ordering.{ordering_then, nat_cmp}
use Rattle.std.specs.Map.{lookup}
use Rattle.std.specs.BTreeMap.{is_at, insert_entry}
use Rattle.orca_base.specs.declared.ids.KindNo.{KindNo}
use Rattle.orca_base.specs.declared.ids.OpNo.{OpNo}
use Rattle.orca_base.specs.declared.ids.TextNo.{TextNo}
use Rattle.orca_base.specs.declared.ids.ProcessNo.{ProcessNo}
use Rattle.orca_base.specs.declared.ids.ObjectId.{ObjectId}
use Rattle.orca_base.specs.declared.fault.FaultKind.{FaultKind}
use Rattle.orca_base.specs.declared.limits.TheConstants.{TURNS}
use Rattle.value_core.specs.Datum.{Datum, Data}
use Rattle.value_core.specs.Datum as datum
use Rattle.value_core.specs.declared.action.Instance.{Instance}
use Rattle.value_core.specs.declared.action.Line.{Line}
use Rattle.value_core.specs.declared.action.Action.{Action}
use Rattle.value_core.specs.declared.action.Action.TheVariants as action
use Rattle.value_core.specs.declared.action.Reply.{Reply}
use Rattle.value_core.specs.declared.action.Reply.TheVariants as answer
use Rattle.value_core.specs.declared.meaning.Making.{Making}
use Rattle.value_core.specs.declared.meaning.Making.TheVariants as making
use Rattle.value_core.specs.declared.meaning.Tried.{Tried}
use Rattle.value_core.specs.declared.meaning.Tried.TheVariants as tried
use Rattle.value_core.specs.declared.meaning.Doing.TheVariants as doing
use Rattle.value_core.specs.Meaning.{Performs, Computes}

-- the objects, by their ids in order
abbrev pub Objects : Type 0
Objects = List (ObjectId × Instance)

-- a process: its text and arguments, and the replies that it received so far
pub record Process : Type 0 where
  pub text : TextNo
  pub args : Data
  pub replies : List Reply

-- the objects and the processes, by their numbers
pub record Configuration : Type 0 where
  pub objects : Objects
  pub processes : List Process

-- ids by process, then by number
abbrev pub object_cmp : ObjectId → ObjectId → Ordering
object_cmp a b = ordering_then (nat_cmp a.process b.process) (nat_cmp a.number b.number)

-- the object with this id
abbrev pub object_at : Objects → ObjectId → Option Instance
object_at objects object = lookup (is_at (object_cmp object)) objects

-- the objects with this one put in
abbrev pub with_object : Objects → ObjectId → Instance → Objects
with_object = insert_entry object_cmp

-- the output object, and the type that is its alone
abbrev pub output_object : ObjectId
output_object = record { process = 0; number = 0 }

abbrev pub output_kind : KindNo
output_kind = record { 0 = 0 }

-- before the first line: the output object, and process 0 with the text that begins
abbrev pub opening : Computes → Configuration
opening q = record {
  objects = (output_object, record { kind = output_kind; state = datum.none }) ∷ [];
  processes = record { text = q.main; args = datum.none; replies = [] } ∷ [];
}

-- the most turns that a run may allow
abbrev pub most_turns : ℕ
most_turns = TURNS

-- a try gives this guard and reply
abbrev pub Answers : Tried → ℕ → Reply → Type 0
Answers tried.Blocked guard reply = ⊥
Answers (tried.Did g state r) guard reply = (guard ≡ g) × (reply ≡ r)
Answers (tried.Broke g fault) guard reply = (guard ≡ g) × (reply ≡ answer.Broke fault)

-- a making gives this reply
abbrev pub MakingAnswers : Making → Reply → Type 0
MakingAnswers (making.Made state) reply = reply ≡ answer.Done
MakingAnswers (making.Broke fault) reply = reply ≡ answer.Broke fault

-- the action can be performed on these objects, by this guard and with this reply
abbrev pub Performed : Performs → Objects → Action → ℕ → Reply → Type 0
Performed p objects (action.Make kind object) guard reply = (guard ≡ 0) × MakingAnswers (p.made kind) reply
Performed p objects (action.Call kind op object args) guard reply =
    (kept : Instance) × (object_at objects object ≡ Some kept) × Answers (p.tries kind op kept.state args) guard reply
Performed p objects (action.Fork process args place_on) guard reply = (guard ≡ 0) × (reply ≡ answer.Done)
Performed p objects action.Ended guard reply = ⊥
Performed p objects (action.Faulted fault) guard reply = ⊥

-- the objects after a making, and after a try: a fault changes nothing
abbrev pub after_making : Objects → KindNo → ObjectId → Making → Objects
after_making objects kind object (making.Made state) = with_object objects object (record { kind = kind; state = state })
after_making objects kind object (making.Broke fault) = objects

abbrev pub after_try : Objects → ObjectId → Instance → Tried → Objects
after_try objects object kept tried.Blocked = objects
after_try objects object kept (tried.Did guard state reply) = with_object objects object (record { kind = kept.kind; state = state })
after_try objects object kept (tried.Broke guard fault) = objects

abbrev pub after_call : Performs → Objects → KindNo → OpNo → ObjectId → Data → Option Instance → Objects
after_call p objects kind op object args None = objects
after_call p objects kind op object args (Some kept) = after_try objects object kept (p.tries kind op kept.state args)

-- the objects after an action
abbrev pub objects_after : Performs → Objects → Action → Objects
objects_after p objects (action.Make kind object) = after_making objects kind object (p.made kind)
objects_after p objects (action.Call kind op object args) = after_call p objects kind op object args (object_at objects object)
objects_after p objects (action.Fork process args place_on) = objects
objects_after p objects action.Ended = objects
objects_after p objects (action.Faulted fault) = objects

-- the process that an action adds
abbrev pub forked : Action → List Process
forked (action.Fork process args place_on) = record { text = process; args = args; replies = [] } ∷ []
forked (action.Make kind object) = []
forked (action.Call kind op object args) = []
forked action.Ended = []
forked (action.Faulted fault) = []

-- the processes after this one's reply
abbrev pub replied : List Process → ℕ → Reply → Option Process → List Process
replied processes number reply None = processes
replied processes number reply (Some process) =
    slice_set processes number (record { text = process.text; args = process.args; replies = process.replies ++ reply ∷ [] })

-- the configuration after a line
abbrev pub after_line : Performs → Configuration → Line → Configuration
after_line p c line = record {
  objects = objects_after p c.objects line.action;
  processes = replied c.processes line.process.0 line.reply (slice_get c.processes line.process.0) ++ forked line.action;
}

-- the line may come next: its process exists, it is that process's next line, the process is at its action, and the
-- action can be performed by its guard and with its reply
pub record IsStep (p : Performs) (q : Computes) (c : Configuration) (line : Line) : Type 0 where
  pub process : Process
  pub exists : slice_get c.processes line.process.0 ≡ Some process
  pub call : line.call.0 ≡ length process.replies
  pub next : q.doing process.text line.process process.args process.replies most_turns ≡ doing.At line.action
  pub performed : Performed p c.objects line.action line.guard line.reply

-- a line leads from one configuration to another
abbrev pub Step : Performs → Computes → Configuration → Line → Configuration → Type 0
Step p q c line d = IsStep p q c line × (d ≡ after_line p c line)

-- the configuration after lines
abbrev pub after_lines : Performs → Configuration → List Line → Configuration
after_lines p c [] = c
after_lines p c (line ∷ lines) = after_lines p (after_line p c line) lines

-- each line in turn may come next
abbrev pub LegalFrom : Performs → Computes → Configuration → List Line → Type 0
LegalFrom p q c [] = Unit {0}
LegalFrom p q c (line ∷ lines) = IsStep p q c line × LegalFrom p q (after_line p c line) lines

-- the lines are a history of the program
abbrev pub Legal : Performs → Computes → List Line → Type 0
Legal p q lines = LegalFrom p q (opening q) lines

-- the objects and the processes after a history
abbrev pub objects_of : Performs → Computes → List Line → Objects
objects_of p q lines = (after_lines p (opening q) lines).objects

abbrev pub processes_of : Performs → Computes → List Line → List Process
processes_of p q lines = (after_lines p (opening q) lines).processes

abbrev pub replies_in : Option Process → List Reply
replies_in None = []
replies_in (Some process) = process.replies

-- the replies that a process received in a history
abbrev pub replies_of : Performs → Computes → List Line → ℕ → List Reply
replies_of p q lines number = replies_in (slice_get (processes_of p q lines) number)

-- the characters of the first argument, where it is a string
abbrev pub string_in : Datum → List ℕ
string_in (datum.text codes) = codes
string_in _ = []

abbrev pub string_first : Data → List ℕ
string_first datum.none = []
string_first (datum.more argument arguments) = string_in argument

-- what an action writes: a call of the output object's `WriteLine`, which is its one operation, its string and a line feed
abbrev pub output_by : Action → List ℕ
output_by (action.Call kind op object args) = if kind.0 == 0 && op.0 == 0 then string_first args ++ 10 ∷ [] else []
output_by (action.Make kind object) = []
output_by (action.Fork process args place_on) = []
output_by action.Ended = []
output_by (action.Faulted fault) = []

-- what a history writes
abbrev pub output_of : List Line → List ℕ
output_of lines = flat_map (λ line. output_by line.action) lines

-- a process is suspended at the end of a history: it is at a call that each guard of the operation refuses
pub record IsStuck (p : Performs) (q : Computes) (lines : List Line) (number : ProcessNo) : Type 0 where
  pub process : Process
  pub kind : KindNo
  pub op : OpNo
  pub object : ObjectId
  pub args : Data
  pub kept : Instance
  pub exists : slice_get (processes_of p q lines) number.0 ≡ Some process
  pub waits : q.doing process.text number process.args process.replies most_turns ≡ doing.At (action.Call kind op object args)
  pub has : object_at (objects_of p q lines) object ≡ Some kept
  pub blocked : p.tries kind op kept.state args ≡ tried.Blocked

-- a process is at an action at the end of a history, which was not performed
pub record IsAt (p : Performs) (q : Computes) (lines : List Line) (number : ProcessNo) (act : Action) : Type 0 where
  pub process : Process
  pub exists : slice_get (processes_of p q lines) number.0 ≡ Some process
  pub at : q.doing process.text number process.args process.replies most_turns ≡ doing.At act

-- a process has ended at the end of a history
pub record HasEnded (p : Performs) (q : Computes) (lines : List Line) (number : ProcessNo) : Type 0 where
  pub process : Process
  pub exists : slice_get (processes_of p q lines) number.0 ≡ Some process
  pub ended : q.doing process.text number process.args process.replies most_turns ≡ doing.At action.Ended

-- a process has ended by this fault
pub record HasFaulted (p : Performs) (q : Computes) (lines : List Line) (number : ProcessNo) (fault : FaultKind) : Type 0 where
  pub process : Process
  pub exists : slice_get (processes_of p q lines) number.0 ≡ Some process
  pub faulted : q.doing process.text number process.args process.replies most_turns ≡ doing.At (action.Faulted fault)
