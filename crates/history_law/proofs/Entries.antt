-- What an entry does at copies of replicated objects on which no call is suspended, where it can be performed there: its one line.
use Rattle.std.proofs.Common.{◌≡◌, ℕ, Option, List, [], ◌∷◌, ◌++◌, refl, sym, ap, ◌∙◌}
use Rattle.std.specs.Prelude.{IsTrue}
use Rattle.orca_base.specs.declared.ids.CallNo.{CallNo}
use Rattle.orca_base.specs.declared.ids.ProcessNo.{ProcessNo}
use Rattle.value_core.specs.Performable.{is_performable}
use Rattle.value_core.specs.declared.action.Instance.{Instance}
use Rattle.value_core.specs.declared.action.Line.{Line}
use Rattle.value_core.specs.declared.action.Action.{Action}
use Rattle.value_core.specs.declared.action.Action.TheVariants as action
use Rattle.value_core.specs.declared.action.Reply.{Reply}
use Rattle.value_core.specs.declared.message.Message.{Message}
use Rattle.value_core.specs.declared.meaning.Making.{Making}
use Rattle.value_core.specs.declared.meaning.Making.TheVariants as making
use Rattle.value_core.specs.declared.meaning.Tried.{Tried}
use Rattle.value_core.specs.declared.meaning.Tried.TheVariants as tried
use Rattle.value_core.specs.Meaning.{Performs}
use Rattle.value_core.specs.History.{Answers, MakingAnswers, Objects, Performed, after_call, objects_after}
use Rattle.guard_queue.specs.declared.queue.Suspended.{Suspended}
use Rattle.guard_queue.specs.Settles.{Settling, objects_if, objects_with, tried_by}
use Rattle.object_manager.specs.After.{Copied, acted, as_call, called_in, making_reply, settled_after}
use Rattle.book_law.specs.Passes.{after, lines_after}
use Rattle.book_law.specs.Replicated.{all_replicated}

-- the message of a process with this number, and its line
abbrev pub message : ProcessNo → CallNo → (a : Action) → IsTrue (is_performable a) → Message
message process call a ok = record { process = process; call = call; action = a; performable = ok }

abbrev pub line : ProcessNo → CallNo → Action → ℕ → Reply → Line
line process call a guard reply = record { process = process; call = call; action = a; guard = guard; reply = reply }

-- what can be performed is a make, a call or a fork
pub performable : (p : Performs) (objects : Objects) (a : Action) (guard : ℕ) (reply : Reply) → Performed p objects a guard reply → IsTrue (is_performable a)
performable p objects (action.Make kind object) guard reply done = refl
performable p objects (action.Call kind op object args) guard reply done = refl
performable p objects (action.Fork text args place_on) guard reply done = refl
performable p objects action.Ended guard reply done = absurd done
performable p objects (action.Faulted fault) guard reply done = absurd done

-- these objects, suspended calls, and one line
abbrev one : Objects → List Suspended → Line → Settling
one objects queue l = record { objects = objects; queue = queue; lines = l ∷ [] }

-- the entry performs this line, and leaves no call suspended
pub record Does (p : Performs) (c : Copied) (m : Message) (l : Line) : Type 0 where
  pub lines : lines_after all_replicated p c m ≡ l ∷ []
  pub objects : (after all_replicated p c m).objects ≡ objects_after p c.objects m.action
  pub queue : (after all_replicated p c m).queue ≡ []

making_replies : (m : Making) (reply : Reply) → MakingAnswers m reply → making_reply m ≡ reply
making_replies (making.Made state) reply is = sym is
making_replies (making.Broke fault) reply is = sym is

-- a call whose try isn't blocked
calls_one : (objects : Objects) (queue : List Suspended) (call : Suspended) (t : Tried) (guard : ℕ) (reply : Reply) → Answers t guard reply
    → called_in objects queue call t ≡ one (objects_with objects call t) queue (line call.process call.call (action.Call call.kind call.op call.object call.args) guard reply)
calls_one objects queue call tried.Blocked guard reply is = absurd is
calls_one objects queue call (tried.Did g state r) guard reply is = λ i. one (objects_with objects call (tried.Did g state r)) queue
    (line call.process call.call (action.Call call.kind call.op call.object call.args) (sym is.0 i) (sym is.1 i))
calls_one objects queue call (tried.Broke g fault) guard reply is = λ i. one (objects_with objects call (tried.Broke g fault)) queue
    (line call.process call.call (action.Call call.kind call.op call.object call.args) (sym is.0 i) (sym is.1 i))

-- what the message itself does
acts_one : (p : Performs) (c : Copied) (process : ProcessNo) (call : CallNo) (a : Action) (ok : IsTrue (is_performable a)) (guard : ℕ) (reply : Reply) → c.queue ≡ [] → Performed p c.objects a guard reply
    → acted p c (message process call a ok) ≡ one (objects_after p c.objects a) [] (line process call a guard reply)
acts_one p c process call (action.Make kind object) ok guard reply still done = λ i.
    one (objects_after p c.objects (action.Make kind object)) (still i) (line process call (action.Make kind object) (sym done.0 i) (making_replies (p.made kind) reply done.1 i))
acts_one p c process call (action.Call kind op object args) ok guard reply still done =
    let suspended = as_call (message process call (action.Call kind op object args) ok) kind op object args in
    let t = p.tries kind op done.0.state args in
    ap (λ (o : Option Instance). called_in c.objects c.queue suspended (tried_by p kind op args o)) done.1
    ∙ calls_one c.objects c.queue suspended t guard reply done.2
    ∙ (λ i. one ((ap (objects_if c.objects suspended t) done.1 ∙ sym (ap (after_call p c.objects kind op object args) done.1)) i) (still i) (line process call (action.Call kind op object args) guard reply))
acts_one p c process call (action.Fork text args place_on) ok guard reply still done = λ i.
    one c.objects (still i) (line process call (action.Fork text args place_on) (sym done.0 i) (sym done.1 i))
acts_one p c process call action.Ended ok guard reply still done = absurd done
acts_one p c process call (action.Faulted fault) ok guard reply still done = absurd done

-- then nothing settles
settles : (p : Performs) (s : Settling) (objects : Objects) (l : Line) → s ≡ one objects [] l → (s.lines ++ (settled_after p s).lines ≡ l ∷ []) × ((settled_after p s).objects ≡ objects) × ((settled_after p s).queue ≡ [])
settles p s objects l is = (
  ap (λ (t : Settling). t.lines ++ (settled_after p t).lines) is,
  ap (λ (t : Settling). (settled_after p t).objects) is,
  ap (λ (t : Settling). (settled_after p t).queue) is,
)

pub does : (p : Performs) (c : Copied) (process : ProcessNo) (call : CallNo) (a : Action) (ok : IsTrue (is_performable a)) (guard : ℕ) (reply : Reply) → c.queue ≡ [] → Performed p c.objects a guard reply
    → Does p c (message process call a ok) (line process call a guard reply)
does p c process call (action.Make kind object) ok guard reply still done =
    let s = settles p (acted p c (message process call (action.Make kind object) ok)) (objects_after p c.objects (action.Make kind object)) (line process call (action.Make kind object) guard reply)
    (acts_one p c process call (action.Make kind object) ok guard reply still done) in
    record { lines = s.0; objects = s.1; queue = s.2 }
does p c process call (action.Call kind op object args) ok guard reply still done =
    let s = settles p (acted p c (message process call (action.Call kind op object args) ok)) (objects_after p c.objects (action.Call kind op object args)) (line process call (action.Call kind op object args) guard reply)
    (acts_one p c process call (action.Call kind op object args) ok guard reply still done) in
    record { lines = s.0; objects = s.1; queue = s.2 }
does p c process call (action.Fork text args place_on) ok guard reply still done =
    let s = settles p (acted p c (message process call (action.Fork text args place_on) ok)) c.objects (line process call (action.Fork text args place_on) guard reply)
    (acts_one p c process call (action.Fork text args place_on) ok guard reply still done) in
    record { lines = s.0; objects = s.1; queue = s.2 }
does p c process call action.Ended ok guard reply still done = absurd done
does p c process call (action.Faulted fault) ok guard reply still done = absurd done
