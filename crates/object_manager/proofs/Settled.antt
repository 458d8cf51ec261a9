-- What a message leaves, from what its parts leave.
use Rattle.std.proofs.Common.{◌≡◌, ℕ, ◌+◌, Bool, List, length, ap, ◌∙◌, sym}
use Rattle.std.specs.Prelude.{Vec}
use Rattle.std.specs.declared.alloc.Global.{Global}
use Rattle.orca_base.specs.declared.ids.KindNo.{KindNo}
use Rattle.orca_base.specs.declared.ids.ObjectId.{ObjectId}
use Rattle.value_core.specs.declared.action.Action.{Action}
use Rattle.value_core.specs.declared.action.Action.TheVariants as action
use Rattle.value_core.specs.declared.message.Message.{Message}
use Rattle.value_core.specs.declared.meaning.Making.{Making}
use Rattle.value_core.specs.Meaning.{Performs}
use Rattle.value_core.specs.History.{Objects, forked}
use Rattle.guard_queue.specs.declared.queue.Suspended.{Suspended}
use Rattle.guard_queue.specs.declared.change.Change.{Change}
use Rattle.guard_queue.specs.declared.settling.Answered.{Answered}
use Rattle.guard_queue.specs.Changes.{outcome}
use Rattle.guard_queue.specs.Settles.{Settling, stands}
use Rattle.object_manager.specs.Acts.{acts}
use Rattle.object_manager.specs.After.{Copied, after, settled_after}
use Rattle.object_manager.specs.Singles.{after_passed, after_single, counted_by, kept_by, own_after, singles_after}

-- the objects and the queue that are left where a change settles
pub left_is : (p : Performs) (objects : Objects) (queue : List Suspended) (change : Change) (lines all : Vec Answered Global) (left : Objects) (still : List Suspended) (s : Settling)
    → acts objects queue change lines ≡ s → stands left still all ≡ outcome p objects queue change lines → (left ≡ (settled_after p s).objects) × (still ≡ (settled_after p s).queue)
left_is p objects queue change lines all left still s acted ok = (
  ap (λ (t : Settling). t.objects) ok ∙ ap (λ (t : Settling). (settled_after p t).objects) acted,
  ap (λ (t : Settling). t.queue) ok ∙ ap (λ (t : Settling). (settled_after p t).queue) acted,
)

-- an entry
pub applied_is : (p : Performs) (x now : Copied) (message : Message) (objects : Objects) (queue : List Suspended) (forks : ℕ) → x ≡ now → objects ≡ (after p now message).objects → queue ≡ (after p now message).queue → forks ≡ length (forked message.action)
    → record x { objects = objects; queue = queue; processes = x.processes + forks; applied = x.applied + 1 } ≡ after p now message
applied_is p x now message objects queue forks same o q f = λ i. record (same i) { objects = o i; queue = q i; processes = (same i).processes + f i; applied = (same i).applied + 1 }

-- a call on a single object
pub single_is : (p : Performs) (x now : Copied) (message : Message) (own : Objects) (waits : List Suspended) → x ≡ now → own ≡ (after_single p now message).own → waits ≡ (after_single p now message).waits
    → record x { own = own; waits = waits } ≡ after_single p now message
single_is p x now message own waits same o w = λ i. record (same i) { own = o i; waits = w i }

-- a make of a single object
pub passed_is : (p : Performs) (keeps : Bool) (x now : Copied) (message : Message) (kind : KindNo) (object : ObjectId) (m : Making) (applied : ℕ) → message.action ≡ action.Make kind object → m ≡ p.made kind
    → x ≡ record now { singles = counted_by m kind object now.singles; own = kept_by keeps m kind object now.own } → applied ≡ now.applied + 1
    → record x { applied = applied } ≡ after_passed p keeps now message
passed_is p keeps x now message kind object m applied make made counts more =
    let counted : Making → Copied = λ n. record now { singles = counted_by n kind object now.singles; own = kept_by keeps n kind object now.own; applied = now.applied + 1 } in
    let by : Action → Copied = λ a. record now { singles = singles_after p now.singles a; own = own_after p keeps now.own a; applied = now.applied + 1 } in
    let first : record x { applied = applied } ≡ counted m = (λ i. record (counts i) { applied = more i }) in
    first ∙ ap counted made ∙ sym (ap by make)
