-- What comes of a message's change where each suspended call is blocked.
use Rattle.std.proofs.Common.{◌≡◌, List, [], ◌∷◌, ◌++◌, ap, ◌∙◌, sym}
use Rattle.std.specs.Prelude.{Vec}
use Rattle.std.specs.declared.alloc.Global.{Global}
use Rattle.orca_base.specs.declared.ids.ObjectId.{ObjectId}
use Rattle.value_core.specs.declared.action.Instance.{Instance}
use Rattle.value_core.specs.declared.action.Line.{Line}
use Rattle.value_core.specs.declared.meaning.Tried.TheVariants as tried
use Rattle.value_core.specs.Meaning.{Performs}
use Rattle.value_core.specs.History.{Objects, with_object}
use Rattle.guard_queue.specs.declared.queue.Suspended.{Suspended}
use Rattle.guard_queue.specs.declared.settling.Answered.{Answered}
use Rattle.guard_queue.specs.declared.change.Change.{Change}
use Rattle.guard_queue.specs.declared.change.Change.TheVariants as change
use Rattle.guard_queue.specs.Changes.{outcome}
use Rattle.guard_queue.specs.Settles.{AllBlocked, Settling, behind, lines_of, settled_from, stands, tried_in}
use Rattle.guard_queue.proofs.Behind.{append_none, settled_behind}
use Rattle.guard_queue.proofs.Blocked.{blocked_last, settled_stays}

stays : (p : Performs) (objects : Objects) (queue : List Suspended) (lines : Vec Answered Global) → AllBlocked p objects queue
    → stands objects queue lines ≡ behind (lines_of lines.items) (settled_from p (record { objects = objects; queue = queue; lines = [] }))
stays p objects queue lines all =
    let s : Settling = record { objects = objects; queue = queue; lines = [] } in
    let f : (ls : List Line) → Settling = λ ls. record { objects = objects; queue = queue; lines = ls } in
    sym (ap (behind (lines_of lines.items)) (settled_stays p s all) ∙ ap f (append_none (lines_of lines.items)))

pub by_nothing : (p : Performs) (objects : Objects) (queue : List Suspended) (lines : Vec Answered Global) (c : Change) → c ≡ change.Nothing → AllBlocked p objects queue
    → stands objects queue lines ≡ outcome p objects queue c lines
by_nothing p objects queue lines c is all = stays p objects queue lines all ∙ sym (ap (λ d. outcome p objects queue d lines) is)

pub by_joining : (p : Performs) (objects : Objects) (queue : List Suspended) (lines : Vec Answered Global) (c : Change) (call : Suspended) → c ≡ change.Joins call → AllBlocked p objects queue → tried_in p objects call ≡ tried.Blocked
    → stands objects (queue ++ call ∷ []) lines ≡ outcome p objects queue c lines
by_joining p objects queue lines c call is all blocked = stays p objects (queue ++ call ∷ []) lines (blocked_last p objects queue call all blocked) ∙ sym (ap (λ d. outcome p objects queue d lines) is)

pub by_putting : (p : Performs) (objects : Objects) (queue : List Suspended) (lines : Vec Answered Global) (c : Change) (object : ObjectId) (kept : Instance) (s : Settling) → c ≡ change.Puts object kept
    → s ≡ settled_from p (stands (with_object objects object kept) queue lines) → s ≡ outcome p objects queue c lines
by_putting p objects queue lines c object kept s is put =
    settled_behind p (with_object objects object kept) queue (lines_of lines.items) s put ∙ sym (ap (λ d. outcome p objects queue d lines) is)
