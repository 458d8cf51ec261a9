use Rattle.std.proofs.Common.{◌∙◌, subst, sym}
use Rattle.guard_queue.specs.Waits.{IsWaitingOn, called}
use Rattle.guard_queue.proofs.Indexed.{found_waits, waits_found}
use Rattle.guard_queue.proofs.queue.Queue.has_on.Goals as goal

pub returns : goal.returns
returns c =
    let calls = called c.self.inside.calls.items in (
      λ yes. subst (λ q. IsWaitingOn q c.args.object) c.self.view_is (found_waits c.self.inside.index calls c.args.object c.self.invariant (sym c.contains_key.ensures ∙ yes)),
      λ on. c.contains_key.ensures ∙ waits_found c.self.inside.index calls c.args.object c.self.invariant (subst (λ q. IsWaitingOn q c.args.object) (sym c.self.view_is) on),
    )
