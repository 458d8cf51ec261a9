use Rattle.std.proofs.Common.{◌≡◌, ◌∷◌, ◌++◌, ◌∙◌, [], ap, subst, sym}
use Rattle.std.specs.Arc.{arc_value}
use Rattle.guard_queue.specs.Waits.{IsIndexOf, called}
use Rattle.guard_queue.proofs.Indexed.{index_more}
use Rattle.guard_queue.proofs.Places.{seen_last}
use Rattle.guard_queue.proofs.queue.Queue.push.Goals as goal

pub invariant_of-self-2 : goal.invariant_of-self-2
invariant_of-self-2 c =
    let before = c.self.inside.calls.items in
    let pushed : called c.push_reserved.new.self.items ≡ called before ++ c.args.call ∷ [] =
    ap called c.push_reserved.ensures.items ∙ ap (λ xs. called (xs ++ c.in_ok-call.call ∷ [])) c.reserve.ensures.items
    ∙ seen_last arc_value before c.in_ok-call.call ∙ ap (λ s. called before ++ s ∷ []) (c.in_ok-call.ensures {u = tt}).ok in
    subst (IsIndexOf c.add_one.new.index) (sym pushed) (index_more c.self.inside.index c.add_one.new.index (called before) c.args.call c.self.invariant (c.in_ok-add_one.ensures {u = tt}).ok)
