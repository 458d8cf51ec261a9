use Rattle.std.proofs.Common.{◌<◌, ◌∙◌, ap, length, remove, subst, sym}
use Rattle.std.specs.Arc.{arc_value}
use Rattle.guard_queue.specs.Waits.{IsIndexOf, called}
use Rattle.guard_queue.proofs.Indexed.{index_has, index_less}
use Rattle.guard_queue.proofs.Places.{removed, seen_one}
use Rattle.guard_queue.proofs.queue.Queue.take_out.Goals as goal

pub take_one-requires : goal.take_one-requires
take_one-requires c =
    let items = c.self.inside.calls.items in
    let here = seen_one arc_value items c.args.at c.remove-call.result c.deref.result.now c.remove-call.ensures.value c.deref.ensures in
    index_has c.self.inside.index (called items) c.args.at c.deref.result.now (subst (λ q. c.args.at < length q) (sym c.self.view_is) c.requires) here c.self.invariant

pub invariant_of-self : goal.invariant_of-self
invariant_of-self c =
    let items = c.self.inside.calls.items in
    let here = seen_one arc_value items c.args.at c.remove-call.result c.deref.result.now c.remove-call.ensures.value c.deref.ensures in
    let lt = subst (λ q. c.args.at < length q) (sym c.self.view_is) c.requires in
    let left = ap called c.remove-call.ensures.items ∙ removed arc_value items c.args.at in
    subst (IsIndexOf c.take_one.new.index) (sym left) (index_less c.self.inside.index c.take_one.new.index (called items) c.args.at c.deref.result.now lt here c.self.invariant c.take_one.ensures)

pub returns : goal.returns
returns c = ap called c.remove-call.ensures.items ∙ removed arc_value c.self.inside.calls.items c.args.at ∙ ap (λ q. remove q c.args.at) c.self.view_is
