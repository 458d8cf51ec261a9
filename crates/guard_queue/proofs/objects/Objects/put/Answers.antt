use Rattle.std.proofs.Common.{◌≡◌, ◌∷◌, ◌++◌, ◌∙◌, [], ap, arith, length, length-append, subst, sym}
use Rattle.std.specs.Arc.{arc_value}
use Rattle.value_core.specs.History.{with_object}
use Rattle.guard_queue.specs.declared.objects.Write.{Write}
use Rattle.guard_queue.specs.Shown.{Rises, shown}
use Rattle.guard_queue.proofs.Writes.{length_with, rises_with, shown_last}
use Rattle.guard_queue.proofs.objects.Objects.put.Goals as goal

pub invariant_of-self-2 : goal.invariant_of-self-2
invariant_of-self-2 c =
    let w : Write = record { object = c.args.object; kept = c.in_ok-kept.kept } in
    let now = c.args.self.now in
    let before = c.gather.new.recent.items in
    let pushed : c.push.new.self.items ≡ before ++ w ∷ [] = (c.in_ok-push.ensures {u = tt}).items in
    let is : shown (arc_value c.gather.new.shared) c.push.new.self.items ≡ with_object now c.args.object c.args.kept =
    shown_last (arc_value c.gather.new.shared) before c.push.new.self.items w now c.args.kept (c.gather.ensures.same ∙ c.self.view_is) pushed (c.in_ok-kept.ensures {u = tt}).ok in
    let rises : Rises now = subst Rises c.self.view_is c.self.invariant.0 in
    let room = (c.in_ok-gather.ensures {u = tt}).room in
    let longer = ap length pushed in (
      subst Rises (sym is) (rises_with now c.args.object c.args.kept rises),
      c.in_ok-count.ensures {u = tt} ∙ sym (length_with now c.args.object c.args.kept rises) ∙ ap length (sym is),
      omega (arith, room, longer, length-append before (w ∷ [])),
    )

pub returns-clause-ok : goal.returns-clause-ok
returns-clause-ok c =
    let w : Write = record { object = c.args.object; kept = c.in_ok-kept.kept } in
    shown_last (arc_value c.gather.new.shared) c.gather.new.recent.items c.push.new.self.items w c.args.self.now c.args.kept (c.gather.ensures.same ∙ c.self.view_is) (c.in_ok-push.ensures {u = tt}).items (c.in_ok-kept.ensures {u = tt}).ok
