use Rattle.std.proofs.Common.{◌≡◌, ◌∙◌, subst, sym}
use Rattle.std.proofs.lemmas.Result.{IfOk-weaker}
use Rattle.value_core.specs.History.{Objects}
use Rattle.guard_queue.specs.Shown.{with_all}
use Rattle.object_manager.specs.After.{Copied}
use Rattle.object_manager.specs.Singles.{IsBoth}
use Rattle.object_manager.proofs.Both.{both_are}
use Rattle.object_manager.proofs.copies.Copies.held.Goals as goal

pub returns : goal.returns
returns c =
    let inside = c.self.inside in
    let both = both_are _ c.self.invariant c.len.ensures.ids in
    let objects = c.in_ok-objects.ensures {u = tt} in
    let own = c.in_ok-entries.ensures {u = tt} in
    let same : with_all c.in_ok-objects.objects c.in_ok-entries.field-0.items ≡ with_all inside.objects inside.own = (λ i. with_all (objects i) (own i)) in
    IfOk-weaker c.with_entries.result _ _
    (λ o is.
    let P : Objects → Type 0 = λ z. IsBoth z inside.objects inside.own in
    let Q : Copied → Type 0 = λ y. IsBoth o y.objects y.own in
    subst Q c.self.view_is (subst P (sym (is ∙ same)) both))
    c.with_entries.ensures
