use Rattle.std.proofs.Common.{◌≡◌, List, [], rules, subst, sym, drop}
use Rattle.std.specs.Arc.{arc_value}
use Rattle.std.specs.Map.Iter.{deref_pair}
use Rattle.std.proofs.lemmas.Map.Iter.{rest_all}
use Rattle.orca_base.specs.declared.ids.ObjectId.{ObjectId}
use Rattle.value_core.specs.History.{object_at}
use Rattle.guard_queue.specs.declared.objects.Write.{Write}
use Rattle.guard_queue.specs.Shown.{shown_objects, written, written_objects}
use Rattle.guard_queue.proofs.Places.{none_left}
use Rattle.guard_queue.proofs.Writes.{AllIds, ids_all, ids_found}
use Rattle.guard_queue.proofs.objects.Objects.has_all.Goals as goal

pub returns-clause-yes : goal.returns-clause-yes
returns-clause-yes c =
    let Same : ObjectId → Type 0 = λ id. object_at c.args.self.now id ≡ object_at c.args.other.now id in
    let entries = (arc_value c.other.inside.shared).entries in
    let recent = c.other.inside.recent.items in
    let start : c.into_iter-object-iterator.result ≡ entries = search rules in
    let ended : c.loop-object.object-iterator ≡ [] = rest_all deref_pair c.loop-object.object-iterator c.next.new.self c.next.result c.in-None.is c.next.ensures.steps in
    let maps : AllIds Same (shown_objects entries) = subst (λ es. AllIds Same (shown_objects es)) start (c.loop-object.invariant (subst (λ es. AllIds Same (shown_objects es)) (sym ended) tt)) in
    let items = c.deref-write-items.result.now in
    let none : written_objects (drop c.loop-write.write-index items) ≡ [] = none_left written items c.loop-write.write-index c.loop-write-test.false in
    let writes : AllIds Same (written_objects recent) = subst (λ (ws : List Write). AllIds Same (written_objects ws)) c.deref-write-items.ensures.value (c.loop-write.invariant (subst (AllIds Same) (sym none) tt)) in
    λ t id there. ids_found Same c.args.other.now id (subst (AllIds Same) c.other.view_is (ids_all Same (shown_objects entries) (written_objects recent) maps writes)) there
