use Rattle.std.proofs.Common.{◌≡◌, ◌∙◌, None, Some, ap, sym}
use Rattle.std.specs.Arc.{arc_value}
use Rattle.std.specs.BTreeMap.{BTreeMap}
use Rattle.std.specs.declared.alloc.Global.{Global}
use Rattle.std.specs.declared.sync.Arc.{Arc}
use Rattle.orca_base.specs.declared.ids.ObjectId.{ObjectId}
use Rattle.value_core.specs.declared.action.Instance.{Instance}
use Rattle.value_core.specs.History.{object_at}
use Rattle.guard_queue.specs.Shown.{or_else, shown_objects, written_at, written_objects}
use Rattle.guard_queue.proofs.Writes.{found_shown}
use Rattle.guard_queue.proofs.objects.Objects.get.Goals as goal

pub returns-in-Some : goal.returns-in-Some
returns-in-Some c =
    let q = c.args.object in
    let map = arc_value c.self.inside.shared in
    let recent = c.self.inside.recent.items in
    let wrote : Some c.in-Some.kept.now ≡ written_at (written_objects recent) q = c.in-Some.ensures ∙ ap (λ ws. written_at (written_objects ws) q) c.deref.ensures.value in
    ap (λ o. or_else o (object_at (shown_objects map.entries) q)) wrote ∙ sym (found_shown map recent c.args.self.now q c.self.view_is)

pub returns-in-None : goal.returns-in-None
returns-in-None c =
    let q = c.args.object in
    let map = arc_value c.self.inside.shared in
    let recent = c.self.inside.recent.items in
    let wrote : None ≡ written_at (written_objects recent) q = c.in-None.ensures ∙ ap (λ ws. written_at (written_objects ws) q) c.deref.ensures.value in
    c.find.ensures ∙ ap (λ (m : BTreeMap ObjectId (Arc Instance Global)). object_at (shown_objects m.entries) q) c.deref-in-None.ensures
    ∙ ap (λ o. or_else o (object_at (shown_objects map.entries) q)) wrote ∙ sym (found_shown map recent c.args.self.now q c.self.view_is)
