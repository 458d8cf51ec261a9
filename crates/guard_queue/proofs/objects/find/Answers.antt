use Rattle.std.proofs.Common.{Some, ap, ◌∙◌, sym}
use Rattle.std.specs.Prelude.{option_map}
use Rattle.std.specs.Arc.{arc_value}
use Rattle.std.specs.BTreeMap.{is_at}
use Rattle.value_core.specs.History.{object_cmp}
use Rattle.guard_queue.proofs.Shared.{lookup_shown}
use Rattle.guard_queue.proofs.objects.find.Goals as goal

pub returns-in-Some : goal.returns-in-Some
returns-in-Some c =
    ap Some c.deref.ensures ∙ ap (option_map arc_value) c.in-Some.ensures.value ∙ sym (lookup_shown arc_value (is_at (object_cmp c.args.object)) c.args.map.now.entries)

pub returns-in-None : goal.returns-in-None
returns-in-None c = ap (option_map arc_value) c.in-None.ensures.value ∙ sym (lookup_shown arc_value (is_at (object_cmp c.args.object)) c.args.map.now.entries)
