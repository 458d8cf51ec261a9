use Rattle.std.proofs.Common.{◌∙◌}
use Rattle.object_manager.proofs.Acting.{opening_is}
use Rattle.object_manager.proofs.copies.Copies.opening.Goals as goal

pub returns : goal.returns
returns c =
    opening_is _ c.in_ok-objects.objects c.in_ok-new.field-0 c.new-3.result c.new-6.result c.new-4.result.items c.new-2.result (c.in_ok-objects.ensures {u = tt}) (c.objects.view_is ∙ (c.in_ok-put.ensures {u = tt}).ok) c.new-2.ensures
    c.new-3.ensures c.new-4.ensures.items (c.in_ok-new.ensures {u = tt}) c.new-6.ensures
