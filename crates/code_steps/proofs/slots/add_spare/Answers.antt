use Rattle.std.proofs.Common.{pos}
use Rattle.value_core.specs.Datum as datum
use Rattle.value_core.specs.Datum.{list_of}
use Rattle.code_steps.proofs.Filling.{spare_more}
use Rattle.code_steps.proofs.slots.add_spare.Goals as goal

pub spare-preserved : goal.spare-preserved
spare-preserved c =
    spare_more (list_of c.args.all.now) (list_of c.spare.all) (list_of c.push.new.self) c.spare._slot (datum.int (pos 0)) c.spare.invariant (c.in_ok-push.ensures {u = tt}).ok
