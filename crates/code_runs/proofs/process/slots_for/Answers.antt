use Rattle.std.proofs.Common.{pos, replicate, drop, ap, ◌∙◌}
use Rattle.value_core.specs.Datum as datum
use Rattle.value_core.specs.Datum.{list_of}
use Rattle.code_runs.proofs.Filling.{filled}
use Rattle.code_runs.proofs.process.slots_for.Goals as goal

pub returns : goal.returns
returns c =
    let part = c.args.part.now in
    let n = c.len.result in
    filled part.opens.items c.values_behind.result.now (list_of c.args.args.now) (list_of c.in_ok-slots.slots) (list_of c.add_copies.new.all) (list_of c.add_spare.new.all) (replicate part.spare (datum.int (pos 0))) n
    (ap list_of (c.in_ok-slots.ensures {u = tt})) c.len.ensures.len (c.values_behind.ensures ∙ ap (drop n) c.deref.ensures.value) (c.in_ok-add_copies.ensures {u = tt}) (c.in_ok-add_spare.ensures {u = tt})
