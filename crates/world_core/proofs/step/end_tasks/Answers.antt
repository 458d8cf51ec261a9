use Rattle.std.proofs.Common.{◌<◌, sym, subst, refl, length}
use Rattle.std.proofs.lemmas.Option.{slice_get_read}
use Rattle.world_rules.specs.declared.event.Event.{Event}
use Rattle.world_core.specs.Closing.{HasEnded, HasLost, MayEnd}
use Rattle.world_core.proofs.CheckingOut.{handed_on}
use Rattle.world_core.proofs.step.end_tasks.Goals as goal

pub returns-in-Crash : goal.returns-in-Crash
returns-in-Crash g c =
    let lt : c.in-Crash.node < length c.args.parts.now.nodes.items = subst (λ (e : Event). MayEnd e c.args.parts.now) c.in-Crash.is c.requires in
    let lost : HasLost g.P.OneRun.stood g.P.OneRun.left c.in-Crash.node c.args.parts.now (handed_on c.args.parts.now c.in-Crash.node c.recall.new.self c.args.parts.now.ledger) = record {
      others = refl;
      before = c.index_mut.result.now;
      after = c.recall.new.self;
      here = slice_get_read c.args.parts.now.nodes.items (length c.args.parts.now.nodes.items) c.in-Crash.node c.index_mut.result.now refl lt c.index_mut.ensures.value;
      nodes = refl;
      recalled = c.recall.ensures.recalled;
      alike = c.recall.ensures.alike;
    } in
    subst (λ (e : Event). HasEnded g.P.OneRun.stood g.P.OneRun.left e c.args.parts.now (handed_on c.args.parts.now c.in-Crash.node c.recall.new.self c.args.parts.now.ledger)) (sym c.in-Crash.is) lost
