use Rattle.std.proofs.Common.{◌∙◌, map, refl, sym}
use Rattle.std.proofs.lemmas.List.{length-map}
use Rattle.run_loop.proofs.Ending.{opens_as}
use Rattle.room_state.specs.Driven.{without_tasks}
use Rattle.room_state.proofs.state.RoomState.new.Goals as goal

pub invariant_of-result : goal.invariant_of-result
invariant_of-result g c =
    let run = g.P.OneRun.run in (
      opens_as run.frame (without_tasks c.args.world) 0 run.told (map g.W.Wire.told c.args.wires.items) run.frame.settings refl c.requires.opens refl refl c.requires.told
          (c.requires.wires ∙ sym (length-map c.args.wires.items g.W.Wire.told)) c.requires.ranges,
      c.requires.rules,
      c.requires.loaded,
    )
