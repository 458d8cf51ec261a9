use Rattle.std.proofs.Common.{◌∙◌, ◌++◌, ◌∷◌, [], ap}
use Rattle.net_rules.specs.declared.asked.Asked.{Asked}
use Rattle.net_rules.specs.declared.asked.Asked.TheVariants.{Act}
use Rattle.std.specs.Prelude.{List}
use Rattle.run_loop.proofs.Stepping.{on_err}
use Rattle.run_loop.proofs.Telling.{kept_at, told_set}
use Rattle.room_state.proofs.asking.ask.Goals as goal

pub returns-in_err-make_room-clause-err : goal.returns-in_err-make_room-clause-err
returns-in_err-make_room-clause-err g c =
    on_err c.from_residual.result _ (kept_at g.W.Wire.told c.args.wires.now c.args.at c.index-wires-at.result c.make_room.new.self c.make_room.ensures.told)

pub returns-in_err-make_room-clause-scripts : goal.returns-in_err-make_room-clause-scripts
returns-in_err-make_room-clause-scripts g c =
    kept_at g.W.Wire.rule c.args.wires.now c.args.at c.index-wires-at.result c.make_room.new.self c.make_room.ensures.script

pub returns-in_err-make_room-clause-loaded : goal.returns-in_err-make_room-clause-loaded
returns-in_err-make_room-clause-loaded g c =
    kept_at g.W.Wire.loaded c.args.wires.now c.args.at c.index-wires-at.result c.make_room.new.self c.make_room.ensures.since

pub returns-clause-told : goal.returns-clause-told
returns-clause-told g c =
    told_set g.W.Wire.told c.args.wires.now c.args.at c.next_act.new.self c.index-wires-at.result (Act c.args.number c.next_act.result ∷ []) c.requires
    (c.next_act.ensures.told ∙ ap (λ (l : List Asked). l ++ Act c.args.number c.next_act.result ∷ []) c.make_room.ensures.told)

pub returns-clause-scripts : goal.returns-clause-scripts
returns-clause-scripts g c =
    kept_at g.W.Wire.rule c.args.wires.now c.args.at c.index-wires-at.result c.next_act.new.self (c.next_act.ensures.script ∙ c.make_room.ensures.script)

pub returns-clause-loaded : goal.returns-clause-loaded
returns-clause-loaded g c =
    kept_at g.W.Wire.loaded c.args.wires.now c.args.at c.index-wires-at.result c.next_act.new.self (c.next_act.ensures.since ∙ c.make_room.ensures.since)
