use Rattle.std.proofs.Common.{length, map}
use Rattle.join_command.proofs.Joining.{asked_as, followed_as, one_wire, ranges, replicated, run_of_joined}
use Rattle.join_command.proofs.running.join_loaded.Goals as goal

pub follow-joined-requires-clause-ranges : goal.follow-joined-requires-clause-ranges
follow-joined-requires-clause-ranges g c = ranges c.args.options c.settings_of-settings.result c.settings_of-settings.ensures c.requires.options

pub follow-joined-requires-clause-wires : goal.follow-joined-requires-clause-wires
follow-joined-requires-clause-wires g c = one_wire c.args.options c.settings_of-settings.result (length c.args.group.now) c.settings_of-settings.ensures c.requires.wires

pub follow-joined-requires-clause-replicated : goal.follow-joined-requires-clause-replicated
follow-joined-requires-clause-replicated g c =
    let m = c.args.machine.now in
    replicated (g.M.Performer.performs m) (g.M.Processor.computes m) c.args.options c.settings_of-settings.result c.settings_of-settings.ensures

pub returns-clause-run : goal.returns-clause-run
returns-clause-run g c =
    let m = c.args.machine.now in
    run_of_joined (g.M.Performer.performs m) (g.M.Processor.computes m) c.args.options c.settings_of-settings.result c.follow-joined.result c.made_of.result
    (map g.W.Wire.told c.args.group.now) (map g.W.Wire.told c.follow-joined.new.wires) (g.W.Wire.told c.args.own.now) (g.W.Wire.told c.follow-joined.new.own) c.settings_of-settings.ensures
    c.replay_law.ensures.once c.follow-joined.ensures.run c.follow-joined.ensures.told c.follow-joined.ensures.joined c.made_of.ensures

pub returns-clause-asked : goal.returns-clause-asked
returns-clause-asked g c =
    let m = c.args.machine.now in
    asked_as (g.M.Performer.performs m) (g.M.Processor.computes m) c.args.options c.settings_of-settings.result (map g.W.Wire.told c.args.group.now) (map g.W.Wire.told c.follow-joined.new.wires) c.settings_of-settings.ensures c.follow-joined.ensures.asked

pub returns-clause-followed : goal.returns-clause-followed
returns-clause-followed g c =
    let m = c.args.machine.now in
    followed_as (g.M.Performer.performs m) (g.M.Processor.computes m) c.args.options c.settings_of-settings.result (g.W.Wire.told c.args.own.now) (g.W.Wire.told c.follow-joined.new.own) c.follow-joined.result c.settings_of-settings.ensures c.follow-joined.ensures.joined
