use Rattle.value_core.specs.declared.action.Action.TheVariants as action
use Rattle.node_core.proofs.CarryingOut.{message_so}
use Rattle.node_core.proofs.work.message_for.Goals as goal

pub returns-in-Make : goal.returns-in-Make
returns-in-Make c = message_so c.args.process c.args.call c.args.action (action.Make c.in-Make.kind c.in-Make.object) _ c.in-Make.is

pub returns-in-Call : goal.returns-in-Call
returns-in-Call c =
    message_so c.args.process c.args.call c.args.action (action.Call c.in-Call.kind c.in-Call.op c.in-Call.object c.in-Call.args) _ c.in-Call.is

pub returns-in-Fork : goal.returns-in-Fork
returns-in-Fork c =
    message_so c.args.process c.args.call c.args.action (action.Fork c.in-Fork.text c.in-Fork.args c.in-Fork.place_on) _ c.in-Fork.is
