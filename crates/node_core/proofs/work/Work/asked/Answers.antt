use Rattle.std.proofs.Common.{◌∙◌, ap, sym}
use Rattle.std.specs.Option.{option_copied}
use Rattle.node_core.proofs.Sending.{asked_so}
use Rattle.node_core.proofs.work.Work.asked.Goals as goal

pub returns : goal.returns
returns g c =
    asked_so c.args.process _ c.in-Some.resident.now c.in-Asking.action c.in-Call.kind c.in-Call.op c.in-Call.object c.in-Call.args c.in_ok-copy.field-0 c.place.result c.next_call.result _
    (sym c.resident.ensures ∙ ap option_copied c.in-Some.is) (sym c.stage.ensures ∙ c.in-Asking.is) c.in-Call.is c.place.ensures c.next_call.ensures (c.in_ok-copy.ensures {u = tt})
