use Rattle.world_law.proofs.Grouping.{Laws}
use Rattle.world_law.proofs.Holding.{steps_hold}
use Rattle.world_law.proofs.Moments.{MoreLaws}
use Rattle.world_law.proofs.runs_hold.Goals as goal

pub returns : goal.returns
returns c =
    let laws : Laws = record {
      steps = c.agreement_law.ensures.steps;
      forward = c.agreement_law.ensures.forward;
      worlds = c.agreement_law.ensures.worlds;
      calls = c.agreement_law.ensures.calls;
      sends = c.agreement_law.ensures.sends;
      others = c.agreement_law.ensures.others;
      numbered = c.wire_law.ensures.numbered;
      packets = c.wire_law.ensures.packets;
    } in
    let more : MoreLaws = record { laws = laws; messages = c.agreement_law.ensures.messages; lasting = c.agreement_law.ensures.lasting } in
    λ f small. steps_hold more c.agreement_law.ensures.few_events c.agreement_law.ensures.routes c.agreement_law.ensures.agreed f small
