use Rattle.world_law.proofs.Arriving.{steps_reach}
use Rattle.world_law.proofs.Grouping.{Laws}
use Rattle.world_law.proofs.answers_reach.Goals as goal

pub returns : goal.returns
returns c =
    let laws : Laws = record {
      steps = c.agreement_law.ensures.steps;
      forward = c.agreement_law.ensures.forward;
      worlds = c.agreement_law.ensures.worlds;
      calls = c.agreement_law.ensures.calls;
      sends = c.agreement_law.ensures.sends;
      others = c.agreement_law.ensures.others;
      numbered = c.wire_law.ensures.numbered;
      packets = c.wire_law.ensures.packets;
    } in
    λ f small. steps_reach laws c.agreement_law.ensures.agreed f small
