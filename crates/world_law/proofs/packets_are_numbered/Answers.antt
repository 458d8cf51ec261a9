use Rattle.world_law.proofs.Grouping.{Laws}
use Rattle.world_law.proofs.Numbering.{steps_number}
use Rattle.world_law.proofs.packets_are_numbered.Goals as goal

pub returns : goal.returns
returns c =
    let laws : Laws = record {
      steps = c.agreement_law.ensures.steps;
      forward = c.agreement_law.ensures.forward;
      worlds = c.agreement_law.ensures.worlds;
      calls = c.agreement_law.ensures.calls;
      sends = c.agreement_law.ensures.sends;
      others = c.agreement_law.ensures.others;
      numbered = c.wire_law.ensures.numbered;
      packets = c.wire_law.ensures.packets;
    } in
    λ f small. steps_number laws c.agreement_law.ensures.routes f small
