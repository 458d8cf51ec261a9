use Rattle.world_law.proofs.Grouping.{Laws}
use Rattle.world_law.proofs.Homing.{steps_home}
use Rattle.world_law.proofs.Moments.{MoreLaws}
use Rattle.world_law.proofs.processes_are_home.Goals as goal

pub returns : goal.returns
returns c =
    let laws : Laws = record {
      steps = c.agreement_law.ensures.steps;
      forward = c.agreement_law.ensures.forward;
      worlds = c.agreement_law.ensures.worlds;
      calls = c.agreement_law.ensures.calls;
      sends = c.agreement_law.ensures.sends;
      others = c.agreement_law.ensures.others;
      numbered = c.wire_law.ensures.numbered;
      packets = c.wire_law.ensures.packets;
    } in
    let more : MoreLaws = record { laws = laws; messages = c.agreement_law.ensures.messages; lasting = c.agreement_law.ensures.lasting } in
    λ f small. steps_home more c.agreement_law.ensures.agreed f small
