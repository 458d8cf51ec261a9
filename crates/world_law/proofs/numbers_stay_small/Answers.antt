use Rattle.world_law.proofs.Counting.{moments_count}
use Rattle.world_law.proofs.Grouping.{Laws}
use Rattle.world_law.proofs.Smallness.{steps_count}
use Rattle.world_law.proofs.numbers_stay_small.Goals as goal

pub returns : goal.returns
returns c =
    let laws : Laws = record {
      steps = c.agreement_law.ensures.steps;
      forward = c.agreement_law.ensures.forward;
      worlds = c.agreement_law.ensures.worlds;
      calls = c.agreement_law.ensures.calls;
      sends = c.agreement_law.ensures.sends;
      others = c.agreement_law.ensures.others;
      numbered = c.wire_law.ensures.numbered;
      packets = c.wire_law.ensures.packets;
    } in
    record {
      steps = λ f small. steps_count laws c.agreement_law.ensures.few_events c.agreement_law.ensures.routes f small;
      moments = λ f small. moments_count laws c.agreement_law.ensures.few_events f small;
    }
