use Rattle.world_law.proofs.Events.{steps_grouped}
use Rattle.world_law.proofs.Gives.{gives_event}
use Rattle.world_law.proofs.Grouping.{Laws}
use Rattle.world_law.proofs.Lists.{lists_grow}
use Rattle.world_law.proofs.Moments.{MoreLaws, moments_hold}
use Rattle.world_law.proofs.group_steps.Goals as goal

pub returns : goal.returns
returns c =
    let laws : Laws = record {
      steps = c.agreement_law.ensures.steps;
      forward = c.agreement_law.ensures.forward;
      worlds = c.agreement_law.ensures.worlds;
      calls = c.agreement_law.ensures.calls;
      sends = c.agreement_law.ensures.sends;
      others = c.agreement_law.ensures.others;
      numbered = c.wire_law.ensures.numbered;
      packets = c.wire_law.ensures.packets;
    } in
    let more : MoreLaws = record { laws = laws; messages = c.agreement_law.ensures.messages; lasting = c.agreement_law.ensures.lasting } in
    record {
      events = λ f small. steps_grouped laws f small;
      gives = λ f small w event given grouped may submit. gives_event more f small w event given grouped may submit;
      moments = λ f small. moments_hold more f small;
      lists = λ f small. lists_grow laws c.agreement_law.ensures.agreed f small;
    }
