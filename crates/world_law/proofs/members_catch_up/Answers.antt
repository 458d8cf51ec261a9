use Rattle.world_law.proofs.CatchingUp.{rounds_end, steps_catch_up}
use Rattle.world_law.proofs.Grouping.{Laws}
use Rattle.world_law.proofs.members_catch_up.Goals as goal

pub returns : goal.returns
returns c =
    let laws : Laws = record {
      steps = c.agreement_law.ensures.steps;
      forward = c.agreement_law.ensures.forward;
      worlds = c.agreement_law.ensures.worlds;
      calls = c.agreement_law.ensures.calls;
      sends = c.agreement_law.ensures.sends;
      others = c.agreement_law.ensures.others;
      numbered = c.wire_law.ensures.numbered;
      packets = c.wire_law.ensures.packets;
    } in
    record {
      steps = λ f small. steps_catch_up laws f small;
      rounds = λ f small. rounds_end laws f small;
    }
