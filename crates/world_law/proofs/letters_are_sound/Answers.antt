use Rattle.world_law.proofs.Grouping.{Laws}
use Rattle.world_law.proofs.Spelling.{all_sound}
use Rattle.world_law.proofs.letters_are_sound.Goals as goal

pub returns : goal.returns
returns c =
    let laws : Laws = record {
      steps = c.agreement_law.ensures.steps;
      forward = c.agreement_law.ensures.forward;
      worlds = c.agreement_law.ensures.worlds;
      calls = c.agreement_law.ensures.calls;
      sends = c.agreement_law.ensures.sends;
      others = c.agreement_law.ensures.others;
      numbered = c.wire_law.ensures.numbered;
      packets = c.wire_law.ensures.packets;
    } in
    λ f small few. all_sound c.packets_are_sound.ensures laws f small few
