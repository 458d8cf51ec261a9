use Rattle.std.proofs.Common.{refl, arith}
use Rattle.world_tests.proofs.driving.single_settings.Goals as goal

pub returns : goal.returns
returns c = record {
  ranges = record {
    some = omega arith;
    few = omega arith;
    resilience = omega arith;
    a_turn = omega arith;
    turns = omega arith;
    an_event = omega arith;
    events = omega arith;
    a_wire = omega arith;
    wires = omega arith;
    single = λ text number h. refl;
  };
}
