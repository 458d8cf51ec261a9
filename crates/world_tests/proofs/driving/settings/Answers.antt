use Rattle.std.proofs.Common.{◌≡◌, ◌∙◌, Bool, true, false, List, ap, sym, arith}
use Rattle.orca_base.specs.declared.what.Choice.{Choice}
use Rattle.world_rules.specs.Frame.{chooses_single}
use Rattle.world_tests.proofs.driving.settings.Goals as goal

pub returns : goal.returns
returns c =
    let none = c.new-choices.ensures ∙ c.new-none.ensures.items in
    record {
      some = c.requires.nodes.0;
      few = c.requires.nodes.1;
      resilience = c.requires.resilience;
      a_turn = omega arith;
      turns = omega arith;
      an_event = c.requires.events.0;
      events = omega (arith, c.requires.events.1);
      a_wire = c.requires.wires.0;
      wires = c.requires.wires.1;
      single = λ text number h.
          let e : ◌≡◌ {A = Bool} false true = sym (ap (λ (l : List (List Choice)). chooses_single l text number) none) ∙ h in
          absurd (cc e);
    }
