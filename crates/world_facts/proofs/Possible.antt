-- A step is an event that is possible, with as many fates as packets.
use Rattle.std.proofs.Common.{◌≡◌, refl}
use Rattle.world_rules.specs.declared.event.Step.{Step}
use Rattle.world_rules.specs.declared.standing.Standing.TheVariants.{Finished, Going}
use Rattle.world_rules.specs.Frame.{Frame}
use Rattle.world_rules.specs.Steps.{Next}
use Rattle.world_rules.specs.Worlds.{World}
use Rattle.world_facts.specs.Possible.{IsStep, StepsMay}

step_of : (f : Frame) (w : World) (step : Step) (v : World) → Next f w step v → IsStep f w step v
step_of f w step v next = ((next.going, (next.given, next.possible)), next.fates, next.after)

next_of : (f : Frame) (w : World) (step : Step) (v : World) → IsStep f w step v → Next f w step v
next_of f w step v s = record { given = s.0.1.0; going = s.0.0; possible = s.0.1.1; fates = s.1; after = s.2 }

not_going : Finished ≡ Going → ⊥
not_going e = cc e

pub steps_may : StepsMay
steps_may = record {
  steps = λ f w step v. (step_of f w step v, next_of f w step v);
  none = λ f w not_going event may. not_going may.0;
  tick = refl;
  no_tick = λ may. not_going may.0;
}
