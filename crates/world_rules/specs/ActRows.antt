-- Acts of wires, at examples.
use Rattle.std.specs.Prelude.{◌≡◌, true, false, [], ◌∷◌, None, Some}
use Rattle.net_rules.specs.declared.asked.Asked.TheVariants.{Act}
use Rattle.net_rules.specs.declared.fate.WireAct.TheVariants as does
use Rattle.world_rules.specs.Acts.{acts_in, is_passed_over, last_answer, wire_before}
use Rattle.world_rules.specs.NetworkSteps.{world_with}
use Rattle.world_rules.specs.OneCell.{one_cell}
use Rattle.world_rules.specs.Scenes.{both, crash, steps_of, swap}
use Rattle.world_rules.specs.Worlds.{opening_world}

pub record PassedOver : Type 0 where
  -- a member that lives, one that there isn't, one that crashed
  pub lives : is_passed_over one_cell (opening_world one_cell) (does.Crash 2) ≡ false
  pub none : is_passed_over one_cell (opening_world one_cell) (does.Crash 3) ≡ true
  pub crashed : is_passed_over one_cell (world_with both (crash 2 ∷ [])) (does.Suspect 2) ≡ true
  pub other : is_passed_over one_cell (world_with both (crash 2 ∷ [])) (does.Suspect 1) ≡ false

pub record InUse : Type 0 where
  -- an exchange is an event of the wire before it, and what comes behind it of the next
  pub first : wire_before 1 (steps_of (swap ∷ crash 1 ∷ [])) ≡ 0
  pub second : wire_before 2 (steps_of (swap ∷ crash 1 ∷ [])) ≡ 1

pub record Answered : Type 0 where
  -- the last answer of its number counts
  pub last : last_answer 2 (acts_in (Act 2 (Some (does.Crash 1)) ∷ Act 2 None ∷ Act 3 (Some does.Swap) ∷ [])) ≡ Some None
  pub act : last_answer 3 (acts_in (Act 2 (Some (does.Crash 1)) ∷ Act 2 None ∷ Act 3 (Some does.Swap) ∷ [])) ≡ Some (Some does.Swap)
  pub none : last_answer 4 (acts_in (Act 2 (Some (does.Crash 1)) ∷ [])) ≡ None
