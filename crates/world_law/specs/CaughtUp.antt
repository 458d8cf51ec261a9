-- A member that has caught up: no entry is due at it, or the next one would pass a limit. How many rounds that takes.
use Rattle.std.specs.Prelude.{◌≡◌, ◌≤◌, ◌<◌, ◌*◌, ℕ, true, is_some, List, [], ◌∷◌, length}
use Rattle.value_core.specs.declared.message.Message.{Message}
use Rattle.object_manager.specs.After.{Copied}
use Rattle.object_manager.specs.Limits.{too_many}
use Rattle.group_rules.specs.Member.{Waiting}
use Rattle.world_rules.specs.declared.event.Step.{Step}
use Rattle.world_rules.specs.Applying.{applies_all, due_entries, round, rounds}
use Rattle.world_rules.specs.Frame.{Frame}
use Rattle.world_rules.specs.Nodes.{Node, NodeWork}
use Rattle.world_rules.specs.Steps.{Next}
use Rattle.world_rules.specs.Worlds.{World, opening_world}
use Rattle.world_law.specs.Grouped.{Grouped, Submits}
use Rattle.world_law.specs.Moments.{IsMoment}

-- the first of these entries would pass a limit, or there is none
abbrev pub StopsAt : Frame → Copied → List Message → Type 0
StopsAt f copies [] = Unit {0}
StopsAt f copies (x ∷ xs) = is_some (too_many f.performs copies x.action) ≡ true

abbrev pub HasCaughtUp : Frame → Node → Type 0
HasCaughtUp f node = StopsAt f node.copies (due_entries node)

-- each living member has
abbrev pub AllCaughtUp : Frame → World → Type 0
AllCaughtUp f w = (m : ℕ) → m < f.settings.nodes → w.lives m ≡ true → HasCaughtUp f (w.nodes m)

-- after each step
pub record StepsCatchUp (f : Frame) : Type 0 where
  pub opening : AllCaughtUp f (opening_world f)
  pub step : (w v : World) (step : Step) → Next f w step v → Submits f w step.event → Grouped f w → AllCaughtUp f w → AllCaughtUp f v

-- ---- rounds

-- its copies applied what was noted at least, and accepted entries alone, which its log has
pub record MayCatchUp (v : NodeWork) : Type 0 where
  pub noted : v.node.member.applied ≤ v.node.copies.applied
  pub below : v.node.copies.applied ≤ v.node.member.accepted
  pub logged : v.node.member.accepted ≤ length v.node.member.log

-- `up`, it has caught up; `told`, the group was told of all that it applied; `again`, so a round more changes nothing
pub record IsSettled (f : Frame) (m : ℕ) (v : NodeWork) : Type 0 where
  pub up : HasCaughtUp f v.node
  pub told : v.node.member.applied ≡ v.node.copies.applied
  pub again : round f m v ≡ v

-- `moments`, so it is at each moment of an event; `stays`, and after each round; `settles`, as many rounds as `waiting` counts
-- suffice; `once`, and so do any after which the member has caught up
pub record RoundsEnd (f : Frame) : Type 0 where
  pub moments : (w : World) (m : ℕ) (v : NodeWork) → IsMoment f w m v → MayCatchUp v
  pub stays : (m : ℕ) (v : NodeWork) → MayCatchUp v → MayCatchUp (round f m v)
  pub settles : (m : ℕ) (v : NodeWork) → MayCatchUp v → IsSettled f m (applies_all f m v)
  pub once :
      (m : ℕ) (v : NodeWork) (some : List (Waiting Message)) → MayCatchUp v → HasCaughtUp f (rounds f m some v).node →
      rounds f m some v ≡ applies_all f m v

abbrev pub AllCatchUp : Type 0
AllCatchUp = (f : Frame) → 2 * f.settings.resilience < f.settings.nodes → StepsCatchUp f

abbrev pub AllRoundsEnd : Type 0
AllRoundsEnd = (f : Frame) → 2 * f.settings.resilience < f.settings.nodes → RoundsEnd f
