-- Where settling ends, as a relation: rounds, in each of which the oldest call that isn't blocked is performed or faults, lead to
-- where each call is blocked (Bal, Kaashoek, Tanenbaum 1992, section 3; docs/LANGUAGE.md, Operations and makings).
use Rattle.std.specs.Prelude.{◌≡◌, List, [], ◌∷◌, ◌++◌}
use Rattle.value_core.specs.declared.meaning.Tried.TheVariants as tried
use Rattle.value_core.specs.Meaning.{Performs}
use Rattle.value_core.specs.History.{Objects}
use Rattle.guard_queue.specs.declared.queue.Suspended.{Suspended}
use Rattle.guard_queue.specs.Settles.{AllBlocked, Settling, answered, objects_with, settled, tried_in}

-- one round: a call that isn't blocked, where each older one is, is performed or faults and leaves the queue
pub record IsRound (p : Performs) (before after : Settling) : Type 0 where
  pub older : List Suspended
  pub call : Suspended
  pub newer : List Suspended
  pub waits : before.queue ≡ older ++ call ∷ newer
  pub blocked : AllBlocked p before.objects older
  pub ready : tried_in p before.objects call ≡ tried.Blocked → ⊥
  pub objects : after.objects ≡ objects_with before.objects call (tried_in p before.objects call)
  pub queue : after.queue ≡ older ++ newer
  pub lines : after.lines ≡ before.lines ++ answered call (tried_in p before.objects call) ∷ []

-- rounds lead to this end, at which each call is blocked
pub data EndsAt (p : Performs) (end : Settling) : Settling → Type 0 where
  Done : (now : Settling) → AllBlocked p now.objects now.queue → end ≡ now → EndsAt p end now
  Then : (now next : Settling) → IsRound p now next → EndsAt p end next → EndsAt p end now

-- the queue settles on these objects, and this comes of it
abbrev pub Settles : Performs → Objects → List Suspended → Settling → Type 0
Settles p objects queue end = EndsAt p end (record { objects = objects; queue = queue; lines = [] })

-- settling has one end, which `settled` gives
abbrev pub SettlesOnce : Performs → Type 0
SettlesOnce p =
    (objects : Objects) (queue : List Suspended) →
    Settles p objects queue (settled p objects queue) × ((end : Settling) → Settles p objects queue end → end ≡ settled p objects queue)
