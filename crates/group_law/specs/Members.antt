-- More of what members keep: docs/RUNTIME.md, Agreement.
use Rattle.std.specs.Prelude.{ℕ, true, is_some, List, [], ◌≡◌, ◌<◌, ◌-◌, ◌*◌, ◌⊎◌, length}
use Rattle.group_rules.specs.Sets.{count}
use Rattle.group_rules.specs.Messages.{Group}
use Rattle.group_rules.specs.Member.{Member, is_gathering, leads, has_room}
use Rattle.group_rules.specs.Reset.{gave}
use Rattle.group_rules.specs.Steps.{note}
use Rattle.group_rules.specs.World.{GroupWorld, Event, run, opening}

-- in any state: a note lets a member know more to be accepted only by a message that waited, of which there are then fewer
abbrev pub WaitedLaw : Type 0 → Type 0
WaitedLaw M = (g : Group M) (m n : ℕ) (s : Member M) →
    ((note g m n s).state.accepted ≡ s.accepted) ⊎ (length (note g m n s).state.waiting < length s.waiting)

pub record Members {M : Type 0} (g : Group M) (w : GroupWorld M) : Type 0 where
  -- a coordinator that gathers keeps its own answer, and fewer than it takes
  pub gathers : (m : ℕ) → is_gathering g m (w.members m) ≡ true →
      (is_some ((w.members m).answers m) ≡ true) × (count g.nodes (gave (w.members m).answers) < g.nodes - g.resilience)
  -- at an active sequencer whose window has room no message waits
  pub room : (m : ℕ) → leads g m (w.members m) ≡ true → has_room (w.members m) ≡ true → (w.members m).waiting ≡ []
  -- where no member may be lost, each knows its whole log to be accepted
  pub at_once : g.resilience ≡ 0 → (m : ℕ) → (w.members m).accepted ≡ length (w.members m).log

abbrev pub MembersLaw : Type 0 → Type 0
MembersLaw M = (g : Group M) → 2 * g.resilience < g.nodes → (events : List (Event M)) → Members g (run g opening events)
