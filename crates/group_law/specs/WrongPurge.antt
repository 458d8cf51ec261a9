-- The wrong row that purges to the sequencer's own applied number breaks the law, as a run shows: docs/RUNTIME.md, Agreement.
use Rattle.std.specs.Prelude.{ℕ, zero, suc, List, [], ◌∷◌, ◌++◌, ◌*◌, ◌≡◌}
use Rattle.orca_base.specs.declared.limits.TheConstants.{ENTRIES_BEFORE_PURGE}
use Rattle.group_rules.specs.Messages.{Group}
use Rattle.group_rules.specs.Member.{Member}
use Rattle.group_rules.specs.Work.{Work, idle, when}
use Rattle.group_rules.specs.Receiver.{send_status}
use Rattle.group_rules.specs.Steps.{note, noted, should_report}
use Rattle.group_rules.specs.World.{GroupWorld, Event, opening, put, gnext, run}
use Rattle.group_rules.specs.World.Event.{Submit, Note}
use Rattle.group_rules.specs.Runs.{group}
use Rattle.group_rules.specs.Wrong.{purges_to_own_applied}
use Rattle.group_law.specs.Told.{Purges}

-- the row of a note, with the wrong purge at its end
abbrev pub note_to_own_applied : Group ℕ → ℕ → ℕ → Member ℕ → Work ℕ
note_to_own_applied g m n s = purges_to_own_applied g m (when (should_report g m n s) (send_status g m) (idle (noted g n s)))

-- the first message of each of so many processes, submitted at member 0
abbrev pub first_calls : ℕ → List (Event ℕ)
first_calls zero = []
first_calls (suc n) = first_calls n ++ Submit 0 (100 * n) ∷ []

-- three members without acknowledgers: member 0 orders as many messages as are kept before a purge, and none of them reaches another member
abbrev pub ordered_alone : GroupWorld ℕ
ordered_alone = run (group 3 0) opening (first_calls ENTRIES_BEFORE_PURGE)

-- then it notes all of them, by this row
abbrev pub noted_by : (Group ℕ → ℕ → ℕ → Member ℕ → Work ℕ) → GroupWorld ℕ
noted_by row = put ordered_alone 0 ordered_alone.past (row (group 3 0) 0 ENTRIES_BEFORE_PURGE (ordered_alone.members 0))

-- the event of the rules, which is this with the right row
abbrev pub noted_rightly : GroupWorld ℕ
noted_rightly = gnext (group 3 0) ordered_alone (Note 0 ENTRIES_BEFORE_PURGE)

-- by the right row nothing is purged, since the others applied nothing; by the wrong one all is, and a member that answered is left behind
pub record OwnPurgeBreaksTheLaw : Type 0 where
  pub event : noted_rightly ≡ noted_by note
  pub right : (noted_rightly.members 0).base ≡ 0
  pub wrong : ((noted_by note_to_own_applied).members 0).base ≡ ENTRIES_BEFORE_PURGE
  pub breaks : Purges (group 3 0) (noted_by note_to_own_applied) → ⊥
