-- Single steps, written out: what ends a member's silence, and what a sequencer knows of what the others applied: docs/RUNTIME.md, Runs.
use Rattle.std.specs.Prelude.{ℕ, true, not, Option, Some, None, [], ◌∷◌, ◌==◌, ◌≡◌, if◌then◌else◌}
use Rattle.group_rules.specs.Member.{Member, opening_member}
use Rattle.group_rules.specs.Member.Kind.{Body, Entry, Ack, Status}
use Rattle.group_rules.specs.Work.{idle}
use Rattle.group_rules.specs.Sequencer.{finish}
use Rattle.group_rules.specs.Reset.{coordinate, invited, joined, announced}
use Rattle.group_rules.specs.Steps.{submit, receive, timer}
use Rattle.group_rules.specs.Runs.{group}
use Rattle.group_rules.specs.Windows.{up_to, one_applied, purged_sequencer, silent_for, invites_first, empty_handed, one_answered}

-- ---- any packet of the installed incarnation from its sequencer ends the silence, also where no row holds for it; none of another member

pub record SequencerIsHeard : Type 0 where
  pub entry : (receive (group 3 1) 1 0 0 (Entry 1 0 0 7) (silent_for 5)).state.silent ≡ 0
  pub no_row : (receive (group 3 1) 1 0 0 (Status 0 0) (silent_for 5)).state.silent ≡ 0
  pub other : (receive (group 3 1) 1 2 0 (Body 0 105) (silent_for 5)).state.silent ≡ 5
  pub invite : (invited (group 3 1) 2 1 4 (record (silent_for 5) { installed = 4; promised = 4 })).state.silent ≡ 0
  pub news : (announced (group 3 1) 1 0 0 0 0 (λ x. true) [] (silent_for 5)).state.silent ≡ 0
  pub later : (announced (group 3 1) 0 2 5 0 0 (λ x. not (x == 0)) (7 ∷ []) (record one_applied { silent = 4 })).state.silent ≡ 0

-- ---- a sequencer isn't silent once its accepted number rises; an entry that is tentative, and its install, leave its silence

pub record SequencerSilence : Type 0 where
  pub ack : (receive (group 3 1) 0 1 0 (Ack 1 0) (record (silent_for 3) { log = 7 ∷ [] })).state.silent ≡ 0
  pub ordered : (submit (group 3 0) 0 8 (silent_for 3)).state.silent ≡ 0
  pub tentative : (submit (group 3 1) 0 8 (silent_for 3)).state.silent ≡ 3
  pub install : (joined (group 3 1) 1 2 4 empty_handed (record invites_first.state { silent = 3 })).state.silent ≡ 3

-- ---- a coordinator that gathers, and is due again or suspects, coordinates the next incarnation

pub record GathersAnew : Type 0 where
  pub due : (timer (group 3 0) 1 (record one_answered.state { silent = 6 })).state.promised ≡ 7
  pub suspected : (coordinate (group 3 0) 1 one_answered.state).state.promised ≡ 7

-- ---- what a member applied that didn't answer counts once the sequencer heard it: member 0 didn't for incarnation 5, whose sequencer is 2

abbrev pub heard_late : Option ℕ → Member ℕ
heard_late h = record purged_sequencer {
  log = up_to 200;
  base = 0;
  accepted = 200;
  applied = 200;
  heard = λ x. if x == 0 then h else Some 190;
}

pub record LateMemberIsSpared : Type 0 where
  pub unheard : (finish (group 3 1) 2 (idle (heard_late None))).state.base ≡ 190
  pub heard : (finish (group 3 1) 2 (idle (heard_late (Some 10)))).state.base ≡ 10

-- ---- a report that is older than what was heard lowers nothing

pub record OldReport : Type 0 where
  pub heard : (receive (group 3 1) 0 1 0 (Status 5 3)
      (record (opening_member {M = ℕ}) { log = up_to 5; accepted = 5; applied = 5; heard = λ x. Some 5 })).state.heard 1 ≡ Some 5
