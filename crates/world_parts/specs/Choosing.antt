-- What may come next in a run, and who is where.
use Rattle.std.specs.Prelude.{ℕ, zero, suc, Bool, not, ◌&&◌, if◌then◌else◌, Option, None, Some}
use Rattle.orca_base.specs.declared.ids.ProcessNo.{ProcessNo}
use Rattle.world_rules.specs.Frame.{Frame}
use Rattle.world_rules.specs.Played.{is_computing}
use Rattle.world_rules.specs.Standings.{has_no_turns, lives_at_home, process_count, stands}
use Rattle.world_rules.specs.Steps.{may_act}
use Rattle.world_rules.specs.Worlds.{World, home_of, played_in}
use Rattle.world_parts.specs.Seen.{Seen, is_out}

-- the lowest number below n of which this is so
abbrev pub or_at : ℕ → Bool → Option ℕ → Option ℕ
or_at n b (Some found) = Some found
or_at n b None = if b then Some n else None

abbrev pub lowest : ℕ → (ℕ → Bool) → Option ℕ
lowest zero test = None
lowest (suc n) test = or_at n (test n) (lowest n test)

abbrev pub process : ℕ → ProcessNo
process i = record { 0 = i }

-- the lowest process on a living member whose action wasn't carried out
abbrev pub due_act : Frame → World → Option ℕ
due_act f w = lowest (process_count f w) (λ i. may_act f w (process i))

-- the lowest process that has used its turns, and computes
abbrev pub spent_process : Frame → World → Option ℕ
spent_process f w = lowest (process_count f w) (λ i. has_no_turns f (played_in f w i))

-- process i computes on a living member
abbrev pub may_compute : Frame → World → ℕ → Bool
may_compute f w i = lives_at_home f w i && stands is_computing (played_in f w i)

-- and no task of it is out
abbrev pub is_ready : {S : Type 0} → Frame → Seen S → World → ℕ → Bool
is_ready f s w i = may_compute f w i && not (is_out s (home_of f w i) i)
