-- What stands under the lock, as each call leaves it.
use Rattle.std.proofs.Common.{◌≡◌, ◌≢◌, ℕ, suc, List, length, sym, subst, refl, arith}
use Rattle.net_rules.specs.declared.asked.Asked.{Asked}
use Rattle.node_core.specs.Tasks.{Computed}
use Rattle.node_parts.specs.Runs.{Run}
use Rattle.world_rules.specs.declared.event.Step.{Step}
use Rattle.world_rules.specs.declared.standing.Standing.{Standing}
use Rattle.world_rules.specs.declared.standing.Standing.TheVariants.{Going}
use Rattle.world_rules.specs.Standings as rules
use Rattle.world_rules.specs.Steps.{Replays}
use Rattle.world_rules.specs.Worlds.{World}
use Rattle.world_facts.specs.Counted.{AllCounted}
use Rattle.world_parts.specs.Seen.{Of, Seen}
use Rattle.world_core.specs.Stepping.{ChecksIn}
use Rattle.run_loop.specs.Asked.{NoneAskedBehind, asked_since}
use Rattle.run_loop.specs.Driven.{IsDrivenTo, IsGoing}
use Rattle.run_loop.proofs.Driving.{stops, used_between, used_stopped}
use Rattle.run_loop.proofs.Ending.{HasGone}
use Rattle.room_state.specs.declared.phase.Phase.{Phase}
use Rattle.room_state.specs.declared.phase.Phase.TheVariants as phase
use Rattle.room_state.specs.Driven.{HasStopped, IsDriven, MayGoOn, without_tasks}
use Rattle.room_state.specs.Held.{Held, Holds, IsAt}
use Rattle.room_state.proofs.TakingIn.{burst_in}

module _ {S : Type 0} (run : Run) (h : Held S) where
  -- ---- in each phase

  pub unasked : Holds run h → h.phase ≡ phase.Unasked → IsDriven run.frame h.seen h.in_use run.told h.told
  unasked is e = subst (λ (p : Phase). IsAt run p h) e is

  pub asked : Holds run h → h.phase ≡ phase.Asked → MayGoOn run.frame h.seen h.in_use run.told h.told
  asked is e = subst (λ (p : Phase). IsAt run p h) e is

  pub stopped : Holds run h → h.phase ≡ phase.Stopped → HasStopped run.frame h.seen run.told h.told
  stopped is e = subst (λ (p : Phase). IsAt run p h) e is

  -- a room that stopped is going
  pub not_over : Holds run h → h.phase ≡ phase.Stopped → Of run.frame h.seen (λ w. rules.standing run.frame w ≢ Going) → ⊥
  not_over is e over = let s = stopped is e in over s.world s.replays s.going

  -- a run that is going may stop wherever it is
  stops_at : (p : Phase) → IsAt run p h → IsGoing run.frame h.seen → HasStopped run.frame h.seen run.told h.told
  stops_at phase.Unasked d going = stops run.frame (without_tasks h.seen) (suc (length h.seen.steps)) h.in_use run.told h.told d going
  stops_at phase.Asked m going = stops run.frame (without_tasks h.seen) (suc (suc (length h.seen.steps))) h.in_use run.told h.told m.driven going
  stops_at phase.Stopped s going = s

  pub stops_any : Holds run h → IsGoing run.frame h.seen → HasStopped run.frame h.seen run.told h.told
  stops_any is going = stops_at h.phase is going

  -- what was computed comes in wherever it is, but not where it stopped: the wire may have given an act when it was asked last
  puts_at : (p : Phase) → (p ≡ phase.Stopped → ⊥) → AllCounted → IsAt run p h → (after : Seen S) (done : Computed S) → ChecksIn run.frame done h.seen after → IsDriven run.frame after h.in_use run.told h.told
  puts_at phase.Unasked open_still count d after done in_it = burst_in run.frame h.seen after (suc (length h.seen.steps)) h.in_use run.told h.told done count (omega arith) d in_it
  puts_at phase.Asked open_still count m after done in_it = burst_in run.frame h.seen after (suc (suc (length h.seen.steps))) h.in_use run.told h.told done count (omega arith) m.driven in_it
  puts_at phase.Stopped open_still count s after done in_it = absurd (open_still refl)

  pub puts : Holds run h → (h.phase ≡ phase.Stopped → ⊥) → AllCounted → (after : Seen S) (done : Computed S) → ChecksIn run.frame done h.seen after → IsDriven run.frame after h.in_use run.told h.told
  puts is open_still count after done in_it = puts_at h.phase open_still count is after done in_it

  -- the steps lead to a world, whichever tasks are out
  pub led_at : (p : Phase) → IsAt run p h → (w : World) × Replays run.frame h.seen.steps w
  led_at phase.Unasked d = (d.world, d.replays)
  led_at phase.Asked m = (m.driven.world, m.driven.replays)
  led_at phase.Stopped s = (s.world, s.replays)

  -- ---- what it leaves

  driven_gone : (next : ℕ) (st : Standing) → IsDrivenTo run.frame (without_tasks h.seen) next h.in_use run.told h.told → HasGone run.frame (without_tasks h.seen) st run.told h.told
  driven_gone next st d = record {
    world = d.world;
    replays = d.replays;
    first = d.first;
    used = used_between st run.frame h.seen.steps d.world (asked_since run.told h.told) d.used;
    unused = subst (λ (k : ℕ). NoneAskedBehind k (asked_since run.told h.told)) d.swaps d.unused;
    in_time = d.in_time;
    told = d.told;
  }

  gone_at : (p : Phase) (st : Standing) → IsAt run p h → Of run.frame h.seen (λ w. st ≡ rules.standing run.frame w) → HasGone run.frame (without_tasks h.seen) st run.told h.told
  gone_at phase.Unasked st d stands = driven_gone (suc (length h.seen.steps)) st d
  gone_at phase.Asked st m stands = driven_gone (suc (suc (length h.seen.steps))) st m.driven
  gone_at phase.Stopped st s stands = record {
    world = s.world;
    replays = s.replays;
    first = s.first;
    used = used_stopped run.frame (without_tasks h.seen) run.told h.told st s (stands s.world s.replays);
    unused = s.unused;
    in_time = s.in_time;
    told = s.told;
  }

  pub gone_so : (st : Standing) → Holds run h → Of run.frame h.seen (λ w. st ≡ rules.standing run.frame w) → HasGone run.frame (without_tasks h.seen) st run.told h.told
  gone_so st is stands = gone_at h.phase st is stands

-- the tasks that are out, and how many of each process were, don't matter
pub same_at : {S : Type 0} (run : Run) (p : Phase) (h : Held S) (after : Seen S) (tasks : List ℕ) → after.steps ≡ h.seen.steps → IsAt run p h → IsAt run p (record h { seen = after; tasks = tasks })
same_at run phase.Unasked h after tasks same d = subst (λ (steps : List Step). IsDriven run.frame (record { steps = steps; out = after.out }) h.in_use run.told h.told) (sym same) d
same_at run phase.Asked h after tasks same m = subst (λ (steps : List Step). MayGoOn run.frame (record { steps = steps; out = after.out }) h.in_use run.told h.told) (sym same) m
same_at run phase.Stopped h after tasks same s = subst (λ (steps : List Step). HasStopped run.frame (record { steps = steps; out = after.out }) run.told h.told) (sym same) s

-- what a run leaves whose world and wires were given away
pub gone_as : {S : Type 0} (run : Run) (h : Held S) (s : Seen S) (new : List (List Asked)) (st : Standing) → s ≡ h.seen → new ≡ h.told → Holds run h → Of run.frame s (λ w. st ≡ rules.standing run.frame w)
    → HasGone run.frame (without_tasks s) st run.told new
gone_as {S} run h s new st same told is stands =
    subst (λ (l : List (List Asked)). HasGone run.frame (without_tasks s) st run.told l) (sym told)
    (subst (λ (x : Seen S). HasGone run.frame (without_tasks x) st run.told h.told) (sym same)
    (gone_so run h st is (subst (λ (x : Seen S). Of run.frame x (λ w. st ≡ rules.standing run.frame w)) same stands)))
