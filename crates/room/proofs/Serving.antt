-- What a take leaves, said of the state behind it alone.
use Rattle.std.proofs.Common.{◌≡◌, ◌<◌, ◌⊎◌, ℕ, inl, inr, Result, Ok, Err, OnOk, OnErr, subst, sym, refl}
use Rattle.node_core.specs.Tasks.{Tasked}
use Rattle.world_parts.specs.Seen.{Of, Seen, tasks_out}
use Rattle.world_rules.specs.Frame.{Frame}
use Rattle.room_state.specs.Held.{HasHandedOut, HasToWait, Held}
use Rattle.room_state.specs.Stated.{NoneReady, NothingDue}
use Rattle.room.specs.Served.{IsOver, WasHandedOut}

pub over_now : {S : Type 0} (f : Frame) (old new : Held S) → new ≡ old → IsOver f old.seen → IsOver f new.seen
over_now {S} f old new same over = subst (λ (h : Held S). IsOver f h.seen) (sym same) over

pub wait_now : {S : Type 0} (f : Frame) (old new : Held S) → HasToWait f old.seen old.tasks new → HasToWait f new.seen new.tasks new
wait_now {S} f old new w = record {
  seen = refl;
  counts = refl;
  due = subst (λ (s : Seen S). Of f s (NothingDue f)) (sym w.seen) w.due;
  ready = subst (λ (s : Seen S). Of f s (NoneReady f s)) (sym w.seen) w.ready;
  out = subst (λ (s : Seen S). 0 < tasks_out s) (sym w.seen) w.out;
  asked = w.asked;
}

pub handed_now : {S : Type 0} (f : Frame) (home : ℕ) (task : Tasked S) (old new : Held S) → HasHandedOut f home task old.seen old.tasks new → WasHandedOut f home task new
handed_now f home task old new out = record { before = old.seen; tasks = old.tasks; out = out }

-- it ended in one way or the other
pub ended : {T E A B : Type 0} (r : Result T E) → OnOk r A → OnErr r B → A ⊎ B
ended (Ok x) over stopped = inl over
ended (Err e) over stopped = inr stopped
