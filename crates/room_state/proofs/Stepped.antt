-- What a step is to a run without the tasks that are out: the same, since it speaks of steps alone.
use Rattle.std.proofs.Common.{◌≡◌, ◌≤◌, List, ap, arith}
use Rattle.net_rules.specs.declared.asked.Asked.{Asked}
use Rattle.world_core.specs.Stepping.{Stepped}
use Rattle.world_parts.specs.Seen.{Seen, tasks_out}
use Rattle.world_rules.specs.declared.event.Event.{Event}
use Rattle.world_rules.specs.Frame.{Frame}
use Rattle.room_state.specs.declared.drive.Driver.{Driver}
use Rattle.room_state.specs.Driven.{without_tasks}

pub stepped_so : {S : Type 0} (f : Frame) (event : Event) (s after : Seen S) (before told : List Asked) → Stepped f event s after before told
    → Stepped f event (without_tasks s) (without_tasks after) before told
stepped_so f event s after before told st = record { step = st.step; event_is = st.event_is; steps = st.steps; leads = st.leads }

pub same_run : {S : Type 0} (s after : Seen S) → after ≡ s → without_tasks after ≡ without_tasks s
same_run s after same = ap without_tasks same

pub none_out : {S : Type 0} (s after : Seen S) → tasks_out (without_tasks after) ≤ tasks_out (without_tasks s)
none_out s after = omega arith

pub same_driver : {A S : Type 0} (d : Driver A S) (after : Seen S) → after ≡ d.world → record d { world = after } ≡ d
same_driver {A} {S} d after same = ap (λ (x : Seen S). record d { world = x }) same
