-- What was computed without the lock is taken in.
use Rattle.std.proofs.Common.{◌≡◌, ◌∙◌, ◌≤◌, ℕ, suc, List, [], length, ap, sym, refl, arith, append-nil}
use Rattle.std.specs.Prelude.{slice_index_or, slice_set}
use Rattle.std.proofs.lemmas.List.{set-get_or}
use Rattle.net_rules.specs.declared.asked.Asked.{Asked}
use Rattle.net_rules.specs.declared.fate.WireAct.{WireAct}
use Rattle.net_rules.specs.declared.fate.WireAct.TheVariants as does
use Rattle.orca_base.specs.declared.ids.ProcessNo.{ProcessNo}
use Rattle.node_core.specs.Tasks.{Computed}
use Rattle.world_rules.specs.Acts.{acts_in, event_of}
use Rattle.world_rules.specs.declared.event.Event.TheVariants as event
use Rattle.world_rules.specs.declared.event.Step.{Step}
use Rattle.world_rules.specs.Frame.{Frame}
use Rattle.world_facts.specs.Counted.{AllCounted}
use Rattle.world_parts.specs.Seen.{Seen}
use Rattle.world_core.specs.Stepping.{ChecksIn}
use Rattle.run_loop.specs.Asked.{AreBelow, asked_since}
use Rattle.run_loop.specs.Driven.{IsDrivenTo, told_more}
use Rattle.run_loop.proofs.Driving.{driven_on}
use Rattle.run_loop.proofs.Using.{all_accounted, below_more, is_used}
use Rattle.room_state.specs.Driven.{IsDriven, without_tasks}

-- no wire is asked
no_more_told : (in_use : ℕ) (new : List (List Asked)) → new ≡ told_more in_use [] new
no_more_told in_use new = sym (ap (slice_set new in_use) (append-nil (slice_index_or new in_use [])) ∙ set-get_or new in_use [])

not_given : (act : WireAct) (process : ProcessNo) (place turns : ℕ) → event.Burst process place turns ≡ event_of act → ⊥
not_given (does.Crash node) process place turns e = cc e
not_given (does.Suspect node) process place turns e = cc e
not_given does.Swap process place turns e = cc e

-- whether the wire in use was asked about the next event or not
pub burst_in : {S : Type 0} (f : Frame) (s after : Seen S) (next in_use : ℕ) (old new : List (List Asked)) (done : Computed S) → AllCounted → next ≤ suc (suc (length s.steps))
    → IsDrivenTo f (without_tasks s) next in_use old new → ChecksIn f done s after → IsDriven f after in_use old new
burst_in f s after next in_use old new done count low d in_it =
    let led = in_it.leads d.world d.replays in
    let step : Step = record { event = event.Burst done.process done.view.place in_it.turns; fates = [] } in
    let numbers : (wire : ℕ) → AreBelow (suc (suc (length s.steps))) (acts_in (asked_since old new wire)) = λ wire. below_more next (suc (suc (length s.steps))) (acts_in (asked_since old new wire)) low (d.numbers wire) in
    (driven_on f (without_tasks s) (without_tasks after) in_use in_use old new new step count d.world d.replays d.swaps d.within d.wires d.told (is_used f s.steps d.world (asked_since old new) d.used)
    (λ wire. all_accounted f s.steps step (acts_in (asked_since old new wire)) (numbers wire) (d.used.given wire)) numbers d.settings
    (record {
      world = led.0;
      next = led.1;
      first = tt;
      steps = in_it.steps;
      more = [];
      told_is = led.2 ∙ sym (append-nil d.world.told);
      wires = tt;
      tells = no_more_told in_use new;
      idle = refl;
      leads = λ u replayed. let on = in_it.leads u replayed in (on.0, on.1);
    })
    d.first
    (λ plain. absurd (cc plain))
    (λ act is. absurd (not_given act done.process done.view.place in_it.turns is))
    d.unused
    d.in_time
    (omega arith)
    d.within).driven
