-- What is first of what is due may be, and what was done was so.
use Rattle.std.proofs.Common.{◌≡◌, ◌∙◌, ◌&&◌, nat_lt, not, is_some, ℕ, Bool, true, false, List, Option, Some, None, IfNone, IfSome, ap, sym, subst, refl}
use Rattle.std.specs.Prelude.{option_map}
use Rattle.net_rules.specs.declared.asked.Asked.{Asked}
use Rattle.net_rules.specs.declared.fate.WireAct.{WireAct}
use Rattle.net_rules.specs.declared.fate.WireAct.TheVariants as does
use Rattle.net_rules.specs.Flights.{first_ready}
use Rattle.orca_base.specs.declared.ids.ProcessNo.{ProcessNo}
use Rattle.world_rules.specs.declared.event.Event.{Event}
use Rattle.world_rules.specs.declared.event.Event.TheVariants as event
use Rattle.world_rules.specs.Acts.{event_of}
use Rattle.world_rules.specs.Frame.{Frame}
use Rattle.world_rules.specs.Standings.{any_below, process_count, standing}
use Rattle.world_rules.specs.Worlds.{World}
use Rattle.world_facts.proofs.Rows.{any_at, any_from}
use Rattle.world_core.specs.Stepping.{KeepsOut, Stepped, is_going}
use Rattle.world_parts.specs.Choosing.{due_act, is_ready}
use Rattle.world_parts.specs.Seen.{Of, Seen, tasks_out}
use Rattle.run_loop.specs.Driven.{IsGoing, MayBe}
use Rattle.run_loop.proofs.Due.{tick_may}
use Rattle.room_state.specs.Held.{Held, is_idle, is_stopped}
use Rattle.room_state.specs.Stated.{HasStepped, IsChosen, IsQuietNow, IsFirstDue, NoneReady, NothingDue}

-- ---- what is due

module _ {S : Type 0} (f : Frame) (s : Seen S) where
  pub act_first : (found : Option ProcessNo) (i : ProcessNo) → found ≡ Some i → Of f s (λ w. option_map (λ (k : ProcessNo). k.0) found ≡ due_act f w) → Of f s (λ w. due_act f w ≡ Some i.0)
  act_first found i is due = λ w led. sym (due w led) ∙ ap (option_map (λ (k : ProcessNo). k.0)) is

  pub no_act : (found : Option ProcessNo) → found ≡ None → Of f s (λ w. option_map (λ (k : ProcessNo). k.0) found ≡ due_act f w) → Of f s (λ w. due_act f w ≡ None)
  no_act found is due = λ w led. sym (due w led) ∙ ap (option_map (λ (k : ProcessNo). k.0)) is

  pub packet_next : (act : Option ProcessNo) (found : Option (ℕ × ℕ)) (packet copy : ℕ) → act ≡ None → found ≡ Some (packet, copy) → Of f s (λ w. option_map (λ (k : ProcessNo). k.0) act ≡ due_act f w)
      → Of f s (λ w. option_map (λ (p : ℕ × ℕ). (p.0, p.1)) found ≡ first_ready w.flights) → Of f s (λ w. (due_act f w ≡ None) × (first_ready w.flights ≡ Some (packet, copy)))
  packet_next act found packet copy none is acts due = λ w led. (no_act act none acts w led, sym (due w led) ∙ ap (option_map (λ (p : ℕ × ℕ). (p.0, p.1))) is)

  pub nothing_due : (act : Option ProcessNo) (packet : Option (ℕ × ℕ)) → act ≡ None → packet ≡ None → Of f s (λ w. option_map (λ (k : ProcessNo). k.0) act ≡ due_act f w)
      → Of f s (λ w. option_map (λ (p : ℕ × ℕ). (p.0, p.1)) packet ≡ first_ready w.flights) → Of f s (NothingDue f)
  nothing_due act packet no_one no_packet acts packets = λ w led.
      record { action = no_act act no_one acts w led; packet = sym (packets w led) ∙ ap (option_map (λ (p : ℕ × ℕ). (p.0, p.1))) no_packet }

  pub some_chosen : (found : Option ProcessNo) (i : ProcessNo) (P : ProcessNo → Type 0) → found ≡ Some i → IfSome found P → P i
  some_chosen found i P is h = subst (λ (o : Option ProcessNo). IfSome o P) is h

  pub none_chosen : (found : Option ProcessNo) (A : Type 0) → found ≡ None → IfNone found A → A
  none_chosen found A is h = subst (λ (o : Option ProcessNo). IfNone o A) is h

  pub idle_now : Of f s (NothingDue f) → Of f s (NoneReady f s) → tasks_out s ≡ 0 → Of f s (IsQuietNow f s)
  idle_now due ready out = λ w led. record { due = due w led; ready = ready w led; out = out }

  pub tick_now : IsGoing f s → Of f s (IsQuietNow f s) → MayBe f s event.Tick
  tick_now going idle = λ w led. let h = idle w led in tick_may f s w (going w led) h.out h.due.action h.due.packet h.ready

  -- ---- what was done

  pub has_stepped : (what : Event) (after : Seen S) (before told : List Asked) → Of f s (λ w. IsFirstDue f s w what) → Stepped f what s after before told → KeepsOut f what s after → HasStepped f s after
  has_stepped what after before told first st keeps = record {
    step = st.step;
    steps = st.steps;
    next = λ w led. let on = st.leads w led in (on.world, on.next);
    first = λ w led. subst (IsFirstDue f s w) (sym st.event_is) (first w led);
    out = subst (λ (e : Event). KeepsOut f e s after) (sym st.event_is) keeps;
  }

  act_is_first : (w : World) (act : WireAct) → IsFirstDue f s w (event_of act)
  act_is_first w (does.Crash node) = tt
  act_is_first w (does.Suspect node) = tt
  act_is_first w does.Swap = tt

  pub stepped_by : (act : WireAct) (what : Event) (after : Seen S) (before told : List Asked) → what ≡ event_of act → Stepped f what s after before told → KeepsOut f what s after → HasStepped f s after
  stepped_by act what after before told is st keeps = has_stepped what after before told (λ w led. subst (IsFirstDue f s w) (sym is) (act_is_first w act)) st keeps

  -- ---- whether a process is ready

  ready_some : (w : World) (tasks : List ℕ) (home i : ℕ) → IsChosen f s w tasks home (process_count f w) i → any_below (process_count f w) (is_ready f s w) ≡ true
  ready_some w tasks home i c = any_from (process_count f w) (is_ready f s w) i c.below c.ready

  none_of : (b : Bool) → (b ≡ true → ⊥) → false ≡ b
  none_of true never = absurd (never refl)
  none_of false never = refl

  ready_none : (w : World) → NoneReady f s w → false ≡ any_below (process_count f w) (is_ready f s w)
  ready_none w none = none_of (any_below (process_count f w) (is_ready f s w))
      (λ any. let h = any_at (process_count f w) (is_ready f s w) any in let not_so = none h.0 h.1 in let e : true ≡ false = sym h.2 ∙ not_so in absurd (cc e))

  pub any_ready : (found : Option ProcessNo) (tasks : List ℕ) (home : ℕ) → IfSome found (λ i. Of f s (λ w. IsChosen f s w tasks home (process_count f w) i.0)) → IfNone found (Of f s (NoneReady f s))
      → Of f s (λ w. is_some found ≡ any_below (process_count f w) (is_ready f s w))
  any_ready None tasks home chosen none = λ w led. ready_none w (none w led)
  any_ready (Some i) tasks home chosen none = λ w led. sym (ready_some w tasks home i.0 (chosen w led))

-- ---- whether there is nothing to do

both_so : (a b c : Bool) → a ≡ true → b ≡ c → b ≡ (a && c)
both_so true b c is same = same
both_so false b c is same = absurd (cc is)

some_map : {A B : Type 0} (g : A → B) (o : Option A) → is_some (option_map g o) ≡ is_some o
some_map g None = refl
some_map g (Some x) = refl

none_by : {A B : Type 0} (g : A → B) (o : Option A) (due : Option B) → is_some o ≡ false → option_map g o ≡ due → not (is_some due) ≡ true
none_by g o due none is = ap (λ (d : Option _). not (is_some d)) (sym is) ∙ ap not (some_map g o ∙ none)

flipped : (b c : Bool) → c ≡ not b → b ≡ not c
flipped true c e = sym (ap not e)
flipped false c e = sym (ap not e)

pub idle_is : {S : Type 0} (f : Frame) (h : Held S) (w : World) (act found : Option ProcessNo) (packet : Option (ℕ × ℕ)) (b : Bool) → not (is_stopped h.phase) ≡ true → is_going (standing f w) ≡ true → nat_lt 0 (tasks_out h.seen) ≡ true
    → is_some act ≡ false → option_map (λ (k : ProcessNo). k.0) act ≡ due_act f w → is_some packet ≡ false → option_map (λ (p : ℕ × ℕ). (p.0, p.1)) packet ≡ first_ready w.flights
    → is_some found ≡ not b → is_some found ≡ any_below (process_count f w) (is_ready f h.seen w) → b ≡ is_idle f h w
idle_is f h w act found packet b open_still going out no_act acts no_packet packets none ready =
    both_so (not (is_stopped h.phase)) b _ open_still
    (both_so (is_going (standing f w)) b _ going
    (both_so (nat_lt 0 (tasks_out h.seen)) b _ out
    (both_so (not (is_some (due_act f w))) b _ (none_by (λ (k : ProcessNo). k.0) act (due_act f w) no_act acts)
    (both_so (not (is_some (first_ready w.flights))) b _ (none_by (λ (p : ℕ × ℕ). (p.0, p.1)) packet (first_ready w.flights) no_packet packets)
    (flipped b (any_below (process_count f w) (is_ready f h.seen w)) (sym ready ∙ none))))))
