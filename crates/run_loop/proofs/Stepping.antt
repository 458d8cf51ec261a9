-- What a step of the world is to the run, as each call of drive.rt sees it.
use Rattle.std.proofs.Common.{◌≡◌, ◌∙◌, ◌<◌, ◌≤◌, ◌+◌, ◌-◌, ℕ, suc, true, false, nat_lt, List, [], ◌∷◌, get_or, length, map, set, Option, Some, None, IfNone, IfSome, Result, Ok, Err, OnErr, ap, sym, subst, arith}
use Rattle.std.specs.Prelude.{option_map, slice_index_or}
use Rattle.std.proofs.lemmas.Bool.{ltb-true}
use Rattle.std.proofs.lemmas.List.{length-map, length-set}
use Rattle.net_rules.specs.declared.asked.Asked.{Asked}
use Rattle.net_rules.specs.declared.asked.Asked.TheVariants.{Act}
use Rattle.net_rules.specs.declared.fate.WireAct.{WireAct}
use Rattle.net_rules.specs.declared.fate.WireAct.TheVariants as does
use Rattle.net_rules.specs.Flights.{first_ready}
use Rattle.orca_base.specs.declared.ids.ProcessNo.{ProcessNo}
use Rattle.world_rules.specs.declared.event.Event.{Event}
use Rattle.world_rules.specs.declared.event.Event.TheVariants as event
use Rattle.world_rules.specs.declared.event.Step.{Step}
use Rattle.world_rules.specs.Acts.{event_of, swaps_by}
use Rattle.world_rules.specs.Frame.{Frame}
use Rattle.world_rules.specs.Standings.{process_count}
use Rattle.world_rules.specs.Steps.{Known, Next, Possible, Replays}
use Rattle.world_rules.specs.Worlds.{World}
use Rattle.world_facts.specs.Counted.{AllCounted}
use Rattle.world_parts.specs.Choosing.{due_act, is_ready}
use Rattle.world_parts.specs.Seen.{Of, Seen, tasks_out}
use Rattle.world_core.specs.Stepping.{IsRefused, Stepped, told_so}
use Rattle.run_loop.specs.Driven.{ComesFirst, HasAnswered, HasStopped, IsDriven, IsDrivenTo, IsDue, IsGoing, MayBe, MayGoOn, Stepping, WentOn, told_more}
use Rattle.run_loop.proofs.Due.{act_may, deliver_may, tick_may}
use Rattle.run_loop.proofs.Driving.{act_done, due_done, gives_nothing, passes_over, same_length, stops, stops_asked}
use Rattle.run_loop.specs.Asked.{HaveToldOn}
use Rattle.run_loop.proofs.Telling.{kept_at, put_at, tells_more, told_at}

-- a run that is stepped through, of its parts
abbrev pub stepping : {S : Type 0} → Seen S → ℕ → Stepping S
stepping world in_use = record { world = world; in_use = in_use }

pub on_err : {T E : Type 0} (r : Result T E) (A : Type 0) → A → OnErr r A
on_err (Ok x) A a = tt
on_err (Err e) A a = a

-- ---- a swap leaves a wire that can be put in use

may_swap_as : (f : Frame) (w : World) (e : Event) (given : Known e) → e ≡ event.Swap → Possible f w e given → nat_lt w.swaps (f.settings.wires - 1) ≡ true
may_swap_as f w (event.Burst process place turns) given is may = absurd (cc is)
may_swap_as f w (event.Act process) given is may = absurd (cc is)
may_swap_as f w (event.Deliver packet copy) given is may = absurd (cc is)
may_swap_as f w event.Tick given is may = absurd (cc is)
may_swap_as f w (event.Crash node) given is may = absurd (cc is)
may_swap_as f w (event.Suspect node) given is may = absurd (cc is)
may_swap_as f w event.Swap given is may = may

wire_left : (f : Frame) (w v : World) (act : WireAct) (step : Step) (in_use : ℕ) → step.event ≡ event_of act → Next f w step v → in_use ≡ w.swaps → in_use < f.settings.wires
    → in_use + swaps_by (event_of act) < f.settings.wires
wire_left f w v (does.Crash node) step in_use is next use_is lt = omega (arith, lt)
wire_left f w v (does.Suspect node) step in_use is next use_is lt = omega (arith, lt)
wire_left f w v does.Swap step in_use is next use_is lt = let few = ltb-true w.swaps (f.settings.wires - 1) (may_swap_as f w step.event next.given is next.possible) in omega (arith, few, use_is)

-- ---- each call

-- nothing was given
pub none_given : {S : Type 0} (f : Frame) (s : Seen S) (in_use : ℕ) (old new : List (List Asked)) (act : Option WireAct) → AllCounted → act ≡ None → HasAnswered f s in_use old new act → IsGoing f s → MayGoOn f s in_use old new
none_given f s in_use old new act count is h going = gives_nothing f s in_use old new count (subst (HasAnswered f s in_use old new) is h) going

pub some_given : {S : Type 0} (f : Frame) (s : Seen S) (in_use : ℕ) (old new : List (List Asked)) (given : Option WireAct) (act : WireAct) → given ≡ Some act → HasAnswered f s in_use old new given → HasAnswered f s in_use old new (Some act)
some_given f s in_use old new given act is h = subst (HasAnswered f s in_use old new) is h

-- of the wire at its place in the list, as it was and as it is then
module _ {W S : Type 0} (told : W → List Asked) (wires : List W) (first wire : W) (f : Frame) (s after : Seen S) (in_use : ℕ) (old : List (List Asked)) where
  there : in_use < length (map told wires) → (told (get_or wires in_use first)) ≡ slice_index_or (map told wires) in_use []
  there lt = let many = length-map wires told in told_at told wires in_use first (omega (arith, lt, many))

  pub due_by : (what : Event) → AllCounted → MayGoOn f s in_use old (map told wires) → IsDue what → ComesFirst f s what → Stepped f what s after (told (get_or wires in_use first)) (told wire) → tasks_out after ≤ tasks_out s
      → WentOn f s after in_use old (map told (set wires in_use wire))
  due_by what count on due in_turn st tasks =
      due_done f s after in_use old (map told wires) (map told (set wires in_use wire)) what (told (get_or wires in_use first)) (told wire) count on due in_turn st
      (there on.driven.within) (put_at told wires in_use wire) tasks

  pub act_by : (act : WireAct) (what : Event) (swaps : ℕ) → AllCounted → HasAnswered f s in_use old (map told wires) (Some act) → IsGoing f s → what ≡ event_of act → swaps ≡ swaps_by (event_of act)
      → Stepped f what s after (told (get_or wires in_use first)) (told wire) → tasks_out after ≤ tasks_out s → WentOn f s after (in_use + swaps) old (map told (set wires in_use wire))
  act_by act what swaps count h going event_is swaps_is done tasks =
      let d = h.driven in
      let within = d.within in
      let many = d.wires in
      let same = same_length f s in_use old (map told wires) (Some act) h in
      let put = ap length (put_at told wires in_use wire) ∙ length-set (map told wires) in_use (told wire) in
      let st : Stepped f (event_of act) s after (told (get_or wires in_use first)) (told wire) = subst (λ (e : Event). Stepped f e s after (told (get_or wires in_use first)) (told wire)) event_is done in
      let led = st.leads d.world d.replays in
      let left = wire_left f d.world led.world act st.step in_use st.event_is led.next d.swaps (omega (arith, within, many)) in
      act_done f s after in_use (in_use + swaps) old (map told wires) (map told (set wires in_use wire)) act (told (get_or wires in_use first)) (told wire) count h going st
      (there (omega (arith, within, same))) (put_at told wires in_use wire) tasks (ap (λ (n : ℕ). in_use + n) swaps_is) (omega (arith, left, swaps_is, put, same, many))

  pub passed_by : (act : WireAct) (what : Event) → AllCounted → HasAnswered f s in_use old (map told wires) (Some act) → IsGoing f s → what ≡ event_of act → IsRefused f what s → after ≡ s → told wire ≡ (told (get_or wires in_use first))
      → MayGoOn f after in_use old (map told (set wires in_use wire))
  passed_by act what count h going event_is refused unchanged same =
      subst (λ (x : Seen S). MayGoOn f x in_use old (map told (set wires in_use wire))) (sym unchanged)
      (subst (MayGoOn f s in_use old) (sym (kept_at told wires in_use first wire same))
      (passes_over f s in_use old (map told wires) act count h going (subst (λ (e : Event). IsRefused f e s) event_is refused)))

  pub stopped_asked_by : (answer : Option WireAct) → AllCounted → HasAnswered f s in_use old (map told wires) answer → IsGoing f s → after ≡ s → told wire ≡ (told (get_or wires in_use first)) → HasStopped f after old (map told (set wires in_use wire))
  stopped_asked_by answer count h going unchanged same =
      subst (λ (x : Seen S). HasStopped f x old (map told (set wires in_use wire))) (sym unchanged)
      (subst (HasStopped f s old) (sym (kept_at told wires in_use first wire same)) (stops_asked f s in_use old (map told wires) answer h count going))

  pub stopped_by : MayGoOn f s in_use old (map told wires) → IsGoing f s → after ≡ s → told wire ≡ (told (get_or wires in_use first)) → HasStopped f after old (map told (set wires in_use wire))
  stopped_by on going unchanged same =
      subst (λ (x : Seen S). HasStopped f x old (map told (set wires in_use wire))) (sym unchanged)
      (subst (HasStopped f s old) (sym (kept_at told wires in_use first wire same)) (stops f s (suc (suc (length s.steps))) in_use old (map told wires) on.driven going))

-- ---- wires tell on

-- a step that was done told the wire in use more: an act of its own, or what was due
module _ {W S : Type 0} (told : W → List Asked) (wires : List W) (first wire : W) (f : Frame) (s after : Seen S) (in_use : ℕ) (old : List (List Asked)) where
  stepped_on : (what : Event) (w : World) → Replays f s.steps w → in_use < length wires → Stepped f what s after (told (get_or wires in_use first)) (told wire) → HaveToldOn (map told wires) (map told (set wires in_use wire))
  stepped_on what w replays lt st =
      let led = st.leads w replays in
      tells_more told wires in_use first wire (map told_so led.more) lt led.asked

  pub acts_on : (answer : Option WireAct) (what : Event) → HasAnswered f s in_use old (map told wires) answer → Stepped f what s after (told (get_or wires in_use first)) (told wire) → HaveToldOn (map told wires) (map told (set wires in_use wire))
  acts_on answer what h st =
      let within = h.driven.within in
      let same = same_length f s in_use old (map told wires) answer h in
      let many = length-map wires told in
      stepped_on what h.driven.world h.driven.replays (omega (arith, within, same, many)) st

  pub due_on : (what : Event) → MayGoOn f s in_use old (map told wires) → Stepped f what s after (told (get_or wires in_use first)) (told wire) → HaveToldOn (map told wires) (map told (set wires in_use wire))
  due_on what on st =
      let within = on.driven.within in
      let many = length-map wires told in
      stepped_on what on.driven.world on.driven.replays (omega (arith, within, many)) st

-- ---- memory lacked

-- where the world and what wires told stayed
pub stopped_as : {S : Type 0} (f : Frame) (s after : Seen S) (next in_use : ℕ) (old was new : List (List Asked)) → IsDrivenTo f s next in_use old was → IsGoing f s → after ≡ s → new ≡ was → HasStopped f after old new
stopped_as {S} f s after next in_use old was new driven going unchanged told =
    subst (λ (x : Seen S). HasStopped f x old new) (sym unchanged) (subst (HasStopped f s old) (sym told) (stops f s next in_use old was driven going))

-- ---- what is asked, and what is due

pub asked_by : {S : Type 0} (f : Frame) (s : Seen S) (in_use : ℕ) (old was new : List (List Asked)) (n : ℕ) (answer : Option WireAct) → n ≡ suc (length s.steps) → IsDriven f s in_use old was
    → new ≡ told_more in_use (Act n answer ∷ []) was → HasAnswered f s in_use old new answer
asked_by f s in_use old was new n answer number driven told =
    record { before = was; driven = driven; told = told ∙ ap (λ (k : ℕ). told_more in_use (Act k answer ∷ []) was) number }

pub act_due : {S : Type 0} (f : Frame) (s : Seen S) (found : Option ProcessNo) (i : ProcessNo) → found ≡ Some i → IsGoing f s → Of f s (λ w. option_map (λ (k : ProcessNo). k.0) found ≡ due_act f w) → MayBe f s (event.Act i)
act_due f s found i is going due = λ w led. act_may f w i (going w led) (sym (due w led) ∙ ap (option_map (λ (k : ProcessNo). k.0)) is)

pub packet_due : {S : Type 0} (f : Frame) (s : Seen S) (found : Option (ℕ × ℕ)) (packet copy : ℕ) → found ≡ Some (packet, copy) → IsGoing f s
    → Of f s (λ w. option_map (λ (p : ℕ × ℕ). (p.0, p.1)) found ≡ first_ready w.flights) → MayBe f s (event.Deliver packet copy)
packet_due f s found packet copy is going due = λ w led. deliver_may f w packet copy (going w led) (sym (due w led) ∙ ap (option_map (λ (p : ℕ × ℕ). (p.0, p.1))) is)

pub packet_first : {S : Type 0} (f : Frame) (s : Seen S) (found : Option (ℕ × ℕ)) (packet copy : ℕ) → found ≡ Some (packet, copy)
    → Of f s (λ w. option_map (λ (p : ℕ × ℕ). (p.0, p.1)) found ≡ first_ready w.flights) → ComesFirst f s (event.Deliver packet copy)
packet_first f s found packet copy is due = λ w led. sym (due w led) ∙ ap (option_map (λ (p : ℕ × ℕ). (p.0, p.1))) is

pub tick_due : {S : Type 0} (f : Frame) (s : Seen S) (act : Option ProcessNo) (packet : Option (ℕ × ℕ)) (ready : Option ProcessNo) → act ≡ None → packet ≡ None → ready ≡ None → IsGoing f s → tasks_out s ≡ 0
    → Of f s (λ w. option_map (λ (k : ProcessNo). k.0) act ≡ due_act f w) → Of f s (λ w. option_map (λ (p : ℕ × ℕ). (p.0, p.1)) packet ≡ first_ready w.flights)
    → IfNone ready (Of f s (λ w. (i : ℕ) → i < process_count f w → is_ready f s w i ≡ false)) → MayBe f s event.Tick
tick_due f s act packet ready no_act no_packet no_ready going idle acts packets all = λ w led.
    tick_may f s w (going w led) idle (sym (acts w led) ∙ ap (option_map (λ (k : ProcessNo). k.0)) no_act) (sym (packets w led) ∙ ap (option_map (λ (p : ℕ × ℕ). (p.0, p.1))) no_packet)
    (subst (λ (o : Option ProcessNo). IfNone o (Of f s (λ w. (i : ℕ) → i < process_count f w → is_ready f s w i ≡ false))) no_ready all w led)

pub ready_one : {S : Type 0} (f : Frame) (s : Seen S) (found : Option ProcessNo) (i : ProcessNo) → found ≡ Some i → IfSome found (λ k. Of f s (λ w. is_ready f s w k.0 ≡ true)) → Of f s (λ w. is_ready f s w i.0 ≡ true)
ready_one f s found i is ready = subst (λ (o : Option ProcessNo). IfSome o (λ k. Of f s (λ w. is_ready f s w k.0 ≡ true))) is ready

-- ---- a stepper

-- it stands as it did, where its parts do
pub stays_as : {S T E : Type 0} (r : Result T E) (now was : Seen S) (in_use used : ℕ) (s : Stepping S) → OnErr r (now ≡ was) → OnErr r (in_use ≡ used) → stepping was used ≡ s → OnErr r (stepping now in_use ≡ s)
stays_as (Ok x) now was in_use used s world wire is = tt
stays_as (Err e) now was in_use used s world wire is = (λ i. stepping (world i) (wire i)) ∙ is
