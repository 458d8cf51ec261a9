-- A run goes on as it is driven: what each call knows after it.
use Rattle.std.proofs.Common.{◌≡◌, ◌∙◌, ◌<◌, ◌≤◌, ◌+◌, ◌⊎◌, inl, inr, ℕ, zero, suc, false, cond, List, [], ◌∷◌, ◌++◌, length, length-append, map, Option, Some, None, ap, sym, subst, refl, arith, append-nil}
use Rattle.std.specs.Prelude.{slice_index_or, slice_set}
use Rattle.std.specs.List.{AllByRecursion as Each}
use Rattle.std.proofs.lemmas.List.{append_cancel_left, length-set, set-get_or}
use Rattle.std.proofs.lemmas.List.Recursion.{is_count_by}
use Rattle.group_rules.specs.Sets.{In, entry_at}
use Rattle.net_rules.specs.declared.asked.Asked.{Asked}
use Rattle.net_rules.specs.declared.asked.Asked.TheVariants.{Act}
use Rattle.net_rules.specs.declared.fate.Fate.{Fate}
use Rattle.net_rules.specs.declared.fate.WireAct.{WireAct}
use Rattle.net_rules.specs.declared.fate.WireAct.TheVariants as does
use Rattle.orca_base.specs.declared.ids.ProcessNo.{ProcessNo}
use Rattle.world_rules.specs.declared.event.Event.{Event}
use Rattle.world_rules.specs.declared.event.Event.TheVariants as event
use Rattle.world_rules.specs.declared.event.Step.{Step}
use Rattle.world_rules.specs.declared.standing.Standing.{Standing}
use Rattle.world_rules.specs.declared.standing.Standing.TheVariants.{Limit, OutOfTurns, OutOfEvents, NoGroup, Faulted, Blocked, Finished, Going}
use Rattle.world_rules.specs.Acts.{AreAccounted, IsAccounted, WereUsed, acts_in, packets_in, event_of, is_burst, last_answer, swaps_by, swaps_in, wire_before}
use Rattle.world_rules.specs.Frame.{AreSettings, Frame}
use Rattle.world_rules.specs.Standings.{standing}
use Rattle.world_rules.specs.Steps.{Leads, Next, Replays}
use Rattle.world_rules.specs.Worlds.{Told, World, opening_world}
use Rattle.world_enough.specs.Faultless.{IsFirst, LeadsFirst}
use Rattle.world_facts.specs.Counted.{AllCounted, count_swaps, is_swap}
use Rattle.world_facts.specs.Rows.{AllRead}
use Rattle.world_parts.specs.Seen.{Of, Seen, tasks_out}
use Rattle.world_core.specs.Stepping.{HasComputed, IsRefused, Stepped, told_so}
use Rattle.run_loop.specs.Asked.{AreBelow, AreInTime, HaveToldOn, NoneAskedBehind, WereUsedSo, WereUsedUpTo, asked_since}
use Rattle.run_loop.specs.Driven.{ComesFirst, HasAnswered, HasStopped, IsDriven, IsDrivenTo, IsDue, IsGoing, MayGoOn, WentOn, told_more}
use Rattle.run_loop.proofs.Due.{refused_passes}
use Rattle.run_loop.proofs.Telling.{none_since, since_here, since_other, tells_itself, tells_on}
use Rattle.run_loop.proofs.Using.{AskedAct, AskedPackets, IsUsed, acts_same, all_accounted, answer_is, asked_is, before_next, before_stays, given_asked, in_time_asked, in_time_none, in_time_stepped, is_used, numbers_asked, step_last, still_used, below_more, used_asked, used_stepped}

-- ---- steps

-- one step more
pub leads_on : (f : Frame) (u w v : World) (steps : List Step) (step : Step) → Leads f u steps w → Next f w step v → Leads f u (steps ++ step ∷ []) v
leads_on f u w v [] step h next = (v, subst (λ (x : World). Next f x step v) h next, refl)
leads_on f u w v (s ∷ steps) step h next = (h.0, h.1, leads_on f h.0 w v steps step h.2 next)

pub first_on : (f : Frame) (u w v : World) (steps : List Step) (step : Step) → LeadsFirst f u steps w → Next f w step v → IsFirst w step.event → LeadsFirst f u (steps ++ step ∷ []) v
first_on f u w v [] step h next first = (v, subst (λ (x : World). Next f x step v) h next, subst (λ (x : World). IsFirst x step.event) h first, refl)
first_on f u w v (s ∷ steps) step h next first = (h.0, h.1, h.2, first_on f h.0 w v steps step h.3 next first)

one_longer : (steps : List Step) (step : Step) → length (steps ++ step ∷ []) ≡ suc (length steps)
one_longer steps step = length-append steps (step ∷ []) ∙ omega arith

-- swaps are counted in two ways
swap_added : (e : Event) (n : ℕ) → swaps_by e + n ≡ cond (is_swap e) (1 + n) n
swap_added (event.Burst process place turns) n = omega arith
swap_added (event.Act process) n = omega arith
swap_added (event.Deliver packet copy) n = omega arith
swap_added event.Tick n = omega arith
swap_added (event.Crash node) n = omega arith
swap_added (event.Suspect node) n = omega arith
swap_added event.Swap n = omega arith

pub swaps_counted : (steps : List Step) → swaps_in steps ≡ count_swaps steps
swaps_counted steps = is_count_by swaps_in (λ (s : Step). is_swap s.event) refl (λ s more. swap_added s.event (swaps_in more)) steps

swaps_last : (steps : List Step) (step : Step) → swaps_in (steps ++ step ∷ []) ≡ swaps_in steps + swaps_by step.event
swaps_last [] step = omega arith
swaps_last (s ∷ steps) step = let rest = swaps_last steps step in omega (arith, rest)

-- the wire in use before the next event
wire_next : (steps : List Step) (step : Step) → wire_before (suc (length steps)) (steps ++ step ∷ []) ≡ swaps_in steps
wire_next steps step = ap swaps_in (before_stays steps step (suc (length steps)) (omega arith) ∙ before_next steps)

-- a step counts its swap
pub swaps_step : (f : Frame) (steps : List Step) (w v : World) (step : Step) → AllCounted → Replays f steps w → Next f w step v → v.swaps ≡ w.swaps + swaps_by step.event
swaps_step f steps w v step count replays next =
    (count f (steps ++ step ∷ []) v (leads_on f (opening_world f) w v steps step replays next)).swaps ∙ sym (swaps_counted (steps ++ step ∷ [])) ∙ swaps_last steps step
    ∙ ap (λ n. n + swaps_by step.event) (swaps_counted steps ∙ sym (count f steps w replays).swaps)

-- ---- before the run

no_step : (n : ℕ) (step : Step) → entry_at [] n ≡ Some step → ⊥
no_step zero step e = cc e
no_step (suc n) step e = cc e

pub opens_used : (f : Frame) (told : List (List Asked)) → WereUsed f [] (opening_world f) (asked_since told told)
opens_used f told = record {
  packets = λ wire. ap packets_in (none_since told wire);
  acts = λ n step there plain. absurd (no_step n step there);
  caused = λ n step act there is. absurd (no_step n step there);
  given = λ wire. subst (λ (l : List Asked). AreAccounted f [] (acts_in l)) (sym (none_since told wire)) tt;
}

pub opens : {S : Type 0} (f : Frame) (s : Seen S) (told : List (List Asked)) → s.steps ≡ [] → tasks_out s ≡ 0 → length told ≡ f.settings.wires → AreSettings f.settings → IsDriven f s 0 told told
opens f s told none idle wires settings = record {
  world = opening_world f;
  replays = subst (λ (steps : List Step). Replays f steps (opening_world f)) (sym none) refl;
  first = subst (λ (steps : List Step). LeadsFirst f (opening_world f) steps (opening_world f)) (sym none) refl;
  swaps = refl;
  within = let some = settings.a_wire in omega (arith, wires, some);
  wires = wires;
  told = tells_itself told;
  used = subst (λ (steps : List Step). WereUsed f steps (opening_world f) (asked_since told told)) (sym none) (opens_used f told);
  unused = λ wire lt. none_since told wire;
  in_time = in_time_none f s.steps (asked_since told told) (none_since told);
  numbers = λ wire. subst (λ (l : List Asked). AreBelow (suc (length s.steps)) (acts_in l)) (sym (none_since told wire)) tt;
  idle = idle;
  settings = settings;
}

-- ---- the wire in use was asked about an act

module _ {S : Type 0} (f : Frame) (s : Seen S) (in_use : ℕ) (old new : List (List Asked)) (answer : Option WireAct) (h : HasAnswered f s in_use old new answer) where
  pub asks : AskedAct in_use (suc (length s.steps)) answer (asked_since old h.before) (asked_since old new)
  asks = record {
    here =
        ap (λ (t : List (List Asked)). asked_since old t in_use) h.told
        ∙ since_here old h.before in_use (Act (suc (length s.steps)) answer ∷ []) h.driven.told h.driven.within;
    others = λ other apart.
        ap (λ (t : List (List Asked)). asked_since old t other) h.told
        ∙ since_other old h.before in_use other (Act (suc (length s.steps)) answer ∷ []) apart;
  }

  pub same_length : length new ≡ length h.before
  same_length = ap length h.told ∙ length-set h.before in_use (slice_index_or h.before in_use [] ++ Act (suc (length s.steps)) answer ∷ [])

  pub tells_asked : HaveToldOn old new
  tells_asked = subst (HaveToldOn old) (sym h.told) (tells_on old h.before in_use (Act (suc (length s.steps)) answer ∷ []) h.driven.told h.driven.within)

  pub unused_asked : NoneAskedBehind in_use (asked_since old new)
  unused_asked wire lt = asks.others wire (λ e. absurd (omega (arith, lt, e))) ∙ h.driven.unused wire lt

  -- it was asked in time
  pub in_time_now : AllCounted → IsGoing f s → AreInTime f s.steps (asked_since old new)
  in_time_now count going =
      let d = h.driven in
      in_time_asked in_use (suc (length s.steps)) answer (asked_since old h.before) (asked_since old new) asks f s.steps d.world refl
      (d.swaps ∙ (count f s.steps d.world d.replays).swaps ∙ sym (swaps_counted s.steps) ∙ ap swaps_in (sym (before_next s.steps)))
      d.replays (going d.world d.replays) (d.used.packets in_use) (d.numbers in_use) d.in_time

  -- where what it gave is accounted for, the run may go on
  pub goes_on : AllCounted → IsGoing f s → IsAccounted f s.steps (suc (length s.steps)) answer → MayGoOn f s in_use old new
  goes_on count going fine = record {
    driven = record {
      world = h.driven.world;
      replays = h.driven.replays;
      first = h.driven.first;
      swaps = h.driven.swaps;
      within = let within = h.driven.within in omega (arith, within, same_length);
      wires = same_length ∙ h.driven.wires;
      told = tells_asked;
      used = used_asked in_use (suc (length s.steps)) answer (asked_since old h.before) (asked_since old new) asks f s.steps h.driven.world refl h.driven.used fine;
      unused = unused_asked;
      in_time = in_time_now count going;
      numbers = numbers_asked in_use (suc (length s.steps)) answer (asked_since old h.before) (asked_since old new) asks h.driven.numbers;
      idle = h.driven.idle;
      settings = h.driven.settings;
    };
    answer = answer;
    asked = asked_is in_use (suc (length s.steps)) answer (asked_since old h.before) (asked_since old new) asks;
  }

  -- memory lacked before its act was done
  pub stops_asked : AllCounted → IsGoing f s → HasStopped f s old new
  stops_asked count going = record {
    world = h.driven.world;
    replays = h.driven.replays;
    first = h.driven.first;
    going = going h.driven.world h.driven.replays;
    told = tells_asked;
    used = record {
      before = asked_since old h.before;
      last = Act (suc (length s.steps)) answer ∷ [];
      used = h.driven.used;
      question = inr (answer, refl);
      in_use = subst (λ k. asked_since old new k ≡ asked_since old h.before k ++ Act (suc (length s.steps)) answer ∷ []) h.driven.swaps asks.here;
      others = λ wire apart. asks.others wire (λ e. apart (e ∙ h.driven.swaps));
    };
    unused = subst (λ k. NoneAskedBehind k (asked_since old new)) h.driven.swaps unused_asked;
    in_time = in_time_now count going;
  }

-- it gave nothing; or what may not be, which is passed over
pub gives_nothing : {S : Type 0} (f : Frame) (s : Seen S) (in_use : ℕ) (old new : List (List Asked)) → AllCounted → HasAnswered f s in_use old new None → IsGoing f s → MayGoOn f s in_use old new
gives_nothing f s in_use old new count h going = goes_on f s in_use old new None h count going tt

pub passes_over : {S : Type 0} (f : Frame) (s : Seen S) (in_use : ℕ) (old new : List (List Asked)) (act : WireAct) → AllCounted → HasAnswered f s in_use old new (Some act) → IsGoing f s → IsRefused f (event_of act) s → MayGoOn f s in_use old new
passes_over f s in_use old new act count h going refused =
    let w = h.driven.world in
    goes_on f s in_use old new (Some act) h count going (inr (
      w,
      subst (λ (l : List Step). Replays f l w) (sym (before_next s.steps)) h.driven.replays,
      refused_passes f w act (going w h.driven.replays) (refused w h.driven.replays),
    ))

-- the network was used, with no last question
pub all_used : (f : Frame) (steps : List Step) (w : World) (asked : ℕ → List Asked) → WereUsed f steps w asked → WereUsedUpTo f steps w asked
all_used f steps w asked used = record {
  before = asked;
  last = [];
  used = used;
  question = inl refl;
  in_use = sym (append-nil (asked w.swaps));
  others = λ wire apart. refl;
}

-- memory lacked where nothing was asked, or what was asked is accounted for
pub stops : {S : Type 0} (f : Frame) (s : Seen S) (next in_use : ℕ) (old new : List (List Asked)) → IsDrivenTo f s next in_use old new → IsGoing f s → HasStopped f s old new
stops f s next in_use old new d going = record {
  world = d.world;
  replays = d.replays;
  first = d.first;
  going = going d.world d.replays;
  told = d.told;
  used = all_used f s.steps d.world (asked_since old new) d.used;
  unused = subst (λ k. NoneAskedBehind k (asked_since old new)) d.swaps d.unused;
  in_time = d.in_time;
}

-- ---- a step was done

-- of the wire in use, and of what its packets told
pub record Does {S : Type 0} (f : Frame) (s after : Seen S) (in_use : ℕ) (new told : List (List Asked)) (w : World) (step : Step) : Type 0 where
  pub world : World
  pub next : Next f w step world
  pub first : IsFirst w step.event
  pub steps : after.steps ≡ s.steps ++ step ∷ []
  pub more : List Told
  pub told_is : world.told ≡ w.told ++ more
  pub wires : Each (λ (one : Told). one.wire ≡ in_use) more
  pub tells : told ≡ told_more in_use (map told_so more) new
  pub idle : tasks_out after ≡ 0
  pub leads : Of f s (λ u. (v : World) × Next f u step v)

module _ {S : Type 0} (f : Frame) (s after : Seen S) (in_use next_use : ℕ) (old new told : List (List Asked)) (step : Step) (count : AllCounted)
    (w : World) (replays : Replays f s.steps w) (swaps : in_use ≡ w.swaps) (within : in_use < length new) (wires : length new ≡ f.settings.wires) (tells : HaveToldOn old new)
    (used : IsUsed f s.steps w (asked_since old new)) (given : (wire : ℕ) → AreAccounted f (s.steps ++ step ∷ []) (acts_in (asked_since old new wire))) (numbers : (wire : ℕ) → AreBelow (suc (suc (length s.steps))) (acts_in (asked_since old new wire)))
    (settings : AreSettings f.settings) (does_it : Does f s after in_use new told w step) where
  abbrev all : List Step
  all = s.steps ++ step ∷ []

  led : Replays f all does_it.world
  led = leads_on f (opening_world f) w does_it.world s.steps step replays does_it.next

  packets : AskedPackets in_use does_it.more (asked_since old new) (asked_since old told)
  packets = record {
    wires = does_it.wires;
    here = ap (λ (t : List (List Asked)). asked_since old t in_use) does_it.tells ∙ since_here old new in_use (map told_so does_it.more) tells within;
    others = λ other apart. ap (λ (t : List (List Asked)). asked_since old t other) does_it.tells ∙ since_other old new in_use other (map told_so does_it.more) apart;
  }

  same_count : length told ≡ length new
  same_count = ap length does_it.tells ∙ length-set new in_use (slice_index_or new in_use [] ++ map told_so does_it.more)

  -- the wire in use before it
  in_use_is : wire_before (suc (length s.steps)) all ≡ in_use
  in_use_is = wire_next s.steps step ∙ swaps_counted s.steps ∙ sym (count f s.steps w replays).swaps ∙ sym swaps

  pub swaps_after : does_it.world.swaps ≡ in_use + swaps_by step.event
  swaps_after = swaps_step f s.steps w does_it.world step count replays does_it.next ∙ ap (λ n. n + swaps_by step.event) (sym swaps)

  pub driven_on : LeadsFirst f (opening_world f) s.steps w
      → (is_burst step.event ≡ false → (answer : Option WireAct) × In (suc (length s.steps), answer) (acts_in (asked_since old new in_use)))
      → ((act : WireAct) → step.event ≡ event_of act → last_answer (suc (length s.steps)) (acts_in (asked_since old new in_use)) ≡ Some (Some act))
      → NoneAskedBehind in_use (asked_since old new) → AreInTime f s.steps (asked_since old new) → next_use ≡ in_use + swaps_by step.event → next_use < length told → WentOn f s after next_use old told
  driven_on firsts asked caused unused in_time moves low = record {
    driven = record {
      world = does_it.world;
      replays = subst (λ (l : List Step). Replays f l does_it.world) (sym does_it.steps) led;
      first = subst (λ (l : List Step). LeadsFirst f (opening_world f) l does_it.world) (sym does_it.steps)
          (first_on f (opening_world f) w does_it.world s.steps step firsts does_it.next does_it.first);
      swaps = moves ∙ sym swaps_after;
      within = low;
      wires = same_count ∙ wires;
      told = subst (HaveToldOn old) (sym does_it.tells) (tells_on old new in_use (map told_so does_it.more) tells within);
      used = subst (λ (l : List Step). WereUsed f l does_it.world (asked_since old told)) (sym does_it.steps)
          (used_stepped in_use does_it.more (asked_since old new) (asked_since old told) packets f s.steps w does_it.world step used does_it.told_is given
          (λ plain. subst (λ k. (answer : Option WireAct) × In (suc (length s.steps), answer) (acts_in (asked_since old new k))) (sym in_use_is) (asked plain))
          (λ act is. subst (λ k. last_answer (suc (length s.steps)) (acts_in (asked_since old new k)) ≡ Some (Some act)) (sym in_use_is) (caused act is)));
      unused = λ wire lt. packets.others wire (λ e. absurd (omega (arith, lt, moves, e))) ∙ unused wire (omega (arith, lt, moves));
      in_time = subst (λ (l : List Step). AreInTime f l (asked_since old told)) (sym does_it.steps)
          (in_time_stepped in_use does_it.more (asked_since old new) (asked_since old told) packets f s.steps step in_time);
      numbers = λ wire.
          subst (λ (l : List Step). AreBelow (suc (length l)) (acts_in (asked_since old told wire))) (sym does_it.steps)
          (subst (λ (l : List (ℕ × Option WireAct)). AreBelow (suc (length all)) l) (sym (acts_same in_use does_it.more (asked_since old new) (asked_since old told) packets wire))
          (below_more (suc (suc (length s.steps))) (suc (length all)) (acts_in (asked_since old new wire)) (let longer = one_longer s.steps step in omega (arith, longer)) (numbers wire)));
      idle = does_it.idle;
      settings = settings;
    };
    one = ap length does_it.steps ∙ one_longer s.steps step;
    step = step;
    steps = does_it.steps;
    next = does_it.leads;
  }

-- ---- which wire was told

-- a swap sends nothing
silent_as : (f : Frame) (w v : World) (e : Event) (fates : List Fate) → e ≡ event.Swap → Next f w (record { event = e; fates = fates }) v → v.told ≡ w.told
silent_as f w v (event.Burst process place turns) fates is next = absurd (cc is)
silent_as f w v (event.Act process) fates is next = absurd (cc is)
silent_as f w v (event.Deliver packet copy) fates is next = absurd (cc is)
silent_as f w v event.Tick fates is next = absurd (cc is)
silent_as f w v (event.Crash node) fates is next = absurd (cc is)
silent_as f w v (event.Suspect node) fates is next = absurd (cc is)
silent_as f w v event.Swap fates is next = ap (λ (u : World). u.told) next.after

nothing_more : (f : Frame) (w v : World) (step : Step) (more : List Told) → step.event ≡ event.Swap → Next f w step v → v.told ≡ w.told ++ more → more ≡ []
nothing_more f w v step more is next told = append_cancel_left w.told more [] (sym told ∙ silent_as f w v step.event step.fates is next ∙ sym (append-nil w.told))

-- a step tells the wire that is in use behind it, which was in use before
pub own_wire : (f : Frame) (steps : List Step) (w v : World) (step : Step) (more : List Told) (in_use : ℕ) → AllCounted → Replays f steps w → Next f w step v → v.told ≡ w.told ++ more → Each (λ (one : Told). one.wire ≡ v.swaps) more → in_use ≡ w.swaps
    → (swaps_by step.event ≡ 0) ⊎ (step.event ≡ event.Swap) → Each (λ (one : Told). one.wire ≡ in_use) more
own_wire f steps w v step more in_use count replays next told wires use_is (inl none) =
    let same : v.swaps ≡ in_use = let after = swaps_step f steps w v step count replays next in omega (arith, after, none, use_is) in
    subst (λ k. Each (λ (one : Told). one.wire ≡ k) more) same wires
own_wire f steps w v step more in_use count replays next told wires use_is (inr swap) =
    subst (λ (l : List Told). Each (λ (one : Told). one.wire ≡ in_use) l) (sym (nothing_more f w v step more swap next told)) tt

-- ---- each event

due_swaps : (e : Event) → IsDue e → swaps_by e ≡ 0
due_swaps (event.Act process) due = refl
due_swaps (event.Deliver packet copy) due = refl
due_swaps event.Tick due = refl
due_swaps (event.Burst process place turns) due = absurd due
due_swaps (event.Crash node) due = absurd due
due_swaps (event.Suspect node) due = absurd due
due_swaps event.Swap due = absurd due

due_not_given : (act : WireAct) → IsDue (event_of act) → ⊥
due_not_given (does.Crash node) due = due
due_not_given (does.Suspect node) due = due
due_not_given does.Swap due = due

act_swaps : (act : WireAct) → (swaps_by (event_of act) ≡ 0) ⊎ (event_of act ≡ event.Swap)
act_swaps (does.Crash node) = inl refl
act_swaps (does.Suspect node) = inl refl
act_swaps does.Swap = inr refl

-- an act is told by its event
same_act : (act other : WireAct) → event_of act ≡ event_of other → act ≡ other
same_act (does.Crash node) (does.Crash other) e = let same : node ≡ other = cc e in ap does.Crash same
same_act (does.Crash node) (does.Suspect other) e = absurd (cc e)
same_act (does.Crash node) does.Swap e = absurd (cc e)
same_act (does.Suspect node) (does.Crash other) e = absurd (cc e)
same_act (does.Suspect node) (does.Suspect other) e = let same : node ≡ other = cc e in ap does.Suspect same
same_act (does.Suspect node) does.Swap e = absurd (cc e)
same_act does.Swap (does.Crash other) e = absurd (cc e)
same_act does.Swap (does.Suspect other) e = absurd (cc e)
same_act does.Swap does.Swap e = refl

-- and delivers nothing
act_first : (w : World) (act : WireAct) → IsFirst w (event_of act)
act_first w (does.Crash node) = tt
act_first w (does.Suspect node) = tt
act_first w does.Swap = tt

-- what a step of a wire's own told is more of that wire's
told_so_more : (in_use : ℕ) (new told : List (List Asked)) (prior after more : List Asked) → prior ≡ slice_index_or new in_use [] → after ≡ prior ++ more → told ≡ slice_set new in_use after → told ≡ told_more in_use more new
told_so_more in_use new told prior after more same grown put = put ∙ ap (slice_set new in_use) (grown ∙ ap (λ (l : List Asked). l ++ more) same)

stepped_is : {S : Type 0} (f : Frame) (s after : Seen S) (in_use : ℕ) (new told : List (List Asked)) (what : Event) (prior now : List Asked) (w : World) → AllCounted → Replays f s.steps w → in_use ≡ w.swaps
    → IsFirst w what → (st : Stepped f what s after prior now) → (swaps_by what ≡ 0) ⊎ (what ≡ event.Swap) → prior ≡ slice_index_or new in_use [] → told ≡ slice_set new in_use now → tasks_out after ≡ 0 → Does f s after in_use new told w st.step
stepped_is f s after in_use new told what prior now w count replays use_is first st kind same put idle =
    let led = st.leads w replays in
    record {
      world = led.world;
      next = led.next;
      first = subst (λ (e : Event). IsFirst w e) (sym st.event_is) first;
      steps = st.steps;
      more = led.more;
      told_is = led.told;
      wires = own_wire f s.steps w led.world st.step led.more in_use count replays led.next led.told led.wire use_is (subst (λ (e : Event). (swaps_by e ≡ 0) ⊎ (e ≡ event.Swap)) (sym st.event_is) kind);
      tells = told_so_more in_use new told prior now (map told_so led.more) same led.asked put;
      idle = idle;
      leads = λ u replayed. let on = st.leads u replayed in (on.world, on.next);
    }

-- what was due was done
pub due_done : {S : Type 0} (f : Frame) (s after : Seen S) (in_use : ℕ) (old new told : List (List Asked)) (what : Event) (prior now : List Asked) → AllCounted → MayGoOn f s in_use old new → IsDue what
    → ComesFirst f s what → Stepped f what s after prior now → prior ≡ slice_index_or new in_use [] → told ≡ slice_set new in_use now → tasks_out after ≤ tasks_out s → WentOn f s after in_use old told
due_done f s after in_use old new told what prior now count on due first st same put tasks =
    let d = on.driven in
    let idle = d.idle in
    let within = d.within in
    let length_is = ap length put ∙ length-set new in_use now in
    driven_on f s after in_use in_use old new told st.step count d.world d.replays d.swaps d.within d.wires d.told (is_used f s.steps d.world (asked_since old new) d.used)
    (λ wire. all_accounted f s.steps st.step (acts_in (asked_since old new wire)) (d.numbers wire) (d.used.given wire)) d.numbers d.settings
    (stepped_is f s after in_use new told what prior now d.world count d.replays d.swaps (first d.world d.replays) st (inl (due_swaps what due)) same put (omega (arith, tasks, idle)))
    d.first
    (λ plain. (on.answer, on.asked))
    (λ act is. absurd (due_not_given act (subst IsDue (sym st.event_is ∙ is) due)))
    d.unused
    d.in_time
    (let none = ap swaps_by st.event_is ∙ due_swaps what due in omega (arith, none))
    (omega (arith, within, length_is))

-- the wire's act was done
pub act_done : {S : Type 0} (f : Frame) (s after : Seen S) (in_use next_use : ℕ) (old new told : List (List Asked)) (act : WireAct) (prior now : List Asked) → AllCounted → HasAnswered f s in_use old new (Some act) → IsGoing f s
    → Stepped f (event_of act) s after prior now → prior ≡ slice_index_or new in_use [] → told ≡ slice_set new in_use now → tasks_out after ≤ tasks_out s → next_use ≡ in_use + swaps_by (event_of act) → next_use < length told → WentOn f s after next_use old told
act_done f s after in_use next_use old new told act prior now count h going st same put tasks moves low =
    let d = h.driven in
    let idle = d.idle in
    let within = d.within in
    let longer = same_length f s in_use old new (Some act) h in
    let asked = asks f s in_use old new (Some act) h in
    let n = suc (length s.steps) in
    let before_it = asked_since old h.before in
    let since = asked_since old new in
    driven_on f s after in_use next_use old new told st.step count d.world d.replays d.swaps (omega (arith, within, longer)) (longer ∙ d.wires) (tells_asked f s in_use old new (Some act) h)
    (still_used in_use n (Some act) before_it since asked f s.steps d.world refl d.used)
    (given_asked in_use n (Some act) before_it since asked f (s.steps ++ st.step ∷ [])
    (λ wire. all_accounted f s.steps st.step (acts_in (before_it wire)) (below_more n (suc n) (acts_in (before_it wire)) (omega arith) (d.numbers wire)) (d.used.given wire))
    (inl (st.step, step_last s.steps st.step, st.event_is)))
    (numbers_asked in_use n (Some act) before_it since asked d.numbers)
    d.settings
    (stepped_is f s after in_use new told (event_of act) prior now d.world count d.replays d.swaps (act_first d.world act) st (act_swaps act) same put (omega (arith, tasks, idle)))
    d.first
    (λ plain. (Some act, asked_is in_use n (Some act) before_it since asked))
    (λ other is. answer_is in_use n (Some act) before_it since asked ∙ ap (λ (a : WireAct). Some (Some a)) (same_act act other (sym st.event_is ∙ is)))
    (unused_asked f s in_use old new (Some act) h)
    (in_time_now f s in_use old new (Some act) h count going)
    (moves ∙ ap (λ (e : Event). in_use + swaps_by e) (sym st.event_is))
    low

-- a process computed, which asks no wire
no_more_told : (in_use : ℕ) (new : List (List Asked)) → new ≡ told_more in_use [] new
no_more_told in_use new = sym (ap (slice_set new in_use) (append-nil (slice_index_or new in_use [])) ∙ set-get_or new in_use [])

burst_not_given : (act : WireAct) (process : ProcessNo) (place turns : ℕ) → event.Burst process place turns ≡ event_of act → ⊥
burst_not_given (does.Crash node) process place turns e = cc e
burst_not_given (does.Suspect node) process place turns e = cc e
burst_not_given does.Swap process place turns e = cc e

pub burst_done : {S : Type 0} (f : Frame) (s after : Seen S) (in_use : ℕ) (old new : List (List Asked)) (process : ProcessNo) → AllCounted → MayGoOn f s in_use old new → HasComputed f process s after → tasks_out after ≡ tasks_out s → WentOn f s after in_use old new
burst_done f s after in_use old new process count on in_it tasks =
    let d = on.driven in
    let led = in_it.leads d.world d.replays in
    let step : Step = record { event = event.Burst process in_it.place in_it.turns; fates = [] } in
    driven_on f s after in_use in_use old new new step count d.world d.replays d.swaps d.within d.wires d.told (is_used f s.steps d.world (asked_since old new) d.used)
    (λ wire. all_accounted f s.steps step (acts_in (asked_since old new wire)) (d.numbers wire) (d.used.given wire)) d.numbers d.settings
    (record {
      world = led.0;
      next = led.1;
      first = tt;
      steps = in_it.steps;
      more = [];
      told_is = led.2 ∙ sym (append-nil d.world.told);
      wires = tt;
      tells = no_more_told in_use new;
      idle = tasks ∙ d.idle;
      leads = λ u replayed. let on = in_it.leads u replayed in (on.0, on.1);
    })
    d.first
    (λ plain. (on.answer, on.asked))
    (λ act is. absurd (burst_not_given act process in_it.place in_it.turns is))
    d.unused
    d.in_time
    (omega arith)
    d.within

-- ---- how long it may go on

pub few_steps : {S : Type 0} (f : Frame) (s : Seen S) (in_use : ℕ) (old new : List (List Asked)) → AllCounted → AllRead → IsDriven f s in_use old new → IsGoing f s → length s.steps < f.settings.events
few_steps f s in_use old new count read d going =
    let rows = (read f d.world).says Going (going d.world d.replays) in
    let events = rows.0.events in
    let steps = (count f s.steps d.world d.replays).steps in
    omega (arith, events, steps)

-- ---- at its end

-- between two events, however it stands
pub used_between : (stands : Standing) (f : Frame) (steps : List Step) (w : World) (asked : ℕ → List Asked) → WereUsed f steps w asked → WereUsedSo stands f steps w asked
used_between Going f steps w asked used = all_used f steps w asked used
used_between (Limit what number) f steps w asked used = used
used_between OutOfTurns f steps w asked used = used
used_between OutOfEvents f steps w asked used = used
used_between NoGroup f steps w asked used = used
used_between Faulted f steps w asked used = used
used_between Blocked f steps w asked used = used
used_between Finished f steps w asked used = used

pub used_up_to : (stands : Standing) (f : Frame) (steps : List Step) (w : World) (asked : ℕ → List Asked) → WereUsedSo stands f steps w asked → WereUsedUpTo f steps w asked
used_up_to Going f steps w asked used = used
used_up_to (Limit what number) f steps w asked used = all_used f steps w asked used
used_up_to OutOfTurns f steps w asked used = all_used f steps w asked used
used_up_to OutOfEvents f steps w asked used = all_used f steps w asked used
used_up_to NoGroup f steps w asked used = all_used f steps w asked used
used_up_to Faulted f steps w asked used = all_used f steps w asked used
used_up_to Blocked f steps w asked used = all_used f steps w asked used
used_up_to Finished f steps w asked used = all_used f steps w asked used

pub used_stopped : {S : Type 0} (f : Frame) (s : Seen S) (old new : List (List Asked)) (stands : Standing) → (h : HasStopped f s old new) → stands ≡ standing f h.world → WereUsedSo stands f s.steps h.world (asked_since old new)
used_stopped f s old new stands h is = subst (λ (st : Standing). WereUsedSo st f s.steps h.world (asked_since old new)) (sym (is ∙ h.going)) h.used
