-- What each standing says of what is kept: row by row.
use Rattle.std.proofs.Common.{◌≡◌, ◌∙◌, ◌<◌, ◌≤◌, ◌+◌, ◌⊎◌, ⊎_elim, inl, inr, ◌||◌, ℕ, zero, suc, Bool, true, false, if◌then◌else◌, not, List, [], ◌∷◌, length, Option, Some, None, ap, sym, subst, refl, arith}
use Rattle.std.specs.Prelude.{slice_get}
use Rattle.std.specs.List.{count_by}
use Rattle.std.proofs.lemmas.List.{length-map}
use Rattle.std.proofs.lemmas.List.Sums.{sum_by-cons}
use Rattle.orca_base.specs.declared.fault.FaultKind.{FaultKind}
use Rattle.orca_base.specs.declared.ids.ProcessNo.{ProcessNo}
use Rattle.orca_base.specs.declared.what.What.{What}
use Rattle.value_core.specs.Datum.{Data}
use Rattle.orca_base.specs.declared.ids.TextNo.{TextNo}
use Rattle.value_core.specs.History as history
use Rattle.value_core.specs.History.{IsStuck}
use Rattle.value_core.specs.declared.action.Action.{Action}
use Rattle.value_core.specs.declared.action.Action.TheVariants as action
use Rattle.value_core.specs.declared.action.Line.{Line}
use Rattle.value_core.specs.declared.action.Reply.{Reply}
use Rattle.group_rules.specs.Sets.{count}
use Rattle.run_law.specs.Spent.{SpentBusy}
use Rattle.world_rules.specs.declared.standing.Standing.{Standing}
use Rattle.world_rules.specs.declared.standing.Standing.TheVariants.{Limit, OutOfTurns, OutOfEvents, NoGroup, Faulted, Blocked, Finished, Going}
use Rattle.world_rules.specs.Frame.{Frame}
use Rattle.world_rules.specs.Played.{Played, Stage, has_faulted, is_fault, is_over}
use Rattle.world_rules.specs.Played.Stage.{Computing, Acting, Submitted, Reading, Asking, Over}
use Rattle.world_rules.specs.Standings as rules
use Rattle.world_rules.specs.Standings.{is_over_run, process_count}
use Rattle.world_rules.specs.Worlds.{World, home_of, played_in, processes_of}
use Rattle.world_book.specs.Processes.{IsKnownAs, IsPlayedAs}
use Rattle.world_book.specs.Promise.{AllStuck, IsKept}
use Rattle.world_enough.specs.Bound.{IsEnough, IsEnoughWithin, bound_with_singles}
use Rattle.world_enough.specs.Faultless.{IsFaulty}
use Rattle.world_facts.specs.Counted.{AllCounted}
use Rattle.world_facts.specs.Replicated.{AllReplicated}
use Rattle.world_facts.specs.Ends as facts
use Rattle.world_facts.specs.Ends.{EndsStand, FinishedEnds, Stand, end_at, end_crashed, end_living, end_of, end_over, process_end, turns_in}
use Rattle.world_facts.specs.Processes.{IsPlayed, ProcessesStand, is_last}
use Rattle.world_facts.specs.Processes as played
use Rattle.world_facts.specs.Rows as rows
use Rattle.world_facts.specs.Rows.{AllRead, IsBegun}
use Rattle.run_ends.specs.Telling.{on_process_end, on_standing}
use Rattle.run_ends.specs.declared.ends.NodeEnd.{NodeEnd}
use Rattle.run_ends.specs.declared.ends.ProcessEnd.{ProcessEnd}
use Rattle.run_ends.specs.declared.ends.ProcessStanding.{ProcessStanding}
use Rattle.run_ends.specs.declared.ends.ProcessStanding.TheVariants as standing
use Rattle.orca_cli.specs.declared.kept.Kept.{Kept}
use Rattle.orca_cli.specs.Kept.{IsEndOf}
use Rattle.orca_cli.specs.Rows.{AllEnded, HasGoneWell, HaveTurns, IsBusy, IsEndedOrStuck, KeptRow, LostTooMany, NoneFaulted, ShownRows, SomeBusy, SomeStuck, StandsAt}
use Rattle.kept_copies.proofs.Ends.{end_is, get_below}

-- ---- standings there and back

the_fault : (s : ProcessStanding) (fault : FaultKind) → on_standing s ≡ Stand.Faulted fault → s ≡ standing.Faulted fault
the_fault standing.Ended fault e = absurd (cc e)
the_fault (standing.Faulted kind) fault e = let same : kind ≡ fault = cc e in ap standing.Faulted same
the_fault (standing.Waits act) fault e = absurd (cc e)
the_fault standing.Busy fault e = absurd (cc e)
the_fault standing.Crashed fault e = absurd (cc e)

the_wait : (s : ProcessStanding) (act : Action) → on_standing s ≡ Stand.Waits act → s ≡ standing.Waits act
the_wait standing.Ended act e = absurd (cc e)
the_wait (standing.Faulted kind) act e = absurd (cc e)
the_wait (standing.Waits other) act e = let same : other ≡ act = cc e in ap standing.Waits same
the_wait standing.Busy act e = absurd (cc e)
the_wait standing.Crashed act e = absurd (cc e)

the_end : (s : ProcessStanding) → on_standing s ≡ Stand.Ended → s ≡ standing.Ended
the_end standing.Ended e = refl
the_end (standing.Faulted kind) e = absurd (cc e)
the_end (standing.Waits act) e = absurd (cc e)
the_end standing.Busy e = absurd (cc e)
the_end standing.Crashed e = absurd (cc e)

the_crash : (s : ProcessStanding) → on_standing s ≡ Stand.Crashed → s ≡ standing.Crashed
the_crash standing.Ended e = absurd (cc e)
the_crash (standing.Faulted kind) e = absurd (cc e)
the_crash (standing.Waits act) e = absurd (cc e)
the_crash standing.Busy e = absurd (cc e)
the_crash standing.Crashed e = refl

-- process i of the kept ones stands as that of the world
module _ (f : Frame) (w : World) (k : Kept) (end : IsEndOf f w k) (stand : EndsStand f w) where
  pub kept_at : (i : ℕ) → i < process_count f w → (e : ProcessEnd) × (slice_get k.processes.items i ≡ Some e) × (on_process_end e ≡ process_end f w i)
  kept_at i lt =
      let same = ap length end.processes in
      let mapped = length-map k.processes.items on_process_end in
      let all = stand.processes in
      let here = get_below k.processes.items i (omega (arith, lt, same, mapped, all)) in
      (here.0, here.1, (end_is f w k.processes.items i here.0 end.processes stand here.1).1)

  pub stand_of : (i : ℕ) (s : ProcessStanding) → StandsAt k i s → (i < process_count f w) × ((process_end f w i).stand ≡ on_standing s)
  stand_of i s h =
      let found = end_is f w k.processes.items i h.0 end.processes stand h.1 in
      (found.0, sym (ap (λ (e : facts.ProcessEnd). e.stand) found.1) ∙ ap on_standing h.2)

  -- ---- 3

  pub faulted_kept : rules.standing f w ≡ Faulted → (i : ℕ) × (fault : FaultKind) × StandsAt k i (standing.Faulted fault)
  faulted_kept is =
      let h = stand.faulted is in
      let at = kept_at h.0 h.1 in
      (h.0, h.2.0, (at.0, at.1, the_fault at.0.standing h.2.0 (ap (λ (e : facts.ProcessEnd). e.stand) at.2 ∙ h.2.1)))

  -- ---- 0

  over_ends : (act : Action) → is_last act ≡ true → is_fault act ≡ false → end_over act ≡ Stand.Ended
  over_ends (action.Make kind object) last fault = absurd (cc last)
  over_ends (action.Call kind op object args) last fault = absurd (cc last)
  over_ends (action.Fork text args place_on) last fault = absurd (cc last)
  over_ends action.Ended last fault = refl
  over_ends (action.Faulted kind) last fault = absurd (cc fault)

  crashed_stage : (i : ProcessNo) (r : Played) (stage : Stage) → played.StandsAt f i r stage → has_faulted stage ≡ false → (end_crashed stage ≡ Stand.Ended) ⊎ (end_crashed stage ≡ Stand.Crashed)
  crashed_stage i r Computing at none = inr refl
  crashed_stage i r (Acting act) at none = inr refl
  crashed_stage i r (Submitted act) at none = inr refl
  crashed_stage i r (Reading act) at none = inr refl
  crashed_stage i r (Asking act) at none = inr refl
  crashed_stage i r (Over act) at none = inl (over_ends act at.1 none)

  crashed_of : (i : ProcessNo) (o : Option Played) → ((r : Played) → o ≡ Some r → played.StandsAt f i r r.stage × (has_faulted r.stage ≡ false)) → (end_of false o ≡ Stand.Ended) ⊎ (end_of false o ≡ Stand.Crashed)
  crashed_of i None h = inr refl
  crashed_of i (Some r) h = let at = h r refl in crashed_stage i r r.stage at.0 at.1

  module _ (processes : ProcessesStand f w) where
    at_home : (i : ProcessNo) (r : Played) → played_in f w i.0 ≡ Some r → IsPlayed f i r
    at_home i r here = processes.each (home_of f w i.0) i r here

    pub ended_kept : rules.standing f w ≡ Finished → FinishedEnds f w → rows.NoneFaulted f w → AllEnded k
    ended_kept is finished none i e at = by_life (w.lives (home_of f w i)) refl
      where
        found : (i < process_count f w) × (on_process_end e ≡ process_end f w i)
        found = end_is f w k.processes.items i e end.processes stand at

        crashed : w.lives (home_of f w i) ≡ false → ((process_end f w i).stand ≡ Stand.Ended) ⊎ ((process_end f w i).stand ≡ Stand.Crashed)
        crashed gone = subst (λ b. (end_of b (played_in f w i) ≡ Stand.Ended) ⊎ (end_of b (played_in f w i) ≡ Stand.Crashed)) (sym gone)
            (crashed_of (record { 0 = i }) (played_in f w i) (λ r here. ((at_home (record { 0 = i }) r here).stands, none i r (record { exists = found.0; here = here }))))

        by_life : (b : Bool) → w.lives (home_of f w i) ≡ b → (e.standing ≡ standing.Ended) ⊎ (e.standing ≡ standing.Crashed)
        by_life true lives = inl (the_end e.standing (ap (λ (x : facts.ProcessEnd). x.stand) found.1 ∙ finished is i (found.0, lives)))
        by_life false gone = ⊎_elim
            (λ h. inl (the_end e.standing (ap (λ (x : facts.ProcessEnd). x.stand) found.1 ∙ h)))
            (λ h. inr (the_crash e.standing (ap (λ (x : facts.ProcessEnd). x.stand) found.1 ∙ h)))
            (crashed gone)

    -- ---- 4

    over_waits : (act other : Action) → is_last act ≡ true → end_over act ≡ Stand.Waits other → ⊥
    over_waits (action.Make kind object) other last e = cc last
    over_waits (action.Call kind op object args) other last e = cc last
    over_waits (action.Fork text args place_on) other last e = cc last
    over_waits action.Ended other last e = cc e
    over_waits (action.Faulted kind) other last e = cc e

    waits_living : (i : ProcessNo) (r : Played) (act : Action) (stage : Stage) → played.StandsAt f i r stage → end_living stage ≡ Stand.Waits act → is_over stage ≡ false
    waits_living i r act Computing at e = absurd (cc e)
    waits_living i r act (Acting other) at e = refl
    waits_living i r act (Submitted other) at e = refl
    waits_living i r act (Reading other) at e = refl
    waits_living i r act (Asking other) at e = refl
    waits_living i r act (Over other) at e = absurd (over_waits other act at.1 e)

    waits_crashed : (i : ProcessNo) (r : Played) (act : Action) (stage : Stage) → played.StandsAt f i r stage → end_crashed stage ≡ Stand.Waits act → ⊥
    waits_crashed i r act Computing at e = cc e
    waits_crashed i r act (Acting other) at e = cc e
    waits_crashed i r act (Submitted other) at e = cc e
    waits_crashed i r act (Reading other) at e = cc e
    waits_crashed i r act (Asking other) at e = cc e
    waits_crashed i r act (Over other) at e = over_waits other act at.1 e

    -- who waits has begun on a member that lives, and hasn't ended
    waits_as : (i : ProcessNo) (act : Action) (b : Bool) (o : Option Played) → ((r : Played) → o ≡ Some r → played.StandsAt f i r r.stage) → end_of b o ≡ Stand.Waits act
        → (b ≡ true) × ((r : Played) × (o ≡ Some r) × (is_over r.stage ≡ false))
    waits_as i act true None h e = absurd (cc e)
    waits_as i act false None h e = absurd (cc e)
    waits_as i act true (Some r) h e = (refl, (r, refl, waits_living i r act r.stage (h r refl) e))
    waits_as i act false (Some r) h e = absurd (waits_crashed i r act r.stage (h r refl) e)

    pub stuck_kept : is_over_run f w ≡ true → AllStuck f w → (i : ProcessNo) (act : Action) → StandsAt k i.0 (standing.Waits act) → IsStuck f.performs f.computes k.book.items i
    stuck_kept over stuck i act at =
        let h = stand_of i.0 (standing.Waits act) at in
        let waits = waits_as i act (w.lives (home_of f w i.0)) (played_in f w i.0) (λ r here. (at_home i r here).stands) h.1 in
        subst (λ (l : List Line). IsStuck f.performs f.computes l i) (sym end.book) (stuck.living over i waits.1.0 waits.1.1 waits.0 waits.1.2)

    over_faults : (act : Action) (fault : FaultKind) → is_fault act ≡ false → end_over act ≡ Stand.Faulted fault → ⊥
    over_faults (action.Make kind object) fault none e = cc e
    over_faults (action.Call kind op object args) fault none e = cc e
    over_faults (action.Fork text args place_on) fault none e = cc e
    over_faults action.Ended fault none e = cc e
    over_faults (action.Faulted kind) fault none e = cc none

    fault_living : (stage : Stage) (fault : FaultKind) → has_faulted stage ≡ false → end_living stage ≡ Stand.Faulted fault → ⊥
    fault_living Computing fault none e = cc e
    fault_living (Acting act) fault none e = cc e
    fault_living (Submitted act) fault none e = cc e
    fault_living (Reading act) fault none e = cc e
    fault_living (Asking act) fault none e = cc e
    fault_living (Over act) fault none e = over_faults act fault none e

    fault_crashed : (stage : Stage) (fault : FaultKind) → has_faulted stage ≡ false → end_crashed stage ≡ Stand.Faulted fault → ⊥
    fault_crashed Computing fault none e = cc e
    fault_crashed (Acting act) fault none e = cc e
    fault_crashed (Submitted act) fault none e = cc e
    fault_crashed (Reading act) fault none e = cc e
    fault_crashed (Asking act) fault none e = cc e
    fault_crashed (Over act) fault none e = over_faults act fault none e

    fault_as : (b : Bool) (o : Option Played) (fault : FaultKind) → ((r : Played) → o ≡ Some r → has_faulted r.stage ≡ false) → end_of b o ≡ Stand.Faulted fault → ⊥
    fault_as true None fault h e = cc e
    fault_as false None fault h e = cc e
    fault_as true (Some r) fault h e = fault_living r.stage fault (h r refl) e
    fault_as false (Some r) fault h e = fault_crashed r.stage fault (h r refl) e

    -- who is busy computes, on a member that lives
    over_busy : (act : Action) → end_over act ≡ Stand.Busy → ⊥
    over_busy (action.Make kind object) e = cc e
    over_busy (action.Call kind op object args) e = cc e
    over_busy (action.Fork text args place_on) e = cc e
    over_busy action.Ended e = cc e
    over_busy (action.Faulted kind) e = cc e

    busy_living : (stage : Stage) → end_living stage ≡ Stand.Busy → stage ≡ Computing
    busy_living Computing e = refl
    busy_living (Acting act) e = absurd (cc e)
    busy_living (Submitted act) e = absurd (cc e)
    busy_living (Reading act) e = absurd (cc e)
    busy_living (Asking act) e = absurd (cc e)
    busy_living (Over act) e = absurd (over_busy act e)

    busy_crashed : (stage : Stage) → end_crashed stage ≡ Stand.Busy → ⊥
    busy_crashed Computing e = cc e
    busy_crashed (Acting act) e = cc e
    busy_crashed (Submitted act) e = cc e
    busy_crashed (Reading act) e = cc e
    busy_crashed (Asking act) e = cc e
    busy_crashed (Over act) e = over_busy act e

    busy_as : (b : Bool) (o : Option Played) → end_of b o ≡ Stand.Busy → (b ≡ true) × ((r : Played) → o ≡ Some r → r.stage ≡ Computing)
    busy_as true None e = (refl, λ r is. let no : None ≡ Some r = is in absurd (cc no))
    busy_as false None e = absurd (cc e)
    busy_as true (Some s) e = (refl, λ r is. let same : s ≡ r = cc is in ap (λ (p : Played). p.stage) (sym same) ∙ busy_living s.stage e)
    busy_as false (Some s) e = absurd (busy_crashed s.stage e)

    ended_computes : (stage : Stage) → is_over stage ≡ true → stage ≡ Computing → ⊥
    ended_computes stage over e = let no : false ≡ true = sym (ap is_over e) ∙ over in cc no

    rests_computes : (i : ℕ) (stage : Stage) → rows.Rests f w i stage → stage ≡ Computing → ⊥
    rests_computes i stage rests e = subst (rows.Rests f w i) e rests

    -- where the run is over nobody is
    none_busy : rows.IsOver f w → (i : ℕ) → StandsAt k i standing.Busy → ⊥
    none_busy over i at =
        let s = stand_of i standing.Busy at in
        let is = busy_as (w.lives (home_of f w i)) (played_in f w i) s.1 in
        ⊎_elim
        (λ (all : rows.AllEnded f w). let h = all i s.0 is.0 in ended_computes h.0.stage h.2 (is.1 h.0 h.1.here))
        (λ (rest : rows.AllRest f w). let h = rest.processes i s.0 is.0 in rests_computes i h.0.stage h.2 (is.1 h.0 h.1.here))
        over

    -- where the run is over and every member lives each process ended or is stuck
    pub ended_or_stuck : rows.IsOver f w → is_over_run f w ≡ true → AllStuck f w → ((m : ℕ) → w.lives m ≡ true) → (i : ProcessNo) (e : ProcessEnd) → slice_get k.processes.items i.0 ≡ Some e
        → (s : ProcessStanding) → e.standing ≡ s → IsEndedOrStuck f k i s
    ended_or_stuck ends over stuck lives i e at standing.Ended is = tt
    ended_or_stuck ends over stuck lives i e at (standing.Faulted fault) is = tt
    ended_or_stuck ends over stuck lives i e at (standing.Waits act) is = stuck_kept over stuck i act (e, at, is)
    ended_or_stuck ends over stuck lives i e at standing.Busy is = none_busy ends i.0 (e, at, is)
    ended_or_stuck ends over stuck lives i e at standing.Crashed is =
        let gone = stand_of i.0 standing.Crashed (e, at, is) in
        let no : true ≡ false = sym (lives (home_of f w i.0)) ∙ stand.crashed i.0 gone.1 in
        absurd (cc no)

    pub blocked_kept : rules.standing f w ≡ Blocked → rows.IsOver f w → is_over_run f w ≡ true → AllStuck f w → rows.NoneFaulted f w → NoneFaulted k × SomeStuck f k
    blocked_kept is ends over stuck none =
        let h = stand.blocked is in
        let lives = h.1 in
        let at = kept_at h.0 lives.0 in (
          λ i fault there.
              let s = stand_of i (standing.Faulted fault) there in
              fault_as (w.lives (home_of f w i)) (played_in f w i) fault (λ r here. none i r (record { exists = s.0; here = here })) s.1,
          record {
            number = h.0;
            act = h.2.0;
            waits = (at.0, at.1, the_wait at.0.standing h.2.0 (ap (λ (e : facts.ProcessEnd). e.stand) at.2 ∙ h.2.1));
            none_busy = none_busy ends;
            stuck = stuck_kept over stuck;
          },
        )

    -- ---- 7

    is_busy : IsKept f w → SpentBusy f w → (i : ℕ) (r : Played) → rows.IsBegun f w i r → f.settings.turns ≤ r.turns → r.stage ≡ Computing → IsBusy f k i
    is_busy kept busy i r begun high computing =
        let number : ProcessNo = record { 0 = i } in
        let at = kept_at i begun.exists in
        let stands = at_home number r begun.here in
        let low = stands.turns in
        let here = get_below (processes_of f w) i begun.exists in
        let of = kept.processes.each i here.0 here.1 in
        let known : IsPlayedAs of.process r = subst (IsKnownAs of.process) begun.here of.here in
        let turns : at.0.turns ≡ r.turns = ap (λ (e : facts.ProcessEnd). e.turns) at.2 ∙ ap turns_in begun.here in
        let replies : at.0.replies ≡ r.replies = ap (λ (e : facts.ProcessEnd). e.replies) at.2 ∙ ap facts.replies_in begun.here in
        record {
          end = at.0;
          kept = at.1;
          turns = omega (arith, turns, low, high);
          process = of.process;
          exists = ap (λ (l : List Line). slice_get (history.processes_of f.performs f.computes l) i) end.book ∙ of.exists;
          busy =
              ap (λ (t : TextNo). f.computes.doing t number of.process.args at.0.replies f.settings.turns) (sym known.text)
              ∙ ap (λ (a : Data). f.computes.doing r.text number a at.0.replies f.settings.turns) (sym known.args)
              ∙ ap (λ (l : List Reply). f.computes.doing r.text number r.args l f.settings.turns) replies
              ∙ busy i r begun.here computing high;
        }

    all_turns : (i : ProcessNo) (r : Played) (stage : Stage) → played.StandsAt f i r stage → f.settings.turns ≤ r.turns → stage ≡ Computing
    all_turns i r Computing at high = refl
    all_turns i r (Acting act) at high = let low = at.0.turns in absurd (omega (arith, low, high))
    all_turns i r (Submitted act) at high = let low = at.0.turns in absurd (omega (arith, low, high))
    all_turns i r (Reading act) at high = let low = at.0.turns in absurd (omega (arith, low, high))
    all_turns i r (Asking act) at high = let low = at.0.turns in absurd (omega (arith, low, high))
    all_turns i r (Over act) at high = let low = at.0.turns in absurd (omega (arith, low, high))

    busy_at : IsKept f w → SpentBusy f w → (i : ℕ) (o : Option Played) → played_in f w i ≡ o → 1 ≤ f.settings.turns → i < process_count f w → turns_in o ≡ f.settings.turns → IsBusy f k i
    busy_at kept busy i None here some lt is = let none : 0 ≡ f.settings.turns = is in absurd (omega (arith, some, none))
    busy_at kept busy i (Some r) here some lt is =
        let turns : r.turns ≡ f.settings.turns = is in
        let high : f.settings.turns ≤ r.turns = omega (arith, turns) in
        is_busy kept busy i r (record { exists = lt; here = here }) high (all_turns (record { 0 = i }) r r.stage (at_home (record { 0 = i }) r here).stands high)

    pub busy_kept : IsKept f w → SpentBusy f w → 1 ≤ f.settings.turns → rows.SomeSpent f w → SomeBusy f k
    busy_kept kept busy some spent = record {
      number = spent.0;
      some = is_busy kept busy spent.0 spent.1 spent.2 spent.3 spent.4;
      each = λ i e at is.
          let found = end_is f w k.processes.items i e end.processes stand at in
          busy_at kept busy i (played_in f w i) refl some found.0 (sym (ap (λ (x : facts.ProcessEnd). x.turns) found.1) ∙ is);
    }

    -- ---- the other way

    spent_by : (i : ProcessNo) (o : Option Played) → played_in f w i.0 ≡ o → 1 ≤ f.settings.turns → i.0 < process_count f w → turns_in o ≡ f.settings.turns → rows.SomeSpent f w
    spent_by i None here some lt is = let none : 0 ≡ f.settings.turns = is in absurd (omega (arith, some, none))
    spent_by i (Some r) here some lt is =
        let turns : r.turns ≡ f.settings.turns = is in
        let high : f.settings.turns ≤ r.turns = omega (arith, turns) in
        (i.0, r, record { exists = lt; here = here }, high, all_turns i r r.stage (at_home i r here).stands high)

    pub turns_shown : AllRead → 1 ≤ f.settings.turns → rows.IsUnlimited f w → (i : ℕ) (e : ProcessEnd) → slice_get k.processes.items i ≡ Some e → e.turns ≡ f.settings.turns → rules.standing f w ≡ OutOfTurns
    turns_shown read some unlimited i e at is =
        let found = end_is f w k.processes.items i e end.processes stand at in
        (read f w).only OutOfTurns refl
        (unlimited, spent_by (record { 0 = i }) (played_in f w i) refl some found.0 (sym (ap (λ (x : facts.ProcessEnd). x.turns) found.1) ∙ is))

    none_spent : HaveTurns f k → rows.NoneSpent f w
    none_spent few i r begun computing =
        let at = kept_at i begun.exists in
        let below = few i at.0 at.1 in
        let turns : at.0.turns ≡ r.turns = ap (λ (x : facts.ProcessEnd). x.turns) at.2 ∙ ap turns_in begun.here in
        omega (arith, below, turns)

    pub events_shown : AllCounted → AllRead → rows.IsUnlimited f w → HaveTurns f k → length k.events.items ≡ f.settings.events → rules.standing f w ≡ OutOfEvents
    events_shown counts read unlimited few many =
        let steps = (counts f k.events.items w end.replays).steps in
        (read f w).only OutOfEvents refl (unlimited, none_spent few, omega (arith, steps, many))

    pub group_shown : AllCounted → AllRead → rows.IsUnlimited f w → HaveTurns f k → length k.events.items < f.settings.events → rows.LacksGroup f w → rules.standing f w ≡ NoGroup
    group_shown counts read unlimited few many lacks =
        let steps = (counts f k.events.items w end.replays).steps in
        (read f w).only NoGroup refl (unlimited, none_spent few, omega (arith, steps, many), lacks)

    -- who is said to have faulted has, and who has is said to have
    faulted_over : (act : Action) (fault : FaultKind) → end_over act ≡ Stand.Faulted fault → is_fault act ≡ true
    faulted_over (action.Make kind object) fault e = absurd (cc e)
    faulted_over (action.Call kind op object args) fault e = absurd (cc e)
    faulted_over (action.Fork text args place_on) fault e = absurd (cc e)
    faulted_over action.Ended fault e = absurd (cc e)
    faulted_over (action.Faulted kind) fault e = refl

    faulted_living : (stage : Stage) (fault : FaultKind) → end_living stage ≡ Stand.Faulted fault → has_faulted stage ≡ true
    faulted_living Computing fault e = absurd (cc e)
    faulted_living (Acting act) fault e = absurd (cc e)
    faulted_living (Submitted act) fault e = absurd (cc e)
    faulted_living (Reading act) fault e = absurd (cc e)
    faulted_living (Asking act) fault e = absurd (cc e)
    faulted_living (Over act) fault e = faulted_over act fault e

    faulted_crashed : (stage : Stage) (fault : FaultKind) → end_crashed stage ≡ Stand.Faulted fault → has_faulted stage ≡ true
    faulted_crashed Computing fault e = absurd (cc e)
    faulted_crashed (Acting act) fault e = absurd (cc e)
    faulted_crashed (Submitted act) fault e = absurd (cc e)
    faulted_crashed (Reading act) fault e = absurd (cc e)
    faulted_crashed (Asking act) fault e = absurd (cc e)
    faulted_crashed (Over act) fault e = faulted_over act fault e

    faulted_as : (b : Bool) (o : Option Played) (fault : FaultKind) → end_of b o ≡ Stand.Faulted fault → (r : Played) × (o ≡ Some r) × (has_faulted r.stage ≡ true)
    faulted_as true None fault e = absurd (cc e)
    faulted_as false None fault e = absurd (cc e)
    faulted_as true (Some r) fault e = (r, refl, faulted_living r.stage fault e)
    faulted_as false (Some r) fault e = (r, refl, faulted_crashed r.stage fault e)

    fault_of_over : (b : Bool) (act : Action) → is_fault act ≡ true → (fault : FaultKind) × (end_at b (Over act) ≡ Stand.Faulted fault)
    fault_of_over b (action.Make kind object) e = absurd (cc e)
    fault_of_over b (action.Call kind op object args) e = absurd (cc e)
    fault_of_over b (action.Fork text args place_on) e = absurd (cc e)
    fault_of_over b action.Ended e = absurd (cc e)
    fault_of_over true (action.Faulted kind) e = (kind, refl)
    fault_of_over false (action.Faulted kind) e = (kind, refl)

    fault_of_stage : (b : Bool) (stage : Stage) → has_faulted stage ≡ true → (fault : FaultKind) × (end_at b stage ≡ Stand.Faulted fault)
    fault_of_stage b Computing e = absurd (cc e)
    fault_of_stage b (Acting act) e = absurd (cc e)
    fault_of_stage b (Submitted act) e = absurd (cc e)
    fault_of_stage b (Reading act) e = absurd (cc e)
    fault_of_stage b (Asking act) e = absurd (cc e)
    fault_of_stage b (Over act) e = fault_of_over b act e

    -- where no end is said to be by a fault, none was
    none_by : ((i : ℕ) (fault : FaultKind) → i < process_count f w → (process_end f w i).stand ≡ Stand.Faulted fault → ⊥) → rows.NoneFaulted f w
    none_by h i r begun = either (has_faulted r.stage) refl
      where
        either : (b : Bool) → has_faulted r.stage ≡ b → has_faulted r.stage ≡ false
        either false e = e
        either true e =
            let fault = fault_of_stage (w.lives (home_of f w i)) r.stage e in
            absurd (h i fault.0 begun.exists (ap (end_of (w.lives (home_of f w i))) begun.here ∙ fault.1))

    pub faulted_shown : AllRead → rows.MayGoOn f w → rows.IsOver f w → (i : ℕ) (fault : FaultKind) → StandsAt k i (standing.Faulted fault) → rules.standing f w ≡ Faulted
    faulted_shown read may over i fault at =
        let s = stand_of i (standing.Faulted fault) at in
        let is = faulted_as (w.lives (home_of f w i)) (played_in f w i) fault s.1 in
        (read f w).only Faulted refl (may, over, (i, is.0, record { exists = s.0; here = is.1 }, is.2))

    pub blocked_shown : AllRead → rows.MayGoOn f w → rows.IsOver f w → NoneFaulted k → (i : ℕ) (act : Action) → StandsAt k i (standing.Waits act) → rules.standing f w ≡ Blocked
    blocked_shown read may over none i act at =
        let s = stand_of i (standing.Waits act) at in
        let waits = waits_as (record { 0 = i }) act (w.lives (home_of f w i)) (played_in f w i) (λ r here. (at_home (record { 0 = i }) r here).stands) s.1 in
        (read f w).only Blocked refl (
          may,
          over,
          none_by (λ j fault lt is. let e = kept_at j lt in none j fault (e.0, e.1, the_fault e.0.standing fault (ap (λ (x : facts.ProcessEnd). x.stand) e.2 ∙ is))),
          (i, waits.1.0, record { exists = s.0; here = waits.1.1 }, waits.0, waits.1.2),
        )

    ended_living : (stage : Stage) → end_living stage ≡ Stand.Ended → is_over stage ≡ true
    ended_living Computing e = absurd (cc e)
    ended_living (Acting act) e = absurd (cc e)
    ended_living (Submitted act) e = absurd (cc e)
    ended_living (Reading act) e = absurd (cc e)
    ended_living (Asking act) e = absurd (cc e)
    ended_living (Over act) e = refl

    ended_as : (o : Option Played) → end_of true o ≡ Stand.Ended → (r : Played) × (o ≡ Some r) × (is_over r.stage ≡ true)
    ended_as None e = absurd (cc e)
    ended_as (Some r) e = (r, refl, ended_living r.stage e)

    ended_or : (s : ProcessStanding) (stand : Stand) → (s ≡ standing.Ended) ⊎ (s ≡ standing.Crashed) → on_standing s ≡ stand → (stand ≡ Stand.Ended) ⊎ (stand ≡ Stand.Crashed)
    ended_or s stand (inl e) is = inl (sym is ∙ ap on_standing e)
    ended_or s stand (inr e) is = inr (sym is ∙ ap on_standing e)

    fault_apart : (stand : Stand) (fault : FaultKind) → (stand ≡ Stand.Ended) ⊎ (stand ≡ Stand.Crashed) → stand ≡ Stand.Faulted fault → ⊥
    fault_apart stand fault (inl e) is = let no : Stand.Ended ≡ Stand.Faulted fault = sym e ∙ is in cc no
    fault_apart stand fault (inr e) is = let no : Stand.Crashed ≡ Stand.Faulted fault = sym e ∙ is in cc no

    pub finished_shown : AllRead → rows.MayGoOn f w → AllEnded k → rules.standing f w ≡ Finished
    finished_shown read may all =
        (read f w).only Finished refl (may, none_by (λ i fault lt is. fault_apart (process_end f w i).stand fault (stands i lt) is), ended)
      where
        stands : (i : ℕ) → i < process_count f w → ((process_end f w i).stand ≡ Stand.Ended) ⊎ ((process_end f w i).stand ≡ Stand.Crashed)
        stands i lt = let e = kept_at i lt in ended_or e.0.standing (process_end f w i).stand (all i e.0 e.1) (ap (λ (x : facts.ProcessEnd). x.stand) e.2)

        ended : rows.AllEnded f w
        ended i lt lives = ⊎_elim
            (λ (e : (process_end f w i).stand ≡ Stand.Ended).
            let is = ended_as (played_in f w i) (ap (λ b. end_of b (played_in f w i)) (sym lives) ∙ e) in
            (is.0, record { exists = lt; here = is.1 }, is.2))
            (λ (e : (process_end f w i).stand ≡ Stand.Crashed). let no : true ≡ false = sym lives ∙ stand.crashed i e in absurd (cc no))
            (stands i lt)

limited : (f : Frame) (w : World) (what : What) (number : ℕ) → rows.IsLimited f w what number → rows.IsUnlimited f w → ⊥
limited f w what number (inl h) un = let e : None ≡ Some (what, number) = sym (un.members h.0 h.1 h.2) ∙ h.3 in cc e
limited f w what number (inr h) un = let high = h.0 in let low = un.lines in omega (arith, high, low)

limits_shown : (f : Frame) (w : World) → AllRead → (what : What) (number : ℕ) → rows.IsLimited f w what number → (s : Standing) → rules.standing f w ≡ s → rows.is_limit s ≡ true
limits_shown f w read what number h (Limit passed most) is = refl
limits_shown f w read what number h OutOfTurns is = absurd (limited f w what number h ((read f w).says OutOfTurns is).0)
limits_shown f w read what number h OutOfEvents is = absurd (limited f w what number h ((read f w).says OutOfEvents is).0)
limits_shown f w read what number h NoGroup is = absurd (limited f w what number h ((read f w).says NoGroup is).0)
limits_shown f w read what number h Faulted is = absurd (limited f w what number h ((read f w).says Faulted is).0.limits)
limits_shown f w read what number h Blocked is = absurd (limited f w what number h ((read f w).says Blocked is).0.limits)
limits_shown f w read what number h Finished is = absurd (limited f w what number h ((read f w).says Finished is).0.limits)
limits_shown f w read what number h Going is = absurd (limited f w what number h ((read f w).says Going is).0.limits)

pub rows_shown : (f : Frame) (w : World) (k : Kept) → AllCounted → AllRead → IsEndOf f w k → EndsStand f w → ProcessesStand f w → 1 ≤ f.settings.turns → ShownRows f w k
rows_shown f w k counts read end stand processes some = record {
  limits = λ what number h. limits_shown f w read what number h (rules.standing f w) refl;
  turns = turns_shown f w k end stand processes read some;
  events = events_shown f w k end stand processes counts read;
  group = group_shown f w k end stand processes counts read;
  faulted = faulted_shown f w k end stand processes read;
  blocked = blocked_shown f w k end stand processes read;
  finished = finished_shown f w k end stand processes read;
}

-- ---- 5

one_of : (b : Bool) → (if b then suc zero else zero) ≡ (if b then 1 else 0) + 0
one_of true = refl
one_of false = refl

one_more : (b : Bool) (x y a : ℕ) → x ≡ a + y → (if b then suc x else x) ≡ a + (if b then suc y else y)
one_more true x y a e = omega (arith, e)
one_more false x y a e = e

count_shift : (n : ℕ) (test : ℕ → Bool) → count (suc n) test ≡ (if test 0 then 1 else 0) + count n (λ m. test (suc m))
count_shift zero test = one_of (test 0)
count_shift (suc n) test = one_more (test (suc n)) (count (suc n) test) (count n (λ m. test (suc m))) (if test 0 then 1 else 0) (count_shift n test)

abbrev one_if : Bool → ℕ
one_if b = if b then 1 else 0

counted : (p : NodeEnd → Bool) (nodes : List NodeEnd) (test : ℕ → Bool) → ((m : ℕ) (e : NodeEnd) → slice_get nodes m ≡ Some e → p e ≡ test m) → count_by p nodes ≡ count (length nodes) test
counted p [] test each = refl
counted p (x ∷ nodes) test each =
    let first : count_by p (x ∷ nodes) ≡ (if p x then 1 else 0) + count_by p nodes = sum_by-cons (λ (e : NodeEnd). one_if (p e)) x nodes in
    let head : ◌≡◌ {A = ℕ} (if p x then 1 else 0) (if test 0 then 1 else 0) = ap one_if (each 0 x refl) in
    let rest = counted p nodes (λ m. test (suc m)) (λ m e at. each (suc m) e at) in
    let all = count_shift (length nodes) test in
    omega (arith, first, head, rest, all)

lost_or : (a b c d : Bool) → a ≡ c → b ≡ d → (a || b) ≡ (c || d)
lost_or a b c d e h = ap (λ x. x || b) e ∙ ap (λ x. c || x) h

pub lost_kept : (f : Frame) (w : World) (k : Kept) → IsEndOf f w k → rows.LacksGroup f w → LostTooMany f k
lost_kept f w k end lacks =
    let lost = lacks.lost in
    let is = counted (λ (n : NodeEnd). n.crashed || n.outside) k.nodes.items (λ m. not (w.lives m) || (w.nodes m).member.outside)
    (λ m e at. let n = end.nodes.each m e at in lost_or e.crashed e.outside (not (w.lives m)) ((w.nodes m).member.outside) n.crashed n.outside) in
    let same = ap (λ n. count n (λ m. not (w.lives m) || (w.nodes m).member.outside)) end.nodes.count in
    omega (arith, lost, is, same)

-- ---- each row

pub row_kept : (f : Frame) (w : World) (k : Kept) → AllRead → IsEndOf f w k → EndsStand f w → FinishedEnds f w → ProcessesStand f w → IsKept f w → AllStuck f w → SpentBusy f w → 1 ≤ f.settings.turns → IsEnoughWithin (bound_with_singles f w) f w k.events.items → (AllReplicated f → IsEnough f w k.events.items) → (s : Standing) → rules.standing f w ≡ s → KeptRow f w k s
row_kept f w k read end stand finished processes kept stuck busy a_turn enough replicated (Limit what number) is = (read f w).says (Limit what number) is
row_kept f w k read end stand finished processes kept stuck busy a_turn enough replicated OutOfTurns is = busy_kept f w k end stand processes kept busy a_turn ((read f w).says OutOfTurns is).1
row_kept f w k read end stand finished processes kept stuck busy a_turn enough replicated OutOfEvents is = (enough.row is, λ all. (replicated all).row is)
row_kept f w k read end stand finished processes kept stuck busy a_turn enough replicated NoGroup is = let row = (read f w).says NoGroup is in (lost_kept f w k end row.3, row.3)
row_kept f w k read end stand finished processes kept stuck busy a_turn enough replicated Faulted is = faulted_kept f w k end stand is
row_kept f w k read end stand finished processes kept stuck busy a_turn enough replicated Blocked is =
    let row = (read f w).says Blocked is in
    blocked_kept f w k end stand processes is row.1 (((read f w).over).1 row.1) stuck row.2
row_kept f w k read end stand finished processes kept stuck busy a_turn enough replicated Finished is = let row = (read f w).says Finished is in ended_kept f w k end stand processes is finished row.1
row_kept f w k read end stand finished processes kept stuck busy a_turn enough replicated Going is = tt

-- ---- a faultless run

pub gone_well : (f : Frame) (w : World) (k : Kept) → AllRead → IsEndOf f w k → EndsStand f w → ProcessesStand f w → AllStuck f w
    → IsEnoughWithin (bound_with_singles f w) f w k.events.items → (AllReplicated f → IsEnough f w k.events.items) → (IsFaulty k.events.items → ⊥) → HasGoneWell f w k
gone_well f w k read end stand processes stuck enough replicated fine =
    let well = enough.well fine in
    record {
      well = well;
      replicated = λ all. (replicated all).well fine;
      stuck = λ over i e at. ended_or_stuck f w k end stand processes over (((read f w).over).1 over) stuck well.lives i e at e.standing refl;
    }
