-- A process that computes with all its turns is busy, in every run.
use Rattle.std.proofs.Common.{◌≡◌, ◌<◌, ◌≤◌, ◌⊎◌, inl, inr, ℕ, zero, suc, Bool, true, false, if◌then◌else◌, List, [], ◌∷◌, ◌++◌, Option, None, Some, refl, sym, ap, ◌∙◌, subst, arith}
use Rattle.std.proofs.lemmas.Bool.{cases_lt, cond_both}
use Rattle.orca_base.specs.declared.ids.ProcessNo.{ProcessNo}
use Rattle.value_core.specs.History.{Objects}
use Rattle.value_core.specs.declared.action.Line.{Line}
use Rattle.value_core.specs.declared.meaning.Doing.TheVariants as doing
use Rattle.value_core.specs.declared.processor.Halt.{Halt}
use Rattle.value_core.specs.declared.processor.Halt.TheVariants as halt
use Rattle.group_rules.specs.Member.{nobody}
use Rattle.group_rules.specs.Sets.{with_at}
use Rattle.net_rules.specs.declared.flight.Flight.{Flight}
use Rattle.net_rules.specs.Flights.{ready_copy}
use Rattle.world_rules.specs.declared.event.Event as world
use Rattle.world_rules.specs.declared.event.Event.TheVariants as event
use Rattle.world_rules.specs.declared.event.Step.{Step}
use Rattle.world_rules.specs.Bursts.{Halts, Ran, last_turn, reads_on}
use Rattle.world_rules.specs.Frame.{Frame}
use Rattle.world_rules.specs.Mail.{Carried, is_whole, receiver_of}
use Rattle.world_rules.specs.Nodes.{Node, NodeWork, idle, opening_node}
use Rattle.world_rules.specs.Parts.{acts, computes, performs_all, receives, suspects}
use Rattle.world_rules.specs.Played.{Played, halted, newborn}
use Rattle.world_rules.specs.Processes.{first_process}
use Rattle.world_rules.specs.Steps.{AtWork, Known as Given, Leads, Next, Possible, Replays, comes_whole, happens, lives_in}
use Rattle.world_rules.specs.Worlds.{World, agreed, home_of, opening_world}
use Rattle.world_law.specs.Gives.{taken_from as taken}
use Rattle.world_law.specs.Holds.{Holds}
use Rattle.world_law.specs.Moments.{Lives}
use Rattle.world_law.proofs.Maps.{at_both}
use Rattle.world_law.proofs.Walking.{performed_node}
use Rattle.node_rules.specs.Conditions.{Fitness}
use Rattle.node_rules.specs.Starts.{Start, part}
use Rattle.node_rules.specs.Starts.Start.{Ticks}
use Rattle.world_calls.proofs.Beginning.{AllStart, MayStart, begins_each, idle_each}
use Rattle.world_calls.proofs.Each.{FollowsEach}
use Rattle.world_calls.proofs.Going.{Known}
use Rattle.run_law.specs.Parts.{InParts}
use Rattle.run_law.specs.Spent.{SpentBusy}
use Rattle.run_law.proofs.Events.{Laws, RunLaws}
use Rattle.run_law.proofs.Growing.{one_more, step_nodes}
use Rattle.run_law.proofs.Ticking.{each_part, ticks_apart}
use Rattle.run_law.proofs.Turning.{AllLeft, HasTurns, part_left, set_left}

-- ---- bursts

within : (f : Frame) (i : ℕ) (r : Played) → HasTurns f i r → r.turns ≤ f.settings.turns
within f i r (inl lt) = omega (arith, lt)
within f i r (inr (computes, all, busy)) = omega (arith, all)

halts_left : (f : Frame) (i : ProcessNo) (r : Played) (last used : ℕ) (at_halt : Halt) → r.turns ≤ last → last ≤ f.settings.turns →
    Halts f i r last used at_halt → HasTurns f i.0 (halted used at_halt r)
halts_left f i r last used (halt.At act) from to h =
    let low = h.2 in
    let is = h.4 in
    inl (omega (arith, from, to, low, is))
halts_left f i r last used halt.Paused from to h = go (cases_lt used f.settings.turns)
  where
    go : (used < f.settings.turns) ⊎ (f.settings.turns ≤ used) → HasTurns f i.0 (halted used halt.Paused r)
    go (inl lt) = inl lt
    go (inr le) =
        let is = h.1 in
        inr (refl, omega (arith, from, to, is, le), ap (f.computes.doing r.text i r.args r.replies) (sym is) ∙ h.0)

ran_left : (f : Frame) (objects : Objects) (place : ℕ) (i : ProcessNo) (last : ℕ) (r : Played) (lines : List Line) (end : Played) → r.turns ≤ last →
    last ≤ f.settings.turns → Ran f objects place i last r lines end → HasTurns f i.0 end
ran_left f objects place i last r [] end from to ran = subst (HasTurns f i.0) (sym ran.4) (halts_left f i r last ran.1 ran.0 from to ran.2)
ran_left f objects place i last r (line ∷ lines) end from to ran =
    let low = ran.2.2 in
    let is = ran.2.4 in
    ran_left f objects place i last (reads_on place ran.1 line r) lines end (omega (arith, low, is, from)) to ran.5

-- ---- events

abbrev pub AllLeftIn : Frame → World → Type 0
AllLeftIn f w = (m : ℕ) → AllLeft f (w.nodes m).played

-- where a member did its part
abbrev pub LeftAfter : Frame → World → ℕ → Start → Type 0
LeftAfter f w m start = AllLeft f (part f m start (w.nodes m)).node.played

node_left : (f : Frame) (w : World) (m : ℕ) (node : Node) → AllLeft f node.played → AllLeftIn f w → (k : ℕ) → AllLeft f (with_at w.nodes m node k).played
node_left f w m node is h k = at_both w.nodes m node k (λ (n : Node). AllLeft f n.played) (λ e. is) (λ no. h k)

came_left : (f : Frame) (w : World) (number copy : ℕ) → InParts f w (LeftAfter f w) (event.Deliver number copy) → AllLeftIn f w → (o : Option (Flight Carried)) →
    ready_copy number copy w.flights ≡ o → AllLeftIn f (comes_whole f (taken w number copy) o).world
came_left f w number copy all h None found = h
came_left f w number copy all h (Some flight) found =
    let k : ℕ = receiver_of flight.packet.mail in
    cond_both (is_whole f.settings.nodes flight.packet) _ _ (λ (u : AtWork). AllLeftIn f u.world)
    (λ whole. cond_both (lives_in f w k) _ _ (λ (u : AtWork). AllLeftIn f u.world)
    (λ lives. node_left f w k (receives f k flight.packet.mail (w.nodes k)).node (all flight found whole lives) h)
    (λ no. h))
    (λ no. h)

ticks_left : (f : Frame) (w : World) (given : Given event.Tick) → InParts f w (LeftAfter f w) event.Tick → AllLeftIn f w → AllLeftIn f (happens f w event.Tick given).world
ticks_left f w given all h m = go (cases_lt m f.settings.nodes)
  where
    ticked : m < f.settings.nodes → (b : Bool) → w.lives m ≡ b → AllLeft f (if b then (part f m Ticks (w.nodes m)).node else w.nodes m).played
    ticked low true lives = all m low lives
    ticked low false lives = h m

    go : (m < f.settings.nodes) ⊎ (f.settings.nodes ≤ m) → AllLeft f ((happens f w event.Tick given).world.nodes m).played
    go (inl low) =
        let apart = ticks_apart f w f.settings.nodes in
        subst (λ (n : Node). AllLeft f n.played) (sym (apart.ticked m low)) (ticked low (w.lives m) refl)
    go (inr le) =
        let apart = ticks_apart f w f.settings.nodes in
        subst (λ (n : Node). AllLeft f n.played) (sym (apart.others m le)) (h m)

happens_left : (f : Frame) (w : World) (e : world.Event) (given : Given e) → Possible f w e given → InParts f w (LeftAfter f w) e → AllLeftIn f w →
    AllLeftIn f (happens f w e given).world
happens_left f w (event.Burst process place turns) burst is all h =
    let m : ℕ = home_of f w process.0 in
    let u : NodeWork = performs_all place burst.reads (idle (w.nodes m)) in
    let few = within f process.0 is.start (h m process.0 is.start is.here) in
    node_left f w m (computes process.0 place burst.reads burst.end (w.nodes m)).node
    (set_left f process.0 burst.end u.node.played
    (subst (λ (n : Node). AllLeft f n.played) (sym (performed_node place burst.reads (idle (w.nodes m)))) (h m))
    (ran_left f _ place process (last_turn f is.start) is.start burst.reads burst.end (omega arith) (omega (arith, few)) is.ran)) h
happens_left f w (event.Act process) given possible all h =
    let m : ℕ = home_of f w process.0 in
    node_left f w m (acts f m process.0 (w.nodes m)).node all h
happens_left f w (event.Deliver number copy) given possible all h = came_left f w number copy all h (ready_copy number copy w.flights) refl
happens_left f w event.Tick given possible all h = ticks_left f w given all h
happens_left f w (event.Crash node) given possible all h = h
happens_left f w (event.Suspect node) given possible all h = node_left f w node (suspects f node (w.nodes node)).node all h
happens_left f w event.Swap given possible all h = h

-- ---- runs

opening_left : (f : Frame) → 1 ≤ f.settings.turns → (m i : ℕ) (r : Played) → (opening_node f m).played i ≡ Some r → HasTurns f i r
opening_left f some zero i r = at_both nobody 0 (Some (newborn (first_process f))) i (λ z. z ≡ Some r → HasTurns f i r)
    (λ e found. let same : newborn (first_process f) ≡ r = cc found in subst (HasTurns f i) same (inl some))
    (λ no found. absurd (cc found))
opening_left f some (suc m) i r = λ found. absurd (cc found)

module _ (f : Frame) (fitness : Fitness) (laws : Laws f fitness) where
  step_left : (steps : List Step) (w v : World) (step : Step) → Replays f steps w → Next f w step v → AllLeftIn f w → AllLeftIn f v
  step_left steps w v step replays next h =
      subst (λ (nodes : ℕ → Node). (m : ℕ) → AllLeft f (nodes m).played) (sym (step_nodes f w v step next))
      (happens_left f w step.event next.given next.possible
      (each_part f w laws.small now.grouped (run.may steps w replays) step.event next.given next.possible (LeftAfter f w) each) h)
    where
      run : RunLaws f
      run = laws.runs

      now : Holds f w
      now = run.holds steps w replays

      follows : FollowsEach f w (agreed f w)
      follows single agrees = let c = run.follows steps w replays single agrees in record { course = c.course; follows = c.follows; is = c.list }

      each : (m : ℕ) (start : Start) → Lives f w m → MayStart f w m start → AllStart f w start → LeftAfter f w m start
      each m start lives may stands =
          let known : Known f fitness w m = record { program = laws.program; group = laws.moments f laws.small; grouped = now.grouped; lives = lives } in
          part_left f fitness w m start known (idle_each f fitness w m (agreed f w) known follows)
          (begins_each f fitness w m (agreed f w) start laws.group laws.small known follows may stands) (h m)

  all_left : (before steps : List Step) (w v : World) → Replays f before w → Leads f w steps v → AllLeftIn f w → AllLeftIn f v
  all_left before [] w v replays leads h = subst (AllLeftIn f) (sym leads) h
  all_left before (step ∷ steps) w v replays (u, next, leads) h =
      all_left (before ++ step ∷ []) steps u v (one_more f (opening_world f) w u before step replays next) leads (step_left before w u step replays next h)

  pub spent_busy : (steps : List Step) (w : World) → 1 ≤ f.settings.turns → Replays f steps w → SpentBusy f w
  spent_busy steps w some replays i r here computes spent =
      go (all_left [] steps (opening_world f) w refl replays (opening_left f some) (home_of f w i) i r here)
    where
      go : HasTurns f i r → f.computes.doing r.text (record { 0 = i }) r.args r.replies f.settings.turns ≡ doing.Busy
      go (inl lt) = absurd (omega (arith, lt, spent))
      go (inr (still, all, busy)) = ap (f.computes.doing r.text (record { 0 = i }) r.args r.replies) (sym all) ∙ busy
