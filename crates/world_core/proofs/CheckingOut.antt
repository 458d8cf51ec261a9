-- A task is handed out: the run stands for the same world, with one task more.
use Rattle.std.proofs.Common.{◌≡◌, ◌≤◌, ◌+◌, ◌-◌, ◌∙◌, ⊎_elim, ◌==◌, ◌&&◌, not, min, ℕ, zero, suc, Bool, true, false, cond, List, [], ◌∷◌, Option, None, Some, Result, Ok, Err, OnErr, slice_get, slice_set, is_some, map, ap, sym, subst, refl, arith, length}
use Rattle.std.proofs.lemmas.Bool.{cases_eq}
use Rattle.std.proofs.lemmas.Option.{slice_get_within}
use Rattle.std.specs.Vec.{with_item}
use Rattle.orca_base.specs.declared.ids.ProcessNo.{ProcessNo}
use Rattle.orca_base.specs.declared.limits.TheConstants.{BURST_TURNS}
use Rattle.value_core.specs.History.{Objects}
use Rattle.object_manager.specs.After.{Copied}
use Rattle.object_manager.specs.Viewed.{Viewed}
use Rattle.group_rules.specs.Sets.{with_at}
use Rattle.node_rules.specs.Bursting.{BurstFits}
use Rattle.node_rules.specs.Conditions.{Fitness}
use Rattle.world_calls.specs.Law.{BurstsFit, view_of}
use Rattle.world_facts.specs.Ends.{turns_in}
use Rattle.world_law.specs.Holds.{Holds}
use Rattle.world_rules.specs.Frame.{Frame}
use Rattle.world_rules.specs.Played.{Played, Stage as stage, is_computing}
use Rattle.world_rules.specs.Standings.{lives_at_home, stands}
use Rattle.world_rules.specs.Steps.{Replays, objects_after}
use Rattle.world_rules.specs.Worlds.{World, agreed, home_of, played_in, singles_in}
use Rattle.world_rules.specs.declared.event.Step.{Step}
use Rattle.book_law.specs.Performed.{Performed}
use Rattle.node_core.specs.CheckingIn.{HandsOut, MayHandOut}
use Rattle.node_core.specs.Pieces.{resident_at}
use Rattle.node_parts.specs.Shown.{IsPlayed, IsPlayedIf, Left, Stood, on_stage}
use Rattle.node_core.specs.Stands.{StandsAlike, StandsAs}
use Rattle.node_core.specs.Tasks.{Tasked}
use Rattle.node_core.specs.declared.node.Node.{Node}
use Rattle.node_parts.specs.declared.resident.Resident.{Resident}
use Rattle.node_parts.specs.declared.resident.Stage.{Stage as StageHere}
use Rattle.node_parts.specs.declared.resident.Stage.TheVariants as here_stage
use Rattle.node_core.proofs.TakingIn.{within_of}
use Rattle.world_parts.proofs.Lists.{got_set, set_length}
use Rattle.world_parts.proofs.Outs.{seen_out}
use Rattle.world_parts.proofs.Worlds.{is_world}
use Rattle.world_parts.specs.Choosing.{is_ready, may_compute}
use Rattle.world_parts.specs.Recorded.{Recorded}
use Rattle.world_parts.specs.Seen.{all_outs, is_out, out_at, tasks_out}
use Rattle.world_parts.specs.Standing.{HasNumbers, IsTask, IsWorld, Stands, out_of, outs_of, seen_of}
use Rattle.world_parts.specs.declared.parts.Numbers.{Numbers}
use Rattle.world_parts.specs.declared.parts.Parts.{Parts}
use Rattle.world_core.specs.Stepping.{HandsOutOf, out_as}
use Rattle.world_core.proofs.Adding.{with_other, with_own}
use Rattle.world_core.proofs.Handing.{all_changed, outs_changed, puts_out, seen_there}
use Rattle.world_core.proofs.Running.{both, computing_is}
use Rattle.world_core.proofs.TakenIn.{played_as}

-- ---- the process that is ready

pub record Ready {P S : Type 0} (f : Frame) (s : Parts P S) (w : World) (i : ProcessNo) : Type 0 where
  pub start : Played
  pub here : played_in f w i.0 ≡ Some start
  pub lives : w.lives (home_of f w i.0) ≡ true
  pub computing : start.stage ≡ stage.Computing
  pub nobody : is_out (seen_of s) (home_of f w i.0) i.0 ≡ false

pub not_true : (b : Bool) → not b ≡ true → b ≡ false
not_true true h = absurd (cc h)
not_true false h = refl

pub ready_is : {P S : Type 0} (f : Frame) (s : Parts P S) (w : World) (i : ProcessNo) → is_ready f (seen_of s) w i.0 ≡ true → Ready f s w i
ready_is f s w i h = go (played_in f w i.0) refl
  where
    first : (may_compute f w i.0 ≡ true) × (not (is_out (seen_of s) (home_of f w i.0) i.0) ≡ true)
    first = both (may_compute f w i.0) _ h

    there : (lives_at_home f w i.0 ≡ true) × (stands is_computing (played_in f w i.0) ≡ true)
    there = both (lives_at_home f w i.0) _ first.0

    go : (o : Option Played) → played_in f w i.0 ≡ o → Ready f s w i
    go None is = absurd (cc (sym (ap (stands is_computing) is) ∙ there.1))
    go (Some r) is = record { start = r; here = is; lives = there.0; computing = computing_is r.stage (sym (ap (stands is_computing) is) ∙ there.1); nobody = not_true _ first.1 }

abbrev view_now : Objects → ℕ → Viewed
view_now objects place = record { objects = objects; place = place }

pub may_out : {P S : Type 0} (stood : Stood S) (left : Left S) (f : Frame) (fitness : Fitness) (s : Parts P S) (w : World) (i : ProcessNo) (home start budget turns : ℕ) (node : Node P S) → IsWorld stood left f s w → Ready f s w i
    → BurstsFit f fitness w → home ≡ home_of f w i.0 → slice_get s.nodes.items home ≡ Some node → start ≡ turns_in (played_in f w i.0) → turns ≡ f.settings.turns → budget ≡ min BURST_TURNS (turns - start)
    → MayHandOut stood left f fitness i (record { objects = node.copies.objects; place = node.copies.applied }) budget node
may_out stood left f fitness s w i home start budget turns node is ready fits at_home at from all budget_is =
    let stands = is.nodes home node at in
    record {
      member = home;
      node = w.nodes home;
      stands = stands;
      played = ready.start;
      here = ap (λ (m : ℕ). (w.nodes m).played i.0) at_home ∙ ready.here;
      fits = subst (λ (v : Viewed). BurstFits f fitness i v ready.start) (sym (ap (λ (c : Copied). view_now c.objects c.applied) stands.copies ∙ ap (λ (m : ℕ). view_of (w.nodes m)) at_home))
          (fits i ready.start ready.here ready.computing);
      turns = ap (λ (n : ℕ). ready.start.turns + n) (budget_is ∙ ap (λ (n : ℕ). min BURST_TURNS (n - start)) all ∙ ap (λ (n : ℕ). min BURST_TURNS (f.settings.turns - n)) (from ∙ ap turns_in ready.here));
    }

-- ---- one task more

-- what changed of the parts
abbrev pub handed_on : {P S : Type 0} → Parts P S → ℕ → Node P S → Recorded → Parts P S
handed_on s home after ledger = record s { nodes = with_item s.nodes home after; ledger = ledger }

pub record Handed {P S : Type 0} (s new : Parts P S) (home : ℕ) (before after : Node P S) : Type 0 where
  pub there : slice_get s.nodes.items home ≡ Some before
  pub numbers : new.numbers ≡ s.numbers
  pub nodes : new.nodes.items ≡ slice_set s.nodes.items home after
  pub lives : new.lives.items ≡ s.lives.items
  pub flights : new.net.flights ≡ s.net.flights
  pub steps : new.ledger.steps ≡ s.ledger.steps
  pub entries : new.ledger.entries ≡ s.ledger.entries
  pub performed : new.ledger.performed ≡ s.ledger.performed
  pub sent : new.sent ≡ s.sent
  pub swaps : new.swaps ≡ s.swaps
  pub idle : new.idle ≡ s.idle
  pub step_room : tasks_out (seen_of s) + 1 ≤ new.ledger.step_room
  pub piece_room : tasks_out (seen_of s) + 1 ≤ new.ledger.piece_room

stage_here : (one : StageHere) → on_stage one ≡ stage.Computing → one ≡ here_stage.Computing
stage_here here_stage.Computing h = refl
stage_here (here_stage.Acting act) h = absurd (cc h)
stage_here (here_stage.Submitted act) h = absurd (cc h)
stage_here (here_stage.Reading act) h = absurd (cc h)
stage_here (here_stage.Asking act) h = absurd (cc h)
stage_here (here_stage.Over act) h = absurd (cc h)

-- how many are out
pub out_more : {P S : Type 0} (f : Frame) (s new : Parts P S) (w : World) (i : ProcessNo) (home budget : ℕ) (view : Viewed) (task : Tasked S) (before after : Node P S) → Ready f s w i → home ≡ home_of f w i.0 → Handed s new home before after
    → HandsOut i view budget task before after → tasks_out (seen_of new) ≡ tasks_out (seen_of s) + 1
out_more {P} {S} f s new w i home budget view task before after ready at_home h out =
    let nobody = sym (seen_out (resident_at before i.0)) ∙ ap is_some (sym (seen_there s.nodes.items home i.0 before h.there)) ∙ ap (λ (m : ℕ). is_out (seen_of s) m i.0) at_home ∙ ready.nobody in
    let a = outs_changed i.0 (record out.resident { out = Some view }) before after out.out (within_of before.residents.items i.0 out.resident out.here) in
    let n = ap {B = ℕ} (λ (b : Bool). cond b 1 0) nobody in
    let b = all_changed s.nodes.items home before after h.there (slice_get_within s.nodes.items home before h.there) in
    let c = ap (λ (l : List (Node P S)). all_outs (map outs_of l)) h.nodes in
    omega (arith, a, n, b, c)

pub out_stands : {P S : Type 0} (stood : Stood S) (left : Left S) (f : Frame) (s new : Parts P S) (i : ProcessNo) (home budget : ℕ) (task : Tasked S) (before after : Node P S) → (stands : Stands stood left f s) → Ready f s stands.world i
    → home ≡ home_of f stands.world i.0 → Handed s new home before after → HandsOut i (record { objects = before.copies.objects; place = before.copies.applied }) budget task before after → StandsAlike stood left before after
    → Stands stood left f new
out_stands {P} {S} stood left f s new i home budget task before after stands ready at_home h out alike = record {
  numbers = subst (λ (n : Numbers). HasNumbers n f.settings) (sym h.numbers) stands.numbers;
  settings = stands.settings;
  laws = stands.laws;
  world = w;
  is = is;
}
  where
    w : World
    w = stands.world

    view : Viewed
    view = record { objects = before.copies.objects; place = before.copies.applied }

    hold : Holds f w
    hold = stands.laws.hold f refl refl stands.settings s.ledger.steps w stands.is.replays

    there : StandsAs stood left f home before (w.nodes home)
    there = stands.is.nodes home before h.there

    own_node : (m : ℕ) (node : Node P S) → (m ≡ home) × (after ≡ node) → StandsAs stood left f m node (w.nodes m)
    own_node m node same =
        subst (λ (k : ℕ). StandsAs stood left f k node (w.nodes k)) (sym same.0) (subst (λ (n : Node P S). StandsAs stood left f home n (w.nodes home)) same.1 (alike f home (w.nodes home) there))

    nodes : (m : ℕ) (node : Node P S) → slice_get new.nodes.items m ≡ Some node → StandsAs stood left f m node (w.nodes m)
    nodes m node at =
        ⊎_elim (own_node m node) (λ (apart : (m ≡ home → ⊥) × (slice_get s.nodes.items m ≡ Some node)). stands.is.nodes m node apart.1)
        (got_set s.nodes.items home m after node (ap (λ (l : List (Node P S)). slice_get l m) (sym h.nodes) ∙ at))

    plays : (r : Played) × ((w.nodes home).played i.0 ≡ Some r) × IsPlayed stood left i.0 out.resident r
    plays = played_as stood left i.0 out.resident ((w.nodes home).played i.0) (subst (λ (o : Option (Resident S)). IsPlayedIf stood left i.0 o ((w.nodes home).played i.0)) out.here (there.residents i.0))

    start : plays.0 ≡ ready.start
    start = let e : ◌≡◌ {A = Option Played} (Some plays.0) (Some ready.start) = sym plays.1 ∙ ap (λ (m : ℕ). (w.nodes m).played i.0) at_home ∙ ready.here in cc e

    fresh : IsTask f w home (record out.resident { out = Some view }) view
    fresh = record {
      lives = ap w.lives at_home ∙ ready.lives;
      computing = stage_here out.resident.stage (plays.2.stage ∙ ap (λ (r : Played). r.stage) start ∙ ready.computing);
      after = omega (arith, plays.2.place, hold.places.processes home i.0 plays.0 plays.1, ap (λ (c : Copied). c.applied) there.copies);
      before = omega (arith, ap (λ (c : Copied). c.applied) there.copies, hold.grouped.level home);
      objects = ap (λ (c : Copied). c.objects) there.copies ∙ sym ((stands.laws.kept f refl refl stands.settings s.ledger.steps w stands.is.replays).view home)
          ∙ ap (objects_after f (w.nodes home)) (sym (ap (λ (c : Copied). c.applied) there.copies));
    }

    own_task : (j : ℕ) (r : Resident S) (seen : Viewed) → resident_at after j ≡ Some r → r.out ≡ Some seen → IsTask f w home r seen
    own_task j r seen here out_is = ⊎_elim mine other (cases_eq j i.0)
      where
        mine : j ≡ i.0 → IsTask f w home r seen
        mine e =
            let put = sym here ∙ out.out.put.put j ∙ ap (with_at (resident_at before) i.0 (Some (record out.resident { out = Some view }))) e ∙ with_own (resident_at before) i.0 (Some (record out.resident { out = Some view })) in
            let same : r ≡ record out.resident { out = Some view } = cc put in
            let seen_is : ◌≡◌ {A = Option Viewed} (Some view) (Some seen) = sym (ap (λ (t : Resident S). t.out) same) ∙ out_is in
            let v : view ≡ seen = cc seen_is in
            subst (λ (o : Viewed). IsTask f w home r o) v (subst (λ (t : Resident S). IsTask f w home t view) (sym same) fresh)

        other : (j ≡ i.0 → ⊥) → IsTask f w home r seen
        other apart = stands.is.tasks home j before r seen h.there (sym (out.out.put.put j ∙ with_other (resident_at before) i.0 _ j apart) ∙ here) out_is

    tasks : (m j : ℕ) (node : Node P S) (r : Resident S) (seen : Viewed) → slice_get new.nodes.items m ≡ Some node → resident_at node j ≡ Some r → r.out ≡ Some seen → IsTask f w m r seen
    tasks m j node r seen at here out_is =
        ⊎_elim (λ (same : (m ≡ home) × (after ≡ node)). subst (λ (k : ℕ). IsTask f w k r seen) (sym same.0) (own_task j r seen (ap (λ (n : Node P S). resident_at n j) same.1 ∙ here) out_is))
        (λ (apart : (m ≡ home → ⊥) × (slice_get s.nodes.items m ≡ Some node)). stands.is.tasks m j node r seen apart.1 here out_is)
        (got_set s.nodes.items home m after node (ap (λ (l : List (Node P S)). slice_get l m) (sym h.nodes) ∙ at))

    count : tasks_out (seen_of new) ≡ tasks_out (seen_of s) + 1
    count = out_more f s new w i home budget view task before after ready at_home h out

    is : IsWorld stood left f new w
    is = record {
      replays = subst (λ (l : List Step). Replays f l w) (sym h.steps) stands.is.replays;
      members = ap length h.nodes ∙ set_length s.nodes.items home after ∙ stands.is.members;
      nodes = nodes;
      all = ap length h.lives ∙ stands.is.all;
      living = λ m b at. stands.is.living m b (ap (λ (l : List Bool). slice_get l m) (sym h.lives) ∙ at);
      flights = h.flights ∙ stands.is.flights;
      read = stands.is.read;
      entries = h.entries ∙ stands.is.entries;
      performed = subst (λ l. Performed (singles_in f w) f.performs (agreed f w) w.aside l) (sym h.performed) stands.is.performed;
      sent = h.sent ∙ stands.is.sent;
      swaps = h.swaps ∙ stands.is.swaps;
      idle = h.idle ∙ stands.is.idle;
      few = omega (arith, h.sent, stands.is.few, ap length h.steps);
      ticks = omega (arith, h.idle, stands.is.ticks, ap length h.steps);
      tasks = tasks;
      step_room = omega (arith, count, h.step_room);
      piece_room = omega (arith, count, h.piece_room);
    }

-- ---- what is seen of it

out_here : {S : Type 0} (start : S) (calls : ℕ) (view : Viewed) (r : Resident S) → r.state ≡ start → r.calls ≡ calls → out_of (Some (record r { out = Some view })) ≡ Some (out_as start calls view)
out_here {S} start calls view r state count = ap (λ (x : S). Some (out_as x r.calls view)) state ∙ ap (λ (n : ℕ). Some (out_as start n view)) count

pub hands_out : {P S : Type 0} (stood : Stood S) (left : Left S) (f : Frame) (s new : Parts P S) (i : ProcessNo) (home start budget turns : ℕ) (task : Tasked S) (before after : Node P S) → Stands stood left f s
    → ((w : World) → IsWorld stood left f s w → (home ≡ home_of f w i.0) × (start ≡ turns_in (played_in f w i.0))) → turns ≡ f.settings.turns → budget ≡ min BURST_TURNS (turns - start)
    → Handed s new home before after → HandsOut i (record { objects = before.copies.objects; place = before.copies.applied }) budget task before after → HandsOutOf f i task (seen_of s) (seen_of new)
hands_out {P} {S} stood left f s new i home start budget turns task before after stands there all budget_is h out = record {
  process_is = ap (λ (t : Tasked S). t.process) out.is;
  view = λ w replays.
      let is = is_world stood left f s (seen_of s) refl stands w replays in
      let here = there w is in
      ap (λ (t : Tasked S). t.view) out.is ∙ ap (λ (c : Copied). view_now c.objects c.applied) (is.nodes home before h.there).copies ∙ ap (λ (m : ℕ). view_of (w.nodes m)) here.0;
  budget = λ w replays r known.
      let is = is_world stood left f s (seen_of s) refl stands w replays in
      let here = there w is in
      let b = ap (λ (t : Tasked S). t.budget) out.is ∙ budget_is ∙ ap (λ (n : ℕ). min BURST_TURNS (n - start)) all ∙ ap (λ (n : ℕ). min BURST_TURNS (f.settings.turns - n)) (here.1 ∙ ap turns_in known) in
      ap (λ (n : ℕ). r.turns + n) b;
  out = λ w replays m j.
      let is = is_world stood left f s (seen_of s) refl stands w replays in
      let task_is = out_here task.start task.calls task.view out.resident (sym (ap (λ (t : Tasked S). t.start) out.is)) (sym (ap (λ (t : Tasked S). t.calls) out.is)) in
      let view_is = ap (λ (t : Tasked S). t.view) out.is in
      let r = record out.resident { out = Some (record { objects = before.copies.objects; place = before.copies.applied }) } in
      puts_out s new home i.0 r before after (Some (out_as task.start task.calls task.view)) h.there (slice_get_within s.nodes.items home before h.there) h.nodes out.out
      (ap (λ (v : Viewed). out_of (Some (record out.resident { out = Some v }))) (sym view_is) ∙ task_is) m j
      ∙ ap (λ (k : ℕ). cond ((m == k) && (j == i.0)) (Some (out_as task.start task.calls task.view)) (out_at (seen_of s) m j)) (there w is).0;
}

-- ---- no memory

pub set_same : {A : Type 0} (xs : List A) (k : ℕ) (x : A) → slice_get xs k ≡ Some x → slice_set xs k x ≡ xs
set_same [] k x at = absurd (cc at)
set_same {A} (y ∷ xs) zero x at = let e : y ≡ x = cc in ap (λ (a : A). a ∷ xs) (sym e)
set_same {A} (y ∷ xs) (suc k) x at = ap (λ (l : List A). y ∷ l) (set_same xs k x at)

pub on_err : {T E A : Type 0} (r : Result T E) → A → OnErr r A
on_err (Ok x) is = tt
on_err (Err e) is = is
