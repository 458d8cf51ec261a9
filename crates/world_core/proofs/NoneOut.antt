-- What a task that is out is, that in a quiet moment none is, and each member as its node has it.
use Rattle.std.proofs.Common.{◌≡◌, ◌≤◌, ◌<◌, ◌∙◌, ◌&&◌, not, ℕ, suc, Bool, true, false, List, [], ◌∷◌, Option, Some, None, IfSome, is_some, option_map, slice_get, get_or, take, drop, map, ap, sym, subst, refl, arith, length, length-append}
use Rattle.std.proofs.lemmas.List.{take-append-drop, take_all}
use Rattle.std.proofs.lemmas.Option.{slice_get_within}
use Rattle.value_core.specs.declared.message.Message.{Message}
use Rattle.object_manager.specs.Viewed.{Viewed}
use Rattle.book_law.proofs.Processes.{get_some}
use Rattle.net_rules.specs.Flights.{first_ready}
use Rattle.world_facts.proofs.Rows.{not_any}
use Rattle.world_law.specs.Holds.{Holds}
use Rattle.world_law.specs.Lists.{OneList}
use Rattle.world_rules.specs.Frame.{Frame}
use Rattle.world_rules.specs.Nodes.{entries_of, known}
use Rattle.world_rules.specs.Played.{Played, is_ready}
use Rattle.world_rules.specs.Processes.{processes_in}
use Rattle.world_rules.specs.Standings.{is_quiet, lives_at_home, process_count, some_process, stands}
use Rattle.world_rules.specs.Steps.{objects_after}
use Rattle.world_rules.specs.Worlds.{World, agreed, applied_at, home_of, played_in}
use Rattle.node_core.specs.Pieces.{resident_at}
use Rattle.node_parts.specs.Shown.{IsPlayed, IsPlayedIf, Left, Stood, on_stage}
use Rattle.node_core.specs.Stands.{StandsAs}
use Rattle.node_core.specs.declared.node.Node.{Node}
use Rattle.node_parts.specs.declared.resident.Resident.{Resident}
use Rattle.world_parts.proofs.Worlds.{one_list}
use Rattle.world_parts.specs.Seen.{Out, all_outs, outs, tasks_out}
use Rattle.world_parts.specs.Standing.{IsTask, IsWorld, Stands, out_of, outs_of, seen_of}
use Rattle.world_parts.specs.declared.parts.Parts.{Parts}
use Rattle.world_core.specs.Drafting.{out_in}
use Rattle.world_core.specs.Stepping.{IsOutAt, out_as}
use Rattle.world_core.proofs.CheckingOut.{not_true}
use Rattle.world_core.proofs.Handing.{out_some, seen_where}
use Rattle.world_core.proofs.Running.{both}
use Rattle.world_core.proofs.TakenIn.{played_as}

-- ---- no more processes are known than there are

known_listed : {P S : Type 0} (stood : Stood S) (left : Left S) (f : Frame) (s : Parts P S) (w : World) → Stands stood left f s → IsWorld stood left f s w → (m : ℕ) → m < f.settings.nodes
    → length (known f (w.nodes m)) ≤ process_count f w
known_listed stood left f s w h is m lt =
    let one : OneList f w = one_list stood left f s w h is in
    let n = length (applied_at w m) in
    let front = take n (agreed f w) in
    let begins : entries_of (w.nodes m) ≡ front = one.copies m lt ∙ sym (take_all n (applied_at w m) (omega arith)) ∙ (one.begin m lt).is in
    let longer = (h.laws.begin f front).longer (drop n (agreed f w)) in
    let whole = ap (λ (l : List Message). length (processes_in f l)) (take-append-drop n (agreed f w)) in
    omega (arith, ap (λ (l : List Message). length (processes_in f l)) begins, ap length longer.1, length-append (processes_in f front) longer.0, whole)

-- ---- a task that is out

pub out_is : {P S : Type 0} (stood : Stood S) (left : Left S) (f : Frame) (s : Parts P S) (w : World) → Stands stood left f s → IsWorld stood left f s w → (m i : ℕ) (task : Out S) → out_in s.nodes.items m i ≡ Some task
    → IsOutAt f w m i task
out_is {P} {S} stood left f s w h is m i task out = record {
  home = home;
  lives = is_task.lives;
  played = plays.0;
  here = ap (λ (k : ℕ). (w.nodes k).played i) home ∙ plays.1;
  computing = sym plays.2.stage ∙ ap on_stage is_task.computing;
  calls = ap (λ (t : Out S). t.calls) (sym same) ∙ plays.2.calls;
  after = omega (arith, is_task.after, plays.2.place, ap (λ (t : Out S). t.view.place) same);
  before = omega (arith, is_task.before, ap (λ (t : Out S). t.view.place) same);
  objects = ap (λ (t : Out S). t.view.objects) (sym same) ∙ is_task.objects ∙ ap (λ (t : Out S). objects_after f (w.nodes m) t.view.place) same;
}
  where
    hold : Holds f w
    hold = h.laws.hold f refl refl h.settings s.ledger.steps w is.replays

    at : (node : Node P S) × (slice_get s.nodes.items m ≡ Some node) × (out_of (resident_at node i) ≡ Some task)
    at = seen_where s.nodes.items m i task out

    here : (r : Resident S) × (view : Viewed) × (resident_at at.0 i ≡ Some r) × (r.out ≡ Some view)
    here = out_some (resident_at at.0 i) task at.2

    is_task : IsTask f w m here.0 here.1
    is_task = is.tasks m i at.0 here.0 here.1 at.1 here.2 here.3

    plays : (r : Played) × ((w.nodes m).played i ≡ Some r) × IsPlayed stood left i here.0 r
    plays = played_as stood left i here.0 ((w.nodes m).played i) (subst (λ (o : Option (Resident S)). IsPlayedIf stood left i o ((w.nodes m).played i)) here.2 ((is.nodes m at.0 at.1).residents i))

    home : home_of f w i ≡ m
    home = (h.laws.home f h.settings.resilience).home w m i plays.0 hold.grouped hold.home plays.1

    same : out_as here.0.state here.0.calls here.1 ≡ task
    same =
        let e : ◌≡◌ {A = Option (Out S)} (Some (out_as here.0.state here.0.calls here.1)) (Some task) =
        sym (ap (λ (o : Option Viewed). option_map (λ (view : Viewed). out_as here.0.state here.0.calls view) o) here.3) ∙ sym (ap out_of here.2) ∙ at.2 in
        cc e

-- its process is one that computes on a living member
works : {P S : Type 0} (stood : Stood S) (left : Left S) (f : Frame) (s : Parts P S) (w : World) → Stands stood left f s → IsWorld stood left f s w → (m i : ℕ) (task : Out S) → out_in s.nodes.items m i ≡ Some task
    → (i < process_count f w) × ((lives_at_home f w i && stands is_ready (played_in f w i)) ≡ true)
works {P} {S} stood left f s w h is m i task out = (exists, ap (λ (b : Bool). b && stands is_ready (played_in f w i)) (ap w.lives o.home ∙ o.lives) ∙ ready)
  where
    o : IsOutAt f w m i task
    o = out_is stood left f s w h is m i task out

    hold : Holds f w
    hold = h.laws.hold f refl refl h.settings s.ledger.steps w is.replays

    within : m < f.settings.nodes
    within = let at = seen_where s.nodes.items m i task out in omega (arith, slice_get_within s.nodes.items m at.0 at.1, is.members)

    known_there : i < length (known f (w.nodes m))
    known_there = (hold.home m).known_here i o.played (ap (λ (k : ℕ). (w.nodes k).played i) (sym o.home) ∙ o.here)

    exists : i < process_count f w
    exists = omega (arith, known_there, known_listed stood left f s w h is m within)

    ready : stands is_ready (played_in f w i) ≡ true
    ready = ap (stands is_ready) o.here ∙ ap is_ready o.computing

-- ---- so none is out

none_at : {P S : Type 0} (stood : Stood S) (left : Left S) (f : Frame) (s : Parts P S) (w : World) → Stands stood left f s → IsWorld stood left f s w → is_quiet f w ≡ true → (m i : ℕ) → out_in s.nodes.items m i ≡ None
none_at {P} {S} stood left f s w h is quiet m i = go (out_in s.nodes.items m i) refl
  where
    none : some_process f w (λ j r. stands is_ready r) ≡ false
    none = not_true _ (both (not (is_some (first_ready w.flights))) (not (some_process f w (λ j r. stands is_ready r))) quiet).1

    go : (o : Option (Out S)) → out_in s.nodes.items m i ≡ o → out_in s.nodes.items m i ≡ None
    go None e = e
    go (Some task) e =
        let busy = works stood left f s w h is m i task e in
        let n : ◌≡◌ {A = Bool} false true = sym (not_any (process_count f w) (λ j. lives_at_home f w j && stands is_ready (played_in f w j)) i none busy.0) ∙ busy.1 in
        absurd (cc n)

none_in : {A : Type 0} (os : List (Option A)) → ((i : ℕ) → get_or os i None ≡ None) → outs os ≡ 0
none_in [] h = refl
none_in (None ∷ os) h = let e = none_in os (λ i. h (suc i)) in omega (arith, e)
none_in (Some x ∷ os) h = absurd (cc (h 0))

all_none : {A : Type 0} (oss : List (List (Option A))) → ((m i : ℕ) → get_or (get_or oss m []) i None ≡ None) → all_outs oss ≡ 0
all_none [] h = refl
all_none (os ∷ oss) h =
    let first = none_in os (h 0) in
    let rest = all_none oss (λ m. h (suc m)) in
    omega (arith, first, rest)

pub quiet_out : {P S : Type 0} (stood : Stood S) (left : Left S) (f : Frame) (s : Parts P S) (w : World) → Stands stood left f s → IsWorld stood left f s w → is_quiet f w ≡ true → tasks_out (seen_of s) ≡ 0
quiet_out {P} {S} stood left f s w h is quiet = all_none (map outs_of s.nodes.items) (none_at stood left f s w h is quiet)

-- ---- members

pub node_stands : {P S : Type 0} (stood : Stood S) (left : Left S) (f : Frame) (s : Parts P S) (w : World) (m : ℕ) (o : Option (Node P S)) → IsWorld stood left f s w → slice_get s.nodes.items m ≡ o
    → IfSome o (λ (node : Node P S). StandsAs stood left f m node (w.nodes m))
node_stands stood left f s w m None is at = tt
node_stands stood left f s w m (Some node) is at = is.nodes m node at

pub some_node : {P S : Type 0} (stood : Stood S) (left : Left S) (f : Frame) (s : Parts P S) (m : ℕ) → Stands stood left f s → m < f.settings.nodes → is_some (slice_get s.nodes.items m) ≡ true
some_node stood left f s m h lt = let node = get_some s.nodes.items m (omega (arith, lt, h.is.members)) in ap is_some node.1
