-- A burst that is done as an event: at once, on its member or a copy of that.
use Rattle.std.proofs.Common.{◌≡◌, ◌≤◌, ◌<◌, ◌+◌, ◌-◌, ◌∙◌, ⊎_elim, ◌&&◌, ◌==◌, not, leb, min, ℕ, Bool, true, false, cond, List, [], ◌∷◌, ◌++◌, Option, None, Some, Result, Ok, Err, IfOk, slice_get, slice_set, slice_index_or, take, ap, sym, subst, refl, arith, length}
use Rattle.std.proofs.lemmas.Bool.{cases_eq, le-leb, leb-true}
use Rattle.std.proofs.lemmas.List.{length-take-le, take-take, take_all}
use Rattle.std.specs.List.{AllByRecursion as Each}
use Rattle.orca_base.specs.declared.ids.ProcessNo.{ProcessNo}
use Rattle.orca_base.specs.declared.limits.TheConstants.{BURST_TURNS}
use Rattle.value_core.specs.History.{Objects}
use Rattle.value_core.specs.declared.action.Line.{Line}
use Rattle.value_core.specs.declared.message.Message.{Message}
use Rattle.object_manager.specs.After.{Copied}
use Rattle.object_manager.specs.Viewed.{Viewed}
use Rattle.book_law.proofs.Processes.{get_some}
use Rattle.book_law.specs.Performed.{Performed, placed}
use Rattle.book_law.specs.declared.placing.Placed.{Placed}
use Rattle.group_rules.specs.Sets.{with_at}
use Rattle.node_rules.specs.Bursting.{BurstFits}
use Rattle.node_rules.specs.Conditions.{Fitness}
use Rattle.node_rules.specs.Entries.{MayApplyAgain}
use Rattle.run_law.specs.Earlier.{BurstsFitEarlier, view_at}
use Rattle.world_facts.specs.Ends.{turns_in}
use Rattle.world_law.specs.Holds.{Holds}
use Rattle.world_law.specs.Lists.{OneList}
use Rattle.world_law.specs.Once.{RanOnce}
use Rattle.world_rules.specs.Bursts.{Ran as RanSo, last_turn}
use Rattle.world_rules.specs.declared.event.Event.TheVariants as event
use Rattle.world_rules.specs.Frame.{Frame}
use Rattle.world_rules.specs.Nodes as nodes
use Rattle.world_rules.specs.Nodes.{NodeWork, entries_of}
use Rattle.world_rules.specs.Parts.{computes}
use Rattle.world_rules.specs.Played.{Played, Stage, is_computing}
use Rattle.world_rules.specs.Played.Stage.{Computing}
use Rattle.world_rules.specs.Standings.{lives_at_home, stands}
use Rattle.world_rules.specs.Steps.{AtWork, Burst, IsBurst, after_part, bursts, happens, objects_after, untouched}
use Rattle.world_rules.specs.Worlds.{World, agreed, applied_at, home_of, played_in, singles_in}
use Rattle.node_core.specs.AtOnce.{HasBurst}
use Rattle.node_core.specs.CheckingIn.{MayHandOut, after_burst}
use Rattle.node_core.specs.Earlier.{HasViewed, MayViewAfter}
use Rattle.node_core.specs.Keeping.{IsCopy}
use Rattle.node_core.specs.Pieces.{resident_at}
use Rattle.node_parts.specs.Shown.{IsPlayedIf, Left, Stood}
use Rattle.node_core.specs.Stands.{StandsAlike, StandsAs}
use Rattle.node_core.specs.declared.node.Node.{Node}
use Rattle.node_parts.specs.declared.resident.Resident.{Resident}
use Rattle.node_core.specs.declared.task.CheckedIn.{CheckedIn}
use Rattle.world_parts.proofs.Worlds.{home_within, one_list}
use Rattle.world_parts.specs.Choosing.{may_compute}
use Rattle.world_parts.specs.Recorded.{of_pieces}
use Rattle.world_parts.specs.Seen.{Out}
use Rattle.world_parts.specs.Standing.{IsWorld, Stands}
use Rattle.world_parts.specs.declared.parts.Parts.{Parts}
use Rattle.world_core.specs.Bursting.{HasRunOn, RunsTo, is_between, may_burst}
use Rattle.world_core.specs.Drafting.{AreOutgoing, IsDraft, out_in, taken}
use Rattle.world_core.specs.declared.burst.Ran.{Ran}
use Rattle.world_core.specs.declared.draft.Draft.{Draft}
use Rattle.world_core.specs.declared.draft.Part.{Part}
use Rattle.letter_bytes.specs.declared.letters.Outgoing.{Outgoing}
use Rattle.world_core.proofs.Adding.{nodes_added, tasks_added, with_other, with_own}
use Rattle.world_core.proofs.Computed.{burst_leaves}
use Rattle.world_core.proofs.Doing.{low_all, not_both}
use Rattle.world_core.proofs.Eventing.{entries_had}
use Rattle.world_core.proofs.Handing.{residents_set}
use Rattle.world_core.proofs.StayOut.{out_none, outs_put}
use Rattle.node_core.proofs.TakingIn.{within_of}
use Rattle.world_core.proofs.Stepped.{Leaves}

-- what follows of a success
pub where_ok : {T E : Type 0} {A B : T → Type 0} (r : Result T E) → ((x : T) → A x → B x) → IfOk r A → IfOk r B
where_ok (Ok x) so is = so x is
where_ok (Err e) so is = tt

-- ---- on a copy

-- it may be handed out of the copy
pub hand_copy : {P S : Type 0} (stood : Stood S) (left : Left S) (f : Frame) (fitness : Fitness) (i : ProcessNo) (view : Viewed) (budget : ℕ) (before copy : Node P S) → MayHandOut stood left f fitness i view budget before → StandsAlike stood left before copy
    → MayHandOut stood left f fitness i view budget copy
hand_copy stood left f fitness i view budget before copy h alike = record {
  member = h.member;
  node = h.node;
  stands = alike f h.member h.node h.stands;
  played = h.played;
  here = h.here;
  fits = h.fits;
  turns = h.turns;
}

-- and the burst that is done there is one of the member
pub ran_on : {P S : Type 0} (stood : Stood S) (left : Left S) (f : Frame) (i : ProcessNo) (view : Viewed) (before copy node : Node P S) (checked : CheckedIn) (turns : ℕ) → StandsAlike stood left before copy → IsCopy before copy
    → HasBurst stood left f i view checked turns copy node → HasRunOn stood left f i view before (record { node = node; burst = checked; turns = turns })
ran_on {P} {S} stood left f i view before copy node checked turns alike same has = record {
  place = has.place;
  there = omega (arith, within, ap length same.residents);
  after = after_burst has.done has.resident;
  back = refl;
  residents =
      residents_set i.0 (after_burst has.done has.resident) copy node has.changed within
      ∙ ap (λ (l : List (Option (Resident S))). slice_set l i.0 (Some (after_burst has.done has.resident))) same.residents;
  only = only;
  runs = runs;
}
  where
    within : i.0 < length copy.residents.items
    within = within_of copy.residents.items i.0 has.resident has.here

    only : (j : ℕ) (r : Resident S) (o : Viewed) → resident_at node j ≡ Some r → r.out ≡ Some o → resident_at before j ≡ Some r
    only j r o there out_is = ⊎_elim own other (cases_eq j i.0)
      where
        own : j ≡ i.0 → resident_at before j ≡ Some r
        own e =
            let put = sym there ∙ has.changed.put.put j ∙ ap (with_at (resident_at copy) i.0 (Some (after_burst has.done has.resident))) e ∙ with_own (resident_at copy) i.0 (Some (after_burst has.done has.resident)) in
            let s : r ≡ after_burst has.done has.resident = cc put in
            let n : ◌≡◌ {A = Option Viewed} (Some o) None = sym out_is ∙ ap (λ (t : Resident S). t.out) s in
            absurd (cc n)

        other : (j ≡ i.0 → ⊥) → resident_at before j ≡ Some r
        other apart =
            sym (ap (λ (l : List (Option (Resident S))). slice_index_or l j None) same.residents)
            ∙ sym (has.changed.put.put j ∙ with_other (resident_at copy) i.0 _ j apart) ∙ there

    runs : (m : ℕ) (v : nodes.Node) (r : Played) → StandsAs stood left f m before v → v.played i.0 ≡ Some r → RunsTo stood left f i view m v r (record { node = node; burst = checked; turns = turns })
    runs m v r stands known =
        let becomes = has.becomes m v r (alike f m v stands) (ap (λ (n : ProcessNo). v.played n.0) has.process ∙ known) in
        let ended = becomes.0 in
        let ran = becomes.1 in
        record {
          ended = ended;
          ran_so = subst (λ (reads : List Line). RanSo f view.objects view.place i (last_turn f r) r reads ended) (sym has.reads)
              (subst (λ (o : Viewed). RanSo f o.objects o.place i (last_turn f r) r has.done.reads ended) has.seen
              (subst (λ (n : ProcessNo). RanSo f has.done.view.objects has.done.view.place n (last_turn f r) r has.done.reads ended) has.process ran.ran));
          turns = has.took ∙ ran.turns;
          least = ran.least;
          most = ran.most;
          node = subst (λ (reads : List Line). StandsAs stood left f m node (computes i.0 view.place reads ended v).node) (sym has.reads)
              (subst (λ (o : Viewed). StandsAs stood left f m node (computes i.0 o.place has.done.reads ended v).node) has.seen
              (subst (λ (n : ProcessNo). StandsAs stood left f m node (computes n.0 has.done.view.place has.done.reads ended v).node) has.process becomes.2));
        }

-- ---- the process

-- what the test of a burst says
pub record Bursts {P S : Type 0} (stood : Stood S) (left : Left S) (f : Frame) (s : Parts P S) (w : World) (i : ProcessNo) (place : ℕ) : Type 0 where
  pub start : Played
  pub here : played_in f w i.0 ≡ Some start
  pub lives : w.lives (home_of f w i.0) ≡ true
  pub computing : start.stage ≡ Computing
  pub after : start.place ≤ place
  pub before : place ≤ (w.nodes (home_of f w i.0)).member.applied

pub both : (b c : Bool) → (b && c) ≡ true → (b ≡ true) × (c ≡ true)
both true c h = (refl, h)
both false c h = absurd (cc h)

pub computing_is : (stage : Stage) → is_computing stage ≡ true → stage ≡ Computing
computing_is Computing h = refl
computing_is (Stage.Acting act) h = absurd (cc h)
computing_is (Stage.Submitted act) h = absurd (cc h)
computing_is (Stage.Reading act) h = absurd (cc h)
computing_is (Stage.Asking act) h = absurd (cc h)
computing_is (Stage.Over act) h = absurd (cc h)

pub bursts_by : {P S : Type 0} (stood : Stood S) (left : Left S) (f : Frame) (s : Parts P S) (w : World) (i : ProcessNo) (place : ℕ) → may_burst f w i.0 place ≡ true → Bursts stood left f s w i place
bursts_by stood left f s w i place h = go (played_in f w i.0) refl
  where
    parts_of : (may_compute f w i.0 ≡ true) × (is_between place (w.nodes (home_of f w i.0)).member.applied (played_in f w i.0) ≡ true)
    parts_of = both (may_compute f w i.0) _ h

    computes_there : (lives_at_home f w i.0 ≡ true) × (stands is_computing (played_in f w i.0) ≡ true)
    computes_there = both (lives_at_home f w i.0) _ parts_of.0

    go : (o : Option Played) → played_in f w i.0 ≡ o → Bursts stood left f s w i place
    go None is = absurd (cc (sym (ap (stands is_computing) is) ∙ computes_there.1))
    go (Some r) is =
        let between = both (leb r.place place) (leb place (w.nodes (home_of f w i.0)).member.applied) (sym (ap (is_between place (w.nodes (home_of f w i.0)).member.applied) is) ∙ parts_of.1) in
        record {
          start = r;
          here = is;
          lives = computes_there.0;
          computing = computing_is r.stage (sym (ap (stands is_computing) is) ∙ computes_there.1);
          after = leb-true r.place place between.0;
          before = leb-true place (w.nodes (home_of f w i.0)).member.applied between.1;
        }

pub may_hand : {P S : Type 0} (stood : Stood S) (left : Left S) (f : Frame) (fitness : Fitness) (s : Parts P S) (w : World) (i : ProcessNo) (place home start budget : ℕ) (view : Viewed) (node : Node P S) → Stands stood left f s → IsWorld stood left f s w
    → Bursts stood left f s w i place → BurstsFitEarlier f fitness w → home ≡ home_of f w i.0 → Some node ≡ slice_get s.nodes.items home → view ≡ view_at f (w.nodes home) place
    → start ≡ turns_in (played_in f w i.0) → budget ≡ min BURST_TURNS (s.numbers.turns - start) → MayHandOut stood left f fitness i view budget node
may_hand stood left f fitness s w i place home start budget view node h is b fits at_home at seen from budget_is = record {
  member = home;
  node = w.nodes home;
  stands = is.nodes home node (sym at);
  played = b.start;
  here = ap (λ (m : ℕ). (w.nodes m).played i.0) at_home ∙ b.here;
  fits = subst (λ (v : Viewed). BurstFits f fitness i v b.start) (sym (seen ∙ ap (λ (m : ℕ). view_at f (w.nodes m) place) at_home)) (fits i b.start b.here b.computing place b.after b.before);
  turns = ap (λ (n : ℕ). b.start.turns + n) (budget_is ∙ ap (λ (n : ℕ). min BURST_TURNS (n - start)) h.numbers.turns ∙ ap (λ (n : ℕ). min BURST_TURNS (f.settings.turns - n)) (from ∙ ap turns_in b.here));
}

-- ---- what its member's objects were

abbrev pub viewing : Objects → ℕ → Viewed
viewing objects place = record { objects = objects; place = place }

pub applied_low : {P S : Type 0} (stood : Stood S) (left : Left S) (f : Frame) (s : Parts P S) (w : World) → Stands stood left f s → IsWorld stood left f s w → (m : ℕ) → m < f.settings.nodes → (place : ℕ) → place ≤ (w.nodes m).member.applied
    → place ≤ length (agreed f w)
applied_low stood left f s w h is m lt place low =
    let hold = h.laws.hold f refl refl h.settings s.ledger.steps w is.replays in
    omega (arith, low, hold.grouped.level m, low_all stood left f s w h is m lt)

-- its copies' own, at the last place
pub viewed_now : {P S : Type 0} (stood : Stood S) (left : Left S) (f : Frame) (s : Parts P S) (w : World) (m place : ℕ) (node : Node P S) (view : Viewed) → Stands stood left f s → IsWorld stood left f s w
    → Some node ≡ slice_get s.nodes.items m → place ≡ node.copies.applied → view ≡ record { objects = node.copies.objects; place = node.copies.applied } → view ≡ view_at f (w.nodes m) place
viewed_now stood left f s w m place node view h is at now seen =
    let stands = is.nodes m node (sym at) in
    let kept = h.laws.kept f refl refl h.settings s.ledger.steps w is.replays in
    seen ∙ ap (λ (c : Copied). viewing c.objects c.applied) stands.copies
    ∙ ap (λ (o : Objects). viewing o (w.nodes m).copies.applied) (sym (kept.view m))
    ∙ ap (λ (n : ℕ). view_at f (w.nodes m) n) (sym (now ∙ ap (λ (c : Copied). c.applied) stands.copies))

-- its first entries begin the list
pub first_entries : {P S : Type 0} (stood : Stood S) (left : Left S) (f : Frame) (s : Parts P S) (w : World) (m place : ℕ) (entries : List Message) → Stands stood left f s → IsWorld stood left f s w → m < f.settings.nodes
    → place ≤ (w.nodes m).member.applied → entries ≡ take place s.ledger.entries → (length entries ≡ place) × (entries ≡ take (length entries) (entries_of (w.nodes m)))
first_entries stood left f s w m place entries h is lt low taken_is =
    (count, ap (λ (l : List Message). l) taken_is ∙ ap (take place) is.entries ∙ sym (take-take place (length (applied_at w m)) (agreed f w) fits) ∙ ap (take place) (sym begins) ∙ ap (λ (n : ℕ). take n (entries_of (w.nodes m))) (sym count))
  where
    hold : Holds f w
    hold = h.laws.hold f refl refl h.settings s.ledger.steps w is.replays

    one : OneList f w
    one = one_list stood left f s w h is

    count : length entries ≡ place
    count = ap length taken_is ∙ length-take-le place s.ledger.entries (omega (arith, ap length is.entries, applied_low stood left f s w h is m lt place low))

    begins : entries_of (w.nodes m) ≡ take (length (applied_at w m)) (agreed f w)
    begins = one.copies m lt ∙ sym (take_all (length (applied_at w m)) (applied_at w m) (omega arith)) ∙ (one.begin m lt).is

    fits : place ≤ length (applied_at w m)
    fits =
        let node = get_some s.nodes.items m (omega (arith, lt, is.members)) in
        let had = entries_had stood left f s w h is m node.0 lt node.1 in
        omega (arith, low, hold.grouped.level m, had.0, ap length (one.copies m lt))

-- they may be applied again
pub may_view : {P S : Type 0} (stood : Stood S) (left : Left S) (f : Frame) (fitness : Fitness) (s : Parts P S) (w : World) (m place : ℕ) (entries : List Message) (node : Node P S) → Stands stood left f s → IsWorld stood left f s w
    → m < f.settings.nodes → place ≤ (w.nodes m).member.applied → entries ≡ take place s.ledger.entries → Some node ≡ slice_get s.nodes.items m
    → ((entries : List Message) → entries ≡ take (length entries) (entries_of (w.nodes m)) → MayApplyAgain f fitness.state fitness.args (w.nodes m) entries) → MayViewAfter stood left f fitness.state fitness.args entries node
may_view stood left f fitness s w m place entries node h is lt low taken_is at again = record {
  member = m;
  node = w.nodes m;
  stands = is.nodes m node (sym at);
  each = again entries (first_entries stood left f s w m place entries h is lt low taken_is).1;
}

pub viewed_again : {P S : Type 0} (stood : Stood S) (left : Left S) (f : Frame) (s : Parts P S) (w : World) (m place : ℕ) (entries : List Message) (node : Node P S) (view : Viewed) → Stands stood left f s → IsWorld stood left f s w
    → m < f.settings.nodes → place ≤ (w.nodes m).member.applied → entries ≡ take place s.ledger.entries → Some node ≡ slice_get s.nodes.items m → HasViewed stood left f entries node view → view ≡ view_at f (w.nodes m) place
viewed_again stood left f s w m place entries node view h is lt low taken_is at viewed =
    let first = first_entries stood left f s w m place entries h is lt low taken_is in
    viewed m (w.nodes m) (is.nodes m node (sym at)) first.1 ∙ ap (λ (n : ℕ). view_at f (w.nodes m) n) first.0

-- ---- the event

pub ran_there : {P S : Type 0} (stood : Stood S) (left : Left S) (f : Frame) (s : Parts P S) (w : World) (i : ProcessNo) (place home : ℕ) (view : Viewed) (node : Node P S) (ran : Ran P S) → IsWorld stood left f s w
    → (b : Bursts stood left f s w i place) → home ≡ home_of f w i.0 → Some node ≡ slice_get s.nodes.items home → HasRunOn stood left f i view node ran → RunsTo stood left f i view home (w.nodes home) b.start ran
ran_there stood left f s w i place home view node ran is b at_home at has =
    has.runs home (w.nodes home) b.start (is.nodes home node (sym at)) (ap (λ (m : ℕ). (w.nodes m).played i.0) at_home ∙ b.here)

-- it took no turns back
pub ran_least : {P S : Type 0} (stood : Stood S) (left : Left S) (f : Frame) (s : Parts P S) (w : World) (i : ProcessNo) (place home start : ℕ) (view : Viewed) (node : Node P S) (ran : Ran P S) → IsWorld stood left f s w
    → (b : Bursts stood left f s w i place) → home ≡ home_of f w i.0 → Some node ≡ slice_get s.nodes.items home → HasRunOn stood left f i view node ran → start ≡ turns_in (played_in f w i.0) → start ≤ ran.turns
ran_least stood left f s w i place home start view node ran is b at_home at has from =
    let r = ran_there stood left f s w i place home view node ran is b at_home at has in
    omega (arith, from, ap turns_in b.here, r.least, r.turns)

-- it ran so on the objects at that place
pub ran_so : {P S : Type 0} (stood : Stood S) (left : Left S) (f : Frame) (s : Parts P S) (w : World) (i : ProcessNo) (place home : ℕ) (view : Viewed) (ran : Ran P S) → (b : Bursts stood left f s w i place) → home ≡ home_of f w i.0
    → view ≡ view_at f (w.nodes home) place → (r : RunsTo stood left f i view home (w.nodes home) b.start ran)
    → RanSo f (objects_after f (w.nodes (home_of f w i.0)) place) place i (last_turn f b.start) b.start ran.burst.reads.items r.ended
ran_so stood left f s w i place home view ran b at_home seen r =
    subst (λ (v : Viewed). RanSo f v.objects v.place i (last_turn f b.start) b.start ran.burst.reads.items r.ended) (seen ∙ ap (λ (m : ℕ). view_at f (w.nodes m) place) at_home) r.ran_so

-- what it leaves, drafted
pub record Drafted {P S : Type 0} (draft : Draft P S) (member : ℕ) (ran : Ran P S) : Type 0 where
  pub parts : draft.parts.items ≡ record { member = member; node = ran.node } ∷ []
  pub outgoing : draft.outgoing.items ≡ []
  pub entries : draft.entries.items ≡ []
  pub pieces : of_pieces draft.pieces.items ≡ placed ran.burst.place ran.burst.reads.items
  pub stirred : draft.has_stirred ≡ not (length ran.burst.reads.items == 0)

pub burst_drafts : {P S : Type 0} (stood : Stood S) (left : Left S) (f : Frame) (s : Parts P S) (w : World) (i : ProcessNo) (place home start turns : ℕ) (view : Viewed) (node : Node P S) (ran : Ran P S) (draft : Draft P S)
    → Stands stood left f s → IsWorld stood left f s w → Bursts stood left f s w i place → home ≡ home_of f w i.0 → Some node ≡ slice_get s.nodes.items home → view ≡ view_at f (w.nodes home) place → HasRunOn stood left f i view node ran
    → start ≡ turns_in (played_in f w i.0) → ran.turns - start ≡ turns → Drafted draft home ran
    → (burst : Burst) × IsBurst f w i place turns burst × IsDraft stood left f s w (event.Burst i place turns) draft (happens f w (event.Burst i place turns) burst)
burst_drafts {P} {S} stood left f s w i place home start turns view node ran draft h is b at_home at seen has from took drafted =
    (burst, possible, subst (λ (m : ℕ). IsDraft stood left f s w (event.Burst i place turns) draft (after_part f m (computes i.0 place burst.reads burst.end (w.nodes m)) (untouched w))) at_home made)
  where
    r : RunsTo stood left f i view home (w.nodes home) b.start ran
    r = ran_there stood left f s w i place home view node ran is b at_home at has

    burst : Burst
    burst = record { reads = ran.burst.reads.items; end = r.ended }

    possible : IsBurst f w i place turns burst
    possible = record {
      start = b.start;
      here = b.here;
      lives = b.lives;
      computing = b.computing;
      after = b.after;
      before = b.before;
      ran = ran_so stood left f s w i place home view ran b at_home seen r;
      took = omega (arith, took, from, ap turns_in b.here, r.turns, r.least);
    }

    lt : home < f.settings.nodes
    lt = omega (arith, at_home, home_within stood left f s w h i.0)

    low : place ≤ length (agreed f w)
    low = applied_low stood left f s w h is home lt place (subst (λ (m : ℕ). place ≤ (w.nodes m).member.applied) (sym at_home) b.before)

    leaves : Leaves f s w [] [] (placed place burst.reads) (not (length burst.reads == 0)) (bursts f w i place burst)
    leaves = burst_leaves stood left f s w i place burst is (home_within stood left f s w h i.0) low

    v : NodeWork
    v = computes i.0 place burst.reads burst.end (w.nodes home)

    u : AtWork
    u = after_part f home v (untouched w)

    left_there : Leaves f s w [] [] (placed place burst.reads) (not (length burst.reads == 0)) u
    left_there = subst (λ (m : ℕ). Leaves f s w [] [] (placed place burst.reads) (not (length burst.reads == 0)) (after_part f m (computes i.0 place burst.reads burst.end (w.nodes m)) (untouched w))) (sym at_home) leaves

    more : taken draft.parts.items s.nodes.items ≡ slice_set s.nodes.items home ran.node
    more = ap (λ (l : List (Part P S)). taken l s.nodes.items) drafted.parts

    where_is : ran.burst.place ≡ place
    where_is = has.place ∙ ap (λ (o : Viewed). o.place) seen

    stood_after : StandsAs stood left f home ran.node v.node
    stood_after = subst (λ (n : ℕ). StandsAs stood left f home ran.node (computes i.0 n burst.reads burst.end (w.nodes home)).node) (ap (λ (o : Viewed). o.place) seen) r.node

    made : IsDraft stood left f s w (event.Burst i place turns) draft u
    made = record {
      nodes = nodes_added stood left f s.nodes.items (taken draft.parts.items s.nodes.items) home ran.node v (untouched w) (record { count = is.members; each = is.nodes }) more stood_after;
      letters = subst (λ (l : List Outgoing). AreOutgoing f.settings.nodes l u.mails) (sym drafted.outgoing) left_there.letters;
      entries = ap (λ (l : List Message). s.ledger.entries ++ l) drafted.entries ∙ left_there.listed;
      performed = subst (λ (l : List Placed). Performed (singles_in f u.world) f.performs (agreed f u.world) u.world.aside (s.ledger.performed ++ l)) (sym (drafted.pieces ∙ ap (λ (n : ℕ). placed n burst.reads) where_is)) left_there.did;
      stirred = drafted.stirred ∙ left_there.stirs;
      tasks = tasks_added s.nodes.items s.nodes.items (taken draft.parts.items s.nodes.items) home node ran.node (λ m j other r view at here out. (other, at, here)) more (sym at) has.only;
      outs = λ m j.
          ap (λ (l : List (Node P S)). out_in l m j) more
          ∙ outs_put s.nodes.items home i.0 has.after node ran.node (sym at) has.there has.residents m j
          ∙ ap (λ (o : Option (Out S)). cond ((m == home) && (j == i.0)) o (out_in s.nodes.items m j)) (out_none has.after has.back)
          ∙ ap (λ (k : ℕ). cond ((m == k) && (j == i.0)) None (out_in s.nodes.items m j)) at_home;
      members = subst (Each (λ (part : Part P S). part.member < f.settings.nodes)) (sym drafted.parts) (lt, tt);
      later = left_there.later;
    }

-- of other turns there is no burst
pub burst_refused : {P S : Type 0} (stood : Stood S) (left : Left S) (f : Frame) (s : Parts P S) (w : World) (i : ProcessNo) (place home start turns : ℕ) (view : Viewed) (node : Node P S) (ran : Ran P S) → RanOnce f
    → IsWorld stood left f s w → Bursts stood left f s w i place → home ≡ home_of f w i.0 → Some node ≡ slice_get s.nodes.items home → view ≡ view_at f (w.nodes home) place → HasRunOn stood left f i view node ran
    → start ≡ turns_in (played_in f w i.0) → (ran.turns - start ≡ turns → ⊥) → (burst : Burst) → IsBurst f w i place turns burst → ⊥
burst_refused stood left f s w i place home start turns view node ran once is b at_home at seen has from took burst possible =
    let r = ran_there stood left f s w i place home view node ran is b at_home at has in
    let same : ◌≡◌ {A = Option Played} (Some possible.start) (Some b.start) = sym possible.here ∙ b.here in
    let start_is : possible.start ≡ b.start = cc same in
    let there = subst (λ (q : Played). RanSo f (objects_after f (w.nodes (home_of f w i.0)) place) place i (last_turn f q) q burst.reads burst.end) start_is possible.ran in
    let end = (once (objects_after f (w.nodes (home_of f w i.0)) place) place i (last_turn f b.start) b.start burst.reads ran.burst.reads.items burst.end r.ended there (ran_so stood left f s w i place home view ran b at_home seen r)).1 in
    took (omega (arith, r.turns, ap (λ (q : Played). q.turns) end, possible.took, ap (λ (q : Played). q.turns) start_is, from, ap turns_in b.here))

-- nor where the test fails
pub no_burst : (f : Frame) (w : World) (i : ProcessNo) (place turns : ℕ) → may_burst f w i.0 place ≡ false → (burst : Burst) → IsBurst f w i place turns burst → ⊥
no_burst f w i place turns not_so burst h = not_both (may_burst f w i.0 place) not_so (whole (played_in f w i.0) h.here)
  where
    between : (o : Option Played) → o ≡ Some h.start → is_between place (w.nodes (home_of f w i.0)).member.applied o ≡ true
    between o is =
        ap (is_between place (w.nodes (home_of f w i.0)).member.applied) is
        ∙ ap (λ (b : Bool). b && leb place (w.nodes (home_of f w i.0)).member.applied) (le-leb h.start.place place h.after) ∙ le-leb place (w.nodes (home_of f w i.0)).member.applied h.before

    whole : (o : Option Played) → o ≡ Some h.start → may_burst f w i.0 place ≡ true
    whole o is =
        ap (λ (b : Bool). (b && stands is_computing (played_in f w i.0)) && is_between place (w.nodes (home_of f w i.0)).member.applied (played_in f w i.0)) h.lives
        ∙ ap (λ (b : Bool). b && is_between place (w.nodes (home_of f w i.0)).member.applied (played_in f w i.0)) (ap (stands is_computing) h.here ∙ ap is_computing h.computing)
        ∙ between (played_in f w i.0) h.here

-- ---- a process, as its member has it

pub between_there : {S : Type 0} (stood : Stood S) (left : Left S) (i place applied now : ℕ) (r : Resident S) (o : Option Played) (b : Bool) → IsPlayedIf stood left i (Some r) o → b ≡ (leb r.place place && leb place applied) → applied ≡ now
    → b ≡ is_between place now o
between_there stood left i place applied now r None b h is same = absurd h
between_there stood left i place applied now r (Some p) b h is same =
    is ∙ ap (λ (n : ℕ). leb n place && leb place applied) h.place ∙ ap (λ (n : ℕ). leb p.place place && leb place n) same

pub between_none : {S : Type 0} (stood : Stood S) (left : Left S) (i place now : ℕ) (o : Option Played) → IsPlayedIf {S = S} stood left i None o → false ≡ is_between place now o
between_none stood left i place now None h = refl
between_none stood left i place now (Some p) h = absurd h

pub applied_there : {P S : Type 0} (stood : Stood S) (left : Left S) (f : Frame) (s : Parts P S) (w : World) (home i : ℕ) (node : Node P S) → IsWorld stood left f s w → home ≡ home_of f w i → Some node ≡ slice_get s.nodes.items home
    → node.member.applied ≡ (w.nodes (home_of f w i)).member.applied
applied_there stood left f s w home i node is at_home at = sym (is.nodes home node (sym at)).member.applied ∙ ap (λ (m : ℕ). (w.nodes m).member.applied) at_home
