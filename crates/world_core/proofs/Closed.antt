-- What the calls of a step leave, one after the other, is the world after it.
use Rattle.std.proofs.Common.{◌≡◌, ◌≤◌, ◌<◌, ◌+◌, ◌-◌, ◌^◌, ◌∙◌, ⊎_elim, ◌||◌, ℕ, Bool, true, false, cond, List, [], ◌∷◌, ◌++◌, Option, None, Some, slice_get, slice_set, map, ap, sym, subst, refl, arith, length}
use Rattle.std.proofs.lemmas.Option.{slice_get_within}
use Rattle.std.specs.List.{AllByRecursion as Each}
use Rattle.net_rules.specs.Flights.{ready_copy, ticked, without}
use Rattle.net_rules.specs.declared.asked.Asked.{Asked}
use Rattle.net_rules.specs.declared.fate.Fate.{Fate}
use Rattle.object_manager.specs.Viewed.{Viewed}
use Rattle.world_facts.proofs.Counted.{Works, event_works, posts_is}
use Rattle.world_rules.specs.declared.event.Event.{Event}
use Rattle.world_rules.specs.declared.event.Event.TheVariants as event
use Rattle.world_rules.specs.declared.event.Step.{Step}
use Rattle.world_rules.specs.declared.standing.Standing.TheVariants.{Going}
use Rattle.world_rules.specs.Frame.{Frame}
use Rattle.world_rules.specs.Standings.{standing}
use Rattle.world_rules.specs.Steps.{Known, Possible, Replays, after_step, happens, idle_after, posts_all, untouched}
use Rattle.world_rules.specs.Worlds.{Told, World}
use Rattle.node_core.specs.Pieces.{resident_at}
use Rattle.node_parts.specs.Shown.{Left, Stood}
use Rattle.node_core.specs.Stands.{StandsAs}
use Rattle.node_core.specs.declared.node.Node.{Node}
use Rattle.node_parts.specs.declared.resident.Resident.{Resident}
use Rattle.world_parts.proofs.Lists.{got_set, set_length}
use Rattle.world_parts.proofs.Worlds.{is_world}
use Rattle.world_parts.specs.Recorded.{Recorded, of_pieces}
use Rattle.world_parts.specs.Seen.{Out, all_outs, tasks_out}
use Rattle.world_parts.specs.Standing.{HasNumbers, IsWorld, Stands, out_of, outs_of, seen_of}
use Rattle.world_parts.specs.declared.parts.Numbers.{Numbers}
use Rattle.world_parts.specs.declared.parts.Parts.{Parts}
use Rattle.world_core.specs.Closing.{HasClosed, HasEnded, HasLeft, HasLost, HasRoomMade, asked_all, flights_after, lives_after, sent_all, swaps_after}
use Rattle.world_core.specs.Drafting.{AreNodes, Drafts, IsDraft, KeepTasks, out_in, taken}
use Rattle.world_core.specs.Stepping.{KeepsOut, Leads, OutBefore, Stepped, is_burst_of, is_crash_of, told_so}
use Rattle.world_core.specs.declared.draft.Draft.{Draft}
use Rattle.world_core.proofs.Adding.{with_other}
use Rattle.world_core.proofs.Doing.{Here}
use Rattle.world_core.proofs.Fewer.{tasks_fewer}
use Rattle.world_core.proofs.Handing.{out_before}
use Rattle.world_core.proofs.Recalls.{none_there}
use Rattle.world_core.proofs.Sending.{sent_asked}
use Rattle.world_core.proofs.StayOut.{out_none, outs_ended}
use Rattle.world_core.proofs.Stepped.{Changed, draft_leaves, outgoing_count, step_world, tick_lives, whole_lives}

-- ---- the tasks of a crashed member

clash : {A : Type 0} (o : Option A) (a : A) → o ≡ None → o ≡ Some a → ⊥
clash None a e d = cc
clash (Some b) a e d = cc

nodes_only : {P S : Type 0} (old new : Parts P S) → new ≡ old → new ≡ record old { nodes = new.nodes }
nodes_only {P} {S} old new is = is ∙ ap (λ (p : Parts P S). record old { nodes = p.nodes }) (sym is)

pub ended_others : {P S : Type 0} (stood : Stood S) (left : Left S) (event : Event) (old new : Parts P S) → HasEnded stood left event old new → new ≡ record old { nodes = new.nodes }
ended_others stood left (event.Crash node) old new h = h.others
ended_others stood left (event.Deliver packet copy) old new h = nodes_only old new h
ended_others stood left event.Tick old new h = nodes_only old new h
ended_others stood left (event.Burst process place turns) old new h = nodes_only old new h
ended_others stood left (event.Act process) old new h = nodes_only old new h
ended_others stood left (event.Suspect node) old new h = nodes_only old new h
ended_others stood left event.Swap old new h = nodes_only old new h

-- one that crashed is not one with a task out
abbrev Spares : Event → ℕ → Type 0
Spares (event.Crash node) m = m ≡ node → ⊥
Spares (event.Deliver packet copy) m = Unit {0}
Spares event.Tick m = Unit {0}
Spares (event.Burst process place turns) m = Unit {0}
Spares (event.Act process) m = Unit {0}
Spares (event.Suspect node) m = Unit {0}
Spares event.Swap m = Unit {0}

-- what is left of the members
pub record Ended {P S : Type 0} (stood : Stood S) (left : Left S) (event : Event) (old new : List (Node P S)) : Type 0 where
  pub count : length new ≡ length old
  pub each : (f : Frame) (w : World) → AreNodes stood left f old w → AreNodes stood left f new w
  pub keeps : (base : List (Node P S)) → KeepTasks base old → KeepTasks base new
  pub outs : (m i : ℕ) → out_in new m i ≡ cond (is_crash_of event m) None (out_in old m i)
  pub spares : (m i : ℕ) (node : Node P S) (r : Resident S) (view : Viewed) → slice_get new m ≡ Some node → resident_at node i ≡ Some r → r.out ≡ Some view → Spares event m

ended_none : {P S : Type 0} (stood : Stood S) (left : Left S) (event : Event) (old new : Parts P S) → new ≡ old → ((m : ℕ) → Spares event m) → ((m : ℕ) → is_crash_of event m ≡ false) → Ended stood left event old.nodes.items new.nodes.items
ended_none {P} {S} stood left event old new is spares none =
    subst (λ (p : Parts P S). Ended stood left event old.nodes.items p.nodes.items) (sym is)
    (record { count = refl; each = λ f w h. h; keeps = λ base h. h; outs = λ m i. sym (ap (λ (b : Bool). cond b None (out_in old.nodes.items m i)) (none m)); spares = λ m i node r view at here out. spares m })

ended_crash : {P S : Type 0} (stood : Stood S) (left : Left S) (member : ℕ) (old new : Parts P S) → HasLost stood left member old new → Ended stood left (event.Crash member) old.nodes.items new.nodes.items
ended_crash {P} {S} stood left member old new h =
    subst (Ended stood left (event.Crash member) old.nodes.items) (sym h.nodes) (record { count = set_length old.nodes.items member h.after; each = each; keeps = keeps; outs = outs_ended old.nodes.items member h.after (slice_get_within old.nodes.items member h.before h.here) (λ i. ended (resident_at h.after i) i refl); spares = spares })
  where
    all : List (Node P S)
    all = slice_set old.nodes.items member h.after

    nothing : (i : ℕ) (node : Node P S) (r : Resident S) (view : Viewed) → h.after ≡ node → resident_at node i ≡ Some r → r.out ≡ Some view → ⊥
    nothing i node r view is here out = clash r.out view (none_there h.before h.after h.recalled i r (ap (λ (n : Node P S). resident_at n i) is ∙ here)) out

    ended : (o : Option (Resident S)) (i : ℕ) → resident_at h.after i ≡ o → out_of o ≡ None
    ended None i at = refl
    ended (Some r) i at = out_none r (none_there h.before h.after h.recalled i r at)

    each : (f : Frame) (w : World) → AreNodes stood left f old.nodes.items w → AreNodes stood left f all w
    each f w are = record { count = set_length old.nodes.items member h.after ∙ are.count; each = λ m node at. ⊎_elim (own m node) (other m node) (got_set old.nodes.items member m h.after node at) }
      where
        own : (m : ℕ) (node : Node P S) → (m ≡ member) × (h.after ≡ node) → StandsAs stood left f m node (w.nodes m)
        own m node same =
            subst (λ (k : ℕ). StandsAs stood left f k node (w.nodes k)) (sym same.0)
            (subst (λ (n : Node P S). StandsAs stood left f member n (w.nodes member)) same.1 (h.alike f member (w.nodes member) (are.each member h.before h.here)))

        other : (m : ℕ) (node : Node P S) → (m ≡ member → ⊥) × (slice_get old.nodes.items m ≡ Some node) → StandsAs stood left f m node (w.nodes m)
        other m node apart = are.each m node apart.1

    keeps : (base : List (Node P S)) → KeepTasks base old.nodes.items → KeepTasks base all
    keeps base kept m i node r view at here out =
        ⊎_elim (λ (same : (m ≡ member) × (h.after ≡ node)). absurd (nothing i node r view same.1 here out))
        (λ (apart : (m ≡ member → ⊥) × (slice_get old.nodes.items m ≡ Some node)). kept m i node r view apart.1 here out)
        (got_set old.nodes.items member m h.after node at)

    spares : (m i : ℕ) (node : Node P S) (r : Resident S) (view : Viewed) → slice_get all m ≡ Some node → resident_at node i ≡ Some r → r.out ≡ Some view → m ≡ member → ⊥
    spares m i node r view at here out is =
        ⊎_elim (λ (same : (m ≡ member) × (h.after ≡ node)). nothing i node r view same.1 here out)
        (λ (apart : (m ≡ member → ⊥) × (slice_get old.nodes.items m ≡ Some node)). apart.0 is)
        (got_set old.nodes.items member m h.after node at)

ended_all : {P S : Type 0} (stood : Stood S) (left : Left S) (event : Event) (old new : Parts P S) → HasEnded stood left event old new → Ended stood left event old.nodes.items new.nodes.items
ended_all stood left (event.Crash node) old new h = ended_crash stood left node old new h
ended_all stood left (event.Deliver packet copy) old new h = ended_none stood left _ old new h (λ m. tt) (λ m. refl)
ended_all stood left event.Tick old new h = ended_none stood left _ old new h (λ m. tt) (λ m. refl)
ended_all stood left (event.Burst process place turns) old new h = ended_none stood left _ old new h (λ m. tt) (λ m. refl)
ended_all stood left (event.Act process) old new h = ended_none stood left _ old new h (λ m. tt) (λ m. refl)
ended_all stood left (event.Suspect node) old new h = ended_none stood left _ old new h (λ m. tt) (λ m. refl)
ended_all stood left event.Swap old new h = ended_none stood left _ old new h (λ m. tt) (λ m. refl)

-- who lived lives on, unless it crashed
lived : (w : World) (lives : ℕ → Bool) (m : ℕ) → lives ≡ w.lives → w.lives m ≡ true → lives m ≡ true
lived w lives m same is = ap (λ (l : ℕ → Bool). l m) same ∙ is

alive : (f : Frame) (w : World) (event : Event) (given : Known event) (m : ℕ) → w.lives m ≡ true → Spares event m → (happens f w event given).world.lives m ≡ true
alive f w (event.Burst process place turns) given m lives spares = lives
alive f w (event.Act process) given m lives spares = lives
alive f w (event.Deliver packet copy) given m lives spares = lived w _ m (whole_lives f (record w { flights = without packet copy w.flights }) (ready_copy packet copy w.flights)) lives
alive f w event.Tick given m lives spares = lived w _ m (tick_lives f f.settings.nodes (untouched (record w { flights = ticked w.flights }))) lives
alive f w (event.Crash node) given m lives spares = with_other w.lives node false m spares ∙ lives
alive f w (event.Suspect node) given m lives spares = lives
alive f w event.Swap given m lives spares = lives

-- ---- the calls of a step

-- what each of them left of the parts, the last by storing the step
abbrev pub done_as : {P S : Type 0} → Parts P S → ℕ → Recorded → Parts P S
done_as s idle ledger = record s { idle = idle; ledger = ledger }

pub record Calls {P S : Type 0} (stood : Stood S) (left : Left S) (event : Event) (draft : Draft P S) (fates : List Fate) (s s1 s2 s3 s4 new : Parts P S) : Type 0 where
  pub room : HasRoomMade s s1
  pub steps : tasks_out (seen_of s) + 1 ≤ s1.ledger.step_room
  pub pieces : tasks_out (seen_of s) + length draft.pieces.items ≤ s1.ledger.piece_room
  pub few : length draft.outgoing.items < 2 ^ 32
  pub leaves : HasLeft event s1 s2
  pub closed : HasClosed draft s2 fates s3
  pub ended : HasEnded stood left event s3 s4
  pub numbers : new.numbers ≡ s4.numbers
  pub nodes : new.nodes.items ≡ s4.nodes.items
  pub lives : new.lives.items ≡ s4.lives.items
  pub flights : new.net.flights ≡ s4.net.flights
  pub ledger :
      new.ledger ≡ record s4.ledger { steps = s4.ledger.steps ++ record { event = event; fates = fates } ∷ []; step_room = s4.ledger.step_room - 1 }
  pub sent : new.sent ≡ s4.sent
  pub swaps : new.swaps ≡ s4.swaps
  pub idle : new.idle ≡ cond draft.has_stirred 0 (idle_after event s1.idle)

-- field by field
pub record Fields {P S : Type 0} (stood : Stood S) (left : Left S) (event : Event) (draft : Draft P S) (fates : List Fate) (s new : Parts P S) : Type 0 where
  pub numbers : new.numbers ≡ s.numbers
  pub after : List (Node P S)
  pub taken_is : after ≡ taken draft.parts.items s.nodes.items
  pub members : Ended stood left event after new.nodes.items
  pub lives : new.lives.items ≡ lives_after event s.lives.items
  pub flights : new.net.flights ≡ sent_all s.sent draft.outgoing.items fates (flights_after event s.net.flights)
  pub count : length fates ≡ length draft.outgoing.items
  pub steps : new.ledger.steps ≡ s.ledger.steps ++ record { event = event; fates = fates } ∷ []
  pub listed : new.ledger.entries ≡ s.ledger.entries ++ draft.entries.items
  pub did : new.ledger.performed ≡ s.ledger.performed ++ of_pieces draft.pieces.items
  pub step_room : tasks_out (seen_of s) ≤ new.ledger.step_room
  pub piece_room : tasks_out (seen_of s) ≤ new.ledger.piece_room
  pub sent : new.sent ≡ s.sent + length draft.outgoing.items
  pub swaps : new.swaps ≡ swaps_after event s.swaps

pub fields_of : {P S : Type 0} (stood : Stood S) (left : Left S) (event : Event) (draft : Draft P S) (fates : List Fate) (s s1 s2 s3 s4 new : Parts P S) → Calls stood left event draft fates s s1 s2 s3 s4 new
    → Fields stood left event draft fates s new
fields_of {P} {S} stood left event draft fates s s1 s2 s3 s4 new h = record {
  numbers = h.numbers ∙ at_end (λ p. p.numbers) refl ∙ h.closed.numbers ∙ ap (λ (p : Parts P S). p.numbers) h.leaves.others ∙ h.room.numbers;
  after = s3.nodes.items;
  taken_is = h.closed.nodes ∙ ap (λ (p : Parts P S). taken draft.parts.items p.nodes.items) h.leaves.others ∙ ap (taken draft.parts.items) h.room.nodes;
  members = subst (Ended stood left event s3.nodes.items) (sym h.nodes) (ended_all stood left event s3 s4 h.ended);
  lives = h.lives ∙ ap (λ (p : Parts P S). p.lives.items) others ∙ h.closed.lives ∙ h.leaves.lives ∙ ap (lives_after event) h.room.lives;
  flights = h.flights ∙ ap (λ (p : Parts P S). p.net.flights) others ∙ h.closed.flights
      ∙ ap (λ (n : ℕ). sent_all n draft.outgoing.items fates s2.net.flights) sent2
      ∙ ap (sent_all s.sent draft.outgoing.items fates) (h.leaves.flights ∙ ap (flights_after event) h.room.flights);
  count = h.closed.count;
  steps = ap (λ (r : Recorded). r.steps) h.ledger ∙ ap (λ (l : List Step). l ++ record { event = event; fates = fates } ∷ []) (ap (λ (p : Parts P S). p.ledger.steps) others ∙ h.closed.steps ∙ ap (λ (p : Parts P S). p.ledger.steps) h.leaves.others ∙ h.room.steps);
  listed = ap (λ (r : Recorded). r.entries) h.ledger ∙ ap (λ (p : Parts P S). p.ledger.entries) others ∙ h.closed.entries
      ∙ ap (λ l. l ++ draft.entries.items) (ap (λ (p : Parts P S). p.ledger.entries) h.leaves.others ∙ h.room.entries);
  did = ap (λ (r : Recorded). r.performed) h.ledger ∙ ap (λ (p : Parts P S). p.ledger.performed) others ∙ h.closed.performed
      ∙ ap (λ l. l ++ of_pieces draft.pieces.items) (ap (λ (p : Parts P S). p.ledger.performed) h.leaves.others ∙ h.room.performed);
  step_room = omega (arith, ap (λ (r : Recorded). r.step_room) h.ledger, ap (λ (p : Parts P S). p.ledger.step_room) others, h.closed.step_room, ap (λ (p : Parts P S). p.ledger.step_room) h.leaves.others, h.steps);
  piece_room = omega (arith, ap (λ (r : Recorded). r.piece_room) h.ledger, ap (λ (p : Parts P S). p.ledger.piece_room) others, h.closed.piece_room, ap (λ (p : Parts P S). p.ledger.piece_room) h.leaves.others, h.pieces);
  sent = omega (arith, h.sent, ap (λ (p : Parts P S). p.sent) others, h.closed.sent, sent2);
  swaps = h.swaps ∙ ap (λ (p : Parts P S). p.swaps) others ∙ h.closed.swaps ∙ h.leaves.swaps ∙ ap (swaps_after event) h.room.swaps;
}
  where
    others : s4 ≡ record s3 { nodes = s4.nodes }
    others = ended_others stood left event s3 s4 h.ended

    at_end : (see : Parts P S → Numbers) → see (record s3 { nodes = s4.nodes }) ≡ see s3 → see s4 ≡ see s3
    at_end see same = ap see others ∙ same

    sent2 : s2.sent ≡ s.sent
    sent2 = ap (λ (p : Parts P S). p.sent) h.leaves.others ∙ h.room.sent

changed : {P S : Type 0} (stood : Stood S) (left : Left S) (f : Frame) (w : World) (event : Event) (given : Known event) (draft : Draft P S) (fates : List Fate) (s s1 s2 s3 s4 new : Parts P S)
    → Here stood left f s w event given → IsDraft stood left f s w event draft (happens f w event given) → Calls stood left event draft fates s s1 s2 s3 s4 new
    → Changed stood left f s new event draft.outgoing.items draft.entries.items (of_pieces draft.pieces.items) draft.has_stirred fates (happens f w event given)
changed {P} {S} stood left f w event given draft fates s s1 s2 s3 s4 new h drafted calls = record {
  nodes = are;
  tasks = λ m i node r view at here out.
      let was = keeps m i node r view at here out in
      (alive f w event given m (h.is.tasks m i was.0 r view was.1 was.2 out).lives (now.members.spares m i node r view at here out), was);
  lives = now.lives;
  flights = now.flights;
  steps = now.steps;
  listed = now.listed;
  did = now.did;
  sent = now.sent;
  few = calls.few;
  swaps = now.swaps;
  idle = calls.idle ∙ ap (λ (n : ℕ). cond draft.has_stirred 0 (idle_after event n)) calls.room.idle;
  step_room = omega (arith, fewer, now.step_room);
  piece_room = omega (arith, fewer, now.piece_room);
}
  where
    now : Fields stood left event draft fates s new
    now = fields_of stood left event draft fates s s1 s2 s3 s4 new calls

    are : AreNodes stood left f new.nodes.items (happens f w event given).world
    are =
        now.members.each f (happens f w event given).world
        (subst (λ (l : List (Node P S)). AreNodes stood left f l (happens f w event given).world) (sym now.taken_is) drafted.nodes)

    keeps : KeepTasks s.nodes.items new.nodes.items
    keeps = now.members.keeps s.nodes.items (subst (KeepTasks s.nodes.items) (sym now.taken_is) drafted.tasks)

    fewer : all_outs (map outs_of new.nodes.items) ≤ all_outs (map outs_of s.nodes.items)
    fewer = tasks_fewer s.nodes.items new.nodes.items (are.count ∙ sym h.is.members) keeps

-- ---- the step

stepped_is : {P S : Type 0} (stood : Stood S) (left : Left S) (f : Frame) (w : World) (event : Event) (given : Known event) (draft : Draft P S) (fates : List Fate) (s s1 s2 s3 s4 new : Parts P S)
    → Here stood left f s w event given → IsDraft stood left f s w event draft (happens f w event given) → Calls stood left event draft fates s s1 s2 s3 s4 new
    → (length fates ≡ length (happens f w event given).mails) × IsWorld stood left f new (after_step f w (record { event = event; fates = fates }) given)
stepped_is stood left f w event given draft fates s s1 s2 s3 s4 new h drafted calls =
    let u = happens f w event given in
    let same = calls.closed.count ∙ outgoing_count f.settings.nodes draft.outgoing.items u.mails drafted.letters in (
      same,
      step_world stood left f s new w event given draft.outgoing.items draft.entries.items (of_pieces draft.pieces.items) draft.has_stirred fates h (draft_leaves stood left f s w event draft u drafted) same
          (changed stood left f w event given draft fates s s1 s2 s3 s4 new h drafted calls),
    )

pub step_stands : {P S : Type 0} (stood : Stood S) (left : Left S) (f : Frame) (event : Event) (draft : Draft P S) (fates : List Fate) (s s1 s2 s3 s4 new : Parts P S)
    → (h : Stands stood left f s) → standing f h.world ≡ Going → Drafts stood left f s event draft → Calls stood left event draft fates s s1 s2 s3 s4 new → Stands stood left f new
step_stands stood left f event draft fates s s1 s2 s3 s4 new h going drafts calls =
    let d = drafts h.world h.is in
    let here : Here stood left f s h.world event d.0 = record { stands = h; is = h.is; going = going; possible = d.1 } in
    record {
      numbers = subst (λ (n : Numbers). HasNumbers n f.settings) (sym (fields_of stood left event draft fates s s1 s2 s3 s4 new calls).numbers) h.numbers;
      settings = h.settings;
      laws = h.laws;
      world = after_step f h.world (record { event = event; fates = fates }) d.0;
      is = (stepped_is stood left f h.world event d.0 draft fates s s1 s2 s3 s4 new here d.2 calls).1;
    }

pub step_fewer : {P S : Type 0} (stood : Stood S) (left : Left S) (f : Frame) (event : Event) (draft : Draft P S) (fates : List Fate) (s s1 s2 s3 s4 new : Parts P S)
    → (h : Stands stood left f s) → standing f h.world ≡ Going → Drafts stood left f s event draft → Calls stood left event draft fates s s1 s2 s3 s4 new
    → tasks_out (seen_of new) ≤ tasks_out (seen_of s)
step_fewer {P} {S} stood left f event draft fates s s1 s2 s3 s4 new h going drafts calls =
    let d = drafts h.world h.is in
    let here : Here stood left f s h.world event d.0 = record { stands = h; is = h.is; going = going; possible = d.1 } in
    let c = changed stood left f h.world event d.0 draft fates s s1 s2 s3 s4 new here d.2 calls in
    tasks_fewer s.nodes.items new.nodes.items (c.nodes.count ∙ sym h.is.members) (λ m i node r view at there out. (c.tasks m i node r view at there out).1)

pub step_outs : {P S : Type 0} (stood : Stood S) (left : Left S) (f : Frame) (event : Event) (draft : Draft P S) (fates : List Fate) (s s1 s2 s3 s4 new : Parts P S)
    → (h : Stands stood left f s) → standing f h.world ≡ Going → Drafts stood left f s event draft → Calls stood left event draft fates s s1 s2 s3 s4 new → OutBefore (seen_of s) (seen_of new)
step_outs {P} {S} stood left f event draft fates s s1 s2 s3 s4 new h going drafts calls =
    let d = drafts h.world h.is in
    let here : Here stood left f s h.world event d.0 = record { stands = h; is = h.is; going = going; possible = d.1 } in
    let c = changed stood left f h.world event d.0 draft fates s s1 s2 s3 s4 new here d.2 calls in
    out_before s new (λ m i node r view at there out. (c.tasks m i node r view at there out).1)

either_none : {A : Type 0} (a b : Bool) (o : Option A) → cond b None (cond a None o) ≡ cond (a || b) None o
either_none true true o = refl
either_none true false o = refl
either_none false true o = refl
either_none false false o = refl

-- all others stay out
pub step_keeps : {P S : Type 0} (stood : Stood S) (left : Left S) (f : Frame) (event : Event) (draft : Draft P S) (fates : List Fate) (s s1 s2 s3 s4 new : Parts P S)
    → Stands stood left f s → Drafts stood left f s event draft → Calls stood left event draft fates s s1 s2 s3 s4 new → KeepsOut f event (seen_of s) (seen_of new)
step_keeps {P} {S} stood left f event draft fates s s1 s2 s3 s4 new h drafts calls w replays m i =
    let d = drafts w (is_world stood left f s (seen_of s) refl h w replays) in
    let now = fields_of stood left event draft fates s s1 s2 s3 s4 new calls in
    now.members.outs m i
    ∙ ap (λ (l : List (Node P S)). cond (is_crash_of event m) None (out_in l m i)) now.taken_is
    ∙ ap (λ (o : Option (Out S)). cond (is_crash_of event m) None o) (d.2.outs m i)
    ∙ either_none (is_burst_of f w event m i) (is_crash_of event m) (out_in s.nodes.items m i)

pub step_done : {P S : Type 0} (stood : Stood S) (left : Left S) (f : Frame) (event : Event) (draft : Draft P S) (fates : List Fate) (s s1 s2 s3 s4 new : Parts P S) (before told : List Asked)
    → Stands stood left f s → ((w : World) → IsWorld stood left f s w → standing f w ≡ Going) → Drafts stood left f s event draft → Calls stood left event draft fates s s1 s2 s3 s4 new
    → told ≡ before ++ asked_all s2.sent draft.outgoing.items fates → Stepped f event (seen_of s) (seen_of new) before told
step_done {P} {S} stood left f event draft fates s s1 s2 s3 s4 new before told h going drafts calls asked = record {
  step = record { event = event; fates = fates };
  event_is = refl;
  steps = (fields_of stood left event draft fates s s1 s2 s3 s4 new calls).steps;
  leads = leads;
}
  where
    step : Step
    step = record { event = event; fates = fates }

    sent2 : s2.sent ≡ s.sent
    sent2 = ap (λ (p : Parts P S). p.sent) calls.leaves.others ∙ calls.room.sent

    leads : (w : World) → Replays f s.ledger.steps w → Leads f w step before told
    leads w replays = record {
      world = after_step f w step d.0;
      next = record { given = d.0; going = going w is; possible = d.1; fates = all.0; after = refl };
      more = sends.0;
      told = sends.1 ∙ ap (λ (l : List Told). l ++ sends.0) works.told;
      asked = asked ∙ ap (λ (l : List Asked). before ++ l) sends.2;
      wire = subst (λ (n : ℕ). Each (λ (one : Told). one.wire ≡ n) sends.0) (sym (posts_is f (happens f w event d.0).world (happens f w event d.0).mails fates all.0).swaps) sends.3;
    }
      where
        is : IsWorld stood left f s w
        is = is_world stood left f s (seen_of s) refl h w replays

        d : (given : Known event) × Possible f w event given × IsDraft stood left f s w event draft (happens f w event given)
        d = drafts w is

        here : Here stood left f s w event d.0
        here = record { stands = h; is = is; going = going w is; possible = d.1 }

        works : Works w (happens f w event d.0)
        works = event_works f w event d.0 d.1

        all : (length fates ≡ length (happens f w event d.0).mails) × IsWorld stood left f new (after_step f w step d.0)
        all = stepped_is stood left f w event d.0 draft fates s s1 s2 s3 s4 new here d.2 calls

        sends : (more : List Told) × ((posts_all f (happens f w event d.0).world (happens f w event d.0).mails fates).told ≡ (happens f w event d.0).world.told ++ more) × (asked_all s2.sent draft.outgoing.items fates ≡ map told_so more)
            × Each (λ (one : Told). one.wire ≡ (happens f w event d.0).world.swaps) more
        sends = sent_asked f (happens f w event d.0).world draft.outgoing.items (happens f w event d.0).mails fates s2.sent d.2.letters all.0 (sent2 ∙ is.sent ∙ sym works.sent)
