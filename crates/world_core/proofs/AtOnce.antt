-- A process computes in one go: the last step is its burst, and the tasks that are out stay so.
use Rattle.std.proofs.Common.{◌≡◌, ◌≤◌, ◌<◌, ◌+◌, ◌-◌, ◌∙◌, ◌==◌, not, ℕ, zero, suc, false, List, [], ◌∷◌, ◌++◌, Option, Some, None, get_or, is_some, slice_get, slice_set, map, ap, sym, subst, refl, arith, length, append-nil}
use Rattle.orca_base.specs.declared.ids.ProcessNo.{ProcessNo}
use Rattle.object_manager.specs.After.{Copied}
use Rattle.book_law.specs.Performed.{placed}
use Rattle.book_law.specs.declared.placing.Placed.{Placed}
use Rattle.net_rules.specs.declared.fate.Fate.{Fate}
use Rattle.world_facts.specs.Ends.{turns_in}
use Rattle.world_law.specs.Holds.{Holds}
use Rattle.world_rules.specs.Bursts.{last_turn}
use Rattle.world_rules.specs.declared.event.Event.{Event}
use Rattle.world_rules.specs.declared.event.Event.TheVariants as event
use Rattle.world_rules.specs.declared.event.Step.{Step}
use Rattle.world_rules.specs.declared.standing.Standing.TheVariants.{Going}
use Rattle.world_rules.specs.Frame.{Frame}
use Rattle.world_rules.specs.Parts.{computes}
use Rattle.world_rules.specs.Standings.{standing}
use Rattle.world_rules.specs.Steps.{Burst, IsBurst, Next, Replays, after_part, after_step, bursts, untouched}
use Rattle.world_rules.specs.Worlds.{World, home_of, played_in}
use Rattle.node_core.specs.AtOnce.{HasBurst}
use Rattle.node_parts.specs.Shown.{Left, Stood}
use Rattle.node_core.specs.Stands.{StandsAs}
use Rattle.node_core.specs.declared.task.CheckedIn.{CheckedIn}
use Rattle.node_core.specs.declared.node.Node.{Node}
use Rattle.world_parts.proofs.Lists.{map_set}
use Rattle.world_parts.proofs.Worlds.{home_within, is_world}
use Rattle.world_parts.specs.Recorded.{Recorded}
use Rattle.world_parts.specs.Seen.{Out, all_outs, out_at, tasks_out}
use Rattle.world_parts.specs.Standing.{HasNumbers, IsWorld, Stands, out_of, outs_of, seen_of}
use Rattle.world_parts.specs.declared.parts.Numbers.{Numbers}
use Rattle.world_parts.specs.declared.parts.Parts.{Parts}
use Rattle.world_core.specs.Bursting.{HasRunOn, RunsTo}
use Rattle.world_core.specs.Stepping.{HasComputed}
use Rattle.world_core.specs.declared.burst.Ran.{Ran}
use Rattle.world_core.proofs.Adding.{nodes_added, tasks_added}
use Rattle.world_core.proofs.CheckingIn.{checked_on, none_of, told_none}
use Rattle.world_core.proofs.CheckingOut.{Ready, set_same}
use Rattle.world_core.proofs.Computed.{burst_leaves}
use Rattle.world_core.proofs.Doing.{Here}
use Rattle.world_core.proofs.Handing.{got_map}
use Rattle.world_core.proofs.Running.{Bursts, applied_low, ran_on, ran_so, ran_there, viewed_now, viewing}
use Rattle.world_core.proofs.Stepped.{Changed, Leaves, outgoing_count, step_world}
use Rattle.world_core.proofs.StayOut.{out_none}

-- ---- what each call left

-- of the parts before the room was made
pub record Takes {P S : Type 0} (s new : Parts P S) (home : ℕ) (event : Event) (ran : Ran P S) : Type 0 where
  pub numbers : new.numbers ≡ s.numbers
  pub nodes : new.nodes.items ≡ slice_set s.nodes.items home ran.node
  pub lives : new.lives.items ≡ s.lives.items
  pub flights : new.net.flights ≡ s.net.flights
  pub steps : new.ledger.steps ≡ s.ledger.steps ++ record { event = event; fates = [] } ∷ []
  pub entries : new.ledger.entries ≡ s.ledger.entries
  pub performed : new.ledger.performed ≡ s.ledger.performed ++ placed ran.burst.place ran.burst.reads.items
  pub step_room : tasks_out (seen_of s) ≤ new.ledger.step_room
  pub piece_room : tasks_out (seen_of s) ≤ new.ledger.piece_room
  pub sent : new.sent ≡ s.sent
  pub swaps : new.swaps ≡ s.swaps
  pub idle : new.idle ≡ 0

pub takes_of : {P S : Type 0} (s : Parts P S) (made piece last : Recorded) (home : ℕ) (event : Event) (fates : List Fate) (did : List Placed) (ran : Ran P S)
    → made ≡ record s.ledger { step_room = made.step_room; entry_room = made.entry_room; piece_room = made.piece_room } → tasks_out (seen_of s) + 1 ≤ made.step_room → tasks_out (seen_of s) + 1 ≤ made.piece_room
    → piece ≡ record made { performed = made.performed ++ did; piece_room = made.piece_room - 1 } → did ≡ placed ran.burst.place ran.burst.reads.items
    → last ≡ record piece { steps = piece.steps ++ record { event = event; fates = fates } ∷ []; step_room = piece.step_room - 1 } → fates ≡ []
    → Takes s (checked_on s home ran.node last) home event ran
takes_of {P} {S} s made piece last home event fates did ran same steps pieces kept did_is stepped none = record {
  numbers = refl;
  nodes = refl;
  lives = refl;
  flights = refl;
  steps = ap (λ (l : Recorded). l.steps) stepped ∙ ap (λ (l : Recorded). l.steps ++ record { event = event; fates = fates } ∷ []) kept
      ∙ ap (λ (l : Recorded). l.steps ++ record { event = event; fates = fates } ∷ []) same ∙ ap (λ (l : List Fate). s.ledger.steps ++ record { event = event; fates = l } ∷ []) none;
  entries = ap (λ (l : Recorded). l.entries) stepped ∙ ap (λ (l : Recorded). l.entries) kept ∙ ap (λ (l : Recorded). l.entries) same;
  performed = ap (λ (l : Recorded). l.performed) stepped ∙ ap (λ (l : Recorded). l.performed) kept
      ∙ ap (λ (l : Recorded). l.performed ++ did) same ∙ ap (λ (l : List Placed). s.ledger.performed ++ l) did_is;
  step_room = omega (arith, ap (λ (l : Recorded). l.step_room) stepped, ap (λ (l : Recorded). l.step_room) kept, steps);
  piece_room = omega (arith, ap (λ (l : Recorded). l.piece_room) stepped, ap (λ (l : Recorded). l.piece_room) kept, pieces);
  sent = refl;
  swaps = refl;
  idle = refl;
}

-- on its member's copies as they are
pub record HasRunNow {P S : Type 0} (stood : Stood S) (left : Left S) (f : Frame) (i : ProcessNo) (home : ℕ) (s : Parts P S) (ran : Ran P S) : Type 0 where
  pub before : Node P S
  pub here : Some before ≡ slice_get s.nodes.items home
  pub computed : HasRunOn stood left f i (record { objects = before.copies.objects; place = before.copies.applied }) before ran

pub ran_now : {P S : Type 0} (stood : Stood S) (left : Left S) (f : Frame) (s : Parts P S) (i : ProcessNo) (home : ℕ) (before node : Node P S) (checked : CheckedIn) (turns : ℕ) → slice_get s.nodes.items home ≡ Some before
    → HasBurst stood left f i (record { objects = before.copies.objects; place = before.copies.applied }) checked turns before node → HasRunNow stood left f i home s (record { node = node; burst = checked; turns = turns })
ran_now stood left f s i home before node checked turns at has = record {
  before = before;
  here = sym at;
  computed = ran_on stood left f i (viewing before.copies.objects before.copies.applied) before before node checked turns (λ f m v stands. stands)
      (record { copies = refl; known = refl; residents = refl; held = refl; given = refl; choices = refl }) has;
}

-- ---- the process, in a world for which the parts stand

pub record Now {P S : Type 0} (stood : Stood S) (left : Left S) (f : Frame) (s : Parts P S) (w : World) (i : ProcessNo) (home start : ℕ) : Type 0 where
  pub stands : Stands stood left f s
  pub is : IsWorld stood left f s w
  pub going : standing f w ≡ Going
  pub ready : Ready f s w i
  pub at_home : home ≡ home_of f w i.0
  pub from : start ≡ turns_in (played_in f w i.0)

-- it computes at its member's own place
bursts_now : {P S : Type 0} (stood : Stood S) (left : Left S) (f : Frame) (s : Parts P S) (w : World) (i : ProcessNo) (home start : ℕ) (node : Node P S) → Now stood left f s w i home start → Some node ≡ slice_get s.nodes.items home
    → Bursts stood left f s w i node.copies.applied
bursts_now stood left f s w i home start node h at =
    let hold : Holds f w = h.stands.laws.hold f refl refl h.stands.settings s.ledger.steps w h.is.replays in
    let applied = ap (λ (c : Copied). c.applied) (h.is.nodes home node (sym at)).copies in
    let low : node.copies.applied ≤ (w.nodes home).member.applied = omega (arith, applied, hold.grouped.level home) in
    record {
      start = h.ready.start;
      here = h.ready.here;
      lives = h.ready.lives;
      computing = h.ready.computing;
      after = omega (arith, hold.places.processes home i.0 h.ready.start (ap (λ (m : ℕ). (w.nodes m).played i.0) h.at_home ∙ h.ready.here), applied);
      before = subst (λ (m : ℕ). node.copies.applied ≤ (w.nodes m).member.applied) h.at_home low;
    }

-- it took turns, a burst's at most
pub took_some : {P S : Type 0} (stood : Stood S) (left : Left S) (f : Frame) (s : Parts P S) (w : World) (i : ProcessNo) (home start : ℕ) (ran : Ran P S) → Now stood left f s w i home start → HasRunNow stood left f i home s ran
    → (start ≤ ran.turns) × (ran.turns ≤ start + 10000)
took_some stood left f s w i home start ran h run =
    let b = bursts_now stood left f s w i home start run.before h run.here in
    let r = ran_there stood left f s w i run.before.copies.applied home (viewing run.before.copies.objects run.before.copies.applied) run.before ran h.is b h.at_home run.here run.computed in
    let last : last_turn f b.start ≤ b.start.turns + 10000 = omega arith in
    (omega (arith, h.from, ap turns_in b.here, r.least, r.turns), omega (arith, h.from, ap turns_in b.here, r.most, r.turns, last))

-- ---- tasks

get_in : {A : Type 0} (xs : List A) (k : ℕ) (d : A) → k < length xs → slice_get xs k ≡ Some (get_or xs k d)
get_in [] k d lt = absurd (omega (arith, lt))
get_in (x ∷ xs) zero d lt = refl
get_in (x ∷ xs) (suc k) d lt = get_in xs k d (omega (arith, lt))

get_mapped : {A B : Type 0} (f : A → B) (xs : List A) (k : ℕ) (x : A) → slice_get xs k ≡ Some x → slice_get (map f xs) k ≡ Some (f x)
get_mapped f [] k x at = absurd (cc at)
get_mapped f (y ∷ xs) zero x at = let e : y ≡ x = cc in ap (λ z. Some (f z)) e
get_mapped f (y ∷ xs) (suc k) x at = get_mapped f xs k x at

mapped_count : {A B : Type 0} (f : A → B) (xs : List A) → length (map f xs) ≡ length xs
mapped_count f [] = refl
mapped_count f (x ∷ xs) = ap suc (mapped_count f xs)

nothing_some : {A : Type 0} (o : Option A) → is_some o ≡ false → o ≡ None
nothing_some None h = refl
nothing_some (Some x) h = absurd (cc h)

-- the member's tasks are the same
node_outs : {P S : Type 0} (stood : Stood S) (left : Left S) (f : Frame) (s : Parts P S) (w : World) (i : ProcessNo) (home start : ℕ) (ran : Ran P S) → Now stood left f s w i home start → (run : HasRunNow stood left f i home s ran)
    → outs_of ran.node ≡ outs_of run.before
node_outs {P} {S} stood left f s w i home start ran h run =
    ap (map out_of) has.residents ∙ map_set out_of run.before.residents.items i.0 (Some has.after)
    ∙ ap (slice_set (outs_of run.before) i.0) (out_none has.after has.back ∙ sym nobody) ∙ set_same (outs_of run.before) i.0 _ (get_in (outs_of run.before) i.0 None (omega (arith, has.there, mapped_count out_of run.before.residents.items)))
  where
    has : HasRunOn stood left f i (viewing run.before.copies.objects run.before.copies.applied) run.before ran
    has = run.computed

    nobody : get_or (outs_of run.before) i.0 None ≡ None
    nobody =
        sym (ap (λ (l : List (Option (Out S))). get_or l i.0 None) (got_map outs_of s.nodes.items home run.before [] (sym run.here)))
        ∙ ap (λ (m : ℕ). out_at (seen_of s) m i.0) h.at_home ∙ nothing_some (out_at (seen_of s) (home_of f w i.0) i.0) h.ready.nobody

-- and so are those of all
pub outs_still : {P S : Type 0} (stood : Stood S) (left : Left S) (f : Frame) (s new : Parts P S) (w : World) (i : ProcessNo) (home start : ℕ) (event : Event) (ran : Ran P S) → Now stood left f s w i home start
    → HasRunNow stood left f i home s ran → Takes s new home event ran → map outs_of new.nodes.items ≡ map outs_of s.nodes.items
outs_still {P} {S} stood left f s new w i home start event ran h run takes =
    ap (map outs_of) takes.nodes ∙ map_set outs_of s.nodes.items home ran.node
    ∙ ap (slice_set (map outs_of s.nodes.items) home) (node_outs stood left f s w i home start ran h run)
    ∙ set_same (map outs_of s.nodes.items) home (outs_of run.before) (get_mapped outs_of s.nodes.items home run.before (sym run.here))

-- ---- the step

computed_is : {P S : Type 0} (stood : Stood S) (left : Left S) (f : Frame) (s new : Parts P S) (w : World) (i : ProcessNo) (home start : ℕ) (ran : Ran P S) → Now stood left f s w i home start → HasRunNow stood left f i home s ran
    → Takes s new home (event.Burst i ran.burst.place (ran.turns - start)) ran
    → (burst : Burst) × IsBurst f w i ran.burst.place (ran.turns - start) burst × (0 ≡ length (bursts f w i ran.burst.place burst).mails)
    × IsWorld stood left f new (after_step f w (record { event = event.Burst i ran.burst.place (ran.turns - start); fates = [] }) burst)
computed_is {P} {S} stood left f s new w i home start ran h run takes =
    (burst, possible, nothing, step_world stood left f s new w (event.Burst i ran.burst.place (ran.turns - start)) burst [] [] (placed ran.burst.place burst.reads) (not (length burst.reads == 0)) [] here leaves nothing changed)
  where
    where_is : ran.burst.place ≡ run.before.copies.applied
    where_is = run.computed.place

    b : Bursts stood left f s w i run.before.copies.applied
    b = bursts_now stood left f s w i home start run.before h run.here

    r : RunsTo stood left f i (viewing run.before.copies.objects run.before.copies.applied) home (w.nodes home) b.start ran
    r = ran_there stood left f s w i run.before.copies.applied home (viewing run.before.copies.objects run.before.copies.applied) run.before ran h.is b h.at_home run.here run.computed

    burst : Burst
    burst = record { reads = ran.burst.reads.items; end = r.ended }

    there : IsBurst f w i run.before.copies.applied (ran.turns - start) burst
    there = record {
      start = b.start;
      here = b.here;
      lives = b.lives;
      computing = b.computing;
      after = b.after;
      before = b.before;
      ran = ran_so stood left f s w i run.before.copies.applied home (viewing run.before.copies.objects run.before.copies.applied) ran b h.at_home
          (viewed_now stood left f s w home run.before.copies.applied run.before (viewing run.before.copies.objects run.before.copies.applied) h.stands h.is run.here refl refl) r;
      took = omega (arith, h.from, ap turns_in b.here, r.turns, r.least);
    }

    possible : IsBurst f w i ran.burst.place (ran.turns - start) burst
    possible = subst (λ (n : ℕ). IsBurst f w i n (ran.turns - start) burst) (sym where_is) there

    here : Here stood left f s w (event.Burst i ran.burst.place (ran.turns - start)) burst
    here = record { stands = h.stands; is = h.is; going = h.going; possible = possible }

    within : home_of f w i.0 < f.settings.nodes
    within = home_within stood left f s w h.stands i.0

    leaves : Leaves f s w [] [] (placed ran.burst.place burst.reads) (not (length burst.reads == 0)) (bursts f w i ran.burst.place burst)
    leaves = burst_leaves stood left f s w i ran.burst.place burst h.is within (applied_low stood left f s w h.stands h.is (home_of f w i.0) within ran.burst.place possible.before)

    nothing : 0 ≡ length (bursts f w i ran.burst.place burst).mails
    nothing = outgoing_count f.settings.nodes [] (bursts f w i ran.burst.place burst).mails leaves.letters

    stood_after : StandsAs stood left f home ran.node (computes i.0 ran.burst.place burst.reads burst.end (w.nodes home)).node
    stood_after = subst (λ (n : ℕ). StandsAs stood left f home ran.node (computes i.0 n burst.reads burst.end (w.nodes home)).node) (sym where_is) r.node

    same : tasks_out (seen_of new) ≡ tasks_out (seen_of s)
    same = ap all_outs (outs_still stood left f s new w i home start (event.Burst i ran.burst.place (ran.turns - start)) ran h run takes)

    at_home : Changed stood left f s new (event.Burst i ran.burst.place (ran.turns - start)) [] [] (placed ran.burst.place burst.reads) (not (length burst.reads == 0)) [] (after_part f home (computes i.0 ran.burst.place burst.reads burst.end (w.nodes home)) (untouched w))
    at_home = record {
      nodes = nodes_added stood left f s.nodes.items new.nodes.items home ran.node (computes i.0 ran.burst.place burst.reads burst.end (w.nodes home)) (untouched w) (record { count = h.is.members; each = h.is.nodes }) takes.nodes stood_after;
      tasks = λ m j other r view at there out.
          let was = tasks_added s.nodes.items s.nodes.items new.nodes.items home run.before ran.node (λ m j other r view at here out. (other, at, here)) takes.nodes (sym run.here) run.computed.only m j other r view at there out in
          ((h.is.tasks m j was.0 r view was.1 was.2 out).lives, was);
      lives = takes.lives;
      flights = takes.flights;
      steps = takes.steps;
      listed = takes.entries ∙ sym (append-nil s.ledger.entries);
      did = takes.performed;
      sent = omega (arith, takes.sent);
      few = omega arith;
      swaps = takes.swaps;
      idle = takes.idle ∙ sym (none_of (not (length burst.reads == 0)));
      step_room = omega (arith, same, takes.step_room);
      piece_room = omega (arith, same, takes.piece_room);
    }

    changed : Changed stood left f s new (event.Burst i ran.burst.place (ran.turns - start)) [] [] (placed ran.burst.place burst.reads) (not (length burst.reads == 0)) [] (bursts f w i ran.burst.place burst)
    changed = subst (λ (m : ℕ). Changed stood left f s new (event.Burst i ran.burst.place (ran.turns - start)) [] [] (placed ran.burst.place burst.reads) (not (length burst.reads == 0)) [] (after_part f m (computes i.0 ran.burst.place burst.reads burst.end (w.nodes m)) (untouched w))) h.at_home at_home

pub computed_stands : {P S : Type 0} (stood : Stood S) (left : Left S) (f : Frame) (s new : Parts P S) (i : ProcessNo) (home start : ℕ) (ran : Ran P S) → (stands : Stands stood left f s) → Now stood left f s stands.world i home start
    → HasRunNow stood left f i home s ran → Takes s new home (event.Burst i ran.burst.place (ran.turns - start)) ran → Stands stood left f new
computed_stands stood left f s new i home start ran stands h run takes =
    let c = computed_is stood left f s new stands.world i home start ran h run takes in
    record {
      numbers = subst (λ (n : Numbers). HasNumbers n f.settings) (sym takes.numbers) stands.numbers;
      settings = stands.settings;
      laws = stands.laws;
      world = after_step f stands.world (record { event = event.Burst i ran.burst.place (ran.turns - start); fates = [] }) c.0;
      is = c.3;
    }

pub has_computed : {P S : Type 0} (stood : Stood S) (left : Left S) (f : Frame) (s new : Parts P S) (i : ProcessNo) (home start : ℕ) (ran : Ran P S) → Stands stood left f s
    → ((w : World) → IsWorld stood left f s w → Now stood left f s w i home start) → HasRunNow stood left f i home s ran → Takes s new home (event.Burst i ran.burst.place (ran.turns - start)) ran
    → HasComputed f i (seen_of s) (seen_of new)
has_computed {P} {S} stood left f s new i home start ran stands all run takes = record {
  place = ran.burst.place;
  turns = ran.turns - start;
  now = λ w replays.
      let h = all w (is_world stood left f s (seen_of s) refl stands w replays) in
      run.computed.place ∙ ap (λ (c : Copied). c.applied) (h.is.nodes home run.before (sym run.here)).copies ∙ ap (λ (m : ℕ). (w.nodes m).copies.applied) h.at_home;
  steps = takes.steps;
  leads = leads;
}
  where
    step : Step
    step = record { event = event.Burst i ran.burst.place (ran.turns - start); fates = [] }

    leads : (w : World) → Replays f s.ledger.steps w → (v : World) × Next f w step v × (v.told ≡ w.told)
    leads w replays =
        let h = all w (is_world stood left f s (seen_of s) refl stands w replays) in
        let c = computed_is stood left f s new w i home start ran h run takes in (
          after_step f w step c.0,
          record { given = c.0; going = h.going; possible = c.1; fates = c.2; after = refl },
          told_none f (bursts f w i ran.burst.place c.0).world (bursts f w i ran.burst.place c.0).mails,
        )
