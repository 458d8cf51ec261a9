-- A burst is checked in: the last step now, with one task fewer.
use Rattle.std.proofs.Common.{◌≡◌, ◌<◌, ◌+◌, ◌-◌, ◌∙◌, ⊎_elim, ◌==◌, ◌&&◌, not, ℕ, Bool, true, false, cond, List, [], ◌∷◌, ◌++◌, Option, None, Some, is_some, option_map, slice_get, slice_set, map, ap, sym, subst, refl, arith, length, append-nil}
use Rattle.std.proofs.lemmas.Bool.{cases_eq}
use Rattle.std.proofs.lemmas.Option.{slice_get_within}
use Rattle.std.specs.Vec.{with_item}
use Rattle.value_core.specs.declared.action.Line.{Line}
use Rattle.object_manager.specs.Viewed.{Viewed}
use Rattle.book_law.specs.Performed.{placed}
use Rattle.group_rules.specs.Sets.{with_at}
use Rattle.world_facts.specs.Ends.{turns_in}
use Rattle.world_rules.specs.declared.event.Event.TheVariants as event
use Rattle.world_rules.specs.declared.event.Step.{Step}
use Rattle.world_rules.specs.declared.standing.Standing.TheVariants.{Going}
use Rattle.world_rules.specs.Frame.{Frame}
use Rattle.world_rules.specs.Mail.{Mail}
use Rattle.world_rules.specs.Parts.{computes}
use Rattle.world_rules.specs.Played.{Played}
use Rattle.world_rules.specs.Standings.{standing}
use Rattle.world_rules.specs.Steps.{Burst, IsBurst, Next, Replays, after_part, after_step, bursts, posts_all, untouched}
use Rattle.world_rules.specs.Worlds.{World, home_of, played_in}
use Rattle.node_core.specs.CheckingIn.{HasCheckedIn, IsOutFor, IsStray, after_burst}
use Rattle.node_core.specs.Pieces.{resident_at}
use Rattle.node_parts.specs.Shown.{IsPlayedIf, Left, Stood}
use Rattle.node_core.specs.Stands.{StandsAs}
use Rattle.node_core.specs.Tasks.{Computed}
use Rattle.node_core.specs.declared.node.Node.{Node}
use Rattle.node_parts.specs.declared.resident.Resident.{Resident}
use Rattle.node_core.specs.declared.task.CheckedIn.{CheckedIn}
use Rattle.node_core.proofs.TakingIn.{within_of}
use Rattle.world_parts.proofs.Worlds.{home_within, is_world}
use Rattle.world_parts.specs.Recorded.{Recorded}
use Rattle.world_parts.specs.Seen.{Out, all_outs, out_at, tasks_out}
use Rattle.world_parts.specs.Standing.{HasNumbers, IsWorld, Stands, has_out, out_of, outs_of, seen_of}
use Rattle.world_parts.specs.declared.parts.Numbers.{Numbers}
use Rattle.world_parts.specs.declared.parts.Parts.{Parts}
use Rattle.world_core.specs.Stepping.{ChecksIn, IsAstray, out_as}
use Rattle.world_core.proofs.Adding.{nodes_added, tasks_added, with_other, with_own}
use Rattle.world_core.proofs.Computed.{burst_leaves}
use Rattle.world_core.proofs.Doing.{Here}
use Rattle.world_core.proofs.Handing.{all_changed, outs_changed, puts_out, seen_there}
use Rattle.world_core.proofs.Running.{applied_low}
use Rattle.world_core.proofs.Stepped.{Changed, Leaves, outgoing_count, step_world}
use Rattle.world_core.proofs.TakenIn.{Bursts, Checks, burst_of, played_as}

abbrev pub checked_on : {P S : Type 0} → Parts P S → ℕ → Node P S → Recorded → Parts P S
checked_on s home after ledger = record s { nodes = with_item s.nodes home after; ledger = ledger; idle = 0 }

-- what changed of the parts
pub record Ends {P S : Type 0} (s new : Parts P S) (home turns : ℕ) (done : Computed S) (checked : CheckedIn) (before after : Node P S) : Type 0 where
  pub there : slice_get s.nodes.items home ≡ Some before
  pub numbers : new.numbers ≡ s.numbers
  pub nodes : new.nodes.items ≡ slice_set s.nodes.items home after
  pub lives : new.lives.items ≡ s.lives.items
  pub flights : new.net.flights ≡ s.net.flights
  pub steps : new.ledger.steps ≡ s.ledger.steps ++ record { event = event.Burst done.process checked.place turns; fates = [] } ∷ []
  pub entries : new.ledger.entries ≡ s.ledger.entries
  pub performed : new.ledger.performed ≡ s.ledger.performed ++ placed checked.place checked.reads.items
  pub step_room : new.ledger.step_room ≡ s.ledger.step_room - 1
  pub piece_room : new.ledger.piece_room ≡ s.ledger.piece_room - 1
  pub sent : new.sent ≡ s.sent
  pub swaps : new.swaps ≡ s.swaps
  pub idle : new.idle ≡ 0

-- ---- tasks

-- there was one
pub one_out : {P S : Type 0} (stood : Stood S) (left : Left S) (f : Frame) (s : Parts P S) (home : ℕ) (done : Computed S) (checked : CheckedIn) (before after : Node P S) → slice_get s.nodes.items home ≡ Some before
    → HasCheckedIn stood left f done checked before after → all_outs (map outs_of (slice_set s.nodes.items home after)) + 1 ≡ tasks_out (seen_of s)
one_out {P} {S} stood left f s home done checked before after there has =
    let a = outs_changed done.process.0 (after_burst done has.resident) before after has.changed (within_of before.residents.items done.process.0 has.resident has.here) in
    let b = all_changed s.nodes.items home before after there (slice_get_within s.nodes.items home before there) in
    let c : ◌≡◌ {A = ℕ} (cond (has_out (resident_at before done.process.0)) 1 0) 1 = ap (λ (o : Option (Resident S)). cond (has_out o) 1 0) has.here ∙ ap (λ (o : Option Viewed). cond (is_some o) 1 0) has.out.0 in
    omega (arith, a, b, c)

-- no other is new
only : {P S : Type 0} (stood : Stood S) (left : Left S) (f : Frame) (done : Computed S) (checked : CheckedIn) (before after : Node P S) → HasCheckedIn stood left f done checked before after
    → (j : ℕ) (r : Resident S) (view : Viewed) → resident_at after j ≡ Some r → r.out ≡ Some view → resident_at before j ≡ Some r
only {P} {S} stood left f done checked before after has j r view there out_is = ⊎_elim own other (cases_eq j done.process.0)
  where
    own : j ≡ done.process.0 → resident_at before j ≡ Some r
    own e =
        let put = sym there ∙ has.changed.put.put j ∙ ap (with_at (resident_at before) done.process.0 (Some (after_burst done has.resident))) e ∙ with_own (resident_at before) done.process.0 (Some (after_burst done has.resident)) in
        let same : r ≡ after_burst done has.resident = cc put in
        let n : ◌≡◌ {A = Option Viewed} (Some view) None = sym out_is ∙ ap (λ (t : Resident S). t.out) same in
        absurd (cc n)

    other : (j ≡ done.process.0 → ⊥) → resident_at before j ≡ Some r
    other apart = sym (has.changed.put.put j ∙ with_other (resident_at before) done.process.0 _ j apart) ∙ there

-- ---- turns

-- they are those of the process, as its member has it
pub turns_there : {P S : Type 0} (stood : Stood S) (left : Left S) (f : Frame) (s : Parts P S) (w : World) (home start : ℕ) (done : Computed S) (before : Node P S) (resident : Resident S) → IsWorld stood left f s w → home ≡ home_of f w done.process.0
    → slice_get s.nodes.items home ≡ Some before → resident_at before done.process.0 ≡ Some resident → start ≡ turns_in (played_in f w done.process.0) → start ≡ resident.turns
turns_there {P} {S} stood left f s w home start done before resident is at_home there here from =
    let stands = is.nodes home before there in
    let plays = played_as stood left done.process.0 resident ((w.nodes home).played done.process.0) (subst (λ (o : Option (Resident S)). IsPlayedIf stood left done.process.0 o ((w.nodes home).played done.process.0)) here (stands.residents done.process.0)) in
    from ∙ ap turns_in (sym (ap (λ (m : ℕ). (w.nodes m).played done.process.0) at_home) ∙ plays.1) ∙ sym plays.2.turns

-- ---- the step

pub told_none : (f : Frame) (w : World) (mails : List Mail) → (posts_all f w mails []).told ≡ w.told
told_none f w [] = refl
told_none f w (mail ∷ mails) = refl

pub none_of : (b : Bool) → ◌≡◌ {A = ℕ} (cond b 0 0) 0
none_of true = refl
none_of false = refl

checked_is : {P S : Type 0} (stood : Stood S) (left : Left S) (f : Frame) (s new : Parts P S) (w : World) (home turns : ℕ) (done : Computed S) (checked : CheckedIn) (before after : Node P S)
    → (h : Checks stood left f s w home done checked before after) → Ends s new home turns done checked before after → turns ≡ done.turns - h.has.resident.turns
    → (burst : Burst) × IsBurst f w done.process checked.place turns burst × (0 ≡ length (bursts f w done.process checked.place burst).mails)
    × IsWorld stood left f new (after_step f w (record { event = event.Burst done.process checked.place turns; fates = [] }) burst)
checked_is {P} {S} stood left f s new w home turns done checked before after h ends took =
    (b.burst, possible, nothing, step_world stood left f s new w (event.Burst done.process checked.place turns) b.burst [] [] (placed checked.place b.burst.reads) (not (length b.burst.reads == 0)) [] here leaves nothing changed)
  where
    b : Bursts stood left f w home done h.has.resident after
    b = burst_of stood left f s w home done checked before after h

    possible : IsBurst f w done.process checked.place turns b.burst
    possible =
        subst (λ (n : ℕ). IsBurst f w done.process checked.place n b.burst) (sym took)
        (subst (λ (n : ℕ). IsBurst f w done.process n (done.turns - h.has.resident.turns) b.burst) (sym h.has.place) b.possible)

    here : Here stood left f s w (event.Burst done.process checked.place turns) b.burst
    here = record { stands = h.stands; is = h.is; going = h.going; possible = possible }

    within : home_of f w done.process.0 < f.settings.nodes
    within = home_within stood left f s w h.stands done.process.0

    leaves : Leaves f s w [] [] (placed checked.place b.burst.reads) (not (length b.burst.reads == 0)) (bursts f w done.process checked.place b.burst)
    leaves = burst_leaves stood left f s w done.process checked.place b.burst h.is within (applied_low stood left f s w h.stands h.is (home_of f w done.process.0) within checked.place possible.before)

    nothing : 0 ≡ length (bursts f w done.process checked.place b.burst).mails
    nothing = outgoing_count f.settings.nodes [] (bursts f w done.process checked.place b.burst).mails leaves.letters

    stood_after : StandsAs stood left f home after (computes done.process.0 checked.place b.burst.reads b.burst.end (w.nodes home)).node
    stood_after = subst (λ (n : ℕ). StandsAs stood left f home after (computes done.process.0 n b.burst.reads b.burst.end (w.nodes home)).node) (sym h.has.place) b.stands

    reads : checked.reads.items ≡ b.burst.reads
    reads = h.has.reads ∙ sym b.reads

    count : tasks_out (seen_of new) + 1 ≡ tasks_out (seen_of s)
    count = ap (λ (l : List (Node P S)). all_outs (map outs_of l) + 1) ends.nodes ∙ one_out stood left f s home done checked before after ends.there h.has

    at_home : Changed stood left f s new (event.Burst done.process checked.place turns) [] [] (placed checked.place b.burst.reads) (not (length b.burst.reads == 0)) [] (after_part f home (computes done.process.0 checked.place b.burst.reads b.burst.end (w.nodes home)) (untouched w))
    at_home = record {
      nodes = nodes_added stood left f s.nodes.items new.nodes.items home after (computes done.process.0 checked.place b.burst.reads b.burst.end (w.nodes home)) (untouched w) (record { count = h.is.members; each = h.is.nodes }) ends.nodes stood_after;
      tasks = λ m i node r view at there out.
          let was = tasks_added s.nodes.items s.nodes.items new.nodes.items home before after (λ m j other r view at here out. (other, at, here)) ends.nodes ends.there (only stood left f done checked before after h.has) m i node r view at there out in
          ((h.is.tasks m i was.0 r view was.1 was.2 out).lives, was);
      lives = ends.lives;
      flights = ends.flights;
      steps = ends.steps;
      listed = ends.entries ∙ sym (append-nil s.ledger.entries);
      did = ends.performed ∙ ap (λ (l : List Line). s.ledger.performed ++ placed checked.place l) reads;
      sent = omega (arith, ends.sent);
      few = omega arith;
      swaps = ends.swaps;
      idle = ends.idle ∙ sym (none_of (not (length b.burst.reads == 0)));
      step_room = omega (arith, count, ends.step_room, h.is.step_room);
      piece_room = omega (arith, count, ends.piece_room, h.is.piece_room);
    }

    changed : Changed stood left f s new (event.Burst done.process checked.place turns) [] [] (placed checked.place b.burst.reads) (not (length b.burst.reads == 0)) [] (bursts f w done.process checked.place b.burst)
    changed = subst (λ (m : ℕ). Changed stood left f s new (event.Burst done.process checked.place turns) [] [] (placed checked.place b.burst.reads) (not (length b.burst.reads == 0)) [] (after_part f m (computes done.process.0 checked.place b.burst.reads b.burst.end (w.nodes m)) (untouched w))) h.at_home at_home

pub checked_stands : {P S : Type 0} (stood : Stood S) (left : Left S) (f : Frame) (s new : Parts P S) (home turns : ℕ) (done : Computed S) (checked : CheckedIn) (before after : Node P S) → (stands : Stands stood left f s)
    → (h : Checks stood left f s stands.world home done checked before after) → Ends s new home turns done checked before after → turns ≡ done.turns - h.has.resident.turns → Stands stood left f new
checked_stands stood left f s new home turns done checked before after stands h ends took =
    let c = checked_is stood left f s new stands.world home turns done checked before after h ends took in
    record {
      numbers = subst (λ (n : Numbers). HasNumbers n f.settings) (sym ends.numbers) stands.numbers;
      settings = stands.settings;
      laws = stands.laws;
      world = after_step f stands.world (record { event = event.Burst done.process checked.place turns; fates = [] }) c.0;
      is = c.3;
    }

pub checked_fewer : {P S : Type 0} (stood : Stood S) (left : Left S) (f : Frame) (s new : Parts P S) (home turns : ℕ) (done : Computed S) (checked : CheckedIn) (before after : Node P S) → HasCheckedIn stood left f done checked before after
    → Ends s new home turns done checked before after → tasks_out (seen_of new) + 1 ≡ tasks_out (seen_of s)
checked_fewer {P} {S} stood left f s new home turns done checked before after has ends =
    ap (λ (l : List (Node P S)). all_outs (map outs_of l) + 1) ends.nodes ∙ one_out stood left f s home done checked before after ends.there has

-- ---- what is seen of it

-- the task that is out is the one from which that was computed
out_for : {S : Type 0} (done : Computed S) (r : Resident S) → IsOutFor done (Some r) → out_of (Some r) ≡ Some (out_as done.start done.calls done.view)
out_for {S} done r h =
    ap (λ (o : Option Viewed). option_map (λ (v : Viewed). out_as r.state r.calls v) o) h.0
    ∙ ap (λ (x : S). Some (out_as x r.calls done.view)) h.1 ∙ ap (λ (n : ℕ). Some (out_as done.start n done.view)) h.2

for_out : {S : Type 0} (done : Computed S) (o : Option (Resident S)) → out_of o ≡ Some (out_as done.start done.calls done.view) → IsOutFor done o
for_out done None h = absurd (cc h)
for_out {S} done (Some r) h = go r.out refl h
  where
    go : (v : Option Viewed) → r.out ≡ v → option_map (λ (view : Viewed). out_as r.state r.calls view) v ≡ Some (out_as done.start done.calls done.view) → IsOutFor done (Some r)
    go None is h = absurd (cc h)
    go (Some view) is h =
        let e : out_as r.state r.calls view ≡ out_as done.start done.calls done.view = cc h in
        (is ∙ ap Some (ap (λ (t : Out S). t.view) e), ap (λ (t : Out S). t.start) e, ap (λ (t : Out S). t.calls) e)

pub checks_in : {P S : Type 0} (stood : Stood S) (left : Left S) (f : Frame) (s new : Parts P S) (home turns : ℕ) (done : Computed S) (checked : CheckedIn) (before after : Node P S) → (stands : Stands stood left f s)
    → ((w : World) → IsWorld stood left f s w → (h : Checks stood left f s w home done checked before after) × (turns ≡ done.turns - h.has.resident.turns)) → HasCheckedIn stood left f done checked before after
    → Ends s new home turns done checked before after → ChecksIn f done (seen_of s) (seen_of new)
checks_in {P} {S} stood left f s new home turns done checked before after stands checks has ends = record {
  turns = turns;
  was = λ w replays.
      let h = (checks w (is_world stood left f s (seen_of s) refl stands w replays)).0 in
      ap (λ (m : ℕ). out_at (seen_of s) m done.process.0) (sym h.at_home) ∙ seen_there s.nodes.items home done.process.0 before ends.there ∙ ap out_of has.here ∙ out_for done has.resident has.out;
  steps = ends.steps ∙ ap (λ (n : ℕ). s.ledger.steps ++ record { event = event.Burst done.process n turns; fates = [] } ∷ []) has.place;
  leads = λ w replays. subst (λ (n : ℕ). (v : World) × Next f w (record { event = event.Burst done.process n turns; fates = [] }) v × (v.told ≡ w.told)) has.place (leads w replays);
  took = took;
  out = λ w replays m j.
      puts_out s new home done.process.0 (after_burst done has.resident) before after None ends.there (slice_get_within s.nodes.items home before ends.there) ends.nodes has.changed refl m j
      ∙ ap (λ (k : ℕ). cond ((m == k) && (j == done.process.0)) None (out_at (seen_of s) m j)) (checks w (is_world stood left f s (seen_of s) refl stands w replays)).0.at_home;
}
  where
    step : Step
    step = record { event = event.Burst done.process checked.place turns; fates = [] }

    leads : (w : World) → Replays f s.ledger.steps w → (v : World) × Next f w step v × (v.told ≡ w.told)
    leads w replays =
        let is = is_world stood left f s (seen_of s) refl stands w replays in
        let h = checks w is in
        let c = checked_is stood left f s new w home turns done checked before after h.0 ends h.1 in (
          after_step f w step c.0,
          record { given = c.0; going = h.0.going; possible = c.1; fates = c.2; after = refl },
          told_none f (bursts f w done.process checked.place c.0).world (bursts f w done.process checked.place c.0).mails,
        )

    took : (w : World) → Replays f s.ledger.steps w → (r : Played) → played_in f w done.process.0 ≡ Some r → r.turns + turns ≡ done.turns
    took w replays r known =
        let is = is_world stood left f s (seen_of s) refl stands w replays in
        let h = checks w is in
        let b = burst_of stood left f s w home done checked before after h.0 in
        let same = turns_there stood left f s w home (turns_in (played_in f w done.process.0)) done before h.0.has.resident is h.0.at_home ends.there h.0.has.here refl in
        omega (arith, h.1, b.least, same, ap turns_in known)

-- what comes back astray
pub astray_still : {P S : Type 0} (stood : Stood S) (left : Left S) (f : Frame) (s : Parts P S) (done back : Computed S) → Stands stood left f s → ((w : World) → IsWorld stood left f s w → standing f w ≡ Going → ⊥) → back ≡ done
    → IsAstray f done back (seen_of s)
astray_still stood left f s done back h not_going same = record { given = same; other = λ w replays going is. not_going w (is_world stood left f s (seen_of s) refl h w replays) going }

pub astray_by : {P S : Type 0} (stood : Stood S) (left : Left S) (f : Frame) (s : Parts P S) (home : ℕ) (done back : Computed S) (before after : Node P S) → Stands stood left f s → slice_get s.nodes.items home ≡ Some before
    → ((w : World) → IsWorld stood left f s w → home ≡ home_of f w done.process.0) → IsStray done back before after → IsAstray f done back (seen_of s)
astray_by stood left f s home done back before after h there at_home stray = record {
  given = stray.given;
  other = λ w replays going is.
      let world = is_world stood left f s (seen_of s) refl h w replays in
      stray.other (for_out done (resident_at before done.process.0) (sym (seen_there s.nodes.items home done.process.0 before there) ∙ ap (λ (m : ℕ). out_at (seen_of s) m done.process.0) (at_home w world) ∙ is));
}
