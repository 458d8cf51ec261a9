-- Submissions, ticks and coordinations are counted along a run.
use Rattle.std.proofs.Common.{◌≡◌, ◌+◌, ◌≤◌, ◌<◌, ◌*◌, if◌then◌else◌, ℕ, suc, Bool, true, false, List, [], ◌∷◌, ◌++◌, Option, None, Some, refl, sym, ap, ◌∙◌, arith, subst, nat_lt, length}
use Rattle.std.proofs.Math.Nat.{mul-suc}
use Rattle.std.proofs.lemmas.Bool.{cond_both, le-leb, leb-false}
use Rattle.orca_base.specs.declared.limits.TheConstants.{EVENTS, NODES}
use Rattle.orca_base.specs.declared.what.What.{What}
use Rattle.value_core.specs.declared.action.Action.{Action}
use Rattle.value_core.specs.declared.action.Action.TheVariants as action
use Rattle.value_core.specs.declared.action.Class.{Class}
use Rattle.value_core.specs.declared.action.Class.TheVariants.{Reads, Writes}
use Rattle.value_core.specs.declared.message.Message.{Message}
use Rattle.guard_queue.specs.declared.queue.Suspended.{Suspended}
use Rattle.object_manager.specs.State.{message_of}
use Rattle.group_law.specs.Numbers.{FewEventsLaw, MOST, Numbers, coordinations, submissions}
use Rattle.group_rules.specs.Member.{Letter, Waiting}
use Rattle.group_rules.specs.Messages.{Group}
use Rattle.group_rules.specs.Reset.{coordinate}
use Rattle.group_rules.specs.Steps.{deliver, note, submit, timer}
use Rattle.group_rules.specs.World.{Event, GroupWorld, gnext, may_apply, may_submit, opening, run}
use Rattle.net_rules.specs.declared.fate.Fate.{Fate}
use Rattle.world_rules.specs.declared.event.Event as world
use Rattle.world_rules.specs.declared.event.Step.{Step}
use Rattle.world_rules.specs.declared.standing.Standing.{Standing}
use Rattle.world_rules.specs.declared.standing.Standing.TheVariants.{OutOfTurns, OutOfEvents, Going}
use Rattle.world_rules.specs.Applying.{applies, applies_all, applies_one, notes, round, rounds}
use Rattle.world_rules.specs.Frame.{Frame, group}
use Rattle.world_rules.specs.Mail.{Mail, receiver_of}
use Rattle.world_rules.specs.Nodes.{NodeWork, does, idle, joins, known, past_after, plays}
use Rattle.world_rules.specs.Nodes.Deed.{Submits}
use Rattle.world_rules.specs.Owners.{takes_reached}
use Rattle.world_rules.specs.Parts.{acts_at, acts_by, acts_of, asks_again, calls, calls_as, catches_up, computes, receives_mail, submits}
use Rattle.world_rules.specs.Played.{Played, Stage, moves_to, next_call}
use Rattle.world_rules.specs.Played.Stage.{Computing, Acting, Submitted, Reading, Asking, Over}
use Rattle.world_rules.specs.Processes.{singles_of}
use Rattle.world_rules.specs.Standings.{after_limit, is_out_of_events, is_out_of_turns, limit}
use Rattle.world_rules.specs.Steps.{AtWork, Known, Next, Possible, after_part, happens, posts, posts_all, untouched}
use Rattle.world_rules.specs.Worlds.{World, group_world, home_of}
use Rattle.world_law.specs.Counts.{AfterSteps, AreSmall, Counted, CountedAt, MomentsCount}
use Rattle.world_law.specs.Gives.{acted, came, coordinated, timed}
use Rattle.world_law.specs.Grouped.{Come, Comes, Grouped}
use Rattle.world_law.specs.Grouped.{Submits as MayAll}
use Rattle.world_law.specs.Moments.{Lives, world_at}
use Rattle.world_law.proofs.Applied.{applied_due, applied_one}
use Rattle.world_law.proofs.AtWork.{at_start, at_still, at_work, both_true, coordinated_is, noted_is, submitted_is, ticked_is}
use Rattle.world_law.proofs.Events.{world_is}
use Rattle.world_law.proofs.Grouping.{Good, Laws, delivered_is, good_applies, rounds_round}
use Rattle.world_law.proofs.Still.{Still, still_again, still_asks, still_on, still_performed, still_reached, still_reading, still_arrives}
use Rattle.world_law.proofs.Walking.{Allowed, Start, Walks, asked_by, begun, good_begun, ticked_by, walk_event}

-- ---- one event of the group more

ends : (g : Group Message) (w : GroupWorld Message) (events : List (Event Message)) (event : Event Message) →
    gnext g (run g w events) event ≡ run g w (events ++ event ∷ [])
ends g w [] event = refl
ends g w (e ∷ events) event = ends g (gnext g w e) events event

submissions_more : (xs ys : List (Event Message)) → submissions (xs ++ ys) ≡ submissions xs + submissions ys
submissions_more [] ys = omega arith
submissions_more (Event.Submit m x ∷ xs) ys = let h = submissions_more xs ys in omega (arith, h)
submissions_more (Event.Deliver which ∷ xs) ys = submissions_more xs ys
submissions_more (Event.Tick m ∷ xs) ys = submissions_more xs ys
submissions_more (Event.Coordinate m ∷ xs) ys = submissions_more xs ys
submissions_more (Event.Note m n ∷ xs) ys = submissions_more xs ys
submissions_more (Event.Crash m ∷ xs) ys = submissions_more xs ys

coordinations_more : (xs ys : List (Event Message)) → coordinations (xs ++ ys) ≡ coordinations xs + coordinations ys
coordinations_more [] ys = omega arith
coordinations_more (Event.Submit m x ∷ xs) ys = coordinations_more xs ys
coordinations_more (Event.Deliver which ∷ xs) ys = coordinations_more xs ys
coordinations_more (Event.Tick m ∷ xs) ys = let h = coordinations_more xs ys in omega (arith, h)
coordinations_more (Event.Coordinate m ∷ xs) ys = let h = coordinations_more xs ys in omega (arith, h)
coordinations_more (Event.Note m n ∷ xs) ys = coordinations_more xs ys
coordinations_more (Event.Crash m ∷ xs) ys = coordinations_more xs ys

counted_within : (f : Frame) (w : GroupWorld Message) (s t c d : ℕ) → s ≤ t → c ≤ d → Counted f w s c → Counted f w t d
counted_within f w s t c d more rest h =
    let few = h.few in
    let rare = h.rare in
    record { events = h.events; run = h.run; few = omega (arith, few, more); rare = omega (arith, rare, rest) }

counted_event : (f : Frame) (w v : GroupWorld Message) (event : Event Message) (s c : ℕ) → gnext (group f) w event ≡ v → Counted f w s c →
    Counted f v (s + submissions (event ∷ [])) (c + coordinations (event ∷ []))
counted_event f w v event s c is h =
    let few = h.few in
    let rare = h.rare in
    let submitted = submissions_more h.events (event ∷ []) in
    let ticked = coordinations_more h.events (event ∷ []) in
    record {
      events = h.events ++ event ∷ [];
      run = sym is ∙ ap (λ z. gnext (group f) z event) h.run ∙ ends (group f) opening h.events event;
      few = omega (arith, few, submitted);
      rare = omega (arith, rare, ticked);
    }

-- ---- a node at work

-- its group, so counted
abbrev At : Frame → World → ℕ → NodeWork → ℕ → ℕ → Type 0
At f w m v s c = Counted f (at_work (group f) w m v) s c

at_member : (f : Frame) (w : World) (m s c : ℕ) (v u : NodeWork) → u.node.member ≡ v.node.member →
    past_after (group f) m u.deeds w.past ≡ past_after (group f) m v.deeds w.past → At f w m v s c → At f w m u s c
at_member f w m s c v u member past h = subst (λ z. Counted f z s c) (sym (at_still (group f) w m v u member past)) h

at_stills : (f : Frame) (w : World) (m s c : ℕ) (v u : NodeWork) → Still (group f) m v u → At f w m v s c → At f w m u s c
at_stills f w m s c v u still h = at_member f w m s c v u still.member (still.past w.past) h

at_idle : (f : Frame) (w : World) (m s c : ℕ) → Counted f (group_world w) s c → At f w m (idle (w.nodes m)) s c
at_idle f w m s c h = subst (λ z. Counted f z s c) (sym (at_start (group f) w m)) h

at_free : (f : Frame) (w : World) (m s c : ℕ) (v u : NodeWork) (event : Event Message) → submissions (event ∷ []) ≡ 0 → coordinations (event ∷ []) ≡ 0 →
    gnext (group f) (at_work (group f) w m v) event ≡ at_work (group f) w m u → At f w m v s c → At f w m u s c
at_free f w m s c v u event none_asked none_ticked is h =
    counted_within f (at_work (group f) w m u) (s + submissions (event ∷ [])) s (c + coordinations (event ∷ [])) c
    (omega (arith, none_asked)) (omega (arith, none_ticked))
    (counted_event f (at_work (group f) w m v) (at_work (group f) w m u) event s c is h)

at_notes : (f : Frame) (w : World) (m s c : ℕ) (v : NodeWork) → Lives f w m → v.node.member.applied ≤ v.node.copies.applied →
    v.node.copies.applied ≤ v.node.member.accepted → At f w m v s c → At f w m (notes f m v) s c
at_notes f w m s c v on noted below h =
    let n : ℕ = v.node.copies.applied in
    let may : may_apply v.node.member n ≡ true = both_true _ _ (le-leb _ _ noted) (le-leb _ _ below) in
    cond_both (nat_lt v.node.member.applied v.node.copies.applied) _ _ (λ (u : NodeWork). At f w m u s c)
    (λ e. at_free f w m s c v (joins (note (group f) m n v.node.member) v) (Event.Note m n) refl refl (noted_is (group f) w m n v on may) h)
    (λ e. h)

at_ticks : (f : Frame) (w : World) (m s c : ℕ) (v : NodeWork) → Lives f w m → At f w m v s c →
    At f w m (joins (timer (group f) m v.node.member) v) s (suc c)
at_ticks f w m s c v on h =
    let u : NodeWork = joins (timer (group f) m v.node.member) v in
    counted_within f (at_work (group f) w m u) (s + 0) s (c + 1) (suc c) (omega arith) (omega arith)
    (counted_event f (at_work (group f) w m v) (at_work (group f) w m u) (Event.Tick m) s c (ticked_is (group f) w m v on) h)

at_coordinates : (f : Frame) (w : World) (m s c : ℕ) (v : NodeWork) → Lives f w m → At f w m v s c →
    At f w m (joins (coordinate (group f) m v.node.member) v) s (suc c)
at_coordinates f w m s c v on h =
    let u : NodeWork = joins (coordinate (group f) m v.node.member) v in
    counted_within f (at_work (group f) w m u) (s + 0) s (c + 1) (suc c) (omega arith) (omega arith)
    (counted_event f (at_work (group f) w m v) (at_work (group f) w m u) (Event.Coordinate m) s c (coordinated_is (group f) w m v on) h)

at_submits : (f : Frame) (w : World) (m s c : ℕ) (x : Message) (v : NodeWork) → Lives f w m →
    may_submit (group f) (at_work (group f) w m v) m x ≡ true → At f w m v s c →
    At f w m (joins (submit (group f) m x v.node.member) (does (Submits x) v)) (suc s) c
at_submits f w m s c x v on may h =
    let u : NodeWork = joins (submit (group f) m x v.node.member) (does (Submits x) v) in
    counted_within f (at_work (group f) w m u) (s + 1) (suc s) (c + 0) c (omega arith) (omega arith)
    (counted_event f (at_work (group f) w m v) (at_work (group f) w m u) (Event.Submit m x) s c (submitted_is (group f) w m x v on may) h)

at_delivers : (laws : Laws) (f : Frame) (w : World) (s c : ℕ) (v : NodeWork) (letter : Letter Message) → Lives f w letter.to →
    Comes (past_after (group f) letter.to v.deeds w.past).letters letter → At f w letter.to v s c →
    At f w letter.to (joins (deliver (group f) letter.to letter.packet v.node.member) v) s c
at_delivers laws f w s c v letter on comes h =
    let n = (laws.numbered (at_work (group f) w letter.to v).past.letters).number letter comes.sent in
    at_free f w letter.to s c v (joins (deliver (group f) letter.to letter.packet v.node.member) v) (Event.Deliver n.0) refl refl
    (delivered_is laws (group f) w v letter on comes.other n.0 n.2) h

-- ---- a member catches up

at_round : (f : Frame) (w : World) (m s c : ℕ) {b : List (Event Message)} (v : NodeWork) → Lives f w m → Good (group f) b w m v → At f w m v s c →
    At f w m (round f m v) s c
at_round f w m s c v on good h =
    let a = applied_due f (group f) m m v good.below in
    let g = good_applies f w m v good in
    at_notes f w m s c (applies f m v) on g.noted g.below (at_member f w m s c v (applies f m v) a.member (a.past w.past) h)

at_rounds : (laws : Laws) (f : Frame) (w : World) (m s c : ℕ) {b : List (Event Message)} (waiting : List (Waiting Message)) (v : NodeWork) →
    2 * (group f).resilience < (group f).nodes → Lives f w m → Good (group f) b w m v → At f w m v s c → At f w m (rounds f m waiting v) s c
at_rounds laws f w m s c [] v small on good h = at_round f w m s c v on good h
at_rounds laws f w m s c (one ∷ more) v small on good h = at_rounds laws f w m s c more (round f m v) small on
    (rounds_round laws f w m v small on good).good (at_round f w m s c v on good h)

at_up : (laws : Laws) (f : Frame) (w : World) (m s c : ℕ) {b : List (Event Message)} (v : NodeWork) → 2 * (group f).resilience < (group f).nodes →
    Lives f w m → Good (group f) b w m v → At f w m v s c → At f w m (catches_up f m v) s c
at_up laws f w m s c v small on good h =
    at_stills f w m s c (applies_all f m v) (takes_reached f m (applies_all f m v)) (still_reached f (group f) m m (applies_all f m v))
    (at_rounds laws f w m s c v.node.member.waiting v small on good h)

-- ---- how a part begins

-- with room for one submission
one_more : (f : Frame) (w : World) (m s c : ℕ) (v : NodeWork) → At f w m v s c → At f w m v (suc s) c
one_more f w m s c v h = counted_within f (at_work (group f) w m v) s (suc s) c c (omega arith) (omega arith) h

abbrev May : Frame → World → ℕ → ℕ → Played → Type 0
May f w m i r = (x : Message) → x.process.0 ≡ i → x.call.0 ≡ length r.replies → may_submit (group f) (group_world w) m x ≡ true

count_submits : (f : Frame) (w : World) (m i s c : ℕ) (r : Played) (act : Action) (x : Message) → Lives f w m →
    may_submit (group f) (group_world w) m x ≡ true → At f w m (idle (w.nodes m)) s c →
    At f w m (submits f m i r act x (idle (w.nodes m))) (suc s) c
count_submits f w m i s c r act x on may h =
    let v : NodeWork = plays i (moves_to (Submitted act) r) (idle (w.nodes m)) in
    let same : group_world w ≡ at_work (group f) w m v = sym (at_still (group f) w m (idle (w.nodes m)) v refl refl ∙ at_start (group f) w m) in
    at_submits f w m s c x v on (subst (λ z. may_submit (group f) z m x ≡ true) same may)
    (at_member f w m s c (idle (w.nodes m)) v refl refl h)

count_as : (f : Frame) (w : World) (m i s c : ℕ) (r : Played) (call : Suspended) (class : Class) → Lives f w m →
    may_submit (group f) (group_world w) m (message_of call) ≡ true → At f w m (idle (w.nodes m)) s c →
    At f w m (calls_as f m i r call class (idle (w.nodes m))) (suc s) c
count_as f w m i s c r call Reads on may h =
    at_stills f w m (suc s) c (idle (w.nodes m)) _ (still_reading f (group f) m i r (message_of call).action (idle (w.nodes m)))
    (one_more f w m s c (idle (w.nodes m)) h)
count_as f w m i s c r call Writes on may h = count_submits f w m i s c r (message_of call).action (message_of call) on may h

count_calls : (f : Frame) (w : World) (m i s c : ℕ) (r : Played) (call : Suspended) → Lives f w m →
    may_submit (group f) (group_world w) m (message_of call) ≡ true → At f w m (idle (w.nodes m)) s c →
    At f w m (calls f m i r call (idle (w.nodes m))) (suc s) c
count_calls f w m i s c r call on may h = cond_both (singles_of f (known f (w.nodes m)) call.object) _ _ (λ u. At f w m u (suc s) c)
    (λ e. at_stills f w m (suc s) c (idle (w.nodes m)) _ (still_asks f (group f) m m i r call (idle (w.nodes m))) (one_more f w m s c (idle (w.nodes m)) h))
    (λ e. count_as f w m i s c r call (f.performs.class_of call.kind call.op) on may h)

count_by : (f : Frame) (w : World) (m i s c : ℕ) (r : Played) (act : Action) → Lives f w m → May f w m i r →
    At f w m (idle (w.nodes m)) s c → At f w m (acts_by f m i r act (idle (w.nodes m))) (suc s) c
count_by f w m i s c r (action.Make kind object) on may h =
    let x : Message = record { process = record { 0 = i }; call = next_call r; action = action.Make kind object; performable = refl } in
    count_submits f w m i s c r (action.Make kind object) x on (may x refl refl) h
count_by f w m i s c r (action.Call kind op object args) on may h =
    let call : Suspended = record { process = record { 0 = i }; call = next_call r; kind = kind; op = op; object = object; args = args } in
    count_calls f w m i s c r call on (may (message_of call) refl refl) h
count_by f w m i s c r (action.Fork text args place_on) on may h =
    let x : Message = record { process = record { 0 = i }; call = next_call r; action = action.Fork text args place_on; performable = refl } in
    count_submits f w m i s c r (action.Fork text args place_on) x on (may x refl refl) h
count_by f w m i s c r action.Ended on may h = one_more f w m s c (idle (w.nodes m)) h
count_by f w m i s c r (action.Faulted fault) on may h = one_more f w m s c (idle (w.nodes m)) h

count_at : (f : Frame) (w : World) (m i s c : ℕ) (r : Played) (stage : Stage) → Lives f w m → ((act : Action) → stage ≡ Acting act → May f w m i r) →
    At f w m (idle (w.nodes m)) s c → At f w m (acts_at f m i r stage (idle (w.nodes m))) (suc s) c
count_at f w m i s c r (Acting act) on may h = count_by f w m i s c r act on (may act refl) h
count_at f w m i s c r Computing on may h = one_more f w m s c (idle (w.nodes m)) h
count_at f w m i s c r (Submitted act) on may h = one_more f w m s c (idle (w.nodes m)) h
count_at f w m i s c r (Reading act) on may h = one_more f w m s c (idle (w.nodes m)) h
count_at f w m i s c r (Asking act) on may h = one_more f w m s c (idle (w.nodes m)) h
count_at f w m i s c r (Over act) on may h = one_more f w m s c (idle (w.nodes m)) h

count_of : (f : Frame) (w : World) (m i s c : ℕ) (o : Option Played) → Lives f w m →
    ((r : Played) (act : Action) → o ≡ Some r → r.stage ≡ Acting act → May f w m i r) →
    At f w m (idle (w.nodes m)) s c → At f w m (acts_of f m i o (idle (w.nodes m))) (suc s) c
count_of f w m i s c None on may h = one_more f w m s c (idle (w.nodes m)) h
count_of f w m i s c (Some r) on may h = count_at f w m i s c r r.stage on (λ act e. may r act refl e) h

count_mail : (laws : Laws) (f : Frame) (w : World) (mail : Mail) (s c : ℕ) → Lives f w (receiver_of mail) → Come w.past.letters mail →
    At f w (receiver_of mail) (idle (w.nodes (receiver_of mail))) s c →
    At f w (receiver_of mail) (receives_mail f (receiver_of mail) mail (idle (w.nodes (receiver_of mail)))) s c
count_mail laws f w (Mail.Grouped letter) s c on come h = at_delivers laws f w s c (idle (w.nodes letter.to)) letter on come h
count_mail laws f w (Mail.Sends incarnation from to errand) s c on come h =
    at_stills f w to s c (idle (w.nodes to)) _ (still_arrives (group f) to errand (idle (w.nodes to))) h

count_begun : (laws : Laws) (f : Frame) (w : World) (m : ℕ) (start : Start) (s c : ℕ) → Lives f w m → Allowed f w m start →
    Counted f (group_world w) s c → At f w m (begun f w m start) (s + asked_by start) (c + ticked_by start)
count_begun laws f w m (Start.Acted i) s c on may h =
    counted_within f (at_work (group f) w m (acted f m i w)) (suc s) (s + 1) c (c + 0) (omega arith) (omega arith)
    (count_of f w m i s c ((w.nodes m).played i) on (λ r act here stands x process call. may r act here stands x process call) (at_idle f w m s c h))
count_begun laws f w m (Start.Came mail) s c on may h =
    counted_within f (at_work (group f) w m (came f m mail w)) s (s + 0) c (c + 0) (omega arith) (omega arith)
    (subst (λ k. At f w k (receives_mail f k mail (idle (w.nodes k))) s c) (sym may.0)
    (count_mail laws f w mail s c (subst (Lives f w) may.0 on) may.1 (at_idle f w (receiver_of mail) s c h)))
count_begun laws f w m Start.Timed s c on may h =
    let u : NodeWork = timed f m w in
    counted_within f (at_work (group f) w m (asks_again f m u)) s (s + 0) (suc c) (c + 1) (omega arith) (omega arith)
    (at_stills f w m s (suc c) u (asks_again f m u) (still_again f (group f) m m u)
    (at_ticks f w m s c (idle (w.nodes m)) on (at_idle f w m s c h)))
count_begun laws f w m Start.Coordinated s c on may h =
    counted_within f (at_work (group f) w m (coordinated f m w)) s (s + 0) (suc c) (c + 1) (omega arith) (omega arith)
    (at_coordinates f w m s c (idle (w.nodes m)) on (at_idle f w m s c h))

-- ---- an event

count_part : (f : Frame) (m s c : ℕ) (v : NodeWork) (u : AtWork) → At f u.world m v s c → Counted f (group_world (after_part f m v u).world) s c
count_part f m s c v u h = subst (λ z. Counted f z s c) (sym (world_is f m v u)) h

abbrev Count : Frame → ℕ → ℕ → AtWork → Type 0
Count f s c u = Counted f (group_world u.world) s c

count_walks : (laws : Laws) (f : Frame) → 2 * (group f).resilience < (group f).nodes → Walks f (Count f) (Count f)
count_walks laws f small = record {
  weaken = λ s t c d u more rest h. counted_within f (group_world u.world) s t c d more rest h;
  ends = λ s c u h. h;
  burst = λ w i place turns burst s c grouped is h.
      let m : ℕ = home_of f w i.0 in
      let v : NodeWork = idle (w.nodes m) in
      count_part f m s c (computes i.0 place burst.reads burst.end (w.nodes m)) (untouched w)
      (at_stills f w m s c v (computes i.0 place burst.reads burst.end (w.nodes m))
      (still_on (still_performed (group f) m place burst.reads v) (record { member = refl; past = λ p. refl; applied = refl; letters = refl; others = λ e. e }))
      (at_idle f w m s c h));
  taken = λ w number copy s c h. h;
  waited = λ w s c h. h;
  crashed = λ w m s c h.
      counted_within f _ (s + 0) s (c + 0) c (omega arith) (omega arith)
      (counted_event f (group_world w) _ (Event.Crash m) s c refl h);
  swapped = λ w s c h. h;
  part = λ start u m s c grouped on may h.
      count_part f m (s + asked_by start) (c + ticked_by start) (catches_up f m (begun f u.world m start)) u
      (at_up laws f u.world m (s + asked_by start) (c + ticked_by start) (begun f u.world m start) small on
      (good_begun laws f u.world m start small on grouped may)
      (count_begun laws f u.world m start s c on may h));
}

-- ---- a step

-- the group's world is as the event left it
pub group_posts : (f : Frame) (mails : List Mail) (fates : List Fate) (w : World) → group_world (posts_all f w mails fates) ≡ group_world w
group_posts f [] fates w = refl
group_posts f (mail ∷ mails) [] w = refl
group_posts f (mail ∷ mails) (one ∷ fates) w = group_posts f mails fates (posts f w mail one)

pub group_after : (f : Frame) (w v : World) (step : Step) → (next : Next f w step v) → group_world v ≡ group_world (happens f w step.event next.given).world
group_after f w v step next =
    let u : AtWork = happens f w step.event next.given in
    ap group_world next.after ∙ group_posts f u.mails step.fates u.world

pub event_counted : (laws : Laws) (f : Frame) → 2 * (group f).resilience < (group f).nodes → (w : World) (event : world.Event) (given : Known event) →
    Possible f w event given → MayAll f w event → Grouped f w → AfterSteps f w w.steps → AfterSteps f (happens f w event given).world (suc w.steps)
event_counted laws f small w event given may submit grouped h =
    let n : ℕ = f.settings.nodes in
    let more = mul-suc n w.steps in
    let counted : Counted f (group_world (happens f w event given).world) (suc w.steps) (n * w.steps + n) =
    walk_event laws f (Count f) (Count f) small (count_walks laws f small) w event given w.steps (n * w.steps) grouped may submit h in
    counted_within f _ (suc w.steps) (suc w.steps) (n * w.steps + n) (n * suc w.steps) (omega arith) (omega (arith, more)) counted

pub steps_counted : (laws : Laws) (f : Frame) → 2 * (group f).resilience < (group f).nodes → (w v : World) (step : Step) → Next f w step v →
    MayAll f w step.event → Grouped f w → AfterSteps f w w.steps → AfterSteps f v v.steps
steps_counted laws f small w v step next submit grouped h =
    let n : ℕ = f.settings.nodes in
    let steps : v.steps ≡ suc w.steps = ap (λ (z : World). z.steps) next.after in
    subst (λ k. Counted f (group_world v) k (n * k)) (sym steps)
    (subst (λ z. Counted f z (suc w.steps) (n * suc w.steps)) (sym (group_after f w v step next))
    (event_counted laws f small w step.event next.given next.possible submit grouped h))

-- in a run that is going there are steps left
picks : (a b : Bool) (x : Standing) → (if a then OutOfTurns else (if b then OutOfEvents else x)) ≡ Going → b ≡ false
picks true b x e = absurd cc
picks false true x e = absurd cc
picks false false x e = refl

left_by : (f : Frame) (w : World) (o : Option (What × ℕ)) → after_limit f w o ≡ Going → is_out_of_events f w ≡ false
left_by f w None e = picks (is_out_of_turns f w) (is_out_of_events f w) _ e
left_by f w (Some passed) e = absurd cc

pub steps_left : (f : Frame) (w v : World) (step : Step) → Next f w step v → (v.steps ≡ suc w.steps) × (w.steps < f.settings.events)
steps_left f w v step next =
    let not_out = leb-false f.settings.events w.steps (left_by f w (limit f w) next.going) in
    (ap (λ (z : World). z.steps) next.after, omega (arith, not_out))

-- ---- so the numbers fit

pub small_numbers : (law : FewEventsLaw Message) (f : Frame) → 2 * (group f).resilience < (group f).nodes → f.settings.nodes ≤ NODES →
    (w : GroupWorld Message) (s c : ℕ) → s ≤ EVENTS → c ≤ f.settings.nodes * EVENTS → Counted f w s c → Numbers w MOST MOST
small_numbers law f small nodes w s c few rare h =
    let submitted = h.few in
    let ticked = h.rare in
    subst (λ z. Numbers z MOST MOST) (sym h.run)
    ((law (group f) (omega (arith, nodes)) h.events (omega (arith, submitted, few)) (omega (arith, ticked, rare))).2 small)

pub small_world : (law : FewEventsLaw Message) (f : Frame) → 2 * (group f).resilience < (group f).nodes → f.settings.nodes ≤ NODES →
    (w : World) (s c : ℕ) → s ≤ EVENTS → c ≤ f.settings.nodes * EVENTS → Counted f (group_world w) s c → AreSmall w
small_world law f small nodes w s c few rare h =
    let numbers : Numbers (group_world w) MOST MOST = small_numbers law f small nodes (group_world w) s c few rare h in
    record {
      members = λ m.
          let within = numbers.members m in
          let installed = numbers.installed m in
          let promised = numbers.promised m in
          let applied = within.applied in
          let accepted = within.accepted in
          let log = within.log in
          record {
            installed = omega (arith, installed, promised);
            promised = omega (arith, promised);
            applied = omega (arith, applied);
            accepted = omega (arith, accepted);
            entries = omega (arith, log);
          };
      numbers = numbers;
    }

-- ---- at each moment

at_moment : (f : Frame) (w : World) (m s c : ℕ) (v : NodeWork) → At f w m v s c → CountedAt f w m v s c
at_moment f w m s c v h = subst (λ z. Counted f z s c) (sym (world_is f m v (untouched w))) h

of_moment : (f : Frame) (w : World) (m s c : ℕ) (v : NodeWork) → CountedAt f w m v s c → At f w m v s c
of_moment f w m s c v h = subst (λ z. Counted f z s c) (world_is f m v (untouched w)) h

pub moments_count : (laws : Laws) (law : FewEventsLaw Message) (f : Frame) → 2 * (group f).resilience < (group f).nodes → MomentsCount f
moments_count laws law f small = record {
  start = λ w m s c h. at_moment f w m s c (idle (w.nodes m)) (at_idle f w m s c h);
  stays = λ w m s c v u h member past. at_moment f w m s c u (at_member f w m s c v u member past (of_moment f w m s c v h));
  applies = λ w m s c x v h.
      let a = applied_one f (group f) m m x v in
      at_moment f w m s c (applies_one f m x v) (at_member f w m s c v (applies_one f m x v) a.member (a.past w.past) (of_moment f w m s c v h));
  notes = λ w m s c v on is h. at_moment f w m s c (notes f m v) (at_notes f w m s c v on is.noted is.below (of_moment f w m s c v h));
  ticks = λ w m s c v on h. at_moment f w m s (suc c) (joins (timer (group f) m v.node.member) v) (at_ticks f w m s c v on (of_moment f w m s c v h));
  coordinates = λ w m s c v on h. at_moment f w m s (suc c) (joins (coordinate (group f) m v.node.member) v) (at_coordinates f w m s c v on (of_moment f w m s c v h));
  submits = λ w m s c x v on may h.
      let allowed : may_submit (group f) (at_work (group f) w m v) m x ≡ true =
      subst (λ z. may_submit (group f) z m x ≡ true) (world_is f m v (untouched w)) may in
      at_moment f w m (suc s) c (joins (submit (group f) m x v.node.member) (does (Submits x) v)) (at_submits f w m s c x v on allowed (of_moment f w m s c v h));
  delivers = λ w s c v letter on comes h.
      at_moment f w letter.to s c (joins (deliver (group f) letter.to letter.packet v.node.member) v) (at_delivers laws f w s c v letter on comes (of_moment f w letter.to s c v h));
  part = λ u m s c v h. h;
  small = λ w m s c v nodes few rare h. small_world law f small nodes (world_at f w m v) s c few rare h;
}
