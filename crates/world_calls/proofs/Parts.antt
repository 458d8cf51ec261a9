-- Each member's part of each possible event of a run that is going.
use Rattle.std.proofs.Common.{◌≡◌, ◌<◌, ◌≤◌, ◌*◌, ◌+◌, ℕ, zero, suc, Bool, true, false, List, [], ◌∷◌, ◌++◌, length, nat_le, Option, None, Some, refl, sym, ap, ◌∙◌, subst, arith, if◌then◌else◌, ◌||◌, ◌&&◌, ◌⊎◌, inl, inr}
use Rattle.std.proofs.lemmas.Bool.{and_parts, leb-false, lt-ltb, cases_lt}
use Rattle.orca_base.specs.declared.limits.TheConstants.{EVENTS, HISTORY_LINES}
use Rattle.value_core.specs.declared.action.Line.{Line}
use Rattle.value_core.specs.declared.action.Reply.{Reply}
use Rattle.value_core.specs.declared.message.Message.{Message}
use Rattle.group_rules.specs.World.{Event as GroupEvent}
use Rattle.net_rules.specs.Flights.{ticked}
use Rattle.book_law.specs.Book.{book}
use Rattle.world_rules.specs.declared.event.Event as world
use Rattle.world_rules.specs.declared.event.Event.TheVariants as event
use Rattle.world_rules.specs.declared.event.Step.{Step}
use Rattle.world_rules.specs.declared.standing.Standing.{Standing}
use Rattle.world_rules.specs.declared.standing.Standing.TheVariants.{OutOfEvents, OutOfTurns, Going as IsGoing}
use Rattle.orca_base.specs.declared.what.What.{What}
use Rattle.orca_base.specs.declared.what.What.TheVariants as what
use Rattle.world_calls.proofs.Each.{AtEach, FollowsEach, walks_each}
use Rattle.world_rules.specs.Processes.{processes_in}
use Rattle.world_course.specs.Corresponds.{IsOf, Stands}
use Rattle.world_course.proofs.Listing.{got_less}
use Rattle.world_rules.specs.Frame.{AreSettings, Frame}
use Rattle.world_rules.specs.Mail.{Mail, receiver_of}
use Rattle.world_rules.specs.Nodes.{Node, idle}
use Rattle.world_rules.specs.Parts.{ticks}
use Rattle.world_rules.specs.Played.{Played, Stage, is_computing}
use Rattle.world_rules.specs.Played.Stage.{Computing, Acting, Submitted, Reading, Asking, Over}
use Rattle.world_rules.specs.Standings.{after_limit, first_of, is_out_of_events, is_out_of_turns, limit, limit_below, lines_limit, standing, any_below, has_no_turns, process_count}
use Rattle.world_rules.specs.Steps.{AtWork, Known as Given, Leads, Next, Possible, Replays, does_part, may_act_as, ticks_below, untouched}
use Rattle.world_rules.specs.Worlds.{Book, World, agreed, group_world, home_of, opening_world, played_in, singles_in}
use Rattle.world_law.specs.Counts.{AfterSteps, AllCount, AllMomentsCount, Counted, MomentsCount, StepsCount}
use Rattle.world_law.specs.Grouped.{Come, Grouped, MaySubmit, Submits}
use Rattle.world_law.specs.Moments.{AllMoments, Lives, world_at}
use Rattle.world_law.proofs.AtWork.{both_true}
use Rattle.world_law.proofs.Events.{Going, going, going_below, on_home, with_flights}
use Rattle.world_law.proofs.Travels.{fly_found, fly_ticked}
use Rattle.world_course.specs.Errands.{MailStands}
use Rattle.world_course.proofs.Events.{same_world}
use Rattle.world_course.proofs.Parts.{stand_on}
use Rattle.world_course.proofs.Program.{Program}
use Rattle.world_course.proofs.Travelling.{ready_flies, ticked_fly}
use Rattle.book_law.proofs.Courses.{at_other}
use Rattle.world_book.specs.Following.{HasCourse}
use Rattle.world_book.proofs.Kept.{Kept, book_kept, course_of, grouped_of, kept_may, replayed, stands_for}
use Rattle.world_book.proofs.Kept.{Laws as BookLaws}
use Rattle.world_book.proofs.Submitting.{run_of}
use Rattle.node_rules.specs.Conditions.{Fitness}
use Rattle.node_rules.specs.Moments.{Walks}
use Rattle.node_rules.specs.Moments.{at_work as at_moment}
use Rattle.node_rules.specs.Starts.{EventFits, Start, begun}
use Rattle.node_rules.specs.Starts.Start.{Acts, Comes, Ticks, Suspects}
use Rattle.node_rules.proofs.Walking.{parts_walk}
use Rattle.world_calls.specs.Law.{PartsFit, ticking}
use Rattle.world_calls.proofs.Beginning.{GroupLaws, MayStart, part_fits, AllStart, begins_each, idle_each}
use Rattle.world_calls.proofs.Counting.{asked_by, begun_counted, weaker}
use Rattle.world_calls.proofs.Going.{At, Known}
use Rattle.world_calls.proofs.Receiving.{FewReplies, few_received, waits_by}
use Rattle.world_calls.proofs.Smallness.{Small, are_small, small_begun, small_walks}

-- the laws that this stands on
pub record Laws (f : Frame) (fitness : Fitness) : Type 1 where
  pub book : BookLaws f
  pub program : Program f fitness.state fitness.args fitness.text fitness.reply
  pub group : GroupLaws
  pub moments : AllMoments
  pub counts : AllCount
  pub counting : AllMomentsCount

known_at : (f : Frame) (fitness : Fitness) (w : World) (m : ℕ) → Laws f fitness → Grouped f w → Lives f w m → Known f fitness w m
known_at f fitness w m laws grouped lives =
    let b = laws.book in
    record { program = laws.program; group = laws.moments f b.small; grouped = grouped; lives = lives }

-- ---- where an event begins

-- the group came to this by so many submissions, and ticks and coordinations, with room for one more; and replies are few
pub record HasRoom (f : Frame) (w : World) (m s c : ℕ) : Type 0 where
  pub counted : Counted f (group_world w) s c
  pub some : s < EVENTS
  pub rare : c < f.settings.nodes * EVENTS
  pub few : FewReplies HISTORY_LINES (w.nodes m).played

-- ---- a member's part

-- one more of either is counted
asked_room : (s : Start) (n : ℕ) → n < EVENTS → n + asked_by s ≤ EVENTS
asked_room (Acts i) n lt = omega (arith, lt)
asked_room (Comes mail) n lt = omega (arith, lt)
asked_room Ticks n lt = omega (arith, lt)
asked_room Suspects n lt = omega (arith, lt)

fits_part : (f : Frame) (fitness : Fitness) (w : World) (m : ℕ) (list : List Message) (s : Start) (n k : ℕ) → Laws f fitness → Grouped f w → Lives f w m → FollowsEach f w list
    → MayStart f w m s → AllStart f w s → HasRoom f w m n k → EventFits f fitness m s (w.nodes m)
fits_part f fitness w m list s n k laws grouped lives h may stands room =
    part_fits f fitness w m list s laws.group b.small known h may stands
    (are_small f w m n k (at_moment (idle (w.nodes m))) counting set.few (omega (arith, some)) (omega (arith, rare)) (record { counted = counting.start w m n k room.counted; few = room.few }))
    (λ u walk. are_small f w m (n + asked_by s) (suc k) u counting set.few (asked_room s n some) (omega (arith, rare))
    (small_walks f fitness w m (n + asked_by s) (suc k) (at_moment (begun f m s (w.nodes m))) u counting known (begins_each f fitness w m list s laws.group b.small known h may stands)
    (small_begun f fitness w m (n + asked_by s) (suc k) s known (idle_each f fitness w m list known h) (begun_counted f w m n k s counting lives may room.counted) room.few) walk))
  where
    b : BookLaws f
    b = laws.book

    counting : MomentsCount f
    counting = laws.counting f b.small

    set : AreSettings f.settings
    set = let p = laws.program in p.settings

    known : Known f fitness w m
    known = known_at f fitness w m laws grouped lives

    some : n < EVENTS
    some = room.some

    rare : k < f.settings.nodes * EVENTS
    rare = room.rare

-- ---- a tick

-- the world so far follows a course by each test, one tick more of each member below was counted, and the others stand as they were
pub record Ticking (f : Frame) (w : World) (s c n : ℕ) (u : AtWork) : Type 0 where
  pub list : List Message
  pub follows : FollowsEach f u.world list
  pub counted : Counted f (group_world u.world) s (c + n)
  pub left : (k : ℕ) → n ≤ k → u.world.nodes k ≡ w.nodes k

ticks_one : (f : Frame) (fitness : Fitness) (w : World) (s c m : ℕ) (v : AtWork) → Laws f fitness → Grouped f v.world → m < f.settings.nodes → FewReplies HISTORY_LINES (w.nodes m).played → Ticking f w s c m v
    → (t : Bool) → v.world.lives m ≡ t → Ticking f w s c (suc m) (if t then does_part f m (ticks f m) v else v)
ticks_one f fitness w s c m v laws grouped low few before false lives = record {
  list = before.list;
  follows = before.follows;
  counted = weaker f (group_world v.world) s s (c + m) (c + suc m) (omega arith) (omega arith) before.counted;
  left = λ k le. before.left k (omega (arith, le));
}
ticks_one f fitness w s c m v laws grouped low few before true lives = record {
  list = e.list;
  follows = λ single agrees.
      let one = e.each single agrees in
      let a : At f single v.world m (at_moment (ticks f m node)) = one.at in
      let k = a.carries in
      record { course = a.course; follows = record { corresponds = k.corresponds; errands = k.errands }; is = one.is };
  counted = counting.part v m s (c + suc m) (ticks f m node) (weaker f (group_world (world_at f v.world m (ticks f m node))) (s + 0) s (suc (c + m)) (c + suc m) (omega arith) (omega arith) all.counted);
  left = λ k le. at_other v.world.nodes m (ticks f m node).node k (λ is. omega (arith, is, le)) ∙ before.left k (omega (arith, le));
}
  where
    node : Node
    node = v.world.nodes m

    b : BookLaws f
    b = laws.book

    counting : MomentsCount f
    counting = laws.counting f b.small

    on : Lives f v.world m
    on = both_true _ _ (lt-ltb _ _ low) lives

    known : Known f fitness v.world m
    known = known_at f fitness v.world m laws grouped on

    start : AtEach f v.world m (at_moment (begun f m Ticks node))
    start = begins_each f fitness v.world m before.list Ticks laws.group b.small known before.follows tt (λ single course h. tt)

    walk : Walks f m (at_moment (begun f m Ticks node)) (at_moment (ticks f m node))
    walk = parts_walk f m Ticks node

    e : AtEach f v.world m (at_moment (ticks f m node))
    e = walks_each f fitness v.world m (at_moment (begun f m Ticks node)) (at_moment (ticks f m node)) known start walk

    all : Small f v.world m (s + 0) (suc (c + m)) (at_moment (ticks f m node))
    all = small_walks f fitness v.world m (s + 0) (suc (c + m)) (at_moment (begun f m Ticks node)) (at_moment (ticks f m node)) counting known start
        (small_begun f fitness v.world m (s + 0) (suc (c + m)) Ticks known (idle_each f fitness v.world m before.list known before.follows) (begun_counted f v.world m s (c + m) Ticks counting on tt before.counted)
        (subst (λ (z : Node). FewReplies HISTORY_LINES z.played) (sym (before.left m (omega arith))) few)) walk

ticks_all : (f : Frame) (fitness : Fitness) (b : List (GroupEvent Message)) (w : World) (s c n : ℕ) (u : AtWork) → Laws f fitness → n ≤ f.settings.nodes → Going f b u → ((m : ℕ) → FewReplies HISTORY_LINES (w.nodes m).played) → Ticking f w s c 0 u
    → Ticking f w s c n (ticks_below f n u)
ticks_all f fitness b w s c zero u laws low gone few h = h
ticks_all f fitness b w s c (suc m) u laws low gone few h =
    let v : AtWork = ticks_below f m u in
    let group = laws.group in
    let more = group.more in
    let book = laws.book in
    let k = going_below more.laws f m u book.small (omega (arith, low)) gone in
    ticks_one f fitness w s c m v laws k.grouped (omega (arith, low)) (few m)
    (ticks_all f fitness b w s c m u laws (omega (arith, low)) gone few h) (v.world.lives m) refl

-- ---- where a run is going

-- as many steps as there may be leave room for one more
room : (n s e : ℕ) → s < e → n * s + n ≤ n * e
room zero s e lt = omega arith
room (suc n) s e lt = let le = room n s e lt in omega (arith, le, lt)

picks : (a b : Bool) (x : Standing) → (if a then OutOfTurns else (if b then OutOfEvents else x)) ≡ IsGoing → b ≡ false
picks true b x e = absurd cc
picks false true x e = absurd cc
picks false false x e = refl

-- it has steps left
events_left : (f : Frame) (w : World) (o : Option (What × ℕ)) → after_limit f w o ≡ IsGoing → is_out_of_events f w ≡ false
events_left f w None e = picks (is_out_of_turns f w) (is_out_of_events f w) _ e
events_left f w (Some passed) e = absurd cc

no_limit : (f : Frame) (w : World) (o : Option (What × ℕ)) → after_limit f w o ≡ IsGoing → o ≡ None
no_limit f w None e = refl
no_limit f w (Some passed) e = absurd cc

second_none : (a b : Option (What × ℕ)) → first_of a b ≡ None → b ≡ None
second_none None b e = e
second_none (Some x) b e = absurd (cc e)

-- and lines
lines_left : (f : Frame) (w : World) → standing f w ≡ IsGoing → length (Book f w) < HISTORY_LINES
lines_left f w going = leb-false HISTORY_LINES (length (Book f w)) (go (nat_le HISTORY_LINES (length (Book f w))) (second_none (limit_below f w f.settings.nodes) (lines_limit f w) (no_limit f w (limit f w) going)))
  where
    passed : What × ℕ
    passed = (what.HistoryLines, HISTORY_LINES)

    go : (b : Bool) → (if b then Some passed else None) ≡ None → b ≡ false
    go true e = absurd (cc e)
    go false e = refl

waits_once : (stage : Stage) → waits_by stage ≤ 1
waits_once Computing = omega arith
waits_once (Acting act) = omega arith
waits_once (Submitted act) = omega arith
waits_once (Reading act) = omega arith
waits_once (Asking act) = omega arith
waits_once (Over act) = omega arith

-- so replies are few
replies_few : (f : Frame) (w : World) → BookLaws f → Kept f w → standing f w ≡ IsGoing → (m : ℕ) → FewReplies HISTORY_LINES (w.nodes m).played
replies_few f w laws k going m i r here =
    let h : HasCourse f (singles_in f w) w = course_of f w k in
    let st = stands_for f (singles_in f w) w h in
    let one = run_of f (singles_in f w) w h.course m i r st here in
    let is = one.is in
    let le = few_received (singles_in f w) f.performs f.computes h.course i one.runner st.came one.runs in
    let same : length one.runner.replies ≡ length r.replies = ap (λ (l : List Reply). length l) is.replies in
    let lines : length (Book f w) ≡ length (book (singles_in f w) f.performs h.course.list h.course.aside) = ap (λ (l : List Line). length l) (book_kept f w h) in
    let lt = lines_left f w going in
    let waits = waits_once r.stage in
    omega (arith, le, same, lines, lt, waits)

-- ---- turns

or_false : (a b : Bool) → (a || b) ≡ false → (a ≡ false) × (b ≡ false)
or_false true b e = absurd (cc e)
or_false false b e = (refl, e)

none_below : (n : ℕ) (test : ℕ → Bool) → any_below n test ≡ false → (i : ℕ) → i < n → test i ≡ false
none_below zero test e i lt = absurd (omega (arith, lt))
none_below (suc n) test e i lt = by (λ less. none_below n test (or_false (any_below n test) (test n) e).0 i less) (cases_lt i n)
  where
    by : (i < n → test i ≡ false) → (i < n) ⊎ (n ≤ i) → test i ≡ false
    by before (inl less) = before less
    by before (inr le) = let same : i ≡ n = omega (arith, lt, le) in ap test same ∙ (or_false (any_below n test) (test n) e).1

first_false : (a b : Bool) (x : Standing) → (if a then OutOfTurns else (if b then OutOfEvents else x)) ≡ IsGoing → a ≡ false
first_false true b x e = absurd cc
first_false false b x e = refl

turns_left : (f : Frame) (w : World) (o : Option (What × ℕ)) → after_limit f w o ≡ IsGoing → is_out_of_turns f w ≡ false
turns_left f w None e = first_false (is_out_of_turns f w) (is_out_of_events f w) _ e
turns_left f w (Some passed) e = absurd cc

-- a process that computes has turns left, while the run is going
pub has_turns : (f : Frame) (w : World) → BookLaws f → Kept f w → standing f w ≡ IsGoing → (i : ℕ) (r : Played) → played_in f w i ≡ Some r → r.stage ≡ Computing → r.turns < f.settings.turns
has_turns f w laws k going i r here computes =
    leb-false f.settings.turns r.turns
    (go (nat_le f.settings.turns r.turns)
    (sym (ap (λ (o : Option Played). has_no_turns f o) here ∙ ap (λ (z : Stage). nat_le f.settings.turns r.turns && is_computing z) computes)
    ∙ none_below (process_count f w) (λ j. has_no_turns f (played_in f w j)) (turns_left f w (limit f w) going) i low))
  where
    h : HasCourse f (singles_in f w) w
    h = course_of f w k

    st : Stands f (singles_in f w) w h.course
    st = stands_for f (singles_in f w) w h

    of : IsOf f h.course (home_of f w i) i
    of = st.played (home_of f w i) i r here

    low : i < process_count f w
    low =
        let lt = got_less (processes_in f h.course.list) i of.begun of.there in
        let same : process_count f w ≡ length (processes_in f h.course.list) = ap (λ (l : List Message). length (processes_in f l)) (sym h.list) in
        omega (arith, lt, same)

    go : (b : Bool) → (b && true) ≡ false → b ≡ false
    go true e = absurd (cc e)
    go false e = refl

-- ---- steps are counted

submits_all : (f : Frame) (w : World) (e : world.Event) → ((i : ℕ) → MaySubmit f w i) → Submits f w e
submits_all f w (event.Act process) may = may process.0
submits_all f w (event.Burst process place turns) may = tt
submits_all f w (event.Deliver packet copy) may = tt
submits_all f w event.Tick may = tt
submits_all f w (event.Crash node) may = tt
submits_all f w (event.Suspect node) may = tt
submits_all f w event.Swap may = tt

one_more : (f : Frame) (w u v : World) (steps : List Step) (step : Step) → Leads f w steps u → Next f u step v → Leads f w (steps ++ step ∷ []) v
one_more f w u v [] step leads next = (v, subst (λ (z : World). Next f z step v) leads next, refl)
one_more f w u v (one ∷ steps) step (t, first, rest) next = (t, first, one_more f t u v steps step rest next)

counted_from : (f : Frame) → BookLaws f → StepsCount f → (before steps : List Step) (w v : World) → Replays f before w → Leads f w steps v → AfterSteps f w w.steps → AfterSteps f v v.steps
counted_from f laws counts before [] w v replays leads h = subst (λ (z : World). AfterSteps f z z.steps) (sym leads) h
counted_from f laws counts before (step ∷ steps) w v replays (u, next, leads) h =
    let k = replayed f before w laws replays in
    counted_from f laws counts (before ++ step ∷ []) steps u v (one_more f (opening_world f) w u before step replays next) leads
    (counts.step w u step next (submits_all f w step.event (kept_may f w laws k)) (grouped_of f w k) h)

-- ---- each event

-- a letter that comes may be received
may_come : (f : Frame) (w : World) (mail : Mail) → Come w.past.letters mail → MayStart f w (receiver_of mail) (Comes mail)
may_come f w (Mail.Grouped letter) come = (refl, come)
may_come f w (Mail.Sends incarnation from to errand) come = refl

-- a world of a run that is going
pub record IsWorld (f : Frame) (w : World) : Type 0 where
  pub kept : Kept f w
  pub counted : AfterSteps f w w.steps
  pub going : standing f w ≡ IsGoing

has_room : (f : Frame) (fitness : Fitness) (w : World) (m : ℕ) → Laws f fitness → IsWorld f w → HasRoom f w m w.steps (f.settings.nodes * w.steps)
has_room f fitness w m laws is =
    let left = leb-false f.settings.events w.steps (events_left f w (limit f w) is.going) in
    let p = laws.program in
    let set = p.settings in
    let most = set.events in
    let some = set.some in
    let lt : w.steps < EVENTS = omega (arith, left, most) in
    let le = room f.settings.nodes w.steps EVENTS lt in
    record { counted = is.counted; some = lt; rare = omega (arith, le, some); few = replies_few f w laws.book is.kept is.going m }

-- it follows a course by each test that agrees with its list
follows_each : (f : Frame) (w : World) → BookLaws f → Kept f w → FollowsEach f w (agreed f w)
follows_each f w laws k = λ single agrees.
    let h = k.courses single agrees in
    record { course = h.course; follows = h.follows; is = h.list }

ticks_fit : (f : Frame) (fitness : Fitness) (w : World) → Laws f fitness → IsWorld f w → (m : ℕ) → m < f.settings.nodes → (ticking f w m).world.lives m ≡ true → EventFits f fitness m Ticks ((ticking f w m).world.nodes m)
ticks_fit f fitness w laws is m low lives =
    fits_part f fitness (ticking f w m).world m t.list Ticks w.steps (f.settings.nodes * w.steps + m) laws grouped (both_true _ _ (lt-ltb _ _ low) lives) t.follows tt (λ single course h. tt) (record {
      counted = t.counted;
      some = has.some;
      rare = let le = room f.settings.nodes w.steps EVENTS has.some in omega (arith, le, low);
      few = subst (λ (z : Node). FewReplies HISTORY_LINES z.played) (sym (t.left m (omega arith))) has.few;
    })
  where
    u : AtWork
    u = untouched (record w { flights = ticked w.flights })

    has : HasRoom f w m w.steps (f.settings.nodes * w.steps)
    has = has_room f fitness w m laws is

    k : Kept f w
    k = is.kept

    start : Grouped f w
    start = grouped_of f w k

    gone : Going f start.events u
    gone = going f u.world (with_flights f w (ticked w.flights) start (fly_ticked w.past.letters w.flights start.travels))

    follows : FollowsEach f u.world (agreed f w)
    follows single agrees =
        let h = follows_each f w laws.book k single agrees in
        let g = h.follows in
        let e = g.errands in
        record {
          course = h.course;
          follows = record {
            corresponds = same_world f single w u.world h.course refl refl refl g.corresponds;
            errands = stand_on f single w u.world h.course (λ n. refl) e (ticked_fly (MailStands f single h.course) w.flights e.travels);
          };
          is = h.is;
        }

    grouped : Grouped f (ticking f w m).world
    grouped = let g = laws.group in let more = g.more in let b = laws.book in let z = going_below more.laws f m u b.small (omega (arith, low)) gone in z.grouped

    t : Ticking f w w.steps (f.settings.nodes * w.steps) m (ticking f w m)
    t = ticks_all f fitness start.events w w.steps (f.settings.nodes * w.steps) m u laws (omega (arith, low)) gone (λ n. let r = has_room f fitness w n laws is in r.few)
        (record {
          list = agreed f w;
          follows = follows;
          counted = weaker f (group_world w) w.steps w.steps (f.settings.nodes * w.steps) (f.settings.nodes * w.steps + 0) (omega arith) (omega arith) is.counted;
          left = λ n le. refl;
        })

fits_all : (f : Frame) (fitness : Fitness) (w : World) (e : world.Event) (given : Given e) → Laws f fitness → IsWorld f w → Possible f w e given → PartsFit f fitness w e
fits_all f fitness w (event.Act process) given laws is possible =
    let b = laws.book in
    let k = is.kept in
    let m : ℕ = home_of f w process.0 in
    let small = b.small in
    let lives : Lives f w m = on_home f w process.0 (omega (arith, small)) (and_parts (w.lives m) (may_act_as (played_in f w process.0)) possible).0 in
    fits_part f fitness w m (agreed f w) (Acts process.0) w.steps (f.settings.nodes * w.steps) laws (grouped_of f w k) lives (follows_each f w b k) (λ r act here acts x of call. kept_may f w b k process.0 r act here acts x of call)
    (λ single course h. tt) (has_room f fitness w m laws is)
fits_all f fitness w (event.Deliver packet copy) given laws is possible = λ flight found lives.
    let k = is.kept in
    let start = grouped_of f w k in
    fits_part f fitness w (receiver_of flight.packet.mail) (agreed f w) (Comes flight.packet.mail) w.steps (f.settings.nodes * w.steps) laws (grouped_of f w k) lives (follows_each f w laws.book k)
    (may_come f w flight.packet.mail (fly_found w.past.letters _ w.flights flight found start.travels))
    (λ single course h. let e = h.errands in ready_flies (MailStands f single course) packet copy w.flights flight e.travels found) (has_room f fitness w (receiver_of flight.packet.mail) laws is)
fits_all f fitness w event.Tick given laws is possible = ticks_fit f fitness w laws is
fits_all f fitness w (event.Suspect node) given laws is possible =
    let k = is.kept in
    fits_part f fitness w node (agreed f w) Suspects w.steps (f.settings.nodes * w.steps) laws (grouped_of f w k) possible (follows_each f w laws.book k) tt (λ single course h. tt) (has_room f fitness w node laws is)
fits_all f fitness w (event.Burst process place turns) given laws is possible = tt
fits_all f fitness w (event.Crash node) given laws is possible = tt
fits_all f fitness w event.Swap given laws is possible = tt

pub parts_fit : (f : Frame) (fitness : Fitness) (steps : List Step) (w : World) (e : world.Event) (given : Given e) → Laws f fitness → Replays f steps w → standing f w ≡ IsGoing → Possible f w e given → PartsFit f fitness w e
parts_fit f fitness steps w e given laws replays goes possible =
    let b = laws.book in
    let counts : StepsCount f = laws.counts f b.small in
    fits_all f fitness w e given laws
    (record { kept = replayed f steps w b replays; counted = counted_from f b counts [] steps (opening_world f) w refl replays counts.opening; going = goes }) possible
