-- The table of standings, read in both directions.
use Rattle.std.proofs.Common.{◌≡◌, ◌≤◌, ◌<◌, ◌==◌, ◌⊎◌, ⊎_elim, inl, inr, ◌||◌, ◌&&◌, not, ℕ, zero, suc, Bool, true, false, if◌then◌else◌, is_some, nat_le, length, List, [], ◌∷◌, Option, None, Some, refl, sym, ap, ◌∙◌, arith, subst}
use Rattle.std.proofs.lemmas.Bool.{and_cases, and_from, and_parts, cases_eq, eq-eqb, eqb-true, false_from_ne_true, le-leb, leb-false, leb-true, lt-leb, lt-ltb, ltb-true, not-false, not-true, not_from_false, or_cases, or_left, or_parts, or_right}
use Rattle.orca_base.specs.declared.limits.TheConstants.{HISTORY_LINES, IDLE_TICKS}
use Rattle.orca_base.specs.declared.what.What.{What}
use Rattle.orca_base.specs.declared.what.What.TheVariants as what
use Rattle.book_law.specs.Singles.{waiting}
use Rattle.group_rules.specs.Member.{leads}
use Rattle.group_rules.specs.Sets.{count}
use Rattle.group_rules.specs.Steps.{is_empty}
use Rattle.net_rules.specs.Flights.{first_ready}
use Rattle.world_rules.specs.declared.standing.Standing.{Standing}
use Rattle.world_rules.specs.declared.standing.Standing.TheVariants.{Limit, OutOfTurns, OutOfEvents, NoGroup, Faulted, Blocked, Finished, Going}
use Rattle.world_rules.specs.Frame.{Frame, group}
use Rattle.world_rules.specs.Nodes.{Node}
use Rattle.world_rules.specs.Played.{Played, Stage, has_faulted, is_computing, is_over, is_ready}
use Rattle.world_rules.specs.Played.Stage.{Computing, Acting, Submitted, Reading, Asking, Over}
use Rattle.world_rules.specs.Standings.{after_limit, all_below, all_ended, all_rest, any_below, each_process, first_of, has_fault, has_lost_too_many, has_no_turns, is_blocked_run, is_done, is_faulted, is_no_group, is_out_of_events, is_out_of_turns, is_over_run, is_quiet, limit, limit_at, limit_below, lines_limit, lives_at_home, members_done, nobody_lives, process_count, rests, rests_at, some_process, standing, stands, waits_for_group}
use Rattle.world_rules.specs.Worlds.{Book, World, agreed, home_of, played_in}
use Rattle.world_facts.specs.Rows.{AllEnded, AllRead, AllRest, IsBegun, IsDone, IsLimited, IsOver, IsQuiet, IsUnlimited, LacksGroup, LivesAtHome, MayGoOn, NoneFaulted, NoneSpent, Rests, Row, SomeFaulted, SomeLeft, SomeSpent, SomeWaits, is_limit}

-- ---- each number below a bound, and some

apart : (b : Bool) → b ≡ true → b ≡ false → ⊥
apart b one two = let e : true ≡ false = sym one ∙ two in cc e

pub all_at : (n : ℕ) (test : ℕ → Bool) (i : ℕ) → all_below n test ≡ true → i < n → test i ≡ true
all_at zero test i all lt = absurd (omega (arith, lt))
all_at (suc n) test i all lt = ⊎_elim
    (λ (e : i ≡ n). ap test e ∙ (and_parts (all_below n test) (test n) all).1)
    (λ other. all_at n test i (and_parts (all_below n test) (test n) all).0 (omega (arith, lt, other)))
    (cases_eq i n)

pub all_from : (n : ℕ) (test : ℕ → Bool) → ((i : ℕ) → i < n → test i ≡ true) → all_below n test ≡ true
all_from zero test each = refl
all_from (suc n) test each = and_from (all_below n test) (test n) (all_from n test (λ i lt. each i (omega (arith, lt)))) (each n (omega arith))

pub not_all : (n : ℕ) (test : ℕ → Bool) → all_below n test ≡ false → (i : ℕ) × (i < n) × (test i ≡ false)
not_all zero test fails = absurd (cc fails)
not_all (suc n) test fails = ⊎_elim
    (λ (e : all_below n test ≡ false). let h = not_all n test e in let lt = h.1 in (h.0, omega (arith, lt), h.2))
    (λ (e : test n ≡ false). (n, omega arith, e))
    (and_cases (all_below n test) (test n) fails)

pub any_at : (n : ℕ) (test : ℕ → Bool) → any_below n test ≡ true → (i : ℕ) × (i < n) × (test i ≡ true)
any_at zero test any = absurd (cc any)
any_at (suc n) test any = ⊎_elim
    (λ (e : any_below n test ≡ true). let h = any_at n test e in let lt = h.1 in (h.0, omega (arith, lt), h.2))
    (λ (e : test n ≡ true). (n, omega arith, e))
    (or_cases (any_below n test) (test n) any)

pub any_from : (n : ℕ) (test : ℕ → Bool) (i : ℕ) → i < n → test i ≡ true → any_below n test ≡ true
any_from zero test i lt is = absurd (omega (arith, lt))
any_from (suc n) test i lt is = ⊎_elim
    (λ (e : i ≡ n). or_right (any_below n test) (test n) (ap test (sym e) ∙ is))
    (λ other. or_left (any_below n test) (test n) (any_from n test i (omega (arith, lt, other)) is))
    (cases_eq i n)

pub not_any : (n : ℕ) (test : ℕ → Bool) (i : ℕ) → any_below n test ≡ false → i < n → test i ≡ false
not_any n test i none lt = false_from_ne_true (test i) (λ is. apart (any_below n test) (any_from n test i lt is) none)

-- ---- processes

-- where its member lives, what is said of processes of living members
at_home : (lives said : Bool) → lives ≡ true → (not lives || said) ≡ true → said ≡ true
at_home lives said is all = ap (λ b. not b || said) (sym is) ∙ all

from_home : (lives said : Bool) → (lives ≡ true → said ≡ true) → (not lives || said) ≡ true
from_home true said h = h refl
from_home false said h = refl

not_at_home : (lives said : Bool) → lives ≡ true → (lives && said) ≡ false → said ≡ false
not_at_home lives said is none = ap (λ b. b && said) (sym is) ∙ none

begun_as : (test : Stage → Bool) (o : Option Played) → stands test o ≡ true → (r : Played) × (o ≡ Some r) × (test r.stage ≡ true)
begun_as test None e = absurd (cc e)
begun_as test (Some r) e = (r, refl, e)

stands_as : (test : Stage → Bool) (o : Option Played) (r : Played) (b : Bool) → o ≡ Some r → test r.stage ≡ b → stands test o ≡ b
stands_as test o r b is e = ap (stands test) is ∙ e

said_as : (test : Stage → Bool) (o : Option Played) (r : Played) (b : Bool) → o ≡ Some r → stands test o ≡ b → test r.stage ≡ b
said_as test o r b is e = ap (stands test) (sym is) ∙ e

rests_as : (f : Frame) (w : World) (i : ℕ) (o : Option Played) → rests f w i o ≡ true →
    (r : Played) × (o ≡ Some r) × (rests_at f w i r.stage ≡ true)
rests_as f w i None e = absurd (cc e)
rests_as f w i (Some r) e = (r, refl, e)

rests_is : (f : Frame) (w : World) (i : ℕ) (stage : Stage) → rests_at f w i stage ≡ true → Rests f w i stage
rests_is f w i (Over act) e = tt
rests_is f w i (Reading act) e = tt
rests_is f w i (Submitted act) e =
    let lt = ltb-true 0 (waiting i (w.nodes (home_of f w i)).copies.queue) e in omega (arith, lt)
rests_is f w i (Asking act) e = e
rests_is f w i Computing e = cc e
rests_is f w i (Acting act) e = cc e

rests_from : (f : Frame) (w : World) (i : ℕ) (stage : Stage) → Rests f w i stage → rests_at f w i stage ≡ true
rests_from f w i (Over act) h = refl
rests_from f w i (Reading act) h = refl
rests_from f w i (Submitted act) h = lt-ltb 0 (waiting i (w.nodes (home_of f w i)).copies.queue) (omega (arith, h))
rests_from f w i (Asking act) h = h
rests_from f w i Computing h = absurd h
rests_from f w i (Acting act) h = absurd h

turns_as : (f : Frame) (o : Option Played) → has_no_turns f o ≡ true →
    (r : Played) × (o ≡ Some r) × ((nat_le f.settings.turns r.turns && is_computing r.stage) ≡ true)
turns_as f None e = absurd (cc e)
turns_as f (Some r) e = (r, refl, e)

computes : (stage : Stage) → is_computing stage ≡ true → stage ≡ Computing
computes Computing e = refl
computes (Acting act) e = absurd (cc e)
computes (Submitted act) e = absurd (cc e)
computes (Reading act) e = absurd (cc e)
computes (Asking act) e = absurd (cc e)
computes (Over act) e = absurd (cc e)

none_of : {A : Type 0} (o : Option A) → is_some o ≡ false → o ≡ None
none_of None e = refl
none_of (Some x) e = absurd (cc e)

empty_of : {A : Type 0} (xs : List A) → is_empty xs ≡ true → xs ≡ []
empty_of [] e = refl
empty_of (x ∷ xs) e = absurd (cc e)

-- ---- a member is done

if_leads : (leading empty : Bool) → (not leading || empty) ≡ true → leading ≡ true → empty ≡ true
if_leads leading empty h is = at_home leading empty is h

done_is : (f : Frame) (w : World) (m : ℕ) (node : Node) → is_done f w m node ≡ true → IsDone f w m node
done_is f w m node e =
    let parts = and_parts ((node.member.applied == length node.member.log) && (node.member.applied == length (agreed f w))) _ e in
    let numbers = and_parts (node.member.applied == length node.member.log) (node.member.applied == length (agreed f w)) parts.0 in
    let rest = and_parts (is_empty node.member.pending) _ parts.1 in
    record {
      whole = eqb-true node.member.applied (length node.member.log) numbers.0;
      most = eqb-true node.member.applied (length (agreed f w)) numbers.1;
      pending = empty_of node.member.pending rest.0;
      waiting = λ is. empty_of node.member.waiting
          (if_leads (leads (group f) m node.member) (is_empty node.member.waiting) rest.1 is);
    }

done_from : (f : Frame) (w : World) (m : ℕ) (node : Node) → IsDone f w m node → is_done f w m node ≡ true
done_from f w m node h = and_from
    ((node.member.applied == length node.member.log) && (node.member.applied == length (agreed f w)))
    (is_empty node.member.pending && (not (leads (group f) m node.member) || is_empty node.member.waiting))
    (and_from (node.member.applied == length node.member.log) (node.member.applied == length (agreed f w))
    (eq-eqb node.member.applied (length node.member.log) h.whole) (eq-eqb node.member.applied (length (agreed f w)) h.most))
    (and_from (is_empty node.member.pending) (not (leads (group f) m node.member) || is_empty node.member.waiting)
    (ap is_empty h.pending) (from_home (leads (group f) m node.member) (is_empty node.member.waiting) (λ is. ap is_empty (h.waiting is))))

-- ---- a moment, and a run

quiet_is : (f : Frame) (w : World) → is_quiet f w ≡ true → IsQuiet f w
quiet_is f w quiet =
    let parts = and_parts (not (is_some (first_ready w.flights))) (not (some_process f w (λ i r. stands is_ready r))) quiet in
    let none = not-true (some_process f w (λ i r. stands is_ready r)) parts.1 in
    record {
      packets = none_of (first_ready w.flights) (not-true (is_some (first_ready w.flights)) parts.0);
      processes = λ i r begun lives.
          let e = not_any (process_count f w) _ i none begun.exists in
          said_as is_ready (played_in f w i) r false begun.here
          (not_at_home (lives_at_home f w i) (stands is_ready (played_in f w i)) lives e);
    }

quiet_from : (f : Frame) (w : World) → IsQuiet f w → is_quiet f w ≡ true
quiet_from f w h = and_from (not (is_some (first_ready w.flights))) (not (some_process f w (λ i r. stands is_ready r)))
    (ap (λ (o : Option (ℕ × ℕ)). not (is_some o)) h.packets)
    (not_from_false (some_process f w (λ i r. stands is_ready r)) (false_from_ne_true (some_process f w (λ i r. stands is_ready r)) (λ some.
    let one = any_at (process_count f w) _ some in
    let two = and_parts (lives_at_home f w one.0) (stands is_ready (played_in f w one.0)) one.2 in
    let r = begun_as is_ready (played_in f w one.0) two.1 in
    apart (is_ready r.0.stage) r.2 (h.processes one.0 r.0 (record { exists = one.1; here = r.1 }) two.0))))

ended_are : (f : Frame) (w : World) → all_ended f w ≡ true → AllEnded f w
ended_are f w all i lt lives =
    let e = at_home (lives_at_home f w i) (stands is_over (played_in f w i)) lives (all_at (process_count f w) _ i all lt) in
    let h = begun_as is_over (played_in f w i) e in
    (h.0, record { exists = lt; here = h.1 }, h.2)

ended_from : (f : Frame) (w : World) → AllEnded f w → all_ended f w ≡ true
ended_from f w h = all_from (process_count f w) _ (λ i lt.
    from_home (lives_at_home f w i) (stands is_over (played_in f w i)) (λ lives.
    let r = h i lt lives in
    stands_as is_over (played_in f w i) r.0 true r.1.here r.2))

rest_are : (f : Frame) (w : World) → all_rest f w ≡ true → AllRest f w
rest_are f w all =
    let parts = and_parts (is_quiet f w && is_empty w.flights) (members_done f w && each_process f w (rests f w)) all in
    let still = and_parts (is_quiet f w) (is_empty w.flights) parts.0 in
    let those = and_parts (members_done f w) (each_process f w (rests f w)) parts.1 in
    record {
      quiet = quiet_is f w still.0;
      flights = empty_of w.flights still.1;
      members = λ m low lives.
          done_is f w m (w.nodes m) (at_home (w.lives m) (is_done f w m (w.nodes m)) lives (all_at f.settings.nodes _ m those.0 low));
      processes = λ i lt lives.
          let e = at_home (lives_at_home f w i) (rests f w i (played_in f w i)) lives (all_at (process_count f w) _ i those.1 lt) in
          let h = rests_as f w i (played_in f w i) e in
          (h.0, record { exists = lt; here = h.1 }, rests_is f w i h.0.stage h.2);
    }

rest_from : (f : Frame) (w : World) → AllRest f w → all_rest f w ≡ true
rest_from f w h = and_from (is_quiet f w && is_empty w.flights) (members_done f w && each_process f w (rests f w))
    (and_from (is_quiet f w) (is_empty w.flights) (quiet_from f w h.quiet) (ap is_empty h.flights))
    (and_from (members_done f w) (each_process f w (rests f w))
    (all_from f.settings.nodes _ (λ m low.
    from_home (w.lives m) (is_done f w m (w.nodes m)) (λ lives. done_from f w m (w.nodes m) (h.members m low lives))))
    (all_from (process_count f w) _ (λ i lt.
    from_home (lives_at_home f w i) (rests f w i (played_in f w i)) (λ lives.
    let r = h.processes i lt lives in
    ap (rests f w i) r.1.here ∙ rests_from f w i r.0.stage r.2))))

over_is : (f : Frame) (w : World) → is_over_run f w ≡ true → IsOver f w
over_is f w over = ⊎_elim (λ e. inl (ended_are f w e)) (λ e. inr (rest_are f w e)) (or_cases (all_ended f w) (all_rest f w) over)

over_from : (f : Frame) (w : World) → IsOver f w → is_over_run f w ≡ true
over_from f w h = ⊎_elim
    (λ (e : AllEnded f w). or_left (all_ended f w) (all_rest f w) (ended_from f w e))
    (λ (e : AllRest f w). or_right (all_ended f w) (all_rest f w) (rest_from f w e)) h

begun_is : (f : Frame) (w : World) → IsOver f w → (i : ℕ) → i < process_count f w → LivesAtHome f w i → (r : Played) × IsBegun f w i r
begun_is f w over i lt lives = ⊎_elim
    (λ (h : AllEnded f w). let e = h i lt lives in (e.0, e.1))
    (λ (h : AllRest f w). let e = h.processes i lt lives in (e.0, e.1))
    over

-- ---- limits

first_some : (x y : Option (What × ℕ)) (z : What × ℕ) → first_of x y ≡ Some z → (x ≡ Some z) ⊎ (y ≡ Some z)
first_some None y z e = inr e
first_some (Some x) y z e = inl e

first_none : (x y : Option (What × ℕ)) → first_of x y ≡ None → (x ≡ None) × (y ≡ None)
first_none None y e = (refl, e)
first_none (Some x) y e = absurd (cc e)

none_first : (x y : Option (What × ℕ)) → x ≡ None → y ≡ None → first_of x y ≡ None
none_first x y one two = ap (λ z. first_of z y) one ∙ two

if_some : {A : Type 0} (b : Bool) (o : Option A) (z : A) → (if b then o else None) ≡ Some z → (b ≡ true) × (o ≡ Some z)
if_some true o z e = (refl, e)
if_some false o z e = absurd (cc e)

if_none : {A : Type 0} (b : Bool) (o : Option A) → (b ≡ true → o ≡ None) → (if b then o else None) ≡ None
if_none true o h = h refl
if_none false o h = refl

below_some : (f : Frame) (w : World) (n : ℕ) (z : What × ℕ) → limit_below f w n ≡ Some z →
    (m : ℕ) × (m < n) × (w.lives m ≡ true) × (limit_at f (w.nodes m) ≡ Some z)
below_some f w zero z e = absurd (cc e)
below_some f w (suc n) z e = ⊎_elim
    (λ (h : limit_below f w n ≡ Some z). let k = below_some f w n z h in let lt = k.1 in (k.0, omega (arith, lt), k.2, k.3))
    (λ (h : (if w.lives n then limit_at f (w.nodes n) else None) ≡ Some z).
    let k = if_some (w.lives n) (limit_at f (w.nodes n)) z h in (n, omega arith, k.0, k.1))
    (first_some (limit_below f w n) _ z e)

below_none : (f : Frame) (w : World) (n m : ℕ) → limit_below f w n ≡ None → m < n → w.lives m ≡ true → limit_at f (w.nodes m) ≡ None
below_none f w zero m e lt lives = absurd (omega (arith, lt))
below_none f w (suc n) m e lt lives =
    let parts = first_none (limit_below f w n) (if w.lives n then limit_at f (w.nodes n) else None) e in
    ⊎_elim
    (λ (same : m ≡ n).
    let on : w.lives n ≡ true = ap w.lives (sym same) ∙ lives in
    ap (λ k. limit_at f (w.nodes k)) same ∙ (ap (λ b. if b then limit_at f (w.nodes n) else None) (sym on) ∙ parts.1))
    (λ other. below_none f w n m parts.0 (omega (arith, lt, other)) lives)
    (cases_eq m n)

none_below : (f : Frame) (w : World) (n : ℕ) → ((m : ℕ) → m < n → w.lives m ≡ true → limit_at f (w.nodes m) ≡ None) → limit_below f w n ≡ None
none_below f w zero each = refl
none_below f w (suc n) each = none_first (limit_below f w n) _ (none_below f w n (λ m lt. each m (omega (arith, lt))))
    (if_none (w.lives n) (limit_at f (w.nodes n)) (each n (omega arith)))

lines_some : (most n : ℕ) (z : What × ℕ) → (if nat_le most n then Some (what.HistoryLines, most) else None) ≡ Some z →
    (most ≤ n) × ((what.HistoryLines, most) ≡ z)
lines_some most n z e = go (nat_le most n) refl e
  where
    go : (b : Bool) → nat_le most n ≡ b → (if b then Some (what.HistoryLines, most) else None) ≡ Some z →
        (most ≤ n) × ((what.HistoryLines, most) ≡ z)
    go true is h = (leb-true most n is, cc h)
    go false is h = absurd (cc h)

lines_none : (most n : ℕ) (x : What × ℕ) → (if nat_le most n then Some x else None) ≡ None → n < most
lines_none most n x e = go (nat_le most n) refl e
  where
    go : (b : Bool) → nat_le most n ≡ b → (if b then Some x else None) ≡ None → n < most
    go true is h = absurd (cc h)
    go false is h = leb-false most n is

none_lines : (most n : ℕ) (x : What × ℕ) → n < most → (if nat_le most n then Some x else None) ≡ None
none_lines most n x lt = ap (λ b. if b then Some x else None) (lt-leb most n lt)

limit_is : (f : Frame) (w : World) (passed : What) (number : ℕ) → limit f w ≡ Some (passed, number) → IsLimited f w passed number
limit_is f w passed number e = ⊎_elim
    (λ h. inl (below_some f w f.settings.nodes (passed, number) h))
    (λ h.
    let k = lines_some HISTORY_LINES (length (Book f w)) (passed, number) h in
    inr (k.0, ap (λ (x : What × ℕ). x.0) (sym k.1), ap (λ (x : What × ℕ). x.1) (sym k.1)))
    (first_some (limit_below f w f.settings.nodes) (lines_limit f w) (passed, number) e)

unlimited_is : (f : Frame) (w : World) → limit f w ≡ None → IsUnlimited f w
unlimited_is f w none =
    let parts = first_none (limit_below f w f.settings.nodes) (lines_limit f w) none in
    record {
      members = λ m low lives. below_none f w f.settings.nodes m parts.0 low lives;
      lines = lines_none HISTORY_LINES (length (Book f w)) (what.HistoryLines, HISTORY_LINES) parts.1;
    }

unlimited_from : (f : Frame) (w : World) → IsUnlimited f w → limit f w ≡ None
unlimited_from f w h = none_first (limit_below f w f.settings.nodes) (lines_limit f w) (none_below f w f.settings.nodes h.members)
    (none_lines HISTORY_LINES (length (Book f w)) (what.HistoryLines, HISTORY_LINES) h.lines)

-- ---- turns

spent_is : (f : Frame) (w : World) → is_out_of_turns f w ≡ true → SomeSpent f w
spent_is f w e =
    let h = any_at (process_count f w) _ e in
    let k = turns_as f (played_in f w h.0) h.2 in
    let parts = and_parts (nat_le f.settings.turns k.0.turns) (is_computing k.0.stage) k.2 in
    (h.0, k.0, record { exists = h.1; here = k.1 }, leb-true f.settings.turns k.0.turns parts.0, computes k.0.stage parts.1)

spent_from : (f : Frame) (w : World) → SomeSpent f w → is_out_of_turns f w ≡ true
spent_from f w h =
    let r : Played = h.1 in
    any_from (process_count f w) _ h.0 h.2.exists
    (ap (has_no_turns f) h.2.here
    ∙ and_from (nat_le f.settings.turns r.turns) (is_computing r.stage) (le-leb f.settings.turns r.turns h.3) (ap is_computing h.4))

none_spent_is : (f : Frame) (w : World) → is_out_of_turns f w ≡ false → NoneSpent f w
none_spent_is f w none i r begun is =
    let e = ap (has_no_turns f) (sym begun.here) ∙ not_any (process_count f w) _ i none begun.exists in
    let g : (nat_le f.settings.turns r.turns && true) ≡ false =
    ap (λ s. nat_le f.settings.turns r.turns && is_computing s) (sym is) ∙ e in
    ⊎_elim (λ h. leb-false f.settings.turns r.turns h) (λ (h : true ≡ false). absurd (cc h)) (and_cases (nat_le f.settings.turns r.turns) true g)

none_spent_from : (f : Frame) (w : World) → NoneSpent f w → is_out_of_turns f w ≡ false
none_spent_from f w none = false_from_ne_true (is_out_of_turns f w) (λ some.
    let h = spent_is f w some in
    let lt = none h.0 h.1 h.2 h.4 in
    let le = h.3 in
    omega (arith, lt, le))

-- ---- the group

abbrev is_idle : Frame → World → Bool
is_idle f w = is_quiet f w && (some_process f w (waits_for_group f w) && nat_le IDLE_TICKS w.idle)

idle_is : (f : Frame) (w : World) → is_idle f w ≡ true → IsQuiet f w × SomeWaits f w × (IDLE_TICKS ≤ w.idle)
idle_is f w e =
    let quiet = and_parts (is_quiet f w) (some_process f w (waits_for_group f w) && nat_le IDLE_TICKS w.idle) e in
    let waits = and_parts (some_process f w (waits_for_group f w)) (nat_le IDLE_TICKS w.idle) quiet.1 in
    let one = any_at (process_count f w) _ waits.0 in
    let two = and_parts (lives_at_home f w one.0) (waits_for_group f w one.0 (played_in f w one.0)) one.2 in
    (quiet_is f w quiet.0, (one.0, one.1, two.0, two.1), leb-true IDLE_TICKS w.idle waits.1)

idle_from : (f : Frame) (w : World) → IsQuiet f w → SomeWaits f w → IDLE_TICKS ≤ w.idle → is_idle f w ≡ true
idle_from f w quiet one le = and_from (is_quiet f w) (some_process f w (waits_for_group f w) && nat_le IDLE_TICKS w.idle) (quiet_from f w quiet)
    (and_from (some_process f w (waits_for_group f w)) (nat_le IDLE_TICKS w.idle)
    (any_from (process_count f w) _ one.0 one.1
    (and_from (lives_at_home f w one.0) (waits_for_group f w one.0 (played_in f w one.0)) one.2 one.3))
    (le-leb IDLE_TICKS w.idle le))

lacks_is : (f : Frame) (w : World) → is_no_group f w ≡ true → LacksGroup f w
lacks_is f w e =
    let parts = and_parts (has_lost_too_many f w) (nobody_lives f w || is_idle f w) e in
    record {
      lost = ltb-true f.settings.resilience (count f.settings.nodes (λ m. not (w.lives m) || (w.nodes m).member.outside)) parts.0;
      idle = ⊎_elim
          (λ (h : nobody_lives f w ≡ true). inl (λ m low. not-true (w.lives m) (all_at f.settings.nodes _ m h low)))
          (λ (h : is_idle f w ≡ true). inr (idle_is f w h))
          (or_cases (nobody_lives f w) (is_idle f w) parts.1);
    }

lacks_from : (f : Frame) (w : World) → LacksGroup f w → is_no_group f w ≡ true
lacks_from f w h = and_from (has_lost_too_many f w) (nobody_lives f w || is_idle f w)
    (lt-ltb f.settings.resilience (count f.settings.nodes (λ m. not (w.lives m) || (w.nodes m).member.outside)) h.lost)
    (⊎_elim
    (λ (none : (m : ℕ) → m < f.settings.nodes → w.lives m ≡ false).
    or_left (nobody_lives f w) (is_idle f w) (all_from f.settings.nodes _ (λ m low. not_from_false (w.lives m) (none m low))))
    (λ (e : IsQuiet f w × SomeWaits f w × (IDLE_TICKS ≤ w.idle)).
    or_right (nobody_lives f w) (is_idle f w) (idle_from f w e.0 e.1 e.2))
    h.idle)

-- ---- faults

faulted_is : (f : Frame) (w : World) → has_fault f w ≡ true → SomeFaulted f w
faulted_is f w e =
    let h = any_at (process_count f w) _ e in
    let k = begun_as has_faulted (played_in f w h.0) h.2 in
    (h.0, k.0, record { exists = h.1; here = k.1 }, k.2)

faulted_from : (f : Frame) (w : World) → SomeFaulted f w → has_fault f w ≡ true
faulted_from f w h = any_from (process_count f w) _ h.0 h.2.exists (stands_as has_faulted (played_in f w h.0) h.1 true h.2.here h.3)

none_faulted_is : (f : Frame) (w : World) → has_fault f w ≡ false → NoneFaulted f w
none_faulted_is f w none i r begun =
    said_as has_faulted (played_in f w i) r false begun.here (not_any (process_count f w) _ i none begun.exists)

none_faulted_from : (f : Frame) (w : World) → NoneFaulted f w → has_fault f w ≡ false
none_faulted_from f w none = false_from_ne_true (has_fault f w) (λ some.
    let h = faulted_is f w some in
    apart (has_faulted h.1.stage) h.3 (none h.0 h.1 h.2))

-- ---- who is left

left_is : (f : Frame) (w : World) → IsOver f w → all_ended f w ≡ false → SomeLeft f w
left_is f w over fails =
    let h = not_all (process_count f w) _ fails in
    let k = or_parts (not (lives_at_home f w h.0)) (stands is_over (played_in f w h.0)) h.2 in
    let lives : lives_at_home f w h.0 ≡ true = not-false (lives_at_home f w h.0) k.0 in
    let r = begun_is f w over h.0 h.1 lives in
    (h.0, r.0, r.1, lives, said_as is_over (played_in f w h.0) r.0 false r.1.here k.1)

left_from : (f : Frame) (w : World) → SomeLeft f w → all_ended f w ≡ false
left_from f w h = false_from_ne_true (all_ended f w) (λ all.
    let e = ended_are f w all h.0 h.2.exists h.3 in
    let same : stands is_over (played_in f w h.0) ≡ true = stands_as is_over (played_in f w h.0) e.0 true e.1.here e.2 in
    apart (is_over h.1.stage) (said_as is_over (played_in f w h.0) h.1 true h.2.here same) h.4)

-- ---- the table

abbrev pick : Option (What × ℕ) → Bool → Bool → Bool → Bool → Bool → Bool → Standing
pick (Some passed) a b c d e o = Limit passed.0 passed.1
pick None a b c d e o =
    if a then OutOfTurns
    else (if b then OutOfEvents
    else (if c then NoGroup
    else (if d then Faulted
    else (if e then Blocked
    else (if o then Finished else Going)))))

-- the first three tests fail, and the fourth
abbrev Passes : Option (What × ℕ) → Bool → Bool → Bool → Type 0
Passes l a b c = (l ≡ None) × (a ≡ false) × (b ≡ false) × (c ≡ false)

-- what each answer says of the tests
abbrev Tests : Standing → Option (What × ℕ) → Bool → Bool → Bool → Bool → Bool → Bool → Type 0
Tests (Limit passed number) l a b c d e o = l ≡ Some (passed, number)
Tests OutOfTurns l a b c d e o = (l ≡ None) × (a ≡ true)
Tests OutOfEvents l a b c d e o = (l ≡ None) × (a ≡ false) × (b ≡ true)
Tests NoGroup l a b c d e o = (l ≡ None) × (a ≡ false) × (b ≡ false) × (c ≡ true)
Tests Faulted l a b c d e o = Passes l a b c × (d ≡ true)
Tests Blocked l a b c d e o = Passes l a b c × (d ≡ false) × (e ≡ true)
Tests Finished l a b c d e o = Passes l a b c × (d ≡ false) × (e ≡ false) × (o ≡ true)
Tests Going l a b c d e o = Passes l a b c × (d ≡ false) × (e ≡ false) × (o ≡ false)

tests : (l : Option (What × ℕ)) (a b c d e o : Bool) → Tests (pick l a b c d e o) l a b c d e o
tests (Some passed) a b c d e o = refl
tests None true b c d e o = (refl, refl)
tests None false true c d e o = (refl, refl, refl)
tests None false false true d e o = (refl, refl, refl, refl)
tests None false false false true e o = ((refl, refl, refl, refl), refl)
tests None false false false false true o = ((refl, refl, refl, refl), refl, refl)
tests None false false false false false true = ((refl, refl, refl, refl), refl, refl, refl)
tests None false false false false false false = ((refl, refl, refl, refl), refl, refl, refl)

-- tests that fail one after the other
chosen : (l : Option (What × ℕ)) (a b c d e o : Bool) (a' b' c' d' e' o' : Bool) → l ≡ None → a ≡ a' → b ≡ b' → c ≡ c' → d ≡ d' → e ≡ e' →
    o ≡ o' → pick l a b c d e o ≡ pick None a' b' c' d' e' o'
chosen l a b c d e o a' b' c' d' e' o' lh ah bh ch dh eh oh =
    ap (λ z. pick z a b c d e o) lh ∙ ap (λ z. pick None z b c d e o) ah ∙ ap (λ z. pick None a' z c d e o) bh
    ∙ ap (λ z. pick None a' b' z d e o) ch ∙ ap (λ z. pick None a' b' c' z e o) dh ∙ ap (λ z. pick None a' b' c' d' z o) eh
    ∙ ap (λ z. pick None a' b' c' d' e' z) oh

abbrev picks : Frame → World → Standing
picks f w =
    pick (limit f w) (is_out_of_turns f w) (is_out_of_events f w) (is_no_group f w) (is_faulted f w) (is_blocked_run f w) (is_over_run f w)

picked_by : (f : Frame) (w : World) (l : Option (What × ℕ)) →
    after_limit f w l ≡ pick l (is_out_of_turns f w) (is_out_of_events f w) (is_no_group f w) (is_faulted f w) (is_blocked_run f w) (is_over_run f w)
picked_by f w None = refl
picked_by f w (Some passed) = refl

picked : (f : Frame) (w : World) → standing f w ≡ picks f w
picked f w = picked_by f w (limit f w)

abbrev TestsOf : Frame → World → Standing → Type 0
TestsOf f w s =
    Tests s (limit f w) (is_out_of_turns f w) (is_out_of_events f w) (is_no_group f w) (is_faulted f w) (is_blocked_run f w) (is_over_run f w)

tested : (f : Frame) (w : World) (s : Standing) → standing f w ≡ s → TestsOf f w s
tested f w s e = subst (TestsOf f w) (sym (picked f w) ∙ e)
    (tests (limit f w) (is_out_of_turns f w) (is_out_of_events f w) (is_no_group f w) (is_faulted f w) (is_blocked_run f w) (is_over_run f w))

-- ---- from tests to rows

goes_on : (f : Frame) (w : World) → Passes (limit f w) (is_out_of_turns f w) (is_out_of_events f w) (is_no_group f w) → MayGoOn f w
goes_on f w h = record {
  limits = unlimited_is f w h.0;
  turns = none_spent_is f w h.1;
  events = leb-false f.settings.events w.steps h.2;
  group = λ lacks. apart (is_no_group f w) (lacks_from f w lacks) h.3;
}

row_from : (f : Frame) (w : World) (s : Standing) → TestsOf f w s → Row f w s
row_from f w (Limit passed number) h = limit_is f w passed number h
row_from f w OutOfTurns h = (unlimited_is f w h.0, spent_is f w h.1)
row_from f w OutOfEvents h = (unlimited_is f w h.0, none_spent_is f w h.1, leb-true f.settings.events w.steps h.2)
row_from f w NoGroup h =
    (unlimited_is f w h.0, none_spent_is f w h.1, leb-false f.settings.events w.steps h.2, lacks_is f w h.3)
row_from f w Faulted h =
    let parts = and_parts (is_over_run f w) (has_fault f w) h.1 in
    (goes_on f w h.0, over_is f w parts.0, faulted_is f w parts.1)
row_from f w Blocked h =
    let parts = and_parts (is_over_run f w) (not (all_ended f w)) h.2 in
    let over = over_is f w parts.0 in (
      goes_on f w h.0,
      over,
      none_faulted_is f w (not_at_home (is_over_run f w) (has_fault f w) parts.0 h.1),
      left_is f w over (not-true (all_ended f w) parts.1),
    )
row_from f w Finished h = (
  goes_on f w h.0,
  none_faulted_is f w (not_at_home (is_over_run f w) (has_fault f w) h.3 h.1),
  ended_are f w (not-false (all_ended f w) (not_at_home (is_over_run f w) (not (all_ended f w)) h.3 h.2)),
)
row_from f w Going h = (goes_on f w h.0, λ over. apart (is_over_run f w) (over_from f w over) h.3)

-- ---- from rows to tests

no_group : (f : Frame) (w : World) → (LacksGroup f w → ⊥) → is_no_group f w ≡ false
no_group f w none = false_from_ne_true (is_no_group f w) (λ lacks. none (lacks_is f w lacks))

at_row : (f : Frame) (w : World) (d e o : Bool) → MayGoOn f w → is_faulted f w ≡ d → is_blocked_run f w ≡ e → is_over_run f w ≡ o →
    standing f w ≡ pick None false false false d e o
at_row f w d e o h faulted blocked over = picked f w
    ∙ chosen (limit f w) (is_out_of_turns f w) (is_out_of_events f w) (is_no_group f w) (is_faulted f w) (is_blocked_run f w) (is_over_run f w)
    false false false d e o (unlimited_from f w h.limits) (none_spent_from f w h.turns) (lt-leb f.settings.events w.steps h.events)
    (no_group f w h.group) faulted blocked over

not_over : (f : Frame) (w : World) → (IsOver f w → ⊥) → is_over_run f w ≡ false
not_over f w none = false_from_ne_true (is_over_run f w) (λ over. none (over_is f w over))

abbrev Chooses : Frame → World → Bool → Bool → Bool → Type 0
Chooses f w a b c =
    standing f w ≡ pick None a b c (is_faulted f w) (is_blocked_run f w) (is_over_run f w)

chooses : (f : Frame) (w : World) (a b c : Bool) → limit f w ≡ None → is_out_of_turns f w ≡ a → is_out_of_events f w ≡ b →
    is_no_group f w ≡ c → Chooses f w a b c
chooses f w a b c lh ah bh ch = picked f w
    ∙ chosen (limit f w) (is_out_of_turns f w) (is_out_of_events f w) (is_no_group f w) (is_faulted f w) (is_blocked_run f w) (is_over_run f w)
    a b c (is_faulted f w) (is_blocked_run f w) (is_over_run f w) lh ah bh ch refl refl refl

row_only : (f : Frame) (w : World) (s : Standing) → is_limit s ≡ false → Row f w s → standing f w ≡ s
row_only f w (Limit passed number) other h = absurd (cc other)
row_only f w OutOfTurns other h =
    chooses f w true (is_out_of_events f w) (is_no_group f w) (unlimited_from f w h.0) (spent_from f w h.1) refl refl
row_only f w OutOfEvents other h =
    chooses f w false true (is_no_group f w) (unlimited_from f w h.0) (none_spent_from f w h.1)
    (le-leb f.settings.events w.steps h.2) refl
row_only f w NoGroup other h =
    chooses f w false false true (unlimited_from f w h.0) (none_spent_from f w h.1)
    (lt-leb f.settings.events w.steps h.2) (lacks_from f w h.3)
row_only f w Faulted other h =
    at_row f w true (is_blocked_run f w) (is_over_run f w) h.0
    (and_from (is_over_run f w) (has_fault f w) (over_from f w h.1) (faulted_from f w h.2)) refl refl
row_only f w Blocked other h =
    at_row f w false true (is_over_run f w) h.0
    (ap (λ b. is_over_run f w && b) (none_faulted_from f w h.2) ∙ ap (λ b. b && false) (over_from f w h.1))
    (and_from (is_over_run f w) (not (all_ended f w)) (over_from f w h.1) (not_from_false (all_ended f w) (left_from f w h.3))) refl
row_only f w Finished other h =
    let over : is_over_run f w ≡ true = over_from f w (inl h.2) in
    at_row f w false false true h.0
    (ap (λ b. is_over_run f w && b) (none_faulted_from f w h.1) ∙ ap (λ b. b && false) over)
    (ap (λ b. is_over_run f w && not b) (ended_from f w h.2) ∙ ap (λ b. b && false) over)
    over
row_only f w Going other h =
    let over : is_over_run f w ≡ false = not_over f w h.1 in
    at_row f w false false false h.0 (ap (λ b. b && has_fault f w) over) (ap (λ b. b && not (all_ended f w)) over) over

pub all_read : AllRead
all_read f w = record {
  quiet = (quiet_is f w, quiet_from f w);
  over = (over_is f w, over_from f w);
  begun = begun_is f w;
  says = λ s e. row_from f w s (tested f w s e);
  only = row_only f w;
}
