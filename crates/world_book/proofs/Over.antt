-- Where the run is over, each process of a living member that hasn't ended is stuck.
use Rattle.std.proofs.Common.{◌≡◌, ◌==◌, ◌&&◌, ◌||◌, ◌<◌, ℕ, zero, suc, not, Bool, true, false, inl, inr, ⊎_elim, Some, List, [], ◌∷◌, length, refl, sym, ap, ◌∙◌, arith, subst}
use Rattle.std.specs.Prelude.{slice_get}
use Rattle.std.proofs.lemmas.Bool.{and_parts, cases_eq, eqb-true, ltb-true}
use Rattle.orca_base.specs.declared.ids.ProcessNo.{ProcessNo}
use Rattle.value_core.specs.declared.action.Action.{Action}
use Rattle.value_core.specs.declared.action.Action.TheVariants as action
use Rattle.value_core.specs.declared.message.Message.{Message}
use Rattle.value_core.specs.History.{IsStuck}
use Rattle.guard_queue.specs.declared.queue.Suspended.{Suspended}
use Rattle.book_law.specs.Events.{In}
use Rattle.book_law.specs.Fitness.{EndsStuck}
use Rattle.book_law.specs.Singles.{waiting}
use Rattle.book_law.proofs.Lists.{one_other, waiting-cons}
use Rattle.world_rules.specs.Frame.{Frame}
use Rattle.world_rules.specs.Played.{Played, Stage, is_over}
use Rattle.world_rules.specs.Played.Stage.{Computing, Acting, Submitted, Reading, Asking, Over}
use Rattle.world_rules.specs.Processes.{owner_in, processes_in}
use Rattle.world_rules.specs.Standings.{all_below, all_ended, all_rest, each_process, is_done, members_done, process_count, rests, rests_at, stands, waits_at_owner, waits_in}
use Rattle.world_rules.specs.Worlds.{Book, World, agreed, home_of, played_in, processes_of, singles_in}
use Rattle.world_law.proofs.Homes.{home_low}
use Rattle.world_course.specs.Corresponds.{IsOf}
use Rattle.world_book.specs.Promise.{IsStuckAt, LivingAreStuck, OwnersWaitersAreStuck}
use Rattle.world_book.proofs.Kept.{Kept, course_of, stands_for}
use Rattle.world_book.proofs.Stuck.{single_stuck, stuck_at}

-- ---- tests

all_at : (n : ℕ) (test : ℕ → Bool) (i : ℕ) → all_below n test ≡ true → i < n → test i ≡ true
all_at zero test i all lt = absurd (omega (arith, lt))
all_at (suc n) test i all lt = ⊎_elim
    (λ (e : i ≡ n). ap test e ∙ (and_parts (all_below n test) (test n) all).1)
    (λ apart. all_at n test i (and_parts (all_below n test) (test n) all).0 (omega (arith, lt, apart)))
    (cases_eq i n)

-- what is said of the living, of one who lives
of_living : (lives test : Bool) → lives ≡ true → (not lives || test) ≡ true → test ≡ true
of_living true test is all = all
of_living false test is all = absurd (cc is)

or_not : (a b : Bool) → (a || b) ≡ true → (a ≡ true → b ≡ true) → b ≡ true
or_not true b either other = other refl
or_not false b either other = either

low_in : {A : Type 0} (xs : List A) (i : ℕ) (x : A) → slice_get xs i ≡ Some x → i < length xs
low_in [] i x is = absurd (cc is)
low_in (y ∷ xs) zero x is = omega arith
low_in (y ∷ xs) (suc i) x is = let lt = low_in xs i x is in omega (arith, lt)

-- ---- who waits in a queue has a call there

record Waiter (i : ℕ) (queue : List Suspended) : Type 0 where
  call : Suspended
  among : In call queue
  process : call.process.0 ≡ i

waiter : (i : ℕ) (queue : List Suspended) → 0 < waiting i queue → Waiter i queue
waiter i [] lt = absurd (omega (arith, lt))
waiter i (call ∷ calls) lt = ⊎_elim
    (λ (e : call.process.0 ≡ i). record { call = call; among = inl refl; process = e })
    (λ apart.
    let a = waiting-cons i call calls in
    let b = one_other call.process.0 i apart in
    let more = waiter i calls (omega (arith, a, b, lt)) in
    record { call = more.call; among = inr more.among; process = more.process })
    (cases_eq call.process.0 i)

-- ---- at the end

asked_stuck : (f : Frame) (w : World) → OwnersWaitersAreStuck f w → (i : ProcessNo) (act : Action) → waits_at_owner f w i.0 act ≡ true → IsStuck f.performs f.computes (Book f w) i
asked_stuck f w singles i (action.Call kind op object args) rest =
    let owner : ℕ = owner_in (processes_of f w) object in
    let waits = (and_parts (not (w.nodes owner).member.outside) (waits_in i.0 (w.nodes owner).copies.waits) (and_parts (w.lives owner) _ rest).1).1 in
    let one : Waiter i.0 (w.nodes owner).copies.waits = waiter i.0 (w.nodes owner).copies.waits (ltb-true 0 _ waits) in
    let same : one.call.process ≡ i = ap (λ (n : ℕ). record { 0 = n }) one.process in
    subst (λ (j : ProcessNo). IsStuck f.performs f.computes (Book f w) j) same (singles owner one.call one.among)
asked_stuck f w singles i (action.Make kind object) rest = absurd (cc rest)
asked_stuck f w singles i (action.Fork text args place_on) rest = absurd (cc rest)
asked_stuck f w singles i action.Ended rest = absurd (cc rest)
asked_stuck f w singles i (action.Faulted fault) rest = absurd (cc rest)

rests_stuck : (f : Frame) (w : World) → OwnersWaitersAreStuck f w → (i : ProcessNo) (r : Played) (stage : Stage) → played_in f w i.0 ≡ Some r → r.stage ≡ stage →
    IsStuckAt f w (home_of f w i.0) → is_over stage ≡ false → rests_at f w i.0 stage ≡ true → IsStuck f.performs f.computes (Book f w) i
rests_stuck f w singles i r (Reading act) here is stuck unended rest = stuck.reads i r act here is
rests_stuck f w singles i r (Submitted act) here is stuck unended rest =
    let one : Waiter i.0 (w.nodes (home_of f w i.0)).copies.queue = waiter i.0 (w.nodes (home_of f w i.0)).copies.queue (ltb-true 0 _ rest) in
    let same : one.call.process ≡ i = ap (λ (n : ℕ). record { 0 = n }) one.process in
    subst (λ (j : ProcessNo). IsStuck f.performs f.computes (Book f w) j) same (stuck.suspended one.call one.among)
rests_stuck f w singles i r (Asking act) here is stuck unended rest = asked_stuck f w singles i act rest
rests_stuck f w singles i r Computing here is stuck unended rest = absurd (cc rest)
rests_stuck f w singles i r (Acting act) here is stuck unended rest = absurd (cc rest)
rests_stuck f w singles i r (Over act) here is stuck unended rest = absurd (cc unended)

pub living_stuck : (f : Frame) (w : World) → 0 < f.settings.nodes → EndsStuck f.performs f.computes → Kept f w → LivingAreStuck f w
living_stuck f w some ends k over i r here lives unended = rests_stuck f w (single_stuck f w ends k) i r r.stage here refl (stuck_at f w ends k m applied) unended rest
  where
    m : ℕ
    m = home_of f w i.0

    low : i.0 < process_count f w
    low =
        let h = course_of f w k in
        let st = stands_for f (singles_in f w) w h in
        let of : IsOf f h.course m i.0 = st.played m i.0 r here in
        low_in _ i.0 of.begun (ap (λ (l : List Message). slice_get (processes_in f l) i.0) (sym h.list) ∙ of.there)

    -- not all have ended
    resting : all_rest f w ≡ true
    resting = or_not (all_ended f w) (all_rest f w) over (λ ended.
        let e : stands is_over (played_in f w i.0) ≡ true = of_living (w.lives m) _ lives (all_at (process_count f w) _ i.0 ended low) in
        let yes : is_over r.stage ≡ true = sym (ap (stands is_over) here) ∙ e in
        let no_way : false ≡ true = sym unended ∙ yes in
        absurd (cc no_way))

    parts : (members_done f w ≡ true) × (each_process f w (rests f w) ≡ true)
    parts = and_parts (members_done f w) (each_process f w (rests f w)) (and_parts _ (members_done f w && each_process f w (rests f w)) resting).1

    done : is_done f w m (w.nodes m) ≡ true
    done = of_living (w.lives m) _ lives (all_at f.settings.nodes _ m parts.0 (home_low f w i.0 some))

    applied : (w.nodes m).member.applied ≡ length (agreed f w)
    applied = eqb-true _ _ (and_parts ((w.nodes m).member.applied == length (w.nodes m).member.log) ((w.nodes m).member.applied == length (agreed f w)) (and_parts _ _ done).0).1

    rest : rests_at f w i.0 r.stage ≡ true
    rest = sym (ap (rests f w i.0) here) ∙ of_living (w.lives m) _ lives (all_at (process_count f w) _ i.0 parts.1 low)
