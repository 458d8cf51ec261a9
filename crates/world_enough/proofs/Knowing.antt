-- What members know of processes: the processes of the entries that they applied, which are the first of the world's. A member knows each
-- process whose place it has reached.
use Rattle.std.proofs.Common.{◌≡◌, ◌≤◌, ◌<◌, inl, inr, ℕ, zero, suc, List, [], ◌∷◌, ◌++◌, length, length-append, length-take, take, take_all, drop, Some, refl, sym, ap, ◌∙◌, arith, subst}
use Rattle.std.specs.Prelude.{slice_get}
use Rattle.orca_base.specs.declared.ids.CallNo.{CallNo}
use Rattle.orca_base.specs.declared.ids.ObjectId.{ObjectId}
use Rattle.value_core.specs.declared.message.Message.{Message}
use Rattle.guard_queue.specs.declared.queue.Suspended.{Suspended}
use Rattle.std.specs.List.{AllByRecursion as Each}
use Rattle.book_law.specs.Book.{copies_at}
use Rattle.book_law.specs.Course.{Course}
use Rattle.book_law.specs.Events.{Calls, Runner}
use Rattle.book_law.specs.Passes.{Test}
use Rattle.book_law.proofs.Kept.{Kept}
use Rattle.group_rules.specs.Sets.{Begins}
use Rattle.value_core.specs.declared.action.Action.{Action}
use Rattle.world_rules.specs.declared.event.Step.{Step}
use Rattle.world_rules.specs.Frame.{Frame}
use Rattle.world_rules.specs.Nodes.{idle, known}
use Rattle.world_rules.specs.Played.{Played}
use Rattle.world_rules.specs.Played.Stage.{Asking}
use Rattle.world_rules.specs.Processes.{Begun, home_in, home_or_first, processes_in}
use Rattle.world_rules.specs.Steps.{Next}
use Rattle.world_rules.specs.Worlds.{World, agreed, applied_at, home_of, processes_of, singles_in}
use Rattle.world_course.specs.Corresponds.{IsOf}
use Rattle.world_course.specs.Corresponds.{Stands as WorldStands}
use Rattle.world_course.specs.Errands.{AsksFor}
use Rattle.world_course.specs.Processes.{IsProcess, IsRunner, StandsHere}
use Rattle.world_facts.specs.Processes.{AllBegin}
use Rattle.world_law.specs.Grouped.{Submits as MayAll}
use Rattle.world_law.specs.Holds.{Holds}
use Rattle.world_law.specs.Homes.{StepsHome}
use Rattle.world_law.specs.Lists.{OneList}
use Rattle.world_law.specs.Places.{CallStands, Reaches, plays_of}
use Rattle.world_idle.proofs.Calls.{HasCall}
use Rattle.world_idle.proofs.Level.{same_player}
use Rattle.world_idle.proofs.Resting.{Facts, Lore}
use Rattle.world_enough.proofs.Paying.{split_at}

-- ---- lists

front_get : {A : Type 0} (xs ys : List A) (i : ℕ) → i < length xs → slice_get (xs ++ ys) i ≡ slice_get xs i
front_get [] ys i low = absurd (omega (arith, low))
front_get (x ∷ xs) ys zero low = refl
front_get (x ∷ xs) ys (suc i) low = front_get xs ys i (omega (arith, low))

home_front : (ps more : List Begun) (i : ℕ) → i < length ps → home_in (ps ++ more) i ≡ home_in ps i
home_front ps more i low = ap home_or_first (front_get ps more i low)

taken_more : {A : Type 0} (a b : ℕ) (xs : List A) → a ≤ b → (more : List A) × (take b xs ≡ take a xs ++ more)
taken_more zero b xs le = (take b xs, refl)
taken_more (suc a) zero xs le = absurd (omega (arith, le))
taken_more (suc a) (suc b) [] le = ([], refl)
taken_more (suc a) (suc b) (x ∷ xs) le = let r = taken_more a b xs (omega (arith, le)) in (r.0, ap (λ z. x ∷ z) r.1)

-- a list begins with the processes of its front
processes_front : (f : Frame) → AllBegin → (list front more : List Message) → list ≡ front ++ more → (later : List Begun) × (processes_in f list ≡ processes_in f front ++ later)
processes_front f begins list front more e = let l = (begins f front).longer more in (l.0, ap (processes_in f) e ∙ l.1)

begins_front : (xs ys : List Message) → Begins xs ys → (more : List Message) × (ys ≡ xs ++ more)
begins_front xs ys h = (drop (length xs) ys, split_at (length xs) ys ∙ ap (λ z. z ++ drop (length xs) ys) (sym h.is ∙ take_all (length xs) xs (omega arith)))

-- ---- a member, and the world

pub knows : (f : Frame) (w : World) (m : ℕ) → AllBegin → Lore f → Holds f w → m < f.settings.nodes → (later : List Begun) × (processes_of f w ≡ known f (w.nodes m) ++ later)
knows f w m begins lore holds low =
    let one : OneList f w = lore.lists.one w holds.grouped in
    let b = begins_front (applied_at w m) (agreed f w) (one.begin m low) in
    let l = processes_front f begins (agreed f w) (applied_at w m) b.0 b.1 in
    (l.0, l.1 ∙ ap (λ z. processes_in f z ++ l.0) (sym (one.copies m low)))

pub home_known : (f : Frame) (w : World) (m i : ℕ) → AllBegin → Lore f → Holds f w → m < f.settings.nodes → i < length (known f (w.nodes m)) → home_in (known f (w.nodes m)) i ≡ home_of f w i
home_known f w m i begins lore holds low lt =
    let k = knows f w m begins lore holds low in
    sym (ap (λ (ps : List Begun). home_in ps i) k.1 ∙ home_front (known f (w.nodes m)) k.0 i lt)

pub known_low : (f : Frame) (w : World) (m : ℕ) → AllBegin → Lore f → Holds f w → m < f.settings.nodes → length (known f (w.nodes m)) ≤ length (processes_of f w)
known_low f w m begins lore holds low =
    let k = knows f w m begins lore holds low in
    let e = ap (λ (ps : List Begun). length ps) k.1 in
    let n = length-append (known f (w.nodes m)) k.0 in
    omega (arith, e, n)

-- processes keep their homes
pub home_stays : (f : Frame) (w v : World) (step : Step) (i : ℕ) → AllBegin → Lore f → Holds f w → Next f w step v → MayAll f w step.event → i < length (processes_of f w) → home_of f v i ≡ home_of f w i
home_stays f w v step i begins lore holds next may lt =
    let g = lore.lists.grows w v step next may holds.grouped in
    let l = processes_front f begins (agreed f v) (agreed f w) g.0 g.1 in
    ap (λ (ps : List Begun). home_in ps i) l.1 ∙ home_front (processes_of f w) l.0 i lt

-- ---- who is known where

applied_is : (f : Frame) (w : World) (m : ℕ) → Lore f → Holds f w → m < f.settings.nodes → applied_at w m ≡ take (w.nodes m).member.applied (agreed f w)
applied_is f w m lore holds low =
    let one : OneList f w = lore.lists.one w holds.grouped in
    let may = lore.ends.moments w m (idle (w.nodes m)) (lore.moments.start w m holds.grouped) in
    let n = length-take (w.nodes m).member.applied (w.nodes m).member.log in
    let e : length (applied_at w m) ≡ (w.nodes m).member.applied = omega (arith, n, may.noted, may.below, may.logged) in
    sym (take_all (length (applied_at w m)) (applied_at w m) (omega arith)) ∙ (one.begin m low).is ∙ ap (λ (k : ℕ). take k (agreed f w)) e

-- a member that applied as many entries as the process's place says knows it
pub reached_known : (f : Frame) (w : World) (h m i : ℕ) (r : Played) → AllBegin → Lore f → Facts f w → m < f.settings.nodes → (w.nodes h).played i ≡ Some r → r.place ≤ (w.nodes m).copies.applied → i < length (known f (w.nodes m))
reached_known f w h m i r begins lore facts low here le =
    let there : i < length (processes_in f (take r.place (agreed f w))) = omega (arith, counted, exists) in
    let t = taken_more r.place (w.nodes m).member.applied (agreed f w) (let e = facts.holds.grouped.level m in omega (arith, le, e)) in
    let l = processes_front f begins (take (w.nodes m).member.applied (agreed f w)) (take r.place (agreed f w)) t.0 t.1 in
    let n = length-append (processes_in f (take r.place (agreed f w))) l.0 in
    let e = ap (λ (ps : List Begun). length ps) l.1 in
    let k = ap (λ (list : List Message). length (processes_in f list)) (one.copies m low ∙ applied_is f w m lore facts.holds low) in
    omega (arith, there, n, e, k)
  where
    one : OneList f w
    one = lore.lists.one w facts.holds.grouped

    single : Test
    single = singles_in f w

    c : Course
    c = facts.course.course

    st : WorldStands f single w c
    st = facts.course.follows.corresponds.stands

    k : Kept single f.performs f.computes c.list c.aside c.owned c.entered c.applied c.runners
    k = lore.kept single c st.came

    of : IsOf f c h i
    of = st.played h i r here

    process : IsProcess f.computes i of.begun (c.runners i) (w.nodes of.begun.home)
    process = st.processes i of.begun of.there

    x : Runner
    x = process.runner

    home : (w.nodes of.begun.home).played i ≡ Some r
    home = ap (λ (j : ℕ). (w.nodes j).played i) of.home ∙ here

    runner : IsRunner f.computes i r x
    runner = (subst (λ o. StandsHere f.computes i of.begun x (w.nodes of.begun.home).copies.applied o) home process.stands).2

    exists : i < (copies_at single f.performs (agreed f w) r.place).processes
    exists = subst (λ (n : ℕ). i < (copies_at single f.performs (agreed f w) n).processes) runner.place
        (subst (λ (list : List Message). i < (copies_at single f.performs list x.place).processes) facts.course.list (k.stands i x process.runs).there)

    counted : length (processes_in f (take r.place (agreed f w))) ≡ (copies_at single f.performs (agreed f w) r.place).processes
    counted = (begins f (take r.place (agreed f w))).counted single

-- ---- whose call waits where

reached_by : (r : Played) (n c : ℕ) (call : CallNo) → call.0 ≡ c → length r.replies ≡ c → Reaches r n call → r.place ≤ n
reached_by r n c call number e (inl l) = absurd (omega (arith, number, e, l))
reached_by r n c call number e (inr l) = l.1

waits_reached : (f : Frame) (w : World) (h i c n : ℕ) (r : Played) (calls : List Suspended) → StepsHome f → Holds f w → (w.nodes h).played i ≡ Some r → length r.replies ≡ c →
    Each (λ (call : Suspended). CallStands (plays_of w) n call.process.0 call.call) calls → HasCall i c calls → r.place ≤ n
waits_reached f w h i c n r [] law holds here number all has = absurd has
waits_reached f w h i c n r (call ∷ calls) law holds here number all (inl x) =
    let s = subst (λ (j : ℕ). CallStands (plays_of w) n j call.call) x.0 all.0 in
    let e = same_player f w s.member h i r s.process law holds s.here here in
    reached_by r n c call.call x.1 number (subst (λ (z : Played). Reaches z n call.call) e s.reaches)
waits_reached f w h i c n r (call ∷ calls) law holds here number all (inr x) = waits_reached f w h i c n r calls law holds here number all.1 x

pub waits_known : (f : Frame) (w : World) (h m i c : ℕ) (r : Played) → AllBegin → Lore f → StepsHome f → Facts f w → m < f.settings.nodes → (w.nodes h).played i ≡ Some r → length r.replies ≡ c →
    HasCall i c (w.nodes m).copies.waits → i < length (known f (w.nodes m))
waits_known f w h m i c r begins lore law facts low here number has =
    reached_known f w h m i r begins lore facts low here (waits_reached f w h i c (w.nodes m).copies.applied r (w.nodes m).copies.waits law facts.holds here number (facts.holds.calls.waits m) has)

-- who asks an owner knows the object's maker
pub maker_known : (f : Frame) (w : World) (h i : ℕ) (r : Played) (act : Action) (o : ObjectId) → Facts f w → (w.nodes h).played i ≡ Some r → r.stage ≡ Asking act → Calls act o → o.process < length (known f (w.nodes h))
maker_known f w h i r act o facts here is calls =
    let a = (facts.course.follows.errands.nodes h).asks i r o here (subst (λ s. AsksFor s o) (sym is) calls) in
    let l = a.maker in
    let d = (facts.holds.home h).counted in
    omega (arith, l, d)
