-- What steps leave of packets that are held, of who lives, and of who is outside.
use Rattle.std.proofs.Common.{◌≡◌, ◌≤◌, ◌<◌, ◌*◌, ◌+◌, ◌-◌, ◌==◌, not, ℕ, zero, suc, Bool, true, false, List, [], ◌∷◌, ◌++◌, Option, Some, None, refl, sym, ap, ◌∙◌, arith, subst, if◌then◌else◌}
use Rattle.std.proofs.lemmas.Bool.{cond_both, eqb-false, eqb-true}
use Rattle.value_core.specs.declared.message.Message.{Message}
use Rattle.group_law.specs.Agreed.{Forward, ForwardLaw}
use Rattle.group_rules.specs.Messages.{Group}
use Rattle.group_rules.specs.Sets.{count, with_at}
use Rattle.group_rules.specs.World.{Event, GroupWorld, gnext, opening, run}
use Rattle.net_rules.specs.declared.fate.Fate.{Fate}
use Rattle.net_rules.specs.declared.flight.Flight.{Flight}
use Rattle.net_rules.specs.Flights.{is_ready_copy, ready_copy, ticked, without}
use Rattle.world_rules.specs.declared.event.Event as world
use Rattle.world_rules.specs.declared.event.Event.TheVariants as event
use Rattle.world_rules.specs.declared.event.Step.{Step}
use Rattle.world_rules.specs.Frame.{Frame, group}
use Rattle.world_rules.specs.Mail.{Carried, Mail, is_whole, receiver_of}
use Rattle.world_rules.specs.Steps.{AtWork, Known, Leads, Next, comes, comes_whole, happens, lives_in, posts, posts_all, ticks_below, untouched}
use Rattle.world_rules.specs.Worlds.{World, group_world, opening_world}
use Rattle.world_law.specs.Grouped.{GoesOn, Grouped, StepsGrouped}
use Rattle.world_law.specs.Grouped.{Submits as MayAll}
use Rattle.world_idle.specs.Faults.{crash_by, crashes_in, is_from_wire, is_fault, tick_by, ticks_in}
use Rattle.world_idle.proofs.Letters.{AllHeld}
use Rattle.world_idle.specs.Stretches.{AllInside, LeadsIdle}
use Rattle.world_idle.proofs.Behind.{NoFault, each_passes, no_act}
use Rattle.world_idle.proofs.Flying.{free_without, posts_each, ticked_less}
use Rattle.world_law.proofs.Maps.{at_both}
use Rattle.world_idle.proofs.Ticking.{Timed, timed}

-- ---- packets that are held

come_flights : (f : Frame) (w : World) (mail : Mail) → ((comes f w mail).world.flights ≡ w.flights) × ((comes f w mail).world.sent ≡ w.sent)
come_flights f w mail = cond_both (lives_in f w (receiver_of mail)) _ (untouched w) (λ (u : AtWork). (u.world.flights ≡ w.flights) × (u.world.sent ≡ w.sent)) (λ e. (refl, refl)) (λ e. (refl, refl))

whole_flights : (f : Frame) (w : World) (o : Option (Flight Carried)) → ((comes_whole f w o).world.flights ≡ w.flights) × ((comes_whole f w o).world.sent ≡ w.sent)
whole_flights f w None = (refl, refl)
whole_flights f w (Some flight) = cond_both (is_whole f.settings.nodes flight.packet) (comes f w flight.packet.mail) (untouched w)
    (λ (u : AtWork). (u.world.flights ≡ w.flights) × (u.world.sent ≡ w.sent)) (λ e. come_flights f w flight.packet.mail) (λ e. (refl, refl))

held_as : (n k : ℕ) (u : World) (flights : List (Flight Carried)) → u.flights ≡ flights → u.sent ≡ n → AllHeld n k flights → AllHeld u.sent k u.flights
held_as n k u flights e d h = subst (λ (z : ℕ). AllHeld z k u.flights) (sym d) (subst (AllHeld n k) (sym e) h)

pub held_event : (f : Frame) (k : ℕ) (w : World) (e : world.Event) (given : Known e) → is_from_wire e ≡ false → AllHeld w.sent k w.flights →
    AllHeld (happens f w e given).world.sent (k - tick_by e) (happens f w e given).world.flights
held_event f k w (event.Burst process place turns) given plain held = subst (λ (j : ℕ). AllHeld w.sent j w.flights) (let e : k ≡ k - 0 = omega arith in e) held
held_event f k w (event.Act process) given plain held = subst (λ (j : ℕ). AllHeld w.sent j w.flights) (let e : k ≡ k - 0 = omega arith in e) held
held_event f k w (event.Deliver packet copy) given plain held =
    let start : World = record w { flights = without packet copy w.flights } in
    let e = whole_flights f start (ready_copy packet copy w.flights) in
    held_as w.sent (k - 0) (comes_whole f start (ready_copy packet copy w.flights)).world start.flights e.0 e.1
    (subst (λ (j : ℕ). AllHeld w.sent j start.flights) (let e : k ≡ k - 0 = omega arith in e) (free_without w.sent k (is_ready_copy packet copy) w.flights held))
held_event f k w event.Tick given plain held =
    let start : World = record w { flights = ticked w.flights } in
    let t : Timed f start f.settings.nodes (ticks_below f f.settings.nodes (untouched start)) = timed f start f.settings.nodes in
    held_as w.sent (k - 1) (ticks_below f f.settings.nodes (untouched start)).world start.flights t.flights t.sent (ticked_less w.sent k w.flights held)
held_event f k w (event.Crash node) given plain held = absurd (cc plain)
held_event f k w (event.Suspect node) given plain held = absurd (cc plain)
held_event f k w event.Swap given plain held = absurd (cc plain)

pub held_step : (f : Frame) (k : ℕ) (w v : World) (step : Step) → Next f w step v → is_fault step ≡ false → AllHeld w.sent k w.flights → AllHeld v.sent (k - tick_by step.event) v.flights
held_step f k w v step next plain held =
    let u : AtWork = happens f w step.event next.given in
    subst (λ (z : World). AllHeld z.sent (k - tick_by step.event) z.flights) (sym next.after)
    (posts_each f (k - tick_by step.event) u.world u.mails step.fates (each_passes step plain) next.fates (held_event f k w step.event next.given (no_act step plain) held)).free

pub held_leads : (f : Frame) (steps : List Step) (k : ℕ) (w v : World) → Leads f w steps v → NoFault steps → AllHeld w.sent k w.flights → AllHeld v.sent (k - ticks_in steps) v.flights
held_leads f [] k w v e plain held = subst (λ (z : World). AllHeld z.sent (k - 0) z.flights) (sym e) (subst (λ (j : ℕ). AllHeld w.sent j w.flights) (let e : k ≡ k - 0 = omega arith in e) held)
held_leads f (step ∷ steps) k w v h plain held =
    let u : World = h.0 in
    let r = held_leads f steps (k - tick_by step.event) u v h.2 plain.1 (held_step f k w u step h.1 plain.0 held) in
    subst (λ (j : ℕ). AllHeld v.sent j v.flights) (let e : (k - tick_by step.event) - ticks_in steps ≡ k - (tick_by step.event + ticks_in steps) = omega arith in e) r

-- ---- who lives

abbrev pub dead : Frame → (ℕ → Bool) → ℕ
dead f lives = count f.settings.nodes (λ m. not (lives m))

-- elsewhere nothing changed
count_else : (n m : ℕ) (lives : ℕ → Bool) → n ≤ m → count n (λ k. not (with_at lives m false k)) ≡ count n (λ k. not (lives k))
count_else zero m lives low = refl
count_else (suc j) m lives low = ap (λ (b : Bool). if not b then suc (count j (λ k. not (with_at lives m false k))) else count j (λ k. not (with_at lives m false k)))
    (at_both lives m false j (λ b. b ≡ lives j) (λ d. absurd (omega (arith, d, low))) (λ no. refl))
    ∙ ap (λ (c : ℕ). if not (lives j) then suc c else c) (count_else j m lives (omega (arith, low)))

one_more_at : (b c : Bool) (x y : ℕ) → x ≡ y → (if b then suc x else x) ≤ suc (if c then suc y else y)
one_more_at true true x y e = omega (arith, e)
one_more_at true false x y e = omega (arith, e)
one_more_at false true x y e = omega (arith, e)
one_more_at false false x y e = omega (arith, e)

same_at : (b : Bool) (x y : ℕ) → x ≤ suc y → (if b then suc x else x) ≤ suc (if b then suc y else y)
same_at true x y h = omega (arith, h)
same_at false x y h = omega (arith, h)

count_one : (n m : ℕ) (lives : ℕ → Bool) → count n (λ k. not (with_at lives m false k)) ≤ suc (count n (λ k. not (lives k)))
count_one zero m lives = omega arith
count_one (suc n) m lives = by (n == m) refl (count_one n m lives)
  where
    by : (b : Bool) → (n == m) ≡ b → count n (λ k. not (with_at lives m false k)) ≤ suc (count n (λ k. not (lives k))) →
        count (suc n) (λ k. not (with_at lives m false k)) ≤ suc (count (suc n) (λ k. not (lives k)))
    by true e rest = one_more_at (not (with_at lives m false n)) (not (lives n)) (count n (λ k. not (with_at lives m false k))) (count n (λ k. not (lives k)))
        (count_else n m lives (let d = eqb-true n m e in omega (arith, d)))
    by false e rest = subst (λ (z : Bool). (if not z then suc (count n (λ k. not (with_at lives m false k))) else count n (λ k. not (with_at lives m false k))) ≤ suc (count (suc n) (λ k. not (lives k))))
        (sym (at_both lives m false n (λ b. b ≡ lives n) (λ d. absurd (eqb-false n m e d)) (λ no. refl)))
        (same_at (not (lives n)) (count n (λ k. not (with_at lives m false k))) (count n (λ k. not (lives k))) rest)

come_lives : (f : Frame) (w : World) (mail : Mail) → (comes f w mail).world.lives ≡ w.lives
come_lives f w mail = cond_both (lives_in f w (receiver_of mail)) _ (untouched w) (λ (u : AtWork). u.world.lives ≡ w.lives) (λ e. refl) (λ e. refl)

whole_lives : (f : Frame) (w : World) (o : Option (Flight Carried)) → (comes_whole f w o).world.lives ≡ w.lives
whole_lives f w None = refl
whole_lives f w (Some flight) = cond_both (is_whole f.settings.nodes flight.packet) (comes f w flight.packet.mail) (untouched w) (λ (u : AtWork). u.world.lives ≡ w.lives)
    (λ e. come_lives f w flight.packet.mail) (λ e. refl)

same_dead : (f : Frame) (u w : World) → u.lives ≡ w.lives → dead f u.lives ≤ 0 + dead f w.lives
same_dead f u w e = let d = ap (dead f) e in omega (arith, d)

dead_event : (f : Frame) (w : World) (e : world.Event) (given : Known e) → dead f (happens f w e given).world.lives ≤ crash_by e + dead f w.lives
dead_event f w (event.Burst process place turns) given = omega arith
dead_event f w (event.Act process) given = omega arith
dead_event f w (event.Deliver packet copy) given =
    let start : World = record w { flights = without packet copy w.flights } in
    same_dead f (comes_whole f start (ready_copy packet copy w.flights)).world w (whole_lives f start (ready_copy packet copy w.flights))
dead_event f w event.Tick given =
    let start : World = record w { flights = ticked w.flights } in
    same_dead f (ticks_below f f.settings.nodes (untouched start)).world w (timed f start f.settings.nodes).lives
dead_event f w (event.Crash node) given = let c = count_one f.settings.nodes node w.lives in omega (arith, c)
dead_event f w (event.Suspect node) given = omega arith
dead_event f w event.Swap given = omega arith

pub posts_lives : (f : Frame) (w : World) (mails : List Mail) (fates : List Fate) → (posts_all f w mails fates).lives ≡ w.lives
posts_lives f w [] fates = refl
posts_lives f w (mail ∷ mails) [] = refl
posts_lives f w (mail ∷ mails) (fate ∷ fates) = posts_lives f (posts f w mail fate) mails fates

pub dead_step : (f : Frame) (w v : World) (step : Step) → Next f w step v → dead f v.lives ≤ crash_by step.event + dead f w.lives
dead_step f w v step next =
    let u : AtWork = happens f w step.event next.given in
    let a = dead_event f w step.event next.given in
    let e = ap (λ (z : World). dead f z.lives) next.after in
    let d = ap (dead f) (posts_lives f u.world u.mails step.fates) in
    omega (arith, a, e, d)

pub dead_leads : (f : Frame) (steps : List Step) (w v : World) → Leads f w steps v → dead f v.lives ≤ crashes_in steps + dead f w.lives
dead_leads f [] w v e = let d = ap (λ (z : World). dead f z.lives) e in omega (arith, d)
dead_leads f (step ∷ steps) w v h = let a = dead_step f w h.0 step h.1 in let b = dead_leads f steps h.0 v h.2 in omega (arith, a, b)

none_dead : (n : ℕ) → count n (λ m. not true) ≡ 0
none_dead zero = refl
none_dead (suc n) = none_dead n

pub opening_dead : (f : Frame) → dead f (opening_world f).lives ≡ 0
opening_dead f = none_dead f.settings.nodes

-- ---- who is outside

run_append : (g : Group Message) (w : GroupWorld Message) (xs ys : List (Event Message)) → run g w (xs ++ ys) ≡ run g (run g w xs) ys
run_append g w [] ys = refl
run_append g w (x ∷ xs) ys = run_append g (gnext g w x) xs ys

pub forward_step : (f : Frame) (w v : World) (step : Step) (m : ℕ) → ForwardLaw Message → 2 * f.settings.resilience < f.settings.nodes → StepsGrouped f → Next f w step v → MayAll f w step.event → Grouped f w →
    Forward (w.nodes m).member (v.nodes m).member
forward_step f w v step m law small grouped next submit h =
    let g : Group Message = group f in
    let on : GoesOn f h.events v = grouped.step w v step next submit h in
    let later : group_world v ≡ run g (run g opening h.events) on.more = on.grouped.run ∙ ap (run g opening) on.since ∙ run_append g opening h.events on.more in
    subst (λ (z : GroupWorld Message). Forward (z.members m) (v.nodes m).member) (sym h.run)
    (subst (λ (z : GroupWorld Message). Forward ((run g opening h.events).members m) (z.members m)) (sym later) ((law g small h.events on.more).forward m))

still_inside : (a b : Bool) → (a ≡ true → b ≡ true) → b ≡ false → a ≡ false
still_inside true b h e = let c : true ≡ false = sym (h refl) ∙ e in absurd (cc c)
still_inside false b h e = refl

pub inside_step : (f : Frame) (w v : World) (step : Step) → ForwardLaw Message → 2 * f.settings.resilience < f.settings.nodes → StepsGrouped f → Next f w step v → MayAll f w step.event → Grouped f w →
    AllInside f v → AllInside f w
inside_step f w v step law small grouped next submit h inside m low =
    still_inside (w.nodes m).member.outside (v.nodes m).member.outside (forward_step f w v step m law small grouped next submit h).outside (inside m low)

-- ---- lists of steps

pub idle_leads : (f : Frame) (steps : List Step) (w v : World) → LeadsIdle f w steps v → Leads f w steps v
idle_leads f [] w v e = e
idle_leads f (step ∷ steps) w v h = (h.0, h.1, idle_leads f steps h.0 v h.3)

pub one_more : (f : Frame) (w u v : World) (steps : List Step) (step : Step) → Leads f w steps u → Next f u step v → Leads f w (steps ++ step ∷ []) v
one_more f w u v [] step e next = (v, subst (λ (z : World). Next f z step v) e next, refl)
one_more f w u v (first ∷ steps) step h next = (h.0, h.1, one_more f h.0 u v steps step h.2 next)

pub leads_append : (f : Frame) (xs ys : List Step) (w u v : World) → Leads f w xs u → Leads f u ys v → Leads f w (xs ++ ys) v
leads_append f [] ys w u v e h = subst (λ (z : World). Leads f z ys v) e h
leads_append f (x ∷ xs) ys w u v g h = (g.0, g.1, leads_append f xs ys g.0 u v g.2 h)
