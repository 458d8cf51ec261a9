-- Acts of wires in every run.
use Rattle.std.proofs.Common.{◌≡◌, ◌+◌, ℕ, zero, suc, Bool, true, false, not, List, [], ◌∷◌, Option, None, Some, take, slice_get, refl, ap, ◌∙◌, arith, subst}
use Rattle.std.proofs.lemmas.Bool.{cond_both}
use Rattle.net_rules.specs.Flights.{ready_copy, ticked, without}
use Rattle.net_rules.specs.declared.fate.Fate.{Fate}
use Rattle.net_rules.specs.declared.fate.WireAct.{WireAct}
use Rattle.net_rules.specs.declared.fate.WireAct.TheVariants as does
use Rattle.net_rules.specs.declared.flight.Flight.{Flight}
use Rattle.group_rules.specs.Sets.{entry_at}
use Rattle.world_rules.specs.declared.event.Event as world
use Rattle.world_rules.specs.declared.event.Event.TheVariants as event
use Rattle.world_rules.specs.declared.event.Step.{Step}
use Rattle.world_rules.specs.Acts.{event_of, is_passed_over, swaps_by, swaps_in}
use Rattle.world_rules.specs.Frame.{Frame}
use Rattle.world_rules.specs.Mail.{Carried, Mail, is_whole, receiver_of}
use Rattle.world_rules.specs.Steps.{AtWork, Known, Leads, Next, Possible, Replays, comes, comes_whole, happens, lives_in, may_swap, posts, posts_all, ticks_below, untouched}
use Rattle.world_rules.specs.Worlds.{World, opening_world}
use Rattle.world_law.specs.Acts.{ActsMeet, HappensAt}

-- ---- the wire in use

swaps_comes : (f : Frame) (w : World) (mail : Mail) → (comes f w mail).world.swaps ≡ w.swaps
swaps_comes f w mail = cond_both (lives_in f w (receiver_of mail)) _ _ (λ (u : AtWork). u.world.swaps ≡ w.swaps) (λ e. refl) (λ e. refl)

swaps_whole : (f : Frame) (w : World) (o : Option (Flight Carried)) → (comes_whole f w o).world.swaps ≡ w.swaps
swaps_whole f w None = refl
swaps_whole f w (Some flight) = cond_both (is_whole f.settings.nodes flight.packet) _ _ (λ (u : AtWork). u.world.swaps ≡ w.swaps)
    (λ e. swaps_comes f w flight.packet.mail) (λ e. refl)

swaps_below : (f : Frame) (n : ℕ) (u : AtWork) → (ticks_below f n u).world.swaps ≡ u.world.swaps
swaps_below f zero u = refl
swaps_below f (suc m) u = cond_both ((ticks_below f m u).world.lives m) _ _ (λ (v : AtWork). v.world.swaps ≡ u.world.swaps)
    (λ e. swaps_below f m u) (λ e. swaps_below f m u)

swaps_happen : (f : Frame) (w : World) (event : world.Event) (given : Known event) → (happens f w event given).world.swaps ≡ w.swaps + swaps_by event
swaps_happen f w (event.Burst process place turns) burst = omega arith
swaps_happen f w (event.Act process) given = omega arith
swaps_happen f w (event.Deliver packet copy) given =
    let same = swaps_whole f (record w { flights = without packet copy w.flights }) (ready_copy packet copy w.flights) in omega (arith, same)
swaps_happen f w event.Tick given =
    let same = swaps_below f f.settings.nodes (untouched (record w { flights = ticked w.flights })) in omega (arith, same)
swaps_happen f w (event.Crash node) given = omega arith
swaps_happen f w (event.Suspect node) given = omega arith
swaps_happen f w event.Swap given = omega arith

swaps_posts : (f : Frame) (mails : List Mail) (fates : List Fate) (w : World) → (posts_all f w mails fates).swaps ≡ w.swaps
swaps_posts f [] fates w = refl
swaps_posts f (mail ∷ mails) [] w = refl
swaps_posts f (mail ∷ mails) (one ∷ fates) w = swaps_posts f mails fates (posts f w mail one)

swaps_step : (f : Frame) (w v : World) (step : Step) → Next f w step v → v.swaps ≡ w.swaps + swaps_by step.event
swaps_step f w v step next =
    let u : AtWork = happens f w step.event next.given in
    ap (λ (z : World). z.swaps) next.after ∙ swaps_posts f u.mails step.fates u.world ∙ swaps_happen f w step.event next.given

swaps_lead : (f : Frame) (w : World) (steps : List Step) (v : World) → Leads f w steps v → v.swaps ≡ w.swaps + swaps_in steps
swaps_lead f w [] v leads = ap (λ (z : World). z.swaps) leads ∙ omega arith
swaps_lead f w (step ∷ steps) v leads =
    let one = swaps_step f w leads.0 step leads.1 in
    let rest = swaps_lead f leads.0 steps v leads.2 in
    omega (arith, one, rest)

in_use : (f : Frame) (steps : List Step) (w : World) → Replays f steps w → w.swaps ≡ swaps_in steps
in_use f steps w replays = let n = swaps_lead f (opening_world f) steps w replays in n ∙ omega arith

-- ---- the world that an event meets

-- behind a world
record Behind (f : Frame) (w : World) (steps : List Step) (n : ℕ) (step : Step) : Type 0 where
  from : World
  to : World
  leads : Leads f w (take n steps) from
  next : Next f from step to

behind : (f : Frame) (w : World) (steps : List Step) (v : World) (n : ℕ) (step : Step) → Leads f w steps v → slice_get steps n ≡ Some step → Behind f w steps n step
behind f w [] v n step leads found = absurd (cc found)
behind f w (one ∷ steps) v zero step leads found =
    let same : one ≡ step = cc found in
    record { from = w; to = leads.0; leads = refl; next = subst (λ s. Next f w s leads.0) same leads.1 }
behind f w (one ∷ steps) v (suc n) step leads found =
    let rest = behind f leads.0 steps v n step leads.2 found in
    record { from = rest.from; to = rest.to; leads = (leads.0, leads.1, rest.leads); next = rest.next }

at_each : (f : Frame) (steps : List Step) (w : World) (n : ℕ) (step : Step) → Replays f steps w → entry_at steps n ≡ Some step → HappensAt f steps n step
at_each f steps w zero step replays found = absurd (cc found)
at_each f steps w (suc n) step replays found =
    let b = behind f (opening_world f) steps w n step replays found in
    record { from = b.from; to = b.to; replays = b.leads; next = b.next }

-- ---- acts that are passed over

of_not_false : (b : Bool) → not b ≡ false → b ≡ true
of_not_false true e = refl
of_not_false false e = absurd (cc e)

of_not_true : (b : Bool) → not b ≡ true → b ≡ true → ⊥
of_not_true true e h = cc e
of_not_true false e h = cc h

possible : (f : Frame) (w : World) (act : WireAct) (given : Known (event_of act)) → is_passed_over f w act ≡ false → Possible f w (event_of act) given
possible f w (does.Crash node) given e = of_not_false (lives_in f w node) e
possible f w (does.Suspect node) given e = of_not_false (lives_in f w node) e
possible f w does.Swap given e = of_not_false (may_swap f w) e

passed : (f : Frame) (w : World) (act : WireAct) (given : Known (event_of act)) → is_passed_over f w act ≡ true → Possible f w (event_of act) given → ⊥
passed f w (does.Crash node) given e may = of_not_true (lives_in f w node) e may
passed f w (does.Suspect node) given e may = of_not_true (lives_in f w node) e may
passed f w does.Swap given e may = of_not_true (may_swap f w) e may

pub acts_meet : (f : Frame) → ActsMeet f
acts_meet f = record { in_use = in_use f; at_each = at_each f; possible = possible f; passed = passed f }
