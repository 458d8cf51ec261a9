-- At a tick each member does its part as it stood before.
use Rattle.std.proofs.Common.{◌≡◌, ◌<◌, ◌*◌, ℕ, zero, suc, Bool, true, false, if◌then◌else◌, refl, sym, ap, ◌∙◌, subst, arith, inl, inr, ◌⊎◌}
use Rattle.std.proofs.lemmas.Bool.{and_parts, cases_eq, lt-ltb}
use Rattle.book_law.proofs.Courses.{at_other, at_own}
use Rattle.world_rules.specs.declared.event.Event as world
use Rattle.world_rules.specs.declared.event.Event.TheVariants as event
use Rattle.world_rules.specs.Frame.{Frame, group}
use Rattle.world_rules.specs.Mail.{Mail, receiver_of}
use Rattle.world_rules.specs.Parts.{ticks}
use Rattle.world_rules.specs.Steps.{AtWork, Known, Possible, does_part, may_act_as}
use Rattle.world_rules.specs.Worlds.{World, home_of, played_in}
use Rattle.world_law.specs.Grouped.{Come, Grouped, MaySubmit}
use Rattle.world_law.specs.Moments.{Lives}
use Rattle.world_law.proofs.AtWork.{both_true}
use Rattle.world_law.proofs.Events.{on_home}
use Rattle.world_law.proofs.Travels.{fly_found}
use Rattle.node_rules.specs.Conditions.{Fitness}
use Rattle.node_rules.specs.Starts.{EventFits, Start, part}
use Rattle.node_rules.specs.Starts.Start.{Acts, Comes, Ticks, Suspects}
use Rattle.world_calls.specs.Law.{PartsFit, ticking}
use Rattle.world_course.specs.Errands.{MailStands}
use Rattle.world_course.proofs.Travelling.{ready_flies}
use Rattle.world_calls.proofs.Beginning.{AllStart, MayStart}
use Rattle.run_law.specs.Parts.{InParts, TicksApart}

-- one member ticks, or it doesn't
lives_at : (f : Frame) (m : ℕ) (v : AtWork) (t : Bool) → (if t then does_part f m (ticks f m) v else v).world.lives ≡ v.world.lives
lives_at f m v true = refl
lives_at f m v false = refl

other_at : (f : Frame) (m k : ℕ) (v : AtWork) (t : Bool) → (k ≡ m → ⊥) → (if t then does_part f m (ticks f m) v else v).world.nodes k ≡ v.world.nodes k
other_at f m k v true apart = at_other v.world.nodes m (ticks f m (v.world.nodes m)).node k apart
other_at f m k v false apart = refl

own_at : (f : Frame) (m : ℕ) (v : AtWork) (t : Bool) →
    (if t then does_part f m (ticks f m) v else v).world.nodes m ≡ (if t then (part f m Ticks (v.world.nodes m)).node else v.world.nodes m)
own_at f m v true = at_own v.world.nodes m (ticks f m (v.world.nodes m)).node
own_at f m v false = refl

one_more : (f : Frame) (w : World) (n : ℕ) → TicksApart f w n → TicksApart f w (suc n)
one_more f w n h = record {
  lives = lives_at f n v (v.world.lives n) ∙ h.lives;
  others = λ m le. other_at f n m v (v.world.lives n) (λ e. omega (arith, le, e)) ∙ h.others m (omega (arith, le));
  ticked = λ m lt. go m lt (cases_eq m n);
}
  where
    v : AtWork
    v = ticking f w n

    go : (m : ℕ) → m < suc n → (m ≡ n) ⊎ (m ≡ n → ⊥) → (ticking f w (suc n)).world.nodes m ≡ (if w.lives m then (part f m Ticks (w.nodes m)).node else w.nodes m)
    go m lt (inl e) =
        subst (λ k. (ticking f w (suc n)).world.nodes k ≡ (if w.lives k then (part f k Ticks (w.nodes k)).node else w.nodes k)) (sym e)
        (own_at f n v (v.world.lives n)
        ∙ ap (λ t. if t then (part f n Ticks (v.world.nodes n)).node else v.world.nodes n) (ap (λ l. l n) h.lives)
        ∙ ap (λ node. if w.lives n then (part f n Ticks node).node else node) (h.others n (omega arith)))
    go m lt (inr apart) = other_at f n m v (v.world.lives n) apart ∙ h.ticked m (omega (arith, lt, apart))

pub ticks_apart : (f : Frame) (w : World) (n : ℕ) → TicksApart f w n
ticks_apart f w zero = record { lives = refl; others = λ m le. refl; ticked = λ m lt. absurd (omega (arith, lt)) }
ticks_apart f w (suc n) = one_more f w n (ticks_apart f w n)

-- what is asked of the event is met at each member as it stood before
pub fits_apart : (f : Frame) (fitness : Fitness) (w : World) (e : world.Event) → PartsFit f fitness w e → InParts f w (λ m start. EventFits f fitness m start (w.nodes m)) e
fits_apart f fitness w (event.Act process) h = h
fits_apart f fitness w (event.Deliver packet copy) h = λ flight found whole lives. h flight found lives
fits_apart f fitness w event.Tick h = λ m low lives.
    let apart = ticks_apart f w m in
    subst (EventFits f fitness m Ticks) (apart.others m (omega arith)) (h m low (ap (λ l. l m) apart.lives ∙ lives))
fits_apart f fitness w (event.Suspect node) h = h
fits_apart f fitness w (event.Burst process place turns) h = tt
fits_apart f fitness w (event.Crash node) h = tt
fits_apart f fitness w event.Swap h = tt

-- ---- who does a part lives, and what comes was sent

-- a letter that comes may be received
may_come : (f : Frame) (w : World) (mail : Mail) → Come w.past.letters mail → MayStart f w (receiver_of mail) (Comes mail)
may_come f w (Mail.Grouped letter) come = (refl, come)
may_come f w (Mail.Sends incarnation from to errand) come = refl

-- so what is so of each living member, however its part may begin, is so in each possible event
pub each_part : (f : Frame) (w : World) → 2 * (group f).resilience < (group f).nodes → Grouped f w → ((i : ℕ) → MaySubmit f w i) → (e : world.Event) (given : Known e) → Possible f w e given → (says : ℕ → Start → Type 0)
    → ((m : ℕ) (start : Start) → Lives f w m → MayStart f w m start → AllStart f w start → says m start) → InParts f w says e
each_part f w small grouped may (event.Act process) given possible says each =
    let m : ℕ = home_of f w process.0 in
    each m (Acts process.0) (on_home f w process.0 (omega (arith, small)) (and_parts (w.lives m) (may_act_as (played_in f w process.0)) possible).0)
    (λ r act here acts x of call. may process.0 r act here acts x of call) (λ single course h. tt)
each_part f w small grouped may (event.Deliver packet copy) given possible says each = λ flight found whole lives.
    each (receiver_of flight.packet.mail) (Comes flight.packet.mail) lives
    (may_come f w flight.packet.mail (fly_found w.past.letters _ w.flights flight found grouped.travels))
    (λ single course h. let e = h.errands in ready_flies (MailStands f single course) packet copy w.flights flight e.travels found)
each_part f w small grouped may event.Tick given possible says each = λ m low lives. each m Ticks (both_true _ _ (lt-ltb _ _ low) lives) tt (λ single course h. tt)
each_part f w small grouped may (event.Suspect node) given possible says each = each node Suspects possible tt (λ single course h. tt)
each_part f w small grouped may (event.Burst process place turns) given possible says each = tt
each_part f w small grouped may (event.Crash node) given possible says each = tt
each_part f w small grouped may event.Swap given possible says each = tt
