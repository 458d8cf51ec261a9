-- Each step of a world lifts to its course, and Asks and Answers go on standing for it.
use Rattle.std.proofs.Common.{◌≡◌, ◌≤◌, ◌<◌, ℕ, zero, suc, ◌⊎◌, inl, inr, Bool, true, false, Option, Some, None, refl, sym, ap, ◌∙◌, subst, arith, if◌then◌else◌}
use Rattle.std.proofs.lemmas.Bool.{cases_lt}
use Rattle.net_rules.specs.declared.flight.Flight.{Flight}
use Rattle.net_rules.specs.Flights.{ready_copy}
use Rattle.book_law.specs.Passes.{Test}
use Rattle.book_law.specs.Course.{Course}
use Rattle.book_law.specs.Events.{In}
use Rattle.book_law.specs.Fitness.{ArgsFit, StateFits}
use Rattle.book_law.proofs.Courses.{at_other, at_own}
use Rattle.book_law.proofs.Fits.{ReplyFits, TextFits}
use Rattle.world_rules.specs.declared.event.Event.{Event}
use Rattle.world_rules.specs.declared.event.Event.TheVariants as event
use Rattle.world_rules.specs.declared.event.Step.{Step}
use Rattle.world_rules.specs.Frame.{Frame}
use Rattle.world_rules.specs.Mail.{Carried, Mail, is_whole, receiver_of}
use Rattle.world_rules.specs.Nodes.{Node, entries_of}
use Rattle.world_rules.specs.Parts.{acts, computes, receives, suspects, ticks}
use Rattle.world_rules.specs.Steps.{AtWork, Known, Next, Possible, carries_out, closes, comes, does_part, comes_whole, happens, lives_in, suspected, ticks_at, ticks_below, untouched}
use Rattle.world_rules.specs.Worlds.{World, home_of}
use Rattle.world_course.specs.Corresponds.{Agrees}
use Rattle.world_course.specs.Errands.{Follows, FollowsOn, MailStands}
use Rattle.world_course.specs.Gives.{AgreesIn, GivesEvent, GivesMail, GivesTick, GivesTicks, taken_from, waited}
use Rattle.world_course.proofs.Changing.{leads_on}
use Rattle.world_course.proofs.Events.{posts_keep, same_world}
use Rattle.world_course.proofs.Parts.{FollowsAt, GoesAt, acts_part, goes_stay, part_follows, receives_part, stand_on, suspects_part, ticks_part}
use Rattle.world_course.proofs.Program.{Program}
use Rattle.world_course.proofs.Ran.{burst_part}
use Rattle.world_course.proofs.Travelling.{posts_fly, ready_flies, ticked_fly, without_flies}

-- the world that an event leaves, before its letters are posted
abbrev pub Reaches : Frame → Test → Course → AtWork → Type 0
Reaches f single c u = AgreesIn f single u.world → GoesAt f single c u

agrees_here : (f : Frame) (single : Test) (m : ℕ) (node : Node) (v : World) → v.nodes m ≡ node → AgreesIn f single v → Agrees f single (entries_of node)
agrees_here f single m node v is agrees = subst (λ (n : Node). Agrees f single (entries_of n)) is (agrees m)

nothing_done : (f : Frame) (single : Test) (w : World) (c : Course) → Follows f single w c → FollowsAt f single (untouched w) c
nothing_done f single w c h = record { follows = h; mails = λ mail is. absurd is }

-- a world with the same members, in whose flights all stand
same_follows : (f : Frame) (single : Test) (w v : World) (c : Course) → v.nodes ≡ w.nodes → v.past ≡ w.past → v.aside ≡ w.aside → ((flight : Flight Carried) → In flight v.flights → MailStands f single c flight.packet.mail)
    → Follows f single w c → Follows f single v c
same_follows f single w v c nodes past aside fly h = record {
  corresponds = same_world f single w v c nodes past aside h.corresponds;
  errands = stand_on f single w v c (λ k. ap (λ (n : ℕ → Node). n k) nodes) h.errands fly;
}

-- ---- a packet comes

comes_lift : (f : Frame) (single : Test) (fits_state : StateFits) (fits_args : ArgsFit) (fits_text : TextFits) (fits_reply : ReplyFits) (w : World) (c : Course) (mail : Mail)
    → Program f fits_state fits_args fits_text fits_reply → Follows f single w c → MailStands f single c mail → GivesMail f w mail → Reaches f single c (comes f w mail)
comes_lift f single fits_state fits_args fits_text fits_reply w c mail program h stands gives = go (lives_in f w (receiver_of mail)) refl
  where
    m : ℕ
    m = receiver_of mail

    go : (b : Bool) → lives_in f w m ≡ b → Reaches f single c (if b then does_part f m (receives f m mail) (untouched w) else untouched w)
    go true lives agrees = part_follows f single m (receives f m mail) (untouched w) c (nothing_done f single w c h)
        (receives_part f single fits_state fits_args fits_text fits_reply w c mail program h stands (gives lives)
        (agrees_here f single m (receives f m mail (w.nodes m)).node (does_part f m (receives f m mail) (untouched w)).world (at_own w.nodes m (receives f m mail (w.nodes m)).node) agrees))
    go false lives agrees = goes_stay f single c (untouched w) (nothing_done f single w c h)

whole_lift : (f : Frame) (single : Test) (fits_state : StateFits) (fits_args : ArgsFit) (fits_text : TextFits) (fits_reply : ReplyFits) (w : World) (c : Course) (o : Option (Flight Carried))
    → Program f fits_state fits_args fits_text fits_reply → Follows f single w c → ((flight : Flight Carried) → o ≡ Some flight → MailStands f single c flight.packet.mail × GivesMail f w flight.packet.mail) → Reaches f single c (comes_whole f w o)
whole_lift f single fits_state fits_args fits_text fits_reply w c None program h gives = λ agrees. goes_stay f single c (untouched w) (nothing_done f single w c h)
whole_lift f single fits_state fits_args fits_text fits_reply w c (Some flight) program h gives = go (is_whole f.settings.nodes flight.packet)
  where
    go : (b : Bool) → Reaches f single c (if b then comes f w flight.packet.mail else untouched w)
    go true agrees = let g = gives flight refl in comes_lift f single fits_state fits_args fits_text fits_reply w c flight.packet.mail program h g.0 g.1 agrees
    go false agrees = goes_stay f single c (untouched w) (nothing_done f single w c h)

-- ---- time passes

-- a member's tick leaves the others
tick_other : (f : Frame) (m k : ℕ) (u : AtWork) → (k ≡ m → ⊥) → (ticks_at f m u).world.nodes k ≡ u.world.nodes k
tick_other f m k u apart = go (u.world.lives m)
  where
    v : AtWork
    v = does_part f m (ticks f m) u

    go : (b : Bool) → (if b then v else u).world.nodes k ≡ u.world.nodes k
    go true = at_other u.world.nodes m (ticks f m (u.world.nodes m)).node k apart
    go false = refl

-- later members leave it
ticks_keep : (f : Frame) (n m : ℕ) (u : AtWork) → m < n → (ticks_below f n u).world.nodes m ≡ (ticks_below f (suc m) u).world.nodes m
ticks_keep f zero m u lt = absurd (omega (arith, lt))
ticks_keep f (suc n) m u lt = by (λ less. ticks_keep f n m u less) (cases_lt m n)
  where
    by : (m < n → (ticks_below f n u).world.nodes m ≡ (ticks_below f (suc m) u).world.nodes m) → (m < n) ⊎ (n ≤ m) → (ticks_below f (suc n) u).world.nodes m ≡ (ticks_below f (suc m) u).world.nodes m
    by before (inl less) = tick_other f n m (ticks_below f n u) (λ e. omega (arith, e, less)) ∙ before less
    by before (inr le) = let e : n ≡ m = omega (arith, le, lt) in ap (λ (k : ℕ). (ticks_below f (suc k) u).world.nodes m) e

tick_lifts : (f : Frame) (single : Test) (fits_state : StateFits) (fits_args : ArgsFit) (fits_text : TextFits) (fits_reply : ReplyFits) (u : AtWork) (c : Course) (m : ℕ)
    → Program f fits_state fits_args fits_text fits_reply → FollowsAt f single u c → (u.world.lives m ≡ true → GivesTick f m u.world) → Agrees f single (entries_of ((ticks_at f m u).world.nodes m))
    → GoesAt f single c (ticks_at f m u)
tick_lifts f single fits_state fits_args fits_text fits_reply u c m program h gives = go (u.world.lives m) refl
  where
    v : AtWork
    v = does_part f m (ticks f m) u

    go : (b : Bool) → u.world.lives m ≡ b → Agrees f single (entries_of ((if b then v else u).world.nodes m)) → GoesAt f single c (if b then v else u)
    go true lives agrees = part_follows f single m (ticks f m) u c h
        (ticks_part f single fits_state fits_args fits_text fits_reply u.world c m program h.follows (gives lives)
        (subst (λ (n : Node). Agrees f single (entries_of n)) (at_own u.world.nodes m (ticks f m (u.world.nodes m)).node) agrees))
    go false lives agrees = goes_stay f single c u h

ticks_lift : (f : Frame) (single : Test) (fits_state : StateFits) (fits_args : ArgsFit) (fits_text : TextFits) (fits_reply : ReplyFits) (u : AtWork) (c : Course) (n most : ℕ) → n ≤ most
    → Program f fits_state fits_args fits_text fits_reply → FollowsAt f single u c → GivesTicks f n u → AgreesIn f single (ticks_below f most u).world → GoesAt f single c (ticks_below f n u)
ticks_lift f single fits_state fits_args fits_text fits_reply u c zero most le program h gives agrees = goes_stay f single c u h
ticks_lift f single fits_state fits_args fits_text fits_reply u c (suc m) most le program h (gives, last) agrees =
    let l = ticks_lift f single fits_state fits_args fits_text fits_reply u c m most (omega (arith, le)) program h gives agrees in
    let k = tick_lifts f single fits_state fits_args fits_text fits_reply (ticks_below f m u) l.0 m program l.2 last
    (agrees_here f single m ((ticks_below f (suc m) u).world.nodes m) (ticks_below f most u).world (ticks_keep f most m u (omega (arith, le))) agrees) in
    (k.0, leads_on single f.performs f.computes c l.0 k.0 l.1 k.1, k.2)

-- ---- an event

happens_lifts : (f : Frame) (single : Test) (fits_state : StateFits) (fits_args : ArgsFit) (fits_text : TextFits) (fits_reply : ReplyFits) (w : World) (c : Course) (e : Event) (given : Known e)
    → Program f fits_state fits_args fits_text fits_reply → Follows f single w c → Possible f w e given → GivesEvent f w e → Reaches f single c (happens f w e given)
happens_lifts f single fits_state fits_args fits_text fits_reply w c (event.Burst process place turns) burst program h possible gives agrees =
    let m : ℕ = home_of f w process.0 in
    part_follows f single m (computes process.0 place burst.reads burst.end) (untouched w) c (nothing_done f single w c h)
    (burst_part f single fits_state fits_args fits_text fits_reply w c process place turns burst program h (gives m) possible)
happens_lifts f single fits_state fits_args fits_text fits_reply w c (event.Act process) given program h possible gives agrees =
    let m : ℕ = home_of f w process.0 in
    part_follows f single m (acts f m process.0) (untouched w) c (nothing_done f single w c h)
    (acts_part f single fits_state fits_args fits_text fits_reply w c m process.0 program h gives
    (agrees_here f single m (acts f m process.0 (w.nodes m)).node (carries_out f w process).world (at_own w.nodes m (acts f m process.0 (w.nodes m)).node) agrees))
happens_lifts f single fits_state fits_args fits_text fits_reply w c (event.Deliver packet copy) given program h possible gives agrees =
    let e = h.errands in
    whole_lift f single fits_state fits_args fits_text fits_reply (taken_from w packet copy) c (ready_copy packet copy w.flights) program
    (same_follows f single w (taken_from w packet copy) c refl refl refl (without_flies (MailStands f single c) packet copy w.flights e.travels) h)
    (λ flight is. (ready_flies (MailStands f single c) packet copy w.flights flight e.travels is, gives flight is)) agrees
happens_lifts f single fits_state fits_args fits_text fits_reply w c event.Tick given program h possible gives agrees =
    let e = h.errands in
    ticks_lift f single fits_state fits_args fits_text fits_reply (untouched (waited w)) c f.settings.nodes f.settings.nodes (omega arith) program
    (nothing_done f single (waited w) c (same_follows f single w (waited w) c refl refl refl (ticked_fly (MailStands f single c) w.flights e.travels) h)) gives agrees
happens_lifts f single fits_state fits_args fits_text fits_reply w c (event.Crash node) given program h possible gives agrees =
    let e = h.errands in
    let v : World = (happens f w (event.Crash node) given).world in
    goes_stay f single c (untouched v) (nothing_done f single v c (same_follows f single w v c refl refl refl e.travels h))
happens_lifts f single fits_state fits_args fits_text fits_reply w c (event.Suspect node) given program h possible gives agrees =
    part_follows f single node (suspects f node) (untouched w) c (nothing_done f single w c h)
    (suspects_part f single fits_state fits_args fits_text fits_reply w c node program h gives
    (agrees_here f single node (suspects f node (w.nodes node)).node (suspected f w node).world (at_own w.nodes node (suspects f node (w.nodes node)).node) agrees))
happens_lifts f single fits_state fits_args fits_text fits_reply w c event.Swap given program h possible gives agrees =
    let e = h.errands in
    let v : World = (happens f w event.Swap given).world in
    goes_stay f single c (untouched v) (nothing_done f single v c (same_follows f single w v c refl refl refl e.travels h))

-- ---- a step

pub step_lifts : (f : Frame) (single : Test) (fits_state : StateFits) (fits_args : ArgsFit) (fits_text : TextFits) (fits_reply : ReplyFits) (w v : World) (c : Course) (step : Step)
    → Program f fits_state fits_args fits_text fits_reply → Follows f single w c → Next f w step v → GivesEvent f w step.event → AgreesIn f single v → FollowsOn f single c v
step_lifts f single fits_state fits_args fits_text fits_reply w v c step program h next gives agrees =
    subst (FollowsOn f single c) (sym next.after) (
      l.0,
      l.1,
      same_follows f single u.world (closes f w step u) l.0 kept.0 kept.1 kept.2
          (let k = l.2 in let g = k.follows in let e = g.errands in posts_fly (MailStands f single l.0) f u.world u.mails step.fates e.travels k.mails)
          (let k = l.2 in k.follows),
    )
  where
    u : AtWork
    u = happens f w step.event next.given

    kept : ((closes f w step u).nodes ≡ u.world.nodes) × ((closes f w step u).past ≡ u.world.past) × ((closes f w step u).aside ≡ u.world.aside)
    kept = posts_keep f u.world u.mails step.fates

    after : AgreesIn f single u.world
    after m = subst (λ (n : Node). Agrees f single (entries_of n)) (ap (λ (g : ℕ → Node). g m) (ap (λ (z : World). z.nodes) next.after ∙ kept.0)) (agrees m)

    l : GoesAt f single c u
    l = happens_lifts f single fits_state fits_args fits_text fits_reply w c step.event next.given program h next.possible gives after
