-- An event as parts of members, each of which begins in one of four ways and then catches up: whatever holds before and after each part
-- holds after the event. Beside it the messages that were submitted, and the ticks and coordinations, are counted.
use Rattle.std.proofs.Common.{◌≡◌, ◌+◌, ◌≤◌, ◌<◌, ◌*◌, ℕ, zero, suc, true, List, [], ◌∷◌, Option, None, Some, refl, sym, arith, subst, length}
use Rattle.std.proofs.lemmas.Bool.{and_parts, cond_both, lt-ltb}
use Rattle.orca_base.specs.declared.ids.ProcessNo.{ProcessNo}
use Rattle.value_core.specs.declared.action.Action.{Action}
use Rattle.value_core.specs.declared.action.Line.{Line}
use Rattle.value_core.specs.declared.message.Message.{Message}
use Rattle.group_rules.specs.World.{Event, may_submit}
use Rattle.net_rules.specs.Flights.{ready_copy, ticked, without}
use Rattle.net_rules.specs.declared.flight.Flight.{Flight}
use Rattle.world_rules.specs.declared.event.Event as world
use Rattle.world_rules.specs.declared.event.Event.TheVariants as event
use Rattle.world_rules.specs.Frame.{Frame, group}
use Rattle.world_rules.specs.Mail.{Carried, Mail, is_whole, receiver_of}
use Rattle.world_rules.specs.Nodes.{NodeWork, does, idle, mails_of}
use Rattle.world_rules.specs.Nodes.Deed.{Performs}
use Rattle.world_rules.specs.Parts.{asks_again, catches_up, performs_all, receives_mail}
use Rattle.world_rules.specs.Played.{Played}
use Rattle.world_rules.specs.Played.Stage.{Acting}
use Rattle.world_rules.specs.Steps.{AtWork, Burst, IsBurst, Known, Possible, after_part, bursts, comes, comes_whole, crashes, delivers, happens, lives_in, may_act_as, swaps, ticks_below, untouched}
use Rattle.world_rules.specs.Worlds.{World, group_world, home_of, played_in}
use Rattle.world_law.specs.Gives.{acted, came, coordinated, taken_from, timed, waited}
use Rattle.world_law.specs.Grouped.{Come, Grouped}
use Rattle.world_law.specs.Grouped.{Submits as MayAll}
use Rattle.world_law.specs.Moments.{Lives}
use Rattle.world_law.proofs.AtWork.{both_true}
use Rattle.world_law.proofs.Events.{Going, going, going_below, good_of, good_receives, on_home, start_good, with_flights}
use Rattle.world_law.proofs.Grouping.{Good, Laws, good_coordinate, good_still, good_timer}
use Rattle.world_law.proofs.Still.{still_again}
use Rattle.world_law.proofs.Travels.{fly_found, fly_ticked, fly_without}

-- how a member's part begins: its process's action is carried out, a letter comes, its timer runs, it coordinates
pub data Start : Type 0 where
  Acted : (i : ℕ) → Start
  Came : (mail : Mail) → Start
  Timed : Start
  Coordinated : Start

abbrev pub begun : Frame → World → ℕ → Start → NodeWork
begun f w m (Start.Acted i) = acted f m i w
begun f w m (Start.Came mail) = came f m mail w
begun f w m Start.Timed = asks_again f m (timed f m w)
begun f w m Start.Coordinated = coordinated f m w

-- how many messages it submits, and how often it ticks or coordinates
abbrev pub asked_by : Start → ℕ
asked_by (Start.Acted i) = 1
asked_by (Start.Came mail) = 0
asked_by Start.Timed = 0
asked_by Start.Coordinated = 0

abbrev pub ticked_by : Start → ℕ
ticked_by (Start.Acted i) = 0
ticked_by (Start.Came mail) = 0
ticked_by Start.Timed = 1
ticked_by Start.Coordinated = 1

-- the process may submit its next message; the letter was sent to this member
abbrev pub Allowed : Frame → World → ℕ → Start → Type 0
Allowed f w m (Start.Acted i) =
    (r : Played) (act : Action) → (w.nodes m).played i ≡ Some r → r.stage ≡ Acting act → (x : Message) → x.process.0 ≡ i →
    x.call.0 ≡ length r.replies → may_submit (group f) (group_world w) m x ≡ true
Allowed f w m (Start.Came mail) = (m ≡ receiver_of mail) × Come w.past.letters mail
Allowed f w m Start.Timed = Unit {0}
Allowed f w m Start.Coordinated = Unit {0}

-- so the group's events lead to where the part begins
pub good_begun : (laws : Laws) (f : Frame) (w : World) (m : ℕ) (start : Start) → 2 * (group f).resilience < (group f).nodes → Lives f w m →
    (h : Grouped f w) → Allowed f w m start → Good (group f) h.events w m (begun f w m start)
good_begun laws f w m (Start.Acted i) small on h may =
    good_of laws f w m i ((w.nodes m).played i) small on h (λ r act here stands x process call. may r act here stands x process call)
good_begun laws f w m (Start.Came mail) small on h may =
    subst (λ k. Good (group f) h.events w k (receives_mail f k mail (idle (w.nodes k)))) (sym may.0)
    (good_receives laws f w mail small (subst (Lives f w) may.0 on) h may.1)
good_begun laws f w m Start.Timed small on h may =
    let u : NodeWork = timed f m w in
    good_still (group f) w m u (asks_again f m u) (still_again f (group f) m m u)
    (good_timer laws (group f) w m (idle (w.nodes m)) small on (start_good laws f w m small h))
good_begun laws f w m Start.Coordinated small on h may =
    good_coordinate laws (group f) w m (idle (w.nodes m)) small on (start_good laws f w m small h)

-- P holds of a world at work, with so many submissions, ticks and coordinations so far; Q at its end
pub record Walks (f : Frame) (P Q : ℕ → ℕ → AtWork → Type 0) : Type 0 where
  pub weaken : (s t c d : ℕ) (u : AtWork) → s ≤ t → c ≤ d → P s c u → P t d u
  pub ends : (s c : ℕ) (u : AtWork) → P s c u → Q s c u
  pub burst :
      (w : World) (i : ProcessNo) (place turns : ℕ) (burst : Burst) (s c : ℕ) → Grouped f w → IsBurst f w i place turns burst →
      P s c (untouched w) → Q s c (bursts f w i place burst)
  pub taken : (w : World) (number copy s c : ℕ) → P s c (untouched w) → P s c (untouched (taken_from w number copy))
  pub waited : (w : World) (s c : ℕ) → P s c (untouched w) → P s c (untouched (waited w))
  pub crashed : (w : World) (m s c : ℕ) → P s c (untouched w) → Q s c (crashes w m)
  pub swapped : (w : World) (s c : ℕ) → P s c (untouched w) → Q s c (swaps w)
  pub part :
      (start : Start) (u : AtWork) (m s c : ℕ) → Grouped f u.world → Lives f u.world m → Allowed f u.world m start → P s c u →
      P (s + asked_by start) (c + ticked_by start) (after_part f m (catches_up f m (begun f u.world m start)) u)

module _ (laws : Laws) (f : Frame) (P Q : ℕ → ℕ → AtWork → Type 0) (small : 2 * (group f).resilience < (group f).nodes) (walks : Walks f P Q) where
  -- with room for one submission more, and a tick of each member
  more : (s c : ℕ) (u : AtWork) → P s c u → P (suc s) (c + f.settings.nodes) u
  more s c u h = walks.weaken s (suc s) c (c + f.settings.nodes) u (omega arith) (omega arith) h

  comes_walk : (w : World) (mail : Mail) (s c : ℕ) → Grouped f w → Come w.past.letters mail → P s c (untouched w) → P s c (comes f w mail)
  comes_walk w mail s c grouped come h = cond_both (lives_in f w (receiver_of mail)) _ _ (P s c)
      (λ e. walks.weaken (s + 0) s (c + 0) c _ (omega arith) (omega arith)
      (walks.part (Start.Came mail) (untouched w) (receiver_of mail) s c grouped e (refl, come) h))
      (λ e. h)

  whole_walk : (w : World) (o : Option (Flight Carried)) (s c : ℕ) → Grouped f w →
      ((flight : Flight Carried) → o ≡ Some flight → Come w.past.letters flight.packet.mail) → P s c (untouched w) → P s c (comes_whole f w o)
  whole_walk w None s c grouped come h = h
  whole_walk w (Some flight) s c grouped come h = cond_both (is_whole f.settings.nodes flight.packet) _ _ (P s c)
      (λ e. comes_walk w flight.packet.mail s c grouped (come flight refl) h) (λ e. h)

  ticks_walk : (b : List (Event Message)) (n : ℕ) (u : AtWork) (s c : ℕ) → n ≤ f.settings.nodes → Going f b u → P s c u → P s (c + n) (ticks_below f n u)
  ticks_walk b zero u s c low going h = walks.weaken s s c (c + zero) u (omega arith) (omega arith) h
  ticks_walk b (suc m) u s c low going h =
      let v : AtWork = ticks_below f m u in
      let k : Going f b v = going_below laws f m u small (omega (arith, low)) going in
      let before : P s (c + m) v = ticks_walk b m u s c (omega (arith, low)) going h in
      cond_both (v.world.lives m) _ _ (P s (c + suc m))
      (λ e. walks.weaken (s + 0) s (c + m + 1) (c + suc m) _ (omega arith) (omega arith)
      (walks.part Start.Timed v m s (c + m) k.grouped (both_true _ _ (lt-ltb _ _ (omega (arith, low))) e) tt before))
      (λ e. walks.weaken s s (c + m) (c + suc m) v (omega arith) (omega arith) before)

  pub walk_event : (w : World) (event : world.Event) (given : Known event) (s c : ℕ) → Grouped f w → Possible f w event given → MayAll f w event →
      P s c (untouched w) → Q (suc s) (c + f.settings.nodes) (happens f w event given)
  walk_event w (event.Burst process place turns) burst s c grouped may submit h =
      walks.burst w process place turns burst (suc s) (c + f.settings.nodes) grouped may (more s c (untouched w) h)
  walk_event w (event.Act process) given s c grouped may submit h =
      let m : ℕ = home_of f w process.0 in
      let on : Lives f w m = on_home f w process.0 (omega (arith, small)) (and_parts (w.lives m) (may_act_as (played_in f w process.0)) may).0 in
      walks.ends (suc s) (c + f.settings.nodes) _
      (walks.weaken (s + 1) (suc s) (c + 0) (c + f.settings.nodes) _ (omega arith) (omega arith)
      (walks.part (Start.Acted process.0) (untouched w) m s c grouped on (λ r act here stands x i n. submit r act here stands x i n) h))
  walk_event w (event.Deliver packet copy) given s c grouped may submit h =
      walks.ends (suc s) (c + f.settings.nodes) _
      (more s c (delivers f w packet copy)
      (whole_walk (taken_from w packet copy) (ready_copy packet copy w.flights) s c
      (with_flights f w (without packet copy w.flights) grouped (fly_without w.past.letters packet copy w.flights grouped.travels))
      (λ flight e. fly_found w.past.letters _ w.flights flight e grouped.travels)
      (walks.taken w packet copy s c h)))
  walk_event w event.Tick given s c grouped may submit h =
      walks.ends (suc s) (c + f.settings.nodes) _
      (walks.weaken s (suc s) (c + f.settings.nodes) (c + f.settings.nodes) _ (omega arith) (omega arith)
      (ticks_walk grouped.events f.settings.nodes (untouched (waited w)) s c (omega arith)
      (going f (waited w) (with_flights f w (ticked w.flights) grouped (fly_ticked w.past.letters w.flights grouped.travels)))
      (walks.waited w s c h)))
  walk_event w (event.Crash node) given s c grouped may submit h = walks.crashed w node (suc s) (c + f.settings.nodes) (more s c (untouched w) h)
  walk_event w (event.Suspect node) given s c grouped may submit h =
      walks.ends (suc s) (c + f.settings.nodes) _
      (walks.weaken (s + 0) (suc s) (c + 1) (c + f.settings.nodes) _ (omega arith) (omega (arith, small))
      (walks.part Start.Coordinated (untouched w) node s c grouped may tt h))
  walk_event w event.Swap given s c grouped may submit h = walks.swapped w (suc s) (c + f.settings.nodes) (more s c (untouched w) h)

-- ---- a burst leaves its node but for its process, and sends nothing

pub performed_node : (place : ℕ) (lines : List Line) (v : NodeWork) → (performs_all place lines v).node ≡ v.node
performed_node place [] v = refl
performed_node place (l ∷ ls) v = performed_node place ls (does (Performs (record { place = place; line = l })) v)

pub performed_mails : (place : ℕ) (lines : List Line) (v : NodeWork) → mails_of (performs_all place lines v).deeds ≡ mails_of v.deeds
performed_mails place [] v = refl
performed_mails place (l ∷ ls) v = performed_mails place ls (does (Performs (record { place = place; line = l })) v)
