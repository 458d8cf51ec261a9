-- The events of a run: where each is possible, what it does, and the worlds that a list of steps leads to.
use Rattle.std.specs.Prelude.{◌≡◌, ◌≤◌, ℕ, zero, suc, ◌+◌, ◌-◌, ◌==◌, ◌&&◌, ◌||◌, not, is_some, nat_lt, if◌then◌else◌, Bool, true, false, IsTrue, List, [], ◌∷◌, ◌++◌, length, Option, None, Some}
use Rattle.orca_base.specs.declared.ids.ProcessNo.{ProcessNo}
use Rattle.value_core.specs.declared.action.Line.{Line}
use Rattle.value_core.specs.declared.action.Reply.{Reply}
use Rattle.value_core.specs.declared.message.Message.{Message}
use Rattle.value_core.specs.History.{Objects}
use Rattle.group_packets.specs.Packet.{kind_of}
use Rattle.group_rules.specs.OnWire.{Posted}
use Rattle.group_rules.specs.Sets.{with_at}
use Rattle.book_law.specs.Book.{copies_at}
use Rattle.net_rules.specs.declared.asked.Asked.{Asked}
use Rattle.net_rules.specs.declared.asked.Asked.TheVariants as asked
use Rattle.net_rules.specs.declared.fate.Fate.{Fate}
use Rattle.net_rules.specs.declared.flight.Flight.{Flight}
use Rattle.net_rules.specs.Flights.{copies, joined, ready_copy, ticked, without}
use Rattle.world_rules.specs.declared.event.Event.{Event}
use Rattle.world_rules.specs.declared.event.Event.TheVariants as event
use Rattle.world_rules.specs.declared.event.Step.{Step}
use Rattle.world_rules.specs.declared.standing.Standing.TheVariants.{Going}
use Rattle.world_rules.specs.Bursts.{Ran, last_turn}
use Rattle.world_rules.specs.Frame.{Frame, group}
use Rattle.world_rules.specs.Mail.{Carried, Mail, bytes_in, carried, cut_to, is_whole, posted, receiver_of}
use Rattle.world_rules.specs.Nodes.{Node, NodeWork, aside_of, known, mails_of, past_after}
use Rattle.world_rules.specs.Parts.{acts, computes, receives, suspects, ticks}
use Rattle.world_rules.specs.Played.{Played, Stage}
use Rattle.world_rules.specs.Played.Stage.{Computing, Acting, Submitted, Reading, Asking, Over}
use Rattle.world_rules.specs.Processes.{singles_of}
use Rattle.world_rules.specs.Standings.{is_quiet, standing}
use Rattle.world_rules.specs.Worlds.{Told, World, home_of, opening_world, played_in}

-- ---- members at work

-- the world so far, and the letters that the event sent so far, in order
pub record AtWork : Type 0 where
  pub world : World
  pub mails : List Mail

abbrev pub untouched : World → AtWork
untouched w = record { world = w; mails = [] }

-- member m did its part
abbrev pub after_part : Frame → ℕ → NodeWork → AtWork → AtWork
after_part f m v u = record {
  world = record u.world {
    nodes = with_at u.world.nodes m v.node;
    past = past_after (group f) m v.deeds u.world.past;
    aside = u.world.aside ++ aside_of v.deeds;
  };
  mails = u.mails ++ mails_of v.deeds;
}

abbrev pub does_part : Frame → ℕ → (Node → NodeWork) → AtWork → AtWork
does_part f m part u = after_part f m (part (u.world.nodes m)) u

-- ---- Burst

-- the objects after so many entries, as the member's log has them
abbrev pub objects_after : Frame → Node → ℕ → Objects
objects_after f node place =
    (copies_at (singles_of f (known f node)) f.performs node.member.log place).objects

-- what a burst performed, and where its process stands at its end
pub record Burst : Type 0 where
  pub reads : List Line
  pub end : Played

-- its member lives, the process computes, the place lies between the process's and its member's applied number, and on the objects after so
-- many entries it ran so, and took these turns
pub record IsBurst (f : Frame) (w : World) (i : ProcessNo) (place turns : ℕ) (burst : Burst) : Type 0 where
  pub start : Played
  pub here : played_in f w i.0 ≡ Some start
  pub lives : w.lives (home_of f w i.0) ≡ true
  pub computing : start.stage ≡ Computing
  pub after : start.place ≤ place
  pub before : place ≤ (w.nodes (home_of f w i.0)).member.applied
  pub ran : Ran f (objects_after f (w.nodes (home_of f w i.0)) place) place i (last_turn f start) start burst.reads burst.end
  pub took : burst.end.turns ≡ start.turns + turns

abbrev pub bursts : Frame → World → ProcessNo → ℕ → Burst → AtWork
bursts f w i place burst = does_part f (home_of f w i.0) (computes i.0 place burst.reads burst.end) (untouched w)

-- ---- Act: its member lives, and the process's action wasn't carried out

abbrev pub is_acting : Stage → Bool
is_acting (Acting act) = true
is_acting Computing = false
is_acting (Submitted act) = false
is_acting (Reading act) = false
is_acting (Asking act) = false
is_acting (Over act) = false

abbrev pub may_act_as : Option Played → Bool
may_act_as None = false
may_act_as (Some r) = is_acting r.stage

abbrev pub may_act : Frame → World → ProcessNo → Bool
may_act f w i = w.lives (home_of f w i.0) && may_act_as (played_in f w i.0)

abbrev pub carries_out : Frame → World → ProcessNo → AtWork
carries_out f w i = does_part f (home_of f w i.0) (acts f (home_of f w i.0) i.0) (untouched w)

-- ---- Deliver: that copy is ready. One that is whole comes to its receiver, where that lives

abbrev pub lives_in : Frame → World → ℕ → Bool
lives_in f w m = nat_lt m f.settings.nodes && w.lives m

abbrev pub may_deliver : World → ℕ → ℕ → Bool
may_deliver w number copy = is_some (ready_copy number copy w.flights)

abbrev pub comes : Frame → World → Mail → AtWork
comes f w mail =
    if lives_in f w (receiver_of mail)
    then does_part f (receiver_of mail) (receives f (receiver_of mail) mail) (untouched w)
    else untouched w

abbrev pub comes_whole : Frame → World → Option (Flight Carried) → AtWork
comes_whole f w None = untouched w
comes_whole f w (Some flight) = if is_whole f.settings.nodes flight.packet then comes f w flight.packet.mail else untouched w

abbrev pub delivers : Frame → World → ℕ → ℕ → AtWork
delivers f w number copy =
    comes_whole f (record w { flights = without number copy w.flights }) (ready_copy number copy w.flights)

-- ---- Tick: the moment is quiet. Held packets wait one tick less, and then the timers of the living members run, in increasing order

abbrev pub ticks_at : Frame → ℕ → AtWork → AtWork
ticks_at f m u = if u.world.lives m then does_part f m (ticks f m) u else u

abbrev pub ticks_below : Frame → ℕ → AtWork → AtWork
ticks_below f zero u = u
ticks_below f (suc m) u = ticks_at f m (ticks_below f m u)

abbrev pub passes_tick : Frame → World → AtWork
passes_tick f w = ticks_below f f.settings.nodes (untouched (record w { flights = ticked w.flights }))

-- ---- Crash and Suspect: the member lives

abbrev pub crashes : World → ℕ → AtWork
crashes w m = untouched (record w { lives = with_at w.lives m false })

abbrev pub suspected : Frame → World → ℕ → AtWork
suspected f w m = does_part f m (suspects f m) (untouched w)

-- ---- Swap: fewer than all wires but one were given up

abbrev pub may_swap : Frame → World → Bool
may_swap f w = nat_lt w.swaps (f.settings.wires - 1)

abbrev pub swaps : World → AtWork
swaps w = untouched (record w { swaps = suc w.swaps })

-- ---- an event

-- what is known of an event beside itself: how a burst ran
abbrev pub Known : Event → Type 0
Known (event.Burst process place turns) = Burst
Known (event.Act process) = Unit {0}
Known (event.Deliver packet copy) = Unit {0}
Known event.Tick = Unit {0}
Known (event.Crash node) = Unit {0}
Known (event.Suspect node) = Unit {0}
Known event.Swap = Unit {0}

-- where it is possible
abbrev pub Possible : Frame → World → (event : Event) → Known event → Type 0
Possible f w (event.Burst process place turns) burst = IsBurst f w process place turns burst
Possible f w (event.Act process) nothing = IsTrue (may_act f w process)
Possible f w (event.Deliver packet copy) nothing = IsTrue (may_deliver w packet copy)
Possible f w event.Tick nothing = IsTrue (is_quiet f w)
Possible f w (event.Crash node) nothing = IsTrue (lives_in f w node)
Possible f w (event.Suspect node) nothing = IsTrue (lives_in f w node)
Possible f w event.Swap nothing = IsTrue (may_swap f w)

-- and what it does
abbrev pub happens : Frame → World → (event : Event) → Known event → AtWork
happens f w (event.Burst process place turns) burst = bursts f w process place burst
happens f w (event.Act process) nothing = carries_out f w process
happens f w (event.Deliver packet copy) nothing = delivers f w packet copy
happens f w event.Tick nothing = passes_tick f w
happens f w (event.Crash node) nothing = crashes w node
happens f w (event.Suspect node) nothing = suspected f w node
happens f w event.Swap nothing = swaps w

-- ---- its letters

-- a letter gets the next number. The wire in use is asked about it, and its fate says which copies travel
abbrev pub told_of : World → Posted Message Reply → Fate → Told
told_of w one fate = record {
  wire = w.swaps;
  question = record {
    packet = suc w.sent;
    kind = kind_of one.packet;
    from = one.from;
    to = one.to;
    length = bytes_in one.packet;
  };
  fate = fate;
}

abbrev pub posts_as : World → Posted Message Reply → Mail → Fate → World
posts_as w one mail fate = record w {
  flights = joined (suc w.sent) (copies cut_to (suc w.sent) one.from one.to (carried mail) fate) w.flights;
  sent = suc w.sent;
  told = w.told ++ told_of w one fate ∷ [];
}

abbrev pub posts : Frame → World → Mail → Fate → World
posts f w mail fate = posts_as w (posted f.settings.nodes mail) mail fate

abbrev pub posts_all : Frame → World → List Mail → List Fate → World
posts_all f w [] fates = w
posts_all f w (mail ∷ mails) [] = w
posts_all f w (mail ∷ mails) (fate ∷ fates) = posts_all f (posts f w mail fate) mails fates

-- ---- idle ticks

-- some member applied an entry or installed an incarnation, or an operation was performed
abbrev pub has_stirred_at : Node → Node → Bool
has_stirred_at before after =
    not ((before.member.applied == after.member.applied) && (before.member.installed == after.member.installed))

abbrev pub has_stirred_below : ℕ → World → World → Bool
has_stirred_below zero w v = false
has_stirred_below (suc m) w v = has_stirred_below m w v || has_stirred_at (w.nodes m) (v.nodes m)

abbrev pub has_stirred : Frame → World → World → Bool
has_stirred f w v = has_stirred_below f.settings.nodes w v || not (length w.aside == length v.aside)

abbrev pub idle_after : Event → ℕ → ℕ
idle_after (event.Burst process place turns) ticks = 0
idle_after (event.Act process) ticks = ticks
idle_after (event.Deliver packet copy) ticks = ticks
idle_after event.Tick ticks = suc ticks
idle_after (event.Crash node) ticks = ticks
idle_after (event.Suspect node) ticks = ticks
idle_after event.Swap ticks = ticks

-- ---- a step

-- the world after it: the event was done, which gave the first world, and its letters were posted
abbrev pub closes : Frame → World → Step → AtWork → World
closes f w step u = record (posts_all f u.world u.mails step.fates) {
  steps = suc w.steps;
  idle = if has_stirred f w u.world then 0 else idle_after step.event w.idle;
}

abbrev pub after_step : Frame → World → (step : Step) → Known step.event → World
after_step f w step given = closes f w step (happens f w step.event given)

-- a step leads from one world to the next: the run was going, the event was possible, and there are as many fates as packets
pub record Next (f : Frame) (w : World) (step : Step) (v : World) : Type 0 where
  pub given : Known step.event
  pub going : standing f w ≡ Going
  pub possible : Possible f w step.event given
  pub fates : length step.fates ≡ length (happens f w step.event given).mails
  pub after : v ≡ after_step f w step given

-- steps lead from one world to another
abbrev pub Leads : Frame → World → List Step → World → Type 0
Leads f w [] v = v ≡ w
Leads f w (step ∷ steps) v = (u : World) × Next f w step u × Leads f u steps v

-- the world after these steps, from the opening one
abbrev pub Replays : Frame → List Step → World → Type 0
Replays f steps w = Leads f (opening_world f) steps w

-- ---- the network was really used

-- what a wire, numbered from 0, was asked of packets
abbrev pub asked_of : ℕ → List Told → List Asked
asked_of wire [] = []
asked_of wire (one ∷ more) =
    if one.wire == wire then asked.Packet one.question one.fate ∷ asked_of wire more else asked_of wire more
