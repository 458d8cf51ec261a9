-- What is taken of the group in each event: that its facts hold at each moment of it.
use Rattle.std.specs.Prelude.{◌≡◌, ℕ, zero, suc, true, Some}
use Rattle.net_rules.specs.declared.flight.Flight.{Flight}
use Rattle.net_rules.specs.Flights.{ready_copy, ticked, without}
use Rattle.group_rules.specs.Reset.{coordinate}
use Rattle.group_rules.specs.Steps.{timer}
use Rattle.book_law.specs.Passes.{Test}
use Rattle.world_rules.specs.declared.event.Event.{Event}
use Rattle.world_rules.specs.declared.event.Event.TheVariants as event
use Rattle.world_rules.specs.Frame.{Frame, group}
use Rattle.world_rules.specs.Mail.{Carried, Mail, receiver_of}
use Rattle.world_rules.specs.Nodes.{NodeWork, entries_of, idle, joins}
use Rattle.world_rules.specs.Parts.{acts_of, asks_again, receives_mail}
use Rattle.world_rules.specs.Steps.{AtWork, lives_in, ticks_below, untouched}
use Rattle.world_rules.specs.Worlds.{World, home_of}
use Rattle.world_course.specs.Corresponds.{Agrees}
use Rattle.world_course.specs.Group.{Gives, IsNoted, KeepsEntries}

-- a test that agrees with the choices of the processes that any member knows
abbrev pub AgreesIn : Frame → Test → World → Type 0
AgreesIn f single w = (m : ℕ) → Agrees f single (entries_of (w.nodes m))

-- its process's action was carried out
abbrev pub acted : Frame → ℕ → ℕ → World → NodeWork
acted f m i w = acts_of f m i ((w.nodes m).played i) (idle (w.nodes m))

-- a letter came to it; it coordinates; its timer ran, and its Asks followed
abbrev pub came : Frame → ℕ → Mail → World → NodeWork
came f m mail w = receives_mail f m mail (idle (w.nodes m))

abbrev pub coordinated : Frame → ℕ → World → NodeWork
coordinated f m w = joins (coordinate (group f) m (w.nodes m).member) (idle (w.nodes m))

abbrev pub timed : Frame → ℕ → World → NodeWork
timed f m w = joins (timer (group f) m (w.nodes m).member) (idle (w.nodes m))

-- a letter comes to a member that lives
abbrev pub GivesMail : Frame → World → Mail → Type 0
GivesMail f w mail = lives_in f w (receiver_of mail) ≡ true → Gives f (receiver_of mail) w (came f (receiver_of mail) mail w)

pub record GivesTick (f : Frame) (m : ℕ) (w : World) : Type 0 where
  pub entries : KeepsEntries (w.nodes m) (timed f m w).node
  pub group : Gives f m w (asks_again f m (timed f m w))

-- each living member below n, one after the other
abbrev pub GivesTicks : Frame → ℕ → AtWork → Type 0
GivesTicks f zero u = Unit {0}
GivesTicks f (suc m) u = GivesTicks f m u × ((ticks_below f m u).world.lives m ≡ true → GivesTick f m (ticks_below f m u).world)

-- the world as a packet leaves it, and as time passes
abbrev pub taken_from : World → ℕ → ℕ → World
taken_from w number copy = record w { flights = without number copy w.flights }

abbrev pub waited : World → World
waited w = record w { flights = ticked w.flights }

abbrev pub GivesEvent : Frame → World → Event → Type 0
GivesEvent f w (event.Burst process place turns) = IsNoted w
GivesEvent f w (event.Act process) = Gives f (home_of f w process.0) w (acted f (home_of f w process.0) process.0 w)
GivesEvent f w (event.Deliver packet copy) =
    (flight : Flight Carried) → ready_copy packet copy w.flights ≡ Some flight → GivesMail f (taken_from w packet copy) flight.packet.mail
GivesEvent f w event.Tick = GivesTicks f f.settings.nodes (untouched (waited w))
GivesEvent f w (event.Crash node) = Unit {0}
GivesEvent f w (event.Suspect node) = Gives f node w (coordinated f node w)
GivesEvent f w event.Swap = Unit {0}
