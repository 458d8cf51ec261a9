-- What the group gives is what the course of a world takes of it.
use Rattle.std.proofs.Common.{ℕ, zero, suc, List, [], ◌∷◌}
use Rattle.value_core.specs.declared.message.Message.{Message}
use Rattle.group_rules.specs.Member.{Waiting}
use Rattle.world_rules.specs.declared.event.Event.{Event}
use Rattle.world_rules.specs.declared.event.Event.TheVariants as event
use Rattle.world_rules.specs.Applying.{applies, round}
use Rattle.world_rules.specs.Frame.{Frame}
use Rattle.world_rules.specs.Mail.{Mail, receiver_of}
use Rattle.world_rules.specs.Nodes.{Node, NodeWork}
use Rattle.world_rules.specs.Parts.{asks_again}
use Rattle.world_rules.specs.Steps.{AtWork, ticks_below, untouched}
use Rattle.world_rules.specs.Worlds.{World, home_of}
use Rattle.world_law.specs.Gives as law
use Rattle.world_law.specs.Moments.{Knows, MembersAgree}
use Rattle.world_course.specs.Gives as course
use Rattle.world_course.specs.Group as taken
use Rattle.world_course.specs.Works.{at_work}

knows : (node : Node) (n : ℕ) (x : Message) → taken.IsAccepted node n x → Knows node.member n x
knows node n x h = record { accepted = h.accepted; there = h.there }

agreed : (w : World) → MembersAgree w → taken.IsAgreed w
agreed w h = record {
  within = h.within;
  same = λ m k n x y one two. h.same m k n x y (knows (w.nodes m) n x one) (knows (w.nodes k) n y two);
  once = λ m n k x one two. h.once m n k x (knows (w.nodes m) n x one) (knows (w.nodes m) k x two);
  submitted = λ m n x one. h.submitted m n x (knows (w.nodes m) n x one);
}

step : (f : Frame) (m : ℕ) (w : World) (v u : NodeWork) → law.IsGroupStep f m w v u → taken.IsGroupStep f m w v u
step f m w v u h = record { entries = h.entries; agreed = agreed (at_work f m w u) h.agreed }

notes : (f : Frame) (m : ℕ) (w : World) (waiting : List (Waiting Message)) (v : NodeWork) → law.AreNotes f m w waiting v → taken.AreNotes f m w waiting v
notes f m w [] v h = step f m w (applies f m v) (round f m v) h
notes f m w (one ∷ more) v h = (step f m w (applies f m v) (round f m v) h.0, notes f m w more (round f m v) h.1)

gives : (f : Frame) (m : ℕ) (w : World) (v : NodeWork) → law.Gives f m w v → taken.Gives f m w v
gives f m w v h = record { entries = h.entries; agreed = agreed (at_work f m w v) h.agreed; notes = notes f m w v.node.member.waiting v h.notes }

mail : (f : Frame) (w : World) (letter : Mail) → law.GivesMail f w letter → course.GivesMail f w letter
mail f w letter h = λ lives. gives f (receiver_of letter) w (course.came f (receiver_of letter) letter w) (h lives)

ticks : (f : Frame) (n : ℕ) (u : AtWork) → law.GivesTicks f n u → course.GivesTicks f n u
ticks f zero u h = tt
ticks f (suc m) u h = (
  ticks f m u h.0,
  λ lives.
      let t = h.1 lives in
      let w : World = (ticks_below f m u).world in
      record { entries = t.entries; group = gives f m w (asks_again f m (course.timed f m w)) t.group },
)

pub given : (f : Frame) (w : World) (e : Event) → law.GivesEvent f w e → course.GivesEvent f w e
given f w (event.Burst process place turns) h = h
given f w (event.Act process) h =
    gives f (home_of f w process.0) w (course.acted f (home_of f w process.0) process.0 w) h
given f w (event.Deliver packet copy) h = λ flight is. mail f (course.taken_from w packet copy) flight.packet.mail (h flight is)
given f w event.Tick h = ticks f f.settings.nodes (untouched (course.waited w)) h
given f w (event.Crash node) h = tt
given f w (event.Suspect node) h = gives f node w (course.coordinated f node w) h
given f w event.Swap h = tt
